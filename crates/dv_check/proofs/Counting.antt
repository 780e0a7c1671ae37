-- Counting from level to level gives the size of the tree.
use Rattle.std.proofs.Common.{◌≡◌, ⊎_elim, ℕ, zero, suc, ◌+◌, ◌-◌, ◌^◌, ◌<◌, ◌≤◌, ◌==◌, nat_lt, min, max, Bool, ◌||◌, List, []}
use Rattle.std.proofs.Common.{◌∷◌, map, refl, sym, ap, ◌∙◌, Option, Some, option_map, lit<, arith}
use Rattle.std.specs.List.{cons_option, filter_map, fold, slice_get}
use Rattle.std.proofs.lemmas.Bool.Decides.{nat_tests}
use Rattle.std.proofs.lemmas.Option.{slice_get-map}
use Rattle.dv_bag.specs.Bag.{capped}
use Rattle.dv_syntax.specs.declared.tree.Name.{Name}
use Rattle.dv_syntax.specs.declared.tree.Part.{Part}
use Rattle.dv_syntax.specs.Trees.{ModelTree, AtomicModel, CoupledModel, CoupledTree}
use Rattle.dv_check.specs.Limits.{greatest_components, greatest_depth, greatest_instances}
use Rattle.dv_check.specs.declared.sizes.Size.{Size}
use Rattle.dv_check.specs.Cycles.{position_inside, position_of}
use Rattle.dv_check.specs.Refusals.{passes_limit}
use Rattle.dv_check.specs.Sizes.{alone, contents_of, kept, size_by, size_of_tree, size_passes_limit, size_to, sizes_below}
use Rattle.dv_check.specs.Sizes.{with_known_part, with_part, with_part_at}
use Rattle.dv_check.specs.Tree.{PartTree, NoParts, AtomicPart, CoupledPart, component_count, depth_of, instance_count, parts_by}
use Rattle.dv_check.specs.Tree.{parts_to, with_part as part_before}
use Rattle.dv_check.proofs.ModelPositions.{IsFound, IsMissing, named_at}

-- ---- Sizes

abbrev made : ℕ → ℕ → ℕ → Size
made depth components instances = record { depth = depth; components = components; instances = instances }

same_size : (d e c b i j : ℕ) → d ≡ e → c ≡ b → i ≡ j → made d c i ≡ made e b j
same_size d e c b i j depths components instances =
    ap (λ n. made n c i) depths ∙ (ap (λ n. made e n i) components ∙ ap (made e b) instances)

pub at_least_one : (t : PartTree) → 1 ≤ depth_of t
at_least_one NoParts = omega arith
at_least_one (AtomicPart name m rest) = at_least_one rest
at_least_one (CoupledPart name m inside rest) = omega (arith, at_least_one rest)

-- a size with the size of a part, and with the parts of a tree
abbrev with_size : Size → Size → Size
with_size s part = made (max s.depth (part.depth + 1)) (s.components + part.components) (s.instances + part.instances)

abbrev with_tree : Size → PartTree → Size
with_tree s t = made (max s.depth (depth_of t)) (s.components + component_count t) (s.instances + instance_count t)

alone_with : (t : PartTree) → with_tree alone t ≡ size_of_tree t
alone_with t =
    let least = at_least_one t in
    let depths : max 1 (depth_of t) ≡ depth_of t = omega arith in
    let components : 0 + component_count t ≡ component_count t = omega arith in
    let instances : 1 + instance_count t ≡ suc (instance_count t) = omega arith in
    same_size _ _ _ _ _ _ depths components instances

-- a part in front of a tree
part_counted : (levels : ℕ) (models : List ModelTree) (name : Name) (s : Size) (m : ModelTree) (t : PartTree)
    → with_tree (with_size s (size_to levels models m)) t ≡ with_tree s (part_before (parts_to levels models) name (Some m) t)
part_counted levels models name s (AtomicModel m) t =
    let least = at_least_one t in
    let depths : max (max s.depth (0 + 1)) (depth_of t) ≡ max s.depth (depth_of t) = omega arith in
    let components : (s.components + 1) + component_count t ≡ s.components + suc (component_count t) = omega arith in
    let instances : (s.instances + 1) + instance_count t ≡ s.instances + suc (instance_count t) = omega arith in
    same_size _ _ _ _ _ _ depths components instances
part_counted levels models name s (CoupledModel m) t =
    let inside = parts_to levels models m in
    let depths : max (max s.depth (depth_of inside + 1)) (depth_of t) ≡ max s.depth (max (suc (depth_of inside)) (depth_of t)) =
    omega arith in
    let components : s.components + component_count inside + component_count t
    ≡ s.components + (component_count inside + component_count t) =
    omega arith in
    let instances : s.instances + suc (instance_count inside) + instance_count t
    ≡ s.instances + suc (instance_count inside + instance_count t) = omega arith in
    same_size _ _ _ _ _ _ depths components instances

-- ---- What is kept of sizes

depth_kept : (m a b : ℕ) → max (min a m) (min (min b m + 1) m) ≡ min (max a (b + 1)) m
depth_kept m a b = omega arith

sum_kept : (m a b : ℕ) → min (min a m + min b m) m ≡ min (a + b) m
sum_kept m a b = omega arith

part_kept : (s part : Size) → with_part (kept s) (kept part) ≡ kept (with_size s part)
part_kept s part =
    let m = 2 ^ 64 - 1 in
    same_size _ _ _ _ _ _ (depth_kept m s.depth part.depth) (sum_kept m s.components part.components)
    (sum_kept m s.instances part.instances)

-- ---- From level to level

module _ (models : List ModelTree) (levels : ℕ) where
  -- the sizes of all models
  abbrev table : List Size
  table = map (λ m. kept (size_to levels models m)) models

  abbrev folded : Size → List Part → Size
  folded s parts = fold (with_part_at table) s (filter_map (position_inside (position_of models)) parts)

  abbrev tree_by : List Part → PartTree
  tree_by parts = parts_by (parts_to levels models) models parts

  -- a part of an unknown model, and one of a model that is there
  part_missing : (s : Size) (p : Part) (parts : List Part) → IsMissing models p.model.number
      → folded (kept s) parts ≡ kept (with_tree s (tree_by parts)) → folded (kept s) (p ∷ parts) ≡ kept (with_tree s (tree_by (p ∷ parts)))
  part_missing s p parts h rest =
      ap (λ o. fold (with_part_at table) (kept s) (cons_option o (filter_map (position_inside (position_of models)) parts))) h.position
      ∙ (rest ∙ sym (ap (λ o. kept (with_tree s (part_before (parts_to levels models) p.name o (tree_by parts)))) h.named))

  part_found : (s : Size) (p : Part) (parts : List Part) (h : IsFound models p.model.number)
      → folded (kept (with_size s (size_to levels models h.model))) parts
      ≡ kept (with_tree (with_size s (size_to levels models h.model)) (tree_by parts))
      → folded (kept s) (p ∷ parts) ≡ kept (with_tree s (tree_by (p ∷ parts)))
  part_found s p parts h rest =
      let ks = filter_map (position_inside (position_of models)) parts in
      let there : slice_get table h.index ≡ Some (kept (size_to levels models h.model)) =
      slice_get-map (λ m. kept (size_to levels models m)) models h.index ∙ ap (option_map (λ m. kept (size_to levels models m))) h.there in
      ap (λ o. fold (with_part_at table) (kept s) (cons_option o ks)) h.position
      ∙ (ap (λ o. fold (with_part_at table) (with_known_part (kept s) o) ks) there
      ∙ (ap (λ x. fold (with_part_at table) x ks) (part_kept s (size_to levels models h.model))
      ∙ (rest
      ∙ (ap kept (part_counted levels models p.name s h.model (tree_by parts))
      ∙ sym (ap (λ o. kept (with_tree s (part_before (parts_to levels models) p.name o (tree_by parts)))) h.named)))))

  parts_counted : (parts : List Part) (s : Size) → 1 ≤ s.depth → folded (kept s) parts ≡ kept (with_tree s (tree_by parts))
  parts_counted [] s least =
      let depths : s.depth ≡ max s.depth 1 = omega arith in
      let components : s.components ≡ s.components + 0 = omega arith in
      let instances : s.instances ≡ s.instances + 0 = omega arith in
      ap kept (same_size s.depth _ s.components _ s.instances _ depths components instances)
  parts_counted (p ∷ parts) s least =
      ⊎_elim
      (λ (h : IsMissing models p.model.number). part_missing s p parts h (parts_counted parts s least))
      (λ (h : IsFound models p.model.number).
      let x = size_to levels models h.model in
      let more : 1 ≤ max s.depth (x.depth + 1) = omega arith in
      part_found s p parts h (parts_counted parts (with_size s x) more))
      (named_at models p.model.number)

  -- a coupled model from the sizes of all models
  coupled_counted : (m : CoupledTree) → folded alone m.parts ≡ kept (size_of_tree (parts_to (suc levels) models m))
  coupled_counted m =
      let least : 1 ≤ 1 = omega arith in
      parts_counted m.parts alone least ∙ ap kept (alone_with (tree_by m.parts))

-- without sizes parts count for nothing
none_counted : (ks : List ℕ) → fold (with_part_at []) alone ks ≡ alone
none_counted [] = refl
none_counted (k ∷ ks) = none_counted ks

module _ (all : List ModelTree) where
  abbrev contents : List ModelTree → List (Option (List ℕ))
  contents models = map (contents_of (position_of all)) models

  -- the count of a coupled model from the sizes below a level
  abbrev count_of : ℕ → CoupledTree → Size
  count_of levels m = fold (with_part_at (sizes_below levels (contents all))) alone (filter_map (position_inside (position_of all)) m.parts)

  abbrev IsCounted : ℕ → Type 0
  IsCounted levels = (m : CoupledTree) → count_of levels m ≡ kept (size_of_tree (parts_to levels all m))

  -- what a level says of coupled models it says of all models
  model_counted : (levels : ℕ) → IsCounted levels → (m : ModelTree)
      → size_by (sizes_below levels (contents all)) (contents_of (position_of all) m) ≡ kept (size_to levels all m)
  model_counted levels coupled (AtomicModel m) = refl
  model_counted levels coupled (CoupledModel m) = coupled m

  models_counted : (levels : ℕ) → IsCounted levels → (models : List ModelTree)
      → map (size_by (sizes_below levels (contents all))) (contents models) ≡ map (λ m. kept (size_to levels all m)) models
  models_counted levels coupled [] = refl
  models_counted levels coupled (m ∷ models) =
      ap (λ x. x ∷ map (size_by (sizes_below levels (contents all))) (contents models)) (model_counted levels coupled m)
      ∙ ap (λ xs. kept (size_to levels all m) ∷ xs) (models_counted levels coupled models)

  -- the count of a coupled model is that of its tree
  counted : (levels : ℕ) → IsCounted levels
  counted zero m = none_counted (filter_map (position_inside (position_of all)) m.parts)
  counted (suc levels) m =
      let ks = filter_map (position_inside (position_of all)) m.parts in
      ap (λ sizes. fold (with_part_at sizes) alone ks) (models_counted levels (counted levels) all) ∙ coupled_counted all levels m

-- and so is the count that tables give
pub counted_by : (models : List ModelTree) (levels : ℕ) (m : CoupledTree) (positions : ℕ → Option ℕ) (found : List (Option (List ℕ)))
    (sizes : List Size) (inside : List ℕ) (size : Size) → positions ≡ position_of models → found ≡ map (contents_of positions) models
    → sizes ≡ sizes_below levels found → inside ≡ filter_map (position_inside positions) m.parts
    → size ≡ fold (with_part_at sizes) alone inside → size ≡ kept (size_of_tree (parts_to levels models m))
counted_by models levels m positions found sizes inside size by_positions by_found by_sizes by_inside by_size =
    let all_found : found ≡ map (contents_of (position_of models)) models = by_found ∙ ap (λ f. map (contents_of f) models) by_positions in
    let ks = filter_map (position_inside (position_of models)) m.parts in
    let all_inside : inside ≡ ks = by_inside ∙ ap (λ f. filter_map (position_inside f) m.parts) by_positions in
    by_size
    ∙ (ap (fold (with_part_at sizes) alone) all_inside
    ∙ (ap (λ xs. fold (with_part_at xs) alone ks) (by_sizes ∙ ap (sizes_below levels) all_found)
    ∙ counted models levels m))

-- ---- Limits

none_kept : (m n : ℕ) → 0 < m → (min n m == 0) ≡ (n == 0)
none_kept m n some = grind (arith, nat_tests)

passed_kept : (m l n : ℕ) → l < m → nat_lt l (min n m) ≡ nat_lt l n
passed_kept m l n below = grind (arith, nat_tests)

either : {a b c d : Bool} → a ≡ b → c ≡ d → (a || c) ≡ (b || d)
either {a} {b} {c} {d} first second = ap (λ x. x || c) first ∙ ap (λ x. b || x) second

-- a limit is passed by what is kept where it is passed
pub limits_kept : (t : PartTree) → size_passes_limit (kept (size_of_tree t)) ≡ passes_limit t
limits_kept t =
    let m = 2 ^ 64 - 1 in
    let none : (capped (component_count t) == 0) ≡ (component_count t == 0) = none_kept m (component_count t) (lit< tt) in
    let components : nat_lt greatest_components (capped (component_count t)) ≡ nat_lt greatest_components (component_count t) =
    passed_kept m greatest_components (component_count t) (lit< tt) in
    let instances : nat_lt greatest_instances (capped (suc (instance_count t))) ≡ nat_lt greatest_instances (suc (instance_count t)) =
    passed_kept m greatest_instances (suc (instance_count t)) (lit< tt) in
    let depths : nat_lt greatest_depth (capped (depth_of t)) ≡ nat_lt greatest_depth (depth_of t) =
    passed_kept m greatest_depth (depth_of t) (lit< tt) in
    either none (either components (either instances depths))
