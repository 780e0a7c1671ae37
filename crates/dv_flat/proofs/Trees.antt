-- Where every output of every component sends one value, the ways through the parts of a tree say how many copies leave each part,
-- and how many arrive in all.
use Rattle.std.proofs.Common.{◌≡◌, ℕ, zero, suc, ◌+◌, ◌≤◌, List, [], ◌∷◌, ◌++◌, length, map, replicate, take}
use Rattle.std.proofs.Common.{drop, refl, ap, sym, ◌∙◌, pos, arith}
use Rattle.std.specs.Prelude.{Option, Some, None, option_map}
use Rattle.std.specs.List.{cons_option, filter_map, range_with_len, sum_by}
use Rattle.std.proofs.lemmas.List.{drop_at, length-map, length-replicate, map-append, take_at}
use Rattle.std.proofs.lemmas.List.Sums.{sum_by-cons}
use Rattle.dv_syntax.specs.Trees.{ModelTree, AtomicModel, CoupledModel, AtomicTree, CoupledTree}
use Rattle.dv_syntax.specs.declared.tree.Name.{Name}
use Rattle.dv_syntax.specs.declared.tree.Part.{Part}
use Rattle.dv_bag.specs.Bag.{Counts}
use Rattle.dv_eval.specs.Scope.{scope_of}
use Rattle.dv_check.specs.Names.{model_named, numbers_of}
use Rattle.dv_check.specs.Tree.{PartTree, NoParts, AtomicPart, CoupledPart, component_count, parts_by, parts_to, with_part}
use Rattle.dv_tree.specs.Instances.{Instance, instances_in}
use Rattle.dv_tree.specs.Couplings.{Shown, couplings_of_inputs, couplings_of_parts, shown_by, shown_of, shown_parts}
use Rattle.dv_tree.specs.Routing.{along_all, arriving, first_bags, from_parts, leaving, nothing_at, to_parts}
use Rattle.dv_tree.specs.Tables.{level_of}
use Rattle.dv_tree.proofs.Named.{length-instances_in}
use Rattle.dv_tree.proofs.Received.{length-arriving}
use Rattle.dv_flat.specs.Ends.{input_count, output_count}
use Rattle.dv_flat.specs.Ways.{WayCounts, at_port, component_ways, coupled_ways, output_ways}
use Rattle.dv_flat.proofs.Alike.{Alike}
use Rattle.dv_flat.proofs.Copies.{copies}
use Rattle.dv_flat.proofs.Products.{Covers, no_more, one_more, product, product_zeros, products, products_none, summed_up_to}
use Rattle.dv_flat.proofs.Through.{counts_all, counts_in, counts_of, covers_all, covers_along, inputs_of, length-input_ways, on_all}
use Rattle.dv_flat.proofs.Through.{on_along, on_from_inputs, outputs_of}

-- the ways of the parts of a tree
abbrev pub ways_of_model : List ModelTree → CoupledTree → List WayCounts → WayCounts
ways_of_model models m parts = coupled_ways (length m.inputs) (level_of models m) parts

abbrev pub tree_ways : List ModelTree → PartTree → List WayCounts
tree_ways models NoParts = []
tree_ways models (AtomicPart name m rest) = component_ways (scope_of m) ∷ tree_ways models rest
tree_ways models (CoupledPart name m inside rest) = ways_of_model models m (tree_ways models inside) ∷ tree_ways models rest

-- one value, and one at each output of each component
abbrev pub one_value : Counts
one_value = (pos 0, 1) ∷ []

abbrev pub one_at_each : List Instance → List (List Counts)
one_at_each is = map (λ (i : Instance). replicate (output_count i.model) one_value) is

pub counts_replicated : (n : ℕ) (b : Counts) → counts_of (replicate n b) ≡ replicate n (copies b)
counts_replicated zero b = refl
counts_replicated (suc n) b = ap (λ ws. copies b ∷ ws) (counts_replicated n b)

-- what the components of a tree send so
abbrev pub sent_by : List ℕ → PartTree → List (List Counts)
sent_by path t = one_at_each (instances_in path t)

length-sent_by : (path : List ℕ) (t : PartTree) → length (sent_by path t) ≡ component_count t
length-sent_by path t =
    length-map (instances_in path t) (λ (i : Instance). replicate (output_count i.model) one_value) ∙ length-instances_in path t

-- the components of a coupled part, and those behind it
module _ (name : Name) (m : CoupledTree) (inside rest : PartTree) (path : List ℕ) where
  sent_apart : sent_by path (CoupledPart name m inside rest) ≡ sent_by (path ++ name.number ∷ []) inside ++ sent_by path rest
  sent_apart =
      map-append (λ (i : Instance). replicate (output_count i.model) one_value) (instances_in (path ++ name.number ∷ []) inside)
      (instances_in path rest)

  sent_inside :
      take (component_count inside) (sent_by path (CoupledPart name m inside rest)) ≡ sent_by (path ++ name.number ∷ []) inside
  sent_inside =
      ap (take (component_count inside)) sent_apart
      ∙ take_at (sent_by (path ++ name.number ∷ []) inside) (sent_by path rest) (component_count inside)
      (length-sent_by (path ++ name.number ∷ []) inside)

  sent_behind : drop (component_count inside) (sent_by path (CoupledPart name m inside rest)) ≡ sent_by path rest
  sent_behind =
      ap (drop (component_count inside)) sent_apart
      ∙ drop_at (sent_by (path ++ name.number ∷ []) inside) (sent_by path rest) (component_count inside)
      (length-sent_by (path ++ name.number ∷ []) inside)

-- ---- What leaves

pub own_counts : (models : List ModelTree) (m : CoupledTree) (leaves : List (List Counts)) (parts : List WayCounts) →
    counts_in leaves ≡ outputs_of parts →
    counts_of (from_parts models m leaves).own ≡ (ways_of_model models m parts).outputs
own_counts models m leaves parts e =
    counts_all (couplings_of_parts models m) leaves parts (nothing_at models m) e
    ∙ ap (output_ways (couplings_of_parts models m) parts) (counts_replicated (length m.outputs) [])

pub leaving_counts : (models : List ModelTree) (t : PartTree) (path : List ℕ) →
    counts_in (leaving models t (sent_by path t)) ≡ outputs_of (tree_ways models t)
leaving_counts models NoParts path = refl
leaving_counts models (AtomicPart name m rest) path =
    ap (λ ws. ws ∷ counts_in (leaving models rest (sent_by path rest))) (counts_replicated (output_count m) one_value)
    ∙ ap (λ xs. replicate (output_count m) 1 ∷ xs) (leaving_counts models rest path)
leaving_counts models (CoupledPart name m inside rest) path =
    let other = path ++ name.number ∷ [] in
    let leaves = leaving models inside (sent_by other inside) in
    let behind = drop (component_count inside) (sent_by path (CoupledPart name m inside rest)) in
    ap (λ s. counts_of (from_parts models m (leaving models inside s)).own ∷ counts_in (leaving models rest behind))
    (sent_inside name m inside rest path)
    ∙ (ap (λ s. counts_of (from_parts models m leaves).own ∷ counts_in (leaving models rest s)) (sent_behind name m inside rest path)
    ∙ (ap (λ ws. ws ∷ counts_in (leaving models rest (sent_by path rest)))
    (own_counts models m leaves (tree_ways models inside) (leaving_counts models inside other))
    ∙ ap (λ xs. (ways_of_model models m (tree_ways models inside)).outputs ∷ xs) (leaving_counts models rest path)))

-- ---- What arrives

-- the ways from the inputs of parts, with as many ports as each part shows
abbrev pub FitsParts : List ModelTree → CoupledTree → PartTree → Type 0
FitsParts models m t = Covers (counts_in (nothing_at models m).parts) (inputs_of (tree_ways models t))

-- so it is in each coupled part
pub data Fitting (models : List ModelTree) : PartTree → Type 0 where
  no_parts : Fitting models NoParts
  atomic : (name : Name) (m : AtomicTree) {rest : PartTree} → Fitting models rest → Fitting models (AtomicPart name m rest)
  coupled : (name : Name) (m : CoupledTree) {inside rest : PartTree} → FitsParts models m inside → Fitting models inside →
      Fitting models rest → Fitting models (CoupledPart name m inside rest)

-- the copies that arrive at the inputs of components
abbrev pub arrivals : List Instance → List (List Counts) → ℕ
arrivals [] received = 0
arrivals (i ∷ is) received =
    sum_by (at_port (counts_of (first_bags received))) (range_with_len 0 (input_count i.model)) + arrivals is (drop 1 received)

arrivals-append : (is js : List Instance) (xs ys : List (List Counts)) → length xs ≡ length is →
    arrivals (is ++ js) (xs ++ ys) ≡ arrivals is xs + arrivals js ys
arrivals-append [] js [] ys e = omega arith
arrivals-append [] js (x ∷ xs) ys e = absurd (omega (arith, e))
arrivals-append (i ∷ is) js [] ys e = absurd (omega (arith, e))
arrivals-append (i ∷ is) js (x ∷ xs) ys e = let rest = arrivals-append is js xs ys (omega (arith, e)) in omega (arith, rest)

nothing_passes : (shown : List Shown) (ways : List (List ℕ)) →
    products (counts_in (map (λ (s : Shown). replicate {A = Counts} (length s.inputs) []) shown)) ways ≡ 0
nothing_passes [] ways = refl
nothing_passes (s ∷ shown) [] = refl
nothing_passes (s ∷ shown) (w ∷ ways) =
    let first = ap (λ xs. product xs w) (counts_replicated (length s.inputs) []) ∙ product_zeros (length s.inputs) w in
    let rest = nothing_passes shown ways in
    omega (arith, first, rest)

-- the parts of a coupled model, from what comes to its inputs
pub level_arrives : (models : List ModelTree) (m : CoupledTree) (parts : List WayCounts) (leaves : List (List Counts))
    (input : List Counts) (total : ℕ) → counts_in leaves ≡ outputs_of parts →
    Covers (counts_in (nothing_at models m).parts) (inputs_of parts) → length input ≤ length m.inputs →
    Alike total (products (counts_in (to_parts models m input leaves)) (inputs_of parts) + sum_by (λ (p : WayCounts). p.inside) parts) →
    Alike total (product (counts_of input) (ways_of_model models m parts).inputs + (ways_of_model models m parts).inside)
level_arrives models m parts leaves input total e covers short all =
    let couplings = couplings_of_parts models m in
    let own = couplings_of_inputs models m in
    let nothing = nothing_at models m in
    let came = along_all couplings leaves nothing in
    let first = on_along own input came parts (covers_all couplings leaves nothing (inputs_of parts) covers) in
    let second = on_all couplings leaves parts nothing parts e covers in
    let none = nothing_passes (shown_parts models m) (inputs_of parts) in
    let third = on_from_inputs (length m.inputs) parts (counts_of input) own (omega (arith, short, length-map input copies)) in
    omega (arith, first, second, none, third, all)

pub covers_into : (models : List ModelTree) (m : CoupledTree) (ways : List (List ℕ)) (leaves : List (List Counts))
    (input : List Counts) →
    Covers (counts_in (nothing_at models m).parts) ways → Covers (counts_in (to_parts models m input leaves)) ways
covers_into models m ways leaves input covers =
    covers_along (couplings_of_inputs models m) input (from_parts models m leaves) ways
    (covers_all (couplings_of_parts models m) leaves (nothing_at models m) ways covers)

covers_first : {x y : List ℕ} {xs ys : List (List ℕ)} → Covers (x ∷ xs) (y ∷ ys) → length x ≡ length y
covers_first (one_more same rest) = same

covers_rest : {x y : List ℕ} {xs ys : List (List ℕ)} → Covers (x ∷ xs) (y ∷ ys) → Covers xs ys
covers_rest (one_more same rest) = rest

covers_nothing : {y : List ℕ} {ys : List (List ℕ)} → Covers [] (y ∷ ys) → ⊥
covers_nothing h = elim h [ ]

pub tree_arrives : (models : List ModelTree) {t : PartTree} (path : List ℕ) (comes : List (List Counts)) → Fitting models t →
    Covers (counts_in comes) (inputs_of (tree_ways models t)) →
    Alike (arrivals (instances_in path t) (arriving models t comes (sent_by path t)))
    (products (counts_in comes) (inputs_of (tree_ways models t)) + sum_by (λ (p : WayCounts). p.inside) (tree_ways models t))
tree_arrives models path comes no_parts covers = let none = products_none (counts_in comes) in omega (arith, none)
tree_arrives models path [] (atomic name m rest) covers = absurd (covers_nothing covers)
tree_arrives models path (bags ∷ comes) (atomic name m {rest = others} rest) covers =
    let here = summed_up_to (counts_of bags) (input_count m) in
    let behind = tree_arrives models path comes rest (covers_rest covers) in
    let sum = sum_by-cons (λ (p : WayCounts). p.inside) (component_ways (scope_of m)) (tree_ways models others) in
    omega (arith, here, behind, sum)
tree_arrives models path [] (coupled name m fits inside rest) covers = absurd (covers_nothing covers)
tree_arrives models path (bags ∷ comes) (coupled name m {inside = within} {rest = others} fits inside rest) covers =
    let other = path ++ name.number ∷ [] in
    let parts = tree_ways models within in
    let n = component_count within in
    let whole = sent_by path (CoupledPart name m within others) in
    let sent = sent_by other within in
    let leaves = leaving models within sent in
    let into = to_parts models m bags leaves in
    let there = arriving models within into sent in
    let is = instances_in other within ++ instances_in path others in
    let received : List (List Counts) → List (List Counts) → List (List Counts) =
    λ s r. arriving models within (to_parts models m bags (leaving models within s)) s ++ arriving models others comes r in
    let apart : arrivals is (received (take n whole) (drop n whole)) ≡ arrivals is (received sent (sent_by path others)) =
    ap (λ s. arrivals is (received s (drop n whole))) (sent_inside name m within others path)
    ∙ ap (λ r. arrivals is (received sent r)) (sent_behind name m within others path) in
    let both =
    arrivals-append (instances_in other within) (instances_in path others) there (arriving models others comes (sent_by path others))
    (length-arriving models within other into sent) in
    let ports = length-input_ways (length m.inputs) parts (couplings_of_inputs models m) in
    let short : length bags ≤ length m.inputs = omega (arith, covers_first covers, length-map bags copies, ports) in
    let here =
    level_arrives models m parts leaves bags (arrivals (instances_in other within) there) (leaving_counts models within other) fits short
    (tree_arrives models other into inside (covers_into models m (inputs_of parts) leaves bags fits)) in
    let behind = tree_arrives models path comes rest (covers_rest covers) in
    let sum = sum_by-cons (λ (p : WayCounts). p.inside) (ways_of_model models m parts) (tree_ways models others) in
    omega (arith, apart, both, here, behind, sum)

-- ---- Trees fit

module _ (models : List ModelTree) (inside : CoupledTree → PartTree) where
  fits_part : (name : Name) (o : Option ModelTree) (rest : PartTree) → ((m : CoupledTree) → FitsParts models m (inside m)) →
      ((m : CoupledTree) → Fitting models (inside m)) → Fitting models rest → Fitting models (with_part inside name o rest)
  fits_part name None rest covers below h = h
  fits_part name (Some (AtomicModel m)) rest covers below h = atomic name m h
  fits_part name (Some (CoupledModel m)) rest covers below h = coupled name m (covers m) (below m) h

  fits_parts : (parts : List Part) → ((m : CoupledTree) → FitsParts models m (inside m)) →
      ((m : CoupledTree) → Fitting models (inside m)) → Fitting models (parts_by inside models parts)
  fits_parts [] covers below = no_parts
  fits_parts (p ∷ parts) covers below =
      fits_part p.name (model_named p.model.number models) (parts_by inside models parts) covers below (fits_parts parts covers below)

  -- what parts show, with no values there
  abbrev quiet : List Shown → List (List Counts)
  quiet shown = map (λ (s : Shown). replicate {A = Counts} (length s.inputs) []) shown

  length-quiet : (n : ℕ) → length (counts_of (replicate n [])) ≡ n
  length-quiet n = ap length (counts_replicated n []) ∙ length-replicate {A = ℕ} n 0

  covers_part : (p : Part) (o : Option ModelTree) (shown : List Shown) (rest : PartTree) →
      Covers (counts_in (quiet shown)) (inputs_of (tree_ways models rest)) →
      Covers (counts_in (quiet (cons_option (option_map (shown_by p) o) shown)))
      (inputs_of (tree_ways models (with_part inside p.name o rest)))
  covers_part p None shown rest h = h
  covers_part p (Some (AtomicModel m)) shown rest h =
      one_more (length-quiet (input_count m) ∙ sym (length-replicate {A = ℕ} (input_count m) 1)) h
  covers_part p (Some (CoupledModel m)) shown rest h =
      one_more
      (length-quiet (length (numbers_of m.inputs))
      ∙ (length-map m.inputs (λ (n : Name). n.number)
      ∙ sym (length-input_ways (length m.inputs) (tree_ways models (inside m)) (couplings_of_inputs models m)))) h

  covers_parts : (parts : List Part) →
      Covers (counts_in (quiet (filter_map (shown_of models) parts))) (inputs_of (tree_ways models (parts_by inside models parts)))
  covers_parts [] = no_more
  covers_parts (p ∷ parts) =
      covers_part p (model_named p.model.number models) (filter_map (shown_of models) parts) (parts_by inside models parts)
      (covers_parts parts)

pub covers_to : (depth : ℕ) (models : List ModelTree) (m : CoupledTree) → FitsParts models m (parts_to depth models m)
covers_to zero models m = no_more
covers_to (suc depth) models m = covers_parts models (parts_to depth models) m.parts

pub fits_to : (depth : ℕ) (models : List ModelTree) (m : CoupledTree) → Fitting models (parts_to depth models m)
fits_to zero models m = no_parts
fits_to (suc depth) models m = fits_parts models (parts_to depth models) m.parts (covers_to depth models) (fits_to depth models)
