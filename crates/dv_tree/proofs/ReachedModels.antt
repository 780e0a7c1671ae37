-- What a text means by way of the models that its root leads to alone.
use Rattle.std.proofs.Common.{◌≡◌, ℕ, zero, suc, Bool, true, false, cond, eqb, List, [], ◌∷◌, ◌++◌, length, map, replicate, drop, take}
use Rattle.std.proofs.Common.{◌+◌, ◌<◌, get_or, refl, ap, sym, ◌∙◌, subst}
use Rattle.std.proofs.lemmas.List.{append_assoc, drop_more}
use Rattle.std.specs.Borrow.{Bor}
use Rattle.std.specs.Prelude.{Option, Some, None, option_map, slice_get}
use Rattle.std.proofs.lemmas.Option.{slice_get-map, slice_get-get_or}
use Rattle.std.specs.List.{cons_option, filter_map, range_with_len}
use Rattle.dv_syntax.specs.Trees.{ModelTree, AtomicModel, CoupledModel, CoupledTree, FileTree, model_of}
use Rattle.dv_syntax.specs.declared.tree.Model.{Model}
use Rattle.dv_syntax.specs.declared.tree.Name.{Name}
use Rattle.dv_syntax.specs.declared.tree.Part.{Part}
use Rattle.dv_eval.specs.Scope.{index_of}
use Rattle.dv_bag.specs.Bag.{Counts}
use Rattle.dv_check.specs.Names.{model_named, name_of_model}
use Rattle.dv_check.specs.Limits.{greatest_depth}
use Rattle.dv_check.specs.Tree.{PartTree, NoParts, AtomicPart, CoupledPart, component_count, parts_by, parts_to, tree_of, with_part}
use Rattle.dv_tree.specs.Couplings.{Shown, couplings_of_inputs, couplings_of_parts, own_couplings, part_couplings, resolved_link}
use Rattle.dv_tree.specs.Couplings.{shown_by, shown_of, shown_parts}
use Rattle.dv_tree.specs.Instances.{coupled_model, root_of, tree_in}
use Rattle.dv_tree.specs.Reached.{AreReached, AsPart, AsRoot, borrowed_models, has_mark, marked, model_index, parts_inside, text_of_reached}
use Rattle.dv_tree.specs.Routing.{Arrived, along, along_all, arrives_in_root, arriving, first_bags, from_parts, leaves_root, leaving}
use Rattle.dv_tree.specs.Routing.{to_parts}
use Rattle.dv_tree.specs.Tables.{model_names}
use Rattle.dv_tree.proofs.IndexLemmas.{index_of-cons}

-- ---- Models with marks

-- a name stands for the same model among these models as among all
abbrev pub MeansTheSame : List ModelTree → List ModelTree → ℕ → Type 0
MeansTheSame models reached n = model_named n reached ≡ model_named n models

-- the models of these parts are the same
abbrev pub HaveModels : List ModelTree → List ModelTree → List Part → Type 0
HaveModels models reached [] = Unit {0}
HaveModels models reached (p ∷ parts) = MeansTheSame models reached p.model.number × HaveModels models reached parts

-- models of a text among which are the root and whatever a coupled one of them has as a part
pub record AreEnough (f : FileTree) (reached : List ModelTree) : Type 0 where
  pub root : MeansTheSame f.models reached f.root.number
  pub parts : (n : ℕ) (m : CoupledTree) → model_named n reached ≡ Some (CoupledModel m) → HaveModels f.models reached m.parts

-- whether the model at an index has a mark; where there is no index there is nothing to mark
abbrev is_marked : List Bool → Option ℕ → Bool
is_marked marks None = true
is_marked marks (Some index) = has_mark marks index

-- nothing is named where no index is
none_named : (n : ℕ) (models : List ModelTree) → is_marked [] (index_of n (model_names models)) ≡ true → None ≡ model_named n models
none_named n [] e = refl
none_named n (m ∷ models) e =
    let At : Option ℕ → Type 0 = λ o. is_marked [] o ≡ true in
    named_at (eqb (name_of_model m).number n) m (model_named n models) (index_of n (model_names models))
    (none_named n models) (subst At (index_of-cons n (name_of_model m).number (model_names models)) e)
  where
    named_at : (b : Bool) (m : ModelTree) (rest : Option ModelTree) (index : Option ℕ) → (is_marked [] index ≡ true → None ≡ rest) →
        is_marked [] (cond b (Some 0) (option_map suc index)) ≡ true → None ≡ cond b (Some m) rest
    named_at true m rest index none e = absurd (cc)
    named_at false m rest None none e = none refl
    named_at false m rest (Some p) none e = absurd (cc)

-- a name whose model has a mark means the same among the models with marks
marked_at : (b : Bool) (marks : List Bool) (index : Option ℕ) (m : ModelTree) (mark : Bool) (some all : Option ModelTree) →
    (is_marked marks index ≡ true → some ≡ all) → is_marked (mark ∷ marks) (cond b (Some 0) (option_map suc index)) ≡ true →
    cond mark (cond b (Some m) some) some ≡ cond b (Some m) all
marked_at true marks index m true some all same e = refl
marked_at true marks index m false some all same e = absurd (cc)
marked_at false marks None m true some all same e = same refl
marked_at false marks None m false some all same e = same refl
marked_at false marks (Some p) m true some all same e = same e
marked_at false marks (Some p) m false some all same e = same e

marked_first : (mark : Bool) (marks : List Bool) (m : ModelTree) (models : List ModelTree) (n : ℕ) →
    model_named n (marked (mark ∷ marks) (m ∷ models))
    ≡ cond mark (cond (eqb (name_of_model m).number n) (Some m) (model_named n (marked marks models))) (model_named n (marked marks models))
marked_first true marks m models n = refl
marked_first false marks m models n = refl

pub means_the_same : (marks : List Bool) (models : List ModelTree) (n : ℕ) → is_marked marks (index_of n (model_names models)) ≡ true →
    MeansTheSame models (marked marks models) n
means_the_same marks [] n e = refl
means_the_same [] (m ∷ models) n e = none_named n (m ∷ models) e
means_the_same (mark ∷ marks) (m ∷ models) n e =
    let At : Option ℕ → Type 0 = λ o. is_marked (mark ∷ marks) o ≡ true in
    marked_first mark marks m models n
    ∙ marked_at (eqb (name_of_model m).number n) marks (index_of n (model_names models)) m mark
    (model_named n (marked marks models)) (model_named n models) (means_the_same marks models n)
    (subst At (index_of-cons n (name_of_model m).number (model_names models)) e)

is_marked_at : (marks : List Bool) (o : Option ℕ) → ((q : ℕ) → o ≡ Some q → has_mark marks q ≡ true) → is_marked marks o ≡ true
is_marked_at marks None each = refl
is_marked_at marks (Some q) each = each q refl

-- parts whose models have marks
have_models : (marks : List Bool) (models : List ModelTree) (parts : List Part) →
    ((k : ℕ) (p : Part) (q : ℕ) → slice_get parts k ≡ Some p → index_of p.model.number (model_names models) ≡ Some q →
    has_mark marks q ≡ true) → HaveModels models (marked marks models) parts
have_models marks models [] each = tt
have_models marks models (p ∷ parts) each = (
  means_the_same marks models p.model.number
      (is_marked_at marks (index_of p.model.number (model_names models)) (λ q is. each zero p q refl is)),
  have_models marks models parts (λ k. each (suc k)),
)

-- what is so of each model with a mark is so of the one that a name stands for among these
named_marked : (P : ModelTree → Type 0) (marks : List Bool) (models : List ModelTree) (n : ℕ) (m : ModelTree) →
    ((q : ℕ) (x : ModelTree) → has_mark marks q ≡ true → slice_get models q ≡ Some x → P x) →
    model_named n (marked marks models) ≡ Some m → P m
named_marked P marks [] n m each e = absurd (cc)
named_marked P [] (x ∷ models) n m each e = absurd (cc)
named_marked P (mark ∷ marks) (x ∷ models) n m each e =
    at mark (eqb (name_of_model x).number n) (model_named n (marked marks models)) (λ is. each zero x is refl)
    (named_marked P marks models n m (λ q. each (suc q))) (sym (marked_first mark marks x models n) ∙ e)
  where
    at : (mark b : Bool) (rest : Option ModelTree) → (mark ≡ true → P x) → (rest ≡ Some m → P m) →
        cond mark (cond b (Some x) rest) rest ≡ Some m → P m
    at true true rest first later e = let same : x ≡ m = cc in subst P same (first refl)
    at true false rest first later e = later e
    at false b rest first later e = later e

-- the models that the root leads to are such models
pub are_enough : (f : FileTree) (reached : List ModelTree) → AreReached f reached → AreEnough f reached
are_enough f reached h =
    subst (AreEnough f) (sym h.are) (record {
      root = means_the_same h.marks f.models f.root.number
          (is_marked_at h.marks (model_index f f.root.number) (λ q is. (h.exactly q).1 (AsRoot is)));
      parts = λ n m named. named_marked (λ x. HaveModels f.models (marked h.marks f.models) (parts_inside x))
          h.marks f.models n (CoupledModel m)
          (λ q x has there. have_models h.marks f.models (parts_inside x)
          (λ k p r part is. (h.exactly r).1 (AsPart x k p ((h.exactly q).0 has) there part is))) named;
    })

-- the loop that takes those with a mark, at one model more
pub marked_more : (marks : List Bool) (models : List Model) (i : ℕ) (mark d : Bool) (m e : Model) (found next all : List ModelTree) →
    i < length marks → i < length models → mark ≡ get_or marks i d → m ≡ get_or models i e →
    next ≡ cond mark (found ++ model_of m ∷ []) found →
    found ++ marked (drop i marks) (map model_of (drop i models)) ≡ all →
    next ++ marked (drop (i + 1) marks) (map model_of (drop (i + 1) models)) ≡ all
marked_more marks models i mark d m e found next all within_marks within read_mark read next_is so_far =
    let behind = marked (drop (i + 1) marks) (map model_of (drop (i + 1) models)) in
    let rest = map model_of (drop (i + 1) models) in
    let here : found ++ marked (mark ∷ drop (i + 1) marks) (model_of m ∷ rest) ≡ all =
    ap (λ b. found ++ marked (b ∷ drop (i + 1) marks) (model_of m ∷ rest)) read_mark
    ∙ (ap (λ v. found ++ marked (get_or marks i d ∷ drop (i + 1) marks) (model_of v ∷ rest)) read
    ∙ (sym (ap (λ ms. found ++ marked (get_or marks i d ∷ drop (i + 1) marks) (map model_of ms)) (drop_more models i e within))
    ∙ (sym (ap (λ bs. found ++ marked bs (map model_of (drop i models))) (drop_more marks i d within_marks)) ∙ so_far))) in
    ap (λ xs. xs ++ behind) next_is ∙ (taken mark ∙ here)
  where
    taken : (b : Bool) →
        cond b (found ++ model_of m ∷ []) found ++ marked (drop (i + 1) marks) (map model_of (drop (i + 1) models))
        ≡ found ++ marked (b ∷ drop (i + 1) marks) (model_of m ∷ map model_of (drop (i + 1) models))
    taken true = append_assoc found (model_of m ∷ []) (marked (drop (i + 1) marks) (map model_of (drop (i + 1) models)))
    taken false = refl

-- one more of those that are borrowed
pub borrowed_more : (models : List (Bor Model)) (m : Bor Model) →
    borrowed_models (models ++ m ∷ []) ≡ borrowed_models models ++ model_of m.now ∷ []
borrowed_more [] m = refl
borrowed_more (x ∷ models) m = ap (λ ms. model_of x.now ∷ ms) (borrowed_more models m)

-- one more, with its index
pub indices_more : (all : List ModelTree) (indices : List ℕ) (found : List ModelTree) (index : ℕ) (m : ModelTree) →
    slice_get all index ≡ Some m → map (slice_get all) indices ≡ map Some found →
    map (slice_get all) (indices ++ index ∷ []) ≡ map Some (found ++ m ∷ [])
indices_more all [] [] index m there so_far = ap (λ o. o ∷ []) there
indices_more all [] (x ∷ found) index m there so_far = absurd (cc)
indices_more all (p ∷ indices) [] index m there so_far = absurd (cc)
indices_more all (p ∷ indices) (x ∷ found) index m there so_far =
    let first : slice_get all p ≡ Some x = cc in
    let rest : map (slice_get all) indices ≡ map Some found = cc in
    ap (λ o. o ∷ map (slice_get all) (indices ++ index ∷ [])) first
    ∙ ap (λ os. Some x ∷ os) (indices_more all indices found index m there rest)

-- the model that is read at an index
pub model_read_at : (models : List Model) (index : ℕ) (m d : Model) → index < length models → m ≡ get_or models index d →
    slice_get (map model_of models) index ≡ Some (model_of m)
model_read_at models index m d within read =
    slice_get-map model_of models index
    ∙ ap (option_map model_of) (slice_get-get_or models index d within ∙ ap Some (sym read))

-- ---- What a coupled model shows of its parts

shown_same : (models reached : List ModelTree) (parts : List Part) → HaveModels models reached parts →
    filter_map (shown_of reached) parts ≡ filter_map (shown_of models) parts
shown_same models reached [] h = refl
shown_same models reached (p ∷ parts) h =
    ap (λ o. cons_option (option_map (shown_by p) o) (filter_map (shown_of reached) parts)) h.0
    ∙ ap (cons_option (shown_of models p)) (shown_same models reached parts h.1)

module _ (models reached : List ModelTree) (m : CoupledTree) (h : HaveModels models reached m.parts) where
  shown_are : shown_parts reached m ≡ shown_parts models m
  shown_are = shown_same models reached m.parts h

  pub own_same : couplings_of_inputs reached m ≡ couplings_of_inputs models m
  own_same = ap (λ shown. own_couplings (filter_map (resolved_link m shown) m.links)) shown_are

  pub parts_same : couplings_of_parts reached m ≡ couplings_of_parts models m
  parts_same =
      ap (λ (shown : List Shown). map (part_couplings (filter_map (resolved_link m shown) m.links)) (range_with_len 0 (length shown)))
      shown_are

  pub from_same : (bags : List (List Counts)) → from_parts reached m bags ≡ from_parts models m bags
  from_same bags =
      ap (λ (shown : List Shown). along_all
      (map (part_couplings (filter_map (resolved_link m shown) m.links)) (range_with_len 0 (length shown))) bags
      (record {
        own = replicate (length m.outputs) [];
        parts = map (λ (s : Shown). replicate (length s.inputs) []) shown;
      })) shown_are

  pub to_same : (input : List Counts) (bags : List (List Counts)) → to_parts reached m input bags ≡ to_parts models m input bags
  to_same input bags =
      ap (λ couplings. (along couplings input (from_parts reached m bags)).parts) own_same
      ∙ ap (λ a. (along (couplings_of_inputs models m) input a).parts) (from_same bags)

-- ---- The tree

-- parts of which each coupled one has the models of its parts
pub data HasModels (models reached : List ModelTree) : PartTree → Type 0 where
  no_parts : HasModels models reached NoParts
  atomic : {name : Name} {rest : PartTree} (m : _) → HasModels models reached rest → HasModels models reached (AtomicPart name m rest)
  coupled : {name : Name} {inside rest : PartTree} (m : CoupledTree) → HaveModels models reached m.parts →
      HasModels models reached inside → HasModels models reached rest → HasModels models reached (CoupledPart name m inside rest)

pub leaving_same : {models reached : List ModelTree} {t : PartTree} → HasModels models reached t → (sent : List (List Counts)) →
    leaving reached t sent ≡ leaving models t sent
leaving_same no_parts sent = refl
leaving_same (atomic m rest) sent = ap (λ xs. first_bags sent ∷ xs) (leaving_same rest (drop 1 sent))
leaving_same {models = models} {reached = reached} (coupled {inside = inside} {rest = others} m have within rest) sent =
    let k = component_count inside in
    ap (λ xs. (from_parts reached m xs).own ∷ leaving reached others (drop k sent)) (leaving_same within (take k sent))
    ∙ (ap (λ (a : Arrived). a.own ∷ leaving reached others (drop k sent))
    (from_same models reached m have (leaving models inside (take k sent)))
    ∙ ap (λ xs. (from_parts models m (leaving models inside (take k sent))).own ∷ xs) (leaving_same rest (drop k sent)))

pub arriving_same : {models reached : List ModelTree} {t : PartTree} → HasModels models reached t → (comes sent : List (List Counts)) →
    arriving reached t comes sent ≡ arriving models t comes sent
arriving_same no_parts comes sent = refl
arriving_same (atomic m rest) comes sent = ap (λ xs. first_bags comes ∷ xs) (arriving_same rest (drop 1 comes) (drop 1 sent))
arriving_same {models = models} {reached = reached} (coupled {inside = inside} {rest = others} m have within rest) comes sent =
    let k = component_count inside in
    let s = take k sent in
    let behind = arriving reached others (drop 1 comes) (drop k sent) in
    let into =
    to_same models reached m have (first_bags comes) (leaving reached inside s)
    ∙ ap (to_parts models m (first_bags comes)) (leaving_same within s) in
    ap (λ xs. arriving reached inside xs s ++ behind) into
    ∙ (ap (λ xs. xs ++ behind) (arriving_same within (to_parts models m (first_bags comes) (leaving models inside s)) s)
    ∙ ap (λ xs. arriving models inside (to_parts models m (first_bags comes) (leaving models inside s)) s ++ xs)
    (arriving_same rest (drop 1 comes) (drop k sent)))

-- the coupled model that a model is
coupled_is : (o : Option ModelTree) (m : CoupledTree) → coupled_model o ≡ Some m → o ≡ Some (CoupledModel m)
coupled_is None m e = absurd (cc)
coupled_is (Some (AtomicModel a)) m e = absurd (cc)
coupled_is (Some (CoupledModel c)) m e = cc

module _ (f : FileTree) (reached : List ModelTree) (h : AreReached f reached) where
  enough : AreEnough f reached
  enough = are_enough f reached h

  module _ (depth : ℕ)
      (below : (m : CoupledTree) → HaveModels f.models reached m.parts → parts_to depth reached m ≡ parts_to depth f.models m) where
    part_same : (n : ℕ) (name : Name) (rest : PartTree) (o : Option ModelTree) → model_named n reached ≡ o →
        with_part (parts_to depth reached) name o rest ≡ with_part (parts_to depth f.models) name o rest
    part_same n name rest None e = refl
    part_same n name rest (Some (AtomicModel m)) e = refl
    part_same n name rest (Some (CoupledModel m)) e = ap (λ t. CoupledPart name m t rest) (below m (enough.parts n m e))

    all_same : (parts : List Part) → HaveModels f.models reached parts →
        parts_by (parts_to depth reached) reached parts ≡ parts_by (parts_to depth f.models) f.models parts
    all_same [] have = refl
    all_same (p ∷ parts) have =
        let rest = parts_by (parts_to depth reached) reached parts in
        part_same p.model.number p.name rest (model_named p.model.number reached) refl
        ∙ (ap (λ o. with_part (parts_to depth f.models) p.name o rest) have.0
        ∙ ap (with_part (parts_to depth f.models) p.name (model_named p.model.number f.models)) (all_same parts have.1))

  pub tree_same : (depth : ℕ) (m : CoupledTree) → HaveModels f.models reached m.parts → parts_to depth reached m ≡ parts_to depth f.models m
  tree_same zero m have = refl
  tree_same (suc depth) m have = all_same depth (tree_same depth) m.parts have

  module _ (depth : ℕ)
      (below : (m : CoupledTree) → HaveModels f.models reached m.parts → HasModels f.models reached (parts_to depth reached m)) where
    part_has : (n : ℕ) (name : Name) (rest : PartTree) (o : Option ModelTree) → model_named n reached ≡ o →
        HasModels f.models reached rest → HasModels f.models reached (with_part (parts_to depth reached) name o rest)
    part_has n name rest None e others = others
    part_has n name rest (Some (AtomicModel m)) e others = atomic m others
    part_has n name rest (Some (CoupledModel m)) e others = coupled m (enough.parts n m e) (below m (enough.parts n m e)) others

    all_have : (parts : List Part) → HaveModels f.models reached parts →
        HasModels f.models reached (parts_by (parts_to depth reached) reached parts)
    all_have [] have = no_parts
    all_have (p ∷ parts) have =
        part_has p.model.number p.name (parts_by (parts_to depth reached) reached parts) (model_named p.model.number reached) refl
        (all_have parts have.1)

  pub tree_has : (depth : ℕ) (m : CoupledTree) → HaveModels f.models reached m.parts → HasModels f.models reached (parts_to depth reached m)
  tree_has zero m have = no_parts
  tree_has (suc depth) m have = all_have depth (tree_has depth) m.parts have

  -- the root and its parts
  pub root_same : root_of (text_of_reached f reached) ≡ root_of f
  root_same = ap coupled_model enough.root

  pub root_has : (m : CoupledTree) → root_of (text_of_reached f reached) ≡ Some m → HaveModels f.models reached m.parts
  root_has m e = enough.parts f.root.number m (coupled_is (model_named f.root.number reached) m e)

  tree_at : (o : Option CoupledTree) → root_of (text_of_reached f reached) ≡ o → tree_in reached o ≡ tree_in f.models o
  tree_at None e = refl
  tree_at (Some m) e = tree_same greatest_depth m (root_has m e)

  pub root_tree_same : tree_in reached (root_of (text_of_reached f reached)) ≡ tree_in f.models (root_of f)
  root_tree_same = tree_at (root_of (text_of_reached f reached)) refl ∙ ap (tree_in f.models) root_same

  leaves_at : (o : Option CoupledTree) → root_of (text_of_reached f reached) ≡ o → (sent : List (List Counts)) →
      leaves_root reached o sent ≡ leaves_root f.models o sent
  leaves_at None e sent = refl
  leaves_at (Some m) e sent =
      let have = root_has m e in
      ap (λ xs. (from_parts reached m xs).own) (leaving_same (tree_has greatest_depth m have) sent)
      ∙ (ap (λ t. (from_parts reached m (leaving f.models t sent)).own) (tree_same greatest_depth m have)
      ∙ ap (λ (a : Arrived). a.own) (from_same f.models reached m have (leaving f.models (tree_of f.models m) sent)))

  pub leaves_same : (sent : List (List Counts)) →
      leaves_root reached (root_of (text_of_reached f reached)) sent ≡ leaves_root f.models (root_of f) sent
  leaves_same sent =
      leaves_at (root_of (text_of_reached f reached)) refl sent ∙ ap (λ o. leaves_root f.models o sent) root_same

  arrives_at : (o : Option CoupledTree) → root_of (text_of_reached f reached) ≡ o → (sent : List (List Counts)) (input : List Counts) →
      arrives_in_root reached o sent input ≡ arrives_in_root f.models o sent input
  arrives_at None e sent input = refl
  arrives_at (Some m) e sent input =
      let have = root_has m e in
      let t = tree_of reached m in
      arriving_same (tree_has greatest_depth m have) (to_parts reached m input (leaving reached t sent)) sent
      ∙ (ap (λ xs. arriving f.models t (to_parts reached m input xs) sent) (leaving_same (tree_has greatest_depth m have) sent)
      ∙ (ap (λ xs. arriving f.models t xs sent) (to_same f.models reached m have input (leaving f.models t sent))
      ∙ ap (λ t. arriving f.models t (to_parts f.models m input (leaving f.models t sent)) sent) (tree_same greatest_depth m have)))

  pub arrives_same : (sent : List (List Counts)) (input : List Counts) →
      arrives_in_root reached (root_of (text_of_reached f reached)) sent input ≡ arrives_in_root f.models (root_of f) sent input
  arrives_same sent input =
      arrives_at (root_of (text_of_reached f reached)) refl sent input ∙ ap (λ o. arrives_in_root f.models o sent input) root_same
