-- In an accepted text no link of a coupled model leads from a part to itself, and so nothing that a component sends comes to it.
use Rattle.std.proofs.Common.{◌≡◌, ◌≢◌, ℕ, zero, suc, ◌+◌, ◌-◌, ◌<◌, ◌≤◌, Bool, true, false, cond, eqb, ltb, List, [], ◌∷◌}
use Rattle.std.proofs.Common.{length, map, get_or, take, drop, refl, ap, sym, ◌∙◌, subst, arith, ⊎_elim}
use Rattle.std.specs.Prelude.{Option, Some, None, option_map, IfSome}
use Rattle.std.specs.List.{AllByRecursion}
use Rattle.std.proofs.lemmas.Bool.{cases_Bool, cases_lt, eqb-false, eqb-true}
use Rattle.std.proofs.lemmas.Bool.Decides.{nat_tests}
use Rattle.std.proofs.lemmas.List.{get_or-drop, get_or-set_other, get_or-take, get_or_append_left, get_or-append_right}
use Rattle.std.proofs.lemmas.List.{get_or_past, length-take}
use Rattle.std.proofs.lemmas.List.FromFn.{get_or-map-range_with_len, length-map-range_with_len}
use Rattle.dv_syntax.specs.Trees.{ModelTree, AtomicModel, CoupledModel, CoupledTree, FileTree}
use Rattle.dv_syntax.specs.declared.tree.Name.{Name}
use Rattle.dv_syntax.specs.declared.tree.Part.{Part}
use Rattle.dv_syntax.specs.declared.tree.Link.{Link}
use Rattle.dv_eval.specs.Scope.{index_of}
use Rattle.dv_bag.specs.Bag.{Counts, bag_at, total}
use Rattle.dv_check.specs.CheckedFiles.{IsCheckedCoupled, IsCheckedFile, IsCheckedModel, LeadsOn}
use Rattle.dv_check.specs.Names.{model_named, name_of_model, numbers_of}
use Rattle.dv_check.specs.Couplings.{same_part}
use Rattle.dv_check.specs.Tree.{PartTree, NoParts, AtomicPart, CoupledPart, component_count, parts_by, parts_to, tree_of, with_part}
use Rattle.dv_check.specs.Limits.{greatest_depth}
use Rattle.dv_tree.specs.Instances.{coupled_model, root_of}
use Rattle.dv_tree.specs.Couplings.{Shown, coupling_from_part, couplings_of_inputs, couplings_of_parts, part_couplings, index_at}
use Rattle.dv_tree.specs.Couplings.{index_in, resolved_between, resolved_link, resolved_links, shown_parts}
use Rattle.dv_tree.specs.Routing.{Arrived, along, along_all, arrives, arrives_in_root, arriving, first_bags, from_parts}
use Rattle.dv_tree.specs.Routing.{joined_at, leaving, nothing_at, to_parts, with_coupling, with_values}
use Rattle.dv_tree.specs.declared.couplings.Target.{Target}
use Rattle.dv_tree.specs.declared.couplings.Target.TheVariants.{Own, OfPart}
use Rattle.dv_tree.specs.declared.couplings.Coupling.{Coupling}
use Rattle.dv_tree.specs.declared.couplings.ResolvedLink.{ResolvedLink}
use Rattle.dv_tree.proofs.Along.{along_none}
use Rattle.dv_tree.proofs.Fitting.{all_made}
use Rattle.dv_tree.proofs.Kept.{first_dropped, first_is}
use Rattle.dv_tree.proofs.Named.{length-instances_in}
use Rattle.dv_tree.proofs.IndexLemmas.{index_of-cons}
use Rattle.dv_tree.proofs.Received.{length-arriving}
use Rattle.dv_tree.proofs.Standing.{none_standing}

-- no values at any port
abbrev pub IsEmpty : List Counts → Type 0
IsEmpty bags = (port : ℕ) → bag_at bags port ≡ []

-- no other component sends
abbrev pub OnlyFrom : ℕ → List (List Counts) → Type 0
OnlyFrom c sent = (k : ℕ) → k ≢ c → IsEmpty (get_or sent k [])

-- couplings that lead elsewhere than to a part
abbrev IsElsewhere : ℕ → Target → Type 0
IsElsewhere part (Own port) = Unit {0}
IsElsewhere part (OfPart other port) = other ≢ part

abbrev LeadElsewhere : ℕ → List Coupling → Type 0
LeadElsewhere part couplings = AllByRecursion (λ (c : Coupling). IsElsewhere part c.target) couplings

abbrev LeadOnward : List (List Coupling) → Type 0
LeadOnward couplings = (j : ℕ) → LeadElsewhere j (get_or couplings j [])

-- inside coupled parts too
abbrev IsOnward : List ModelTree → PartTree → Type 0
IsOnward models NoParts = Unit {0}
IsOnward models (AtomicPart name m rest) = IsOnward models rest
IsOnward models (CoupledPart name m inside rest) =
    LeadOnward (couplings_of_parts models m) × IsOnward models inside × IsOnward models rest

-- the index of the part in which a component lies
abbrev part_of : PartTree → ℕ → ℕ
part_of NoParts c = 0
part_of (AtomicPart name m rest) zero = 0
part_of (AtomicPart name m rest) (suc c) = suc (part_of rest c)
part_of (CoupledPart name m inside rest) c =
    cond (ltb c (component_count inside)) 0 (suc (part_of rest (c - component_count inside)))

-- ---- Links

name_later : (name n : ℕ) (names : List ℕ) (o : Option ℕ) → IfSome o (λ k. get_or names k 0 ≡ name) →
    IfSome (option_map suc o) (λ k. get_or (n ∷ names) k 0 ≡ name)
name_later name n names None h = tt
name_later name n names (Some k) h = h

name_chosen : (name n : ℕ) (names : List ℕ) (o : Option ℕ) (b : Bool) → eqb n name ≡ b →
    IfSome o (λ k. get_or (n ∷ names) k 0 ≡ name) → IfSome (cond b (Some 0) o) (λ k. get_or (n ∷ names) k 0 ≡ name)
name_chosen name n names o true e h = eqb-true n name e
name_chosen name n names o false e h = h

index_names : (name : ℕ) (names : List ℕ) → IfSome (index_of name names) (λ k. get_or names k 0 ≡ name)
index_names name [] = tt
index_names name (n ∷ names) =
    let Names : Option ℕ → Type 0 = λ o. IfSome o (λ k. get_or (n ∷ names) k 0 ≡ name) in
    subst Names (sym (index_of-cons name n names))
    (name_chosen name n names (option_map suc (index_of name names)) (eqb n name) refl
    (name_later name n names (index_of name names) (index_names name names)))

module _ (names : List ℕ) (j : ℕ) where
  LeadsAway : Option ResolvedLink → Type 0
  LeadsAway o = IfSome o (λ (l : ResolvedLink). IfSome (coupling_from_part j l.from l.to) (λ (c : Coupling). IsElsewhere j c.target))

  away_own : (from : Option ℕ) (to : Option Target) → LeadsAway (resolved_between (option_map Own from) to)
  unfolding LeadsAway
  away_own None to = tt
  away_own (Some port) None = tt
  away_own (Some port) (Some to) = tt

  away_chosen : (port part : ℕ) (to : Target) (b : Bool) → eqb part j ≡ b → (part ≡ j → IsElsewhere j to) →
      IfSome (cond b (Some (record { port = port; target = to })) None) (λ (c : Coupling). IsElsewhere j c.target)
  away_chosen port part to true e h = h (eqb-true part j e)
  away_chosen port part to false e h = tt

  away_out : (part : ℕ) (from : Option ℕ) (to : Option ℕ) → LeadsAway (resolved_between (option_map (OfPart part) from) (option_map Own to))
  unfolding LeadsAway
  away_out part None to = tt
  away_out part (Some port) None = tt
  away_out part (Some port) (Some out) = away_chosen port part (Own out) (eqb part j) refl (λ e. tt)

  away_between : (part other : ℕ) (from to : Option ℕ) → part ≢ other →
      LeadsAway (resolved_between (option_map (OfPart part) from) (option_map (OfPart other) to))
  unfolding LeadsAway
  away_between part other None to apart = tt
  away_between part other (Some port) None apart = tt
  away_between part other (Some port) (Some in_port) apart =
      away_chosen port part (OfPart other in_port) (eqb part j) refl (λ e same. apart (e ∙ sym same))

  module _ (own_inputs own_outputs : List ℕ) (inputs outputs : List (List ℕ)) where
    away_none : (to : Option Target) → LeadsAway (resolved_between None to)
    unfolding LeadsAway
    away_none to = tt

    away_nowhere : (from : Option Target) → LeadsAway (resolved_between from None)
    unfolding LeadsAway
    away_nowhere None = tt
    away_nowhere (Some from) = tt

    away_exit : (from : ℕ) (p : Option ℕ) (to : Option ℕ) → LeadsAway (resolved_between (index_in outputs from p) (option_map Own to))
    away_exit from None to = away_none (option_map Own to)
    away_exit from (Some part) to = away_out part (index_of from (get_or outputs part [])) to

    away_parts : (a b : Name) (from to : ℕ) (p q : Option ℕ) → IfSome p (λ k. get_or names k 0 ≡ a.number) →
        IfSome q (λ k. get_or names k 0 ≡ b.number) → eqb a.number b.number ≡ false →
        LeadsAway (resolved_between (index_in outputs from p) (index_in inputs to q))
    away_parts a b from to None q hp hq apart = away_none (index_in inputs to q)
    away_parts a b from to (Some part) None hp hq apart = away_nowhere (index_in outputs from (Some part))
    away_parts a b from to (Some part) (Some other) hp hq apart =
        away_between part other (index_of from (get_or outputs part [])) (index_of to (get_or inputs other []))
        (λ same. eqb-false a.number b.number apart (sym hp ∙ (ap (λ k. get_or names k 0) same ∙ hq)))

    away_link : (a b : Option Name) (from to : ℕ) → same_part a b ≡ false →
        LeadsAway (resolved_between (index_at own_inputs names outputs a from) (index_at own_outputs names inputs b to))
    away_link None b from to apart = away_own (index_of from own_inputs) (index_at own_outputs names inputs b to)
    away_link (Some a) None from to apart = away_exit from (index_of a.number names) (index_of to own_outputs)
    away_link (Some a) (Some b) from to apart =
        away_parts a b from to (index_of a.number names) (index_of b.number names) (index_names a.number names)
        (index_names b.number names) apart

-- the couplings of an accepted model
module _ (models : List ModelTree) (m : CoupledTree) where
  abbrev names_shown : List ℕ
  names_shown = map (λ (s : Shown). s.name) (shown_parts models m)

  abbrev IsAway : ℕ → ResolvedLink → Type 0
  IsAway j l = IfSome (coupling_from_part j l.from l.to) (λ (c : Coupling). IsElsewhere j c.target)

  links_away : (j : ℕ) (links : List Link) → AllByRecursion (LeadsOn models m) links →
      AllByRecursion (λ l. IfSome (resolved_link m (shown_parts models m) l) (IsAway j)) links
  unfolding LeadsAway
  links_away j [] h = tt
  links_away j (l ∷ links) h = (
    away_link names_shown j (numbers_of m.inputs) (numbers_of m.outputs) (map (λ (s : Shown). s.inputs) (shown_parts models m))
        (map (λ (s : Shown). s.outputs) (shown_parts models m)) l.from.part l.to.part l.from.port.number l.to.port.number h.0.onward,
    links_away j links h.1,
  )

  couplings_onward : IsCheckedCoupled models m → LeadOnward (couplings_of_parts models m)
  couplings_onward accepted j =
      let n = length (shown_parts models m) in
      let Elsewhere : List Coupling → Type 0 = LeadElsewhere j in
      ⊎_elim
      (λ (within : j < n).
      subst Elsewhere (sym (get_or-map-range_with_len (part_couplings (resolved_links models m)) 0 n j j [] within (omega arith)))
      (all_made (λ (c : Coupling). IsElsewhere j c.target) (λ (l : ResolvedLink). coupling_from_part j l.from l.to) (resolved_links models m)
      (all_made (IsAway j) (resolved_link m (shown_parts models m)) m.links (links_away j m.links accepted.links))))
      (λ (past : n ≤ j).
      subst Elsewhere
      (sym (get_or_past (couplings_of_parts models m) j []
      (omega (arith, past, length-map-range_with_len (part_couplings (resolved_links models m)) 0 n)))) tt) (cases_lt j n)

-- a model that a name stands for is accepted
first_accepted : (all : List ModelTree) (x : ModelTree) (b : Bool) (o : Option ModelTree) → IsCheckedModel all x →
    IfSome o (IsCheckedModel all) → IfSome (cond b (Some x) o) (IsCheckedModel all)
first_accepted all x true o h rest = h
first_accepted all x false o h rest = rest

named_accepted : (all models : List ModelTree) (number : ℕ) → AllByRecursion (IsCheckedModel all) models →
    IfSome (model_named number models) (IsCheckedModel all)
named_accepted all [] number h = tt
named_accepted all (x ∷ models) number h =
    first_accepted all x (eqb (name_of_model x).number number) (model_named number models) h.0 (named_accepted all models number h.1)

-- the parts of accepted models
part_onward : (models : List ModelTree) (inside : CoupledTree → PartTree) → ((m : CoupledTree) → IsOnward models (inside m)) →
    (name : Name) (o : Option ModelTree) (rest : PartTree) → IfSome o (IsCheckedModel models) → IsOnward models rest →
    IsOnward models (with_part inside name o rest)
part_onward models inside below name None rest h onward = onward
part_onward models inside below name (Some (AtomicModel m)) rest h onward = onward
part_onward models inside below name (Some (CoupledModel m)) rest h onward = (couplings_onward models m h, below m, onward)

parts_onward : (models : List ModelTree) → AllByRecursion (IsCheckedModel models) models → (inside : CoupledTree → PartTree) →
    ((m : CoupledTree) → IsOnward models (inside m)) → (parts : List Part) → IsOnward models (parts_by inside models parts)
parts_onward models accepted inside below [] = tt
parts_onward models accepted inside below (p ∷ parts) =
    part_onward models inside below p.name (model_named p.model.number models) (parts_by inside models parts)
    (named_accepted models models p.model.number accepted) (parts_onward models accepted inside below parts)

onward_to : (models : List ModelTree) → AllByRecursion (IsCheckedModel models) models → (depth : ℕ) (m : CoupledTree) →
    IsOnward models (parts_to depth models m)
onward_to models accepted zero m = tt
onward_to models accepted (suc depth) m = parts_onward models accepted (parts_to depth models) (onward_to models accepted depth) m.parts

-- ---- Values

elsewhere_with : (part : ℕ) (t : Target) (more : Counts) (a : Arrived) → IsElsewhere part t →
    get_or (with_values t more a).parts part [] ≡ get_or a.parts part []
elsewhere_with part (Own port) more a h = refl
elsewhere_with part (OfPart other port) more a h =
    get_or-set_other a.parts other part (joined_at port more (get_or a.parts other [])) [] (λ same. h (sym same))

elsewhere_along : (part : ℕ) (couplings : List Coupling) (bags : List Counts) (a : Arrived) → LeadElsewhere part couplings →
    get_or (along couplings bags a).parts part [] ≡ get_or a.parts part []
elsewhere_along part [] bags a h = refl
elsewhere_along part (c ∷ couplings) bags a h =
    elsewhere_along part couplings bags (with_coupling bags a c) h.1 ∙ elsewhere_with part c.target (bag_at bags c.port) a h.0

empty_along : (couplings : List Coupling) (bags : List Counts) (a : Arrived) → IsEmpty bags → along couplings bags a ≡ a
empty_along couplings bags a h = along_none couplings bags a (λ port. ap total (h port))

-- from parts of which one alone sends, and not to itself
elsewhere_along_all : (part : ℕ) (couplings : List (List Coupling)) (sent : List (List Counts)) (k : ℕ) (a : Arrived) →
    ((j i : ℕ) → i ≡ k + j → LeadElsewhere i (get_or couplings j [])) →
    ((j i : ℕ) → i ≡ k + j → i ≢ part → IsEmpty (get_or sent j [])) →
    get_or (along_all couplings sent a).parts part [] ≡ get_or a.parts part []
elsewhere_along_all part [] sent k a onward empty = refl
elsewhere_along_all part (cs ∷ couplings) [] k a onward empty = refl
elsewhere_along_all part (cs ∷ couplings) (b ∷ sent) k a onward empty =
    elsewhere_along_all part couplings sent (suc k) (along cs b a) (λ j i e. onward (suc j) i (omega (arith, e)))
    (λ j i e apart. empty (suc j) i (omega (arith, e)) apart)
    ∙ ⊎_elim
    (λ (same : eqb k part ≡ true).
    elsewhere_along part cs b a (onward 0 part (sym (eqb-true k part same) ∙ omega arith)))
    (λ (apart : eqb k part ≡ false).
    ap (λ (x : Arrived). get_or x.parts part []) (empty_along cs b a (empty 0 k (omega arith) (eqb-false k part apart))))
    (cases_Bool (eqb k part))

-- where nobody sends, nothing leaves
empty_along_all : (couplings : List (List Coupling)) (sent : List (List Counts)) (a : Arrived) →
    ((j : ℕ) → IsEmpty (get_or sent j [])) → along_all couplings sent a ≡ a
empty_along_all [] sent a h = refl
empty_along_all (cs ∷ couplings) [] a h = refl
empty_along_all (cs ∷ couplings) (b ∷ sent) a h =
    ap (along_all couplings sent) (empty_along cs b a (h 0)) ∙ empty_along_all couplings sent a (λ j. h (suc j))

empty_first : (all : List (List Counts)) → IsEmpty (get_or all 0 []) → IsEmpty (first_bags all)
empty_first all h = subst IsEmpty (first_is all) h

empty_dropped : (n k : ℕ) (all : List (List Counts)) → IsEmpty (get_or all (n + k) []) → IsEmpty (get_or (drop n all) k [])
empty_dropped n k all h = subst IsEmpty (sym (get_or-drop n all k [])) h

empty_taken : (n k : ℕ) (all : List (List Counts)) → IsEmpty (get_or all k []) → IsEmpty (get_or (take n all) k [])
empty_taken n k all h =
    ⊎_elim (λ (within : k < n). subst IsEmpty (sym (get_or-take n all k [] within)) h)
    (λ (past : n ≤ k).
    subst IsEmpty (sym (get_or_past (take n all) k [] (omega (arith, past, length-take n all)))) (λ port. refl)) (cases_lt k n)

module _ (models : List ModelTree) where
  own_empty : (m : CoupledTree) (sent : List (List Counts)) → ((j : ℕ) → IsEmpty (get_or sent j [])) →
      IsEmpty (from_parts models m sent).own
  own_empty m sent h port =
      ap (λ (a : Arrived). bag_at a.own port) (empty_along_all (couplings_of_parts models m) sent (nothing_at models m) h)
      ∙ none_standing models m (Own port)

  leaving_empty : (t : PartTree) (sent : List (List Counts)) → ((k : ℕ) → IsEmpty (get_or sent k [])) → (j : ℕ) →
      IsEmpty (get_or (leaving models t sent) j [])
  leaving_empty NoParts sent h j = λ port. refl
  leaving_empty (AtomicPart name m rest) sent h zero = empty_first sent (h 0)
  leaving_empty (AtomicPart name m rest) sent h (suc j) = leaving_empty rest (drop 1 sent) (λ k. empty_dropped 1 k sent (h (1 + k))) j
  leaving_empty (CoupledPart name m inside rest) sent h zero =
      own_empty m (leaving models inside (take (component_count inside) sent))
      (leaving_empty inside (take (component_count inside) sent) (λ k. empty_taken (component_count inside) k sent (h k)))
  leaving_empty (CoupledPart name m inside rest) sent h (suc j) =
      leaving_empty rest (drop (component_count inside) sent)
      (λ k. empty_dropped (component_count inside) k sent (h (component_count inside + k))) j

  -- where one component sends, nothing leaves the parts in which it does not lie
  leaving_elsewhere : (t : PartTree) (c : ℕ) (sent : List (List Counts)) → OnlyFrom c sent → (j : ℕ) → j ≢ part_of t c →
      IsEmpty (get_or (leaving models t sent) j [])
  leaving_elsewhere NoParts c sent only j apart = λ port. refl
  leaving_elsewhere (AtomicPart name m rest) zero sent only zero apart = absurd (apart refl)
  leaving_elsewhere (AtomicPart name m rest) zero sent only (suc j) apart =
      leaving_empty rest (drop 1 sent) (λ k. empty_dropped 1 k sent (only (1 + k) (λ e. absurd (omega (arith, e))))) j
  leaving_elsewhere (AtomicPart name m rest) (suc c) sent only zero apart =
      empty_first sent (only 0 (λ e. absurd (omega (arith, e))))
  leaving_elsewhere (AtomicPart name m rest) (suc c) sent only (suc j) apart =
      leaving_elsewhere rest c (drop 1 sent) (λ k other. empty_dropped 1 k sent (only (1 + k) (λ e. other (omega (arith, e))))) j
      (λ e. apart (ap suc e))
  leaving_elsewhere (CoupledPart name m inside rest) c sent only zero apart =
      let n = component_count inside in
      ⊎_elim
      (λ (early : c < n).
      absurd (apart (ap (λ b. cond b 0 (suc (part_of rest (c - n)))) (let lt : true ≡ ltb c n = grind (arith, nat_tests) in lt))))
      (λ (late : n ≤ c).
      own_empty m (leaving models inside (take n sent))
      (leaving_empty inside (take n sent)
      (λ k. ⊎_elim (λ (within : k < n). empty_taken n k sent (only k (λ e. absurd (omega (arith, e, within, late)))))
      (λ (past : n ≤ k).
      subst IsEmpty (sym (get_or_past (take n sent) k [] (omega (arith, past, length-take n sent)))) (λ port. refl)) (cases_lt k n))))
      (cases_lt c n)
  leaving_elsewhere (CoupledPart name m inside rest) c sent only (suc j) apart =
      let n = component_count inside in
      ⊎_elim
      (λ (early : c < n).
      leaving_empty rest (drop n sent) (λ k. empty_dropped n k sent (only (n + k) (λ e. absurd (omega (arith, e, early))))) j)
      (λ (late : n ≤ c).
      leaving_elsewhere rest (c - n) (drop n sent)
      (λ k other. empty_dropped n k sent (only (n + k) (λ e. other (omega (arith, e))))) j
      (λ e. apart (ap suc e
      ∙ ap (λ b. cond b 0 (suc (part_of rest (c - n)))) (let ge : false ≡ ltb c n = grind (arith, nat_tests) in ge)))) (cases_lt c n)

  -- nothing comes to the part in which it lies
  to_part_empty : (m : CoupledTree) (t : PartTree) (c : ℕ) (sent : List (List Counts)) (input : List Counts) →
      LeadOnward (couplings_of_parts models m) → OnlyFrom c sent → IsEmpty input →
      IsEmpty (get_or (to_parts models m input (leaving models t sent)) (part_of t c) [])
  to_part_empty m t c sent input onward only none port =
      let part = part_of t c in
      ap (λ (a : Arrived). bag_at (get_or a.parts part []) port)
      (empty_along (couplings_of_inputs models m) input (from_parts models m (leaving models t sent)) none)
      ∙ (ap (λ (bags : List Counts). bag_at bags port)
      (elsewhere_along_all part (couplings_of_parts models m) (leaving models t sent) 0 (nothing_at models m)
      (λ j i e. let Elsewhere : ℕ → Type 0 = λ n. LeadElsewhere n (get_or (couplings_of_parts models m) j []) in
      subst Elsewhere (let same : j ≡ i = omega (arith, e) in same) (onward j))
      (λ j i e apart. leaving_elsewhere t c sent only j (λ same. apart (omega (arith, e, same)))))
      ∙ none_standing models m (OfPart part port))

  arriving_empty : (t : PartTree) (c : ℕ) (comes sent : List (List Counts)) → IsOnward models t →
      IsEmpty (get_or comes (part_of t c) []) → OnlyFrom c sent → IsEmpty (get_or (arriving models t comes sent) c [])
  arriving_empty NoParts c comes sent onward h only = λ port. refl
  arriving_empty (AtomicPart name m rest) zero comes sent onward h only = empty_first comes h
  arriving_empty (AtomicPart name m rest) (suc c) comes sent onward h only =
      arriving_empty rest c (drop 1 comes) (drop 1 sent) onward (subst IsEmpty (first_dropped comes (part_of rest c)) h)
      (λ k other. empty_dropped 1 k sent (only (1 + k) (λ e. other (omega (arith, e)))))
  arriving_empty (CoupledPart name m inside rest) c comes sent onward h only =
      let n = component_count inside in
      let below = take n sent in
      let into = to_parts models m (first_bags comes) (leaving models inside below) in
      let there = arriving models inside into below in
      let others = arriving models rest (drop 1 comes) (drop n sent) in
      let long : length there ≡ n = length-arriving models inside [] into below ∙ length-instances_in [] inside in
      let At : ℕ → Type 0 = λ p. IsEmpty (get_or comes p []) in
      ⊎_elim
      (λ (early : c < n).
      let first = subst At (ap (λ b. cond b 0 (suc (part_of rest (c - n)))) (let lt : ltb c n ≡ true = grind (arith, nat_tests) in lt)) h in
      let only_below : OnlyFrom c below = λ k other. empty_taken n k sent (only k other) in
      subst IsEmpty (sym (get_or_append_left there others [] c (omega (arith, early, long))))
      (arriving_empty inside c into below onward.1
      (to_part_empty m inside c below (first_bags comes) onward.0 only_below (empty_first comes first)) only_below))
      (λ (late : n ≤ c).
      let behind =
      subst At (ap (λ b. cond b 0 (suc (part_of rest (c - n)))) (let ge : ltb c n ≡ false = grind (arith, nat_tests) in ge)) h in
      subst IsEmpty (sym (get_or-append_right there others n c [] long late))
      (arriving_empty rest (c - n) (drop 1 comes) (drop n sent) onward.2
      (subst IsEmpty (first_dropped comes (part_of rest (c - n))) behind)
      (λ k other. empty_dropped n k sent (only (n + k) (λ e. other (omega (arith, e))))))) (cases_lt c n)

root_arrives_empty : (models : List ModelTree) (root : Option CoupledTree) (c : ℕ) (sent : List (List Counts)) →
    AllByRecursion (IsCheckedModel models) models → IfSome root (IsCheckedCoupled models) → OnlyFrom c sent →
    IsEmpty (get_or (arrives_in_root models root sent []) c [])
root_arrives_empty models None c sent accepted root only = λ port. refl
root_arrives_empty models (Some m) c sent accepted root only =
    let t = tree_of models m in
    arriving_empty models t c (to_parts models m [] (leaving models t sent)) sent (onward_to models accepted greatest_depth m)
    (to_part_empty models m t c sent [] (couplings_onward models m root) only (λ port. refl)) only

-- of what one component sends nothing arrives at that component
pub nothing_returns : (f : FileTree) → IsCheckedFile f → (c : ℕ) (sent : List (List Counts)) → OnlyFrom c sent →
    IsEmpty (get_or (arrives f sent []) c [])
nothing_returns f accepted c sent only =
    let Root : Option ModelTree → Type 0 = λ o. IfSome (coupled_model o) (IsCheckedCoupled f.models) in
    root_arrives_empty f.models (root_of f) c sent accepted.models (subst Root (sym accepted.named) accepted.coupled) only
