-- The couplings of a model begin at ports that its parts have, and lead to as many inputs as they have.
use Rattle.std.proofs.Common.{◌≡◌, ℕ, zero, suc, ◌+◌, ◌<◌, Bool, true, false, cond, eqb, List, [], ◌∷◌, length, map, get_or, drop}
use Rattle.std.proofs.Common.{refl, sym, subst, arith}
use Rattle.std.specs.Prelude.{Option, Some, None, option_map, IfSome}
use Rattle.std.specs.List.{AllByRecursion, cons_option, filter_map, range_with_len}
use Rattle.std.proofs.lemmas.Bool.{eqb-true}
use Rattle.dv_syntax.specs.Trees.{ModelTree, AtomicModel, CoupledModel, CoupledTree}
use Rattle.dv_syntax.specs.declared.tree.Name.{Name}
use Rattle.dv_syntax.specs.declared.tree.Part.{Part}
use Rattle.dv_syntax.specs.declared.tree.Link.{Link}
use Rattle.dv_eval.specs.Scope.{scope_of, index_of}
use Rattle.dv_check.specs.Names.{model_named, numbers_of}
use Rattle.dv_check.specs.Tree.{PartTree, NoParts, AtomicPart, CoupledPart, with_part, parts_by, parts_to}
use Rattle.dv_tree.specs.Couplings.{Shown, shown_by, shown_of, shown_parts, index_in, index_at, source_of, target_of}
use Rattle.dv_tree.specs.Couplings.{resolved_between, resolved_link, resolved_links, coupling_from_own, coupling_from_part}
use Rattle.dv_tree.specs.Couplings.{part_couplings, couplings_of_inputs, couplings_of_parts}
use Rattle.dv_tree.specs.declared.couplings.Target.{Target}
use Rattle.dv_tree.specs.declared.couplings.Target.TheVariants.{Own, OfPart}
use Rattle.dv_tree.specs.declared.couplings.Coupling.{Coupling}
use Rattle.dv_tree.specs.declared.couplings.ResolvedLink.{ResolvedLink}
use Rattle.dv_tree.proofs.IndexLemmas.{index_of-cons}

-- the couplings of atomic parts begin at output ports that these have; of coupled parts nothing is asked
abbrev pub BeginAtPorts : PartTree → List (List Coupling) → Type 0
BeginAtPorts NoParts couplings = Unit {0}
BeginAtPorts (AtomicPart name m rest) [] = Unit {0}
BeginAtPorts (AtomicPart name m rest) (cs ∷ couplings) =
    AllByRecursion (λ (c : Coupling). c.port < length (scope_of m).outputs) cs × BeginAtPorts rest couplings
BeginAtPorts (CoupledPart name m inside rest) [] = Unit {0}
BeginAtPorts (CoupledPart name m inside rest) (cs ∷ couplings) = BeginAtPorts rest couplings

-- atomic parts have so many input ports
abbrev pub HaveInputs : PartTree → List ℕ → Type 0
HaveInputs NoParts counts = Unit {0}
HaveInputs (AtomicPart name m rest) counts = (get_or counts 0 0 ≡ length (scope_of m).inputs) × HaveInputs rest (drop 1 counts)
HaveInputs (CoupledPart name m inside rest) counts = HaveInputs rest (drop 1 counts)

-- how many inputs the parts of a model have
abbrev pub input_counts : List ModelTree → CoupledTree → List ℕ
input_counts models m = map (λ (s : Shown). length s.inputs) (shown_parts models m)

-- the parts inside coupled ones are those of their models
abbrev pub Fits : List ModelTree → PartTree → Type 0
Fits models NoParts = Unit {0}
Fits models (AtomicPart name m rest) = Fits models rest
Fits models (CoupledPart name m inside rest) =
    BeginAtPorts inside (couplings_of_parts models m) × HaveInputs inside (input_counts models m) × Fits models inside × Fits models rest

-- what holds of all items that are made holds of a list of them
all_items : {X : Type 0} (P : X → Type 0) → ((x : X) → P x) → (xs : List X) → AllByRecursion P xs
all_items P h [] = tt
all_items P h (x ∷ xs) = (h x, all_items P h xs)

one_made : {Y : Type 0} (P : Y → Type 0) (o : Option Y) (ys : List Y) → IfSome o P → AllByRecursion P ys →
    AllByRecursion P (cons_option o ys)
one_made P None ys h rest = rest
one_made P (Some y) ys h rest = (h, rest)

pub all_made : {X Y : Type 0} (P : Y → Type 0) (f : X → Option Y) (xs : List X) → AllByRecursion (λ x. IfSome (f x) P) xs →
    AllByRecursion P (filter_map f xs)
all_made P f [] h = tt
all_made P f (x ∷ xs) h = one_made P (f x) (filter_map f xs) h.0 (all_made P f xs h.1)

-- an index of a name is one of the list
index_later : (n : ℕ) (o : Option ℕ) → IfSome o (λ k. k < n) → IfSome (option_map suc o) (λ k. k < suc n)
index_later n None h = tt
index_later n (Some k) h = omega (arith, h)

index_chosen : (b : Bool) (n : ℕ) (o : Option ℕ) → IfSome o (λ k. k < suc n) → IfSome (cond b (Some 0) o) (λ k. k < suc n)
index_chosen true n o h = omega arith
index_chosen false n o h = h

index_within : (name : ℕ) (names : List ℕ) → IfSome (index_of name names) (λ k. k < length names)
index_within name [] = tt
index_within name (n ∷ names) =
    let Within : Option ℕ → Type 0 = λ o. IfSome o (λ k. k < length (n ∷ names)) in
    subst Within (sym (index_of-cons name n names))
    (index_chosen (eqb n name) (length names) (option_map suc (index_of name names))
    (index_later (length names) (index_of name names) (index_within name names)))

-- links begin at ports of the model itself, and at ports of parts that these have
module _ (own : List ℕ) (parts : List ℕ) (outputs : List (List ℕ)) where
  Begins : Option Target → Type 0
  Begins o =
      IfSome o (λ (from : Target). ((to : Target) → IfSome (coupling_from_own from to) (λ (c : Coupling). c.port < length own))
      × ((k : ℕ) (to : Target) → IfSome (coupling_from_part k from to) (λ (c : Coupling). c.port < length (get_or outputs k []))))

  own_begins : (o : Option ℕ) → IfSome o (λ port. port < length own) → Begins (option_map Own o)
  unfolding Begins
  own_begins None h = tt
  own_begins (Some port) h = (λ to. h, λ k to. tt)

  part_chosen : (part k port : ℕ) (to : Target) (b : Bool) → eqb part k ≡ b → port < length (get_or outputs part []) →
      IfSome (cond b (Some (record { port = port; target = to })) None) (λ (c : Coupling). c.port < length (get_or outputs k []))
  part_chosen part k port to true e h =
      let Within : ℕ → Type 0 = λ n. port < length (get_or outputs n []) in subst Within (eqb-true part k e) h
  part_chosen part k port to false e h = tt

  part_begins : (part : ℕ) (o : Option ℕ) → IfSome o (λ port. port < length (get_or outputs part [])) → Begins (option_map (OfPart part) o)
  unfolding Begins
  part_begins part None h = tt
  part_begins part (Some port) h = (λ to. tt, λ k to. part_chosen part k port to (eqb part k) refl h)

  in_begins : (port : ℕ) (part : Option ℕ) → Begins (index_in outputs port part)
  unfolding Begins
  in_begins port None = tt
  in_begins port (Some part) = part_begins part (index_of port (get_or outputs part [])) (index_within port (get_or outputs part []))

  begins : (part : Option Name) (port : ℕ) → Begins (index_at own parts outputs part port)
  begins None port = own_begins (index_of port own) (index_within port own)
  begins (Some part) port = in_begins port (index_of part.number parts)

  own_between : (from to : Option Target) → Begins from →
      IfSome (resolved_between from to)
      (λ (l : ResolvedLink). IfSome (coupling_from_own l.from l.to) (λ (c : Coupling). c.port < length own))
  unfolding Begins
  own_between None to h = tt
  own_between (Some from) None h = tt
  own_between (Some from) (Some to) h = h.0 to

  part_between : (k : ℕ) (from to : Option Target) → Begins from →
      IfSome (resolved_between from to)
      (λ (l : ResolvedLink). IfSome (coupling_from_part k l.from l.to) (λ (c : Coupling). c.port < length (get_or outputs k [])))
  unfolding Begins
  part_between k None to h = tt
  part_between k (Some from) None h = tt
  part_between k (Some from) (Some to) h = h.1 k to

-- the names of the output ports of the parts of a model
abbrev outputs_shown : List ModelTree → List Part → List (List ℕ)
outputs_shown models parts = map (λ (s : Shown). s.outputs) (filter_map (shown_of models) parts)

link_begins : (models : List ModelTree) (m : CoupledTree) (l : Link) →
    Begins (numbers_of m.inputs) (map (λ (s : Shown). s.name) (shown_parts models m)) (outputs_shown models m.parts)
    (source_of m (shown_parts models m) l.from)
link_begins models m l =
    begins (numbers_of m.inputs) (map (λ (s : Shown). s.name) (shown_parts models m)) (outputs_shown models m.parts) l.from.part
    l.from.port.number

-- the couplings from a model's own inputs begin at ports that it has
pub own_begin : (models : List ModelTree) (m : CoupledTree) →
    AllByRecursion (λ (c : Coupling). c.port < length (numbers_of m.inputs)) (couplings_of_inputs models m)
own_begin models m =
    let IsOwn : ResolvedLink → Type 0 =
    λ l. IfSome (coupling_from_own l.from l.to) (λ (c : Coupling). c.port < length (numbers_of m.inputs)) in
    all_made (λ (c : Coupling). c.port < length (numbers_of m.inputs)) (λ (l : ResolvedLink). coupling_from_own l.from l.to)
    (resolved_links models m)
    (all_made IsOwn (resolved_link m (shown_parts models m)) m.links
    (all_items (λ l. IfSome (resolved_link m (shown_parts models m) l) IsOwn)
    (λ l. own_between _ _ _ (source_of m (shown_parts models m) l.from) (target_of m (shown_parts models m) l.to)
    (link_begins models m l)) m.links))

-- and so do those from the outputs of a part
part_begin : (models : List ModelTree) (m : CoupledTree) (k : ℕ) →
    AllByRecursion (λ (c : Coupling). c.port < length (get_or (outputs_shown models m.parts) k []))
    (part_couplings (resolved_links models m) k)
part_begin models m k =
    let IsOfPart : ResolvedLink → Type 0 =
    λ l. IfSome (coupling_from_part k l.from l.to) (λ (c : Coupling). c.port < length (get_or (outputs_shown models m.parts) k [])) in
    all_made (λ (c : Coupling). c.port < length (get_or (outputs_shown models m.parts) k []))
    (λ (l : ResolvedLink). coupling_from_part k l.from l.to) (resolved_links models m)
    (all_made IsOfPart (resolved_link m (shown_parts models m)) m.links
    (all_items (λ l. IfSome (resolved_link m (shown_parts models m) l) IsOfPart)
    (λ l. part_between _ _ _ k (source_of m (shown_parts models m) l.from) (target_of m (shown_parts models m) l.to)
    (link_begins models m l)) m.links))

-- parts with the couplings that there are for each, from one on
module _ (models : List ModelTree) (inside : CoupledTree → PartTree) (couplings : ℕ → List Coupling) where
  abbrev BeginFrom : List Shown → ℕ → Type 0
  BeginFrom shown k =
      (j i : ℕ) → i ≡ k + j →
      AllByRecursion (λ (c : Coupling). c.port < length (get_or (map (λ (s : Shown). s.outputs) shown) j [])) (couplings i)

  ports_first : (p : Part) (o : Option ModelTree) (rest : PartTree) (shown : List Shown) (k : ℕ) →
      BeginFrom (cons_option (option_map (shown_by p) o) shown) k →
      ((i : ℕ) → BeginFrom shown i → BeginAtPorts rest (map couplings (range_with_len i (length shown)))) →
      BeginAtPorts (with_part inside p.name o rest)
      (map couplings (range_with_len k (length (cons_option (option_map (shown_by p) o) shown))))
  ports_first p None rest shown k h later = later k h
  ports_first p (Some (AtomicModel m)) rest shown k h later =
      (h 0 k (omega arith), later (k + 1) (λ j i e. h (suc j) i (omega (arith, e))))
  ports_first p (Some (CoupledModel m)) rest shown k h later = later (k + 1) (λ j i e. h (suc j) i (omega (arith, e)))

  ports_fit : (parts : List Part) (k : ℕ) → BeginFrom (filter_map (shown_of models) parts) k →
      BeginAtPorts (parts_by inside models parts)
      (map couplings (range_with_len k (length (filter_map (shown_of models) parts))))
  ports_fit [] k h = tt
  ports_fit (p ∷ parts) k h =
      ports_first p (model_named p.model.number models) (parts_by inside models parts) (filter_map (shown_of models) parts) k h
      (λ i later. ports_fit parts i later)

  inputs_first : (p : Part) (o : Option ModelTree) (rest : PartTree) (shown : List Shown) →
      HaveInputs rest (map (λ (s : Shown). length s.inputs) shown) →
      HaveInputs (with_part inside p.name o rest)
      (map (λ (s : Shown). length s.inputs) (cons_option (option_map (shown_by p) o) shown))
  inputs_first p None rest shown h = h
  inputs_first p (Some (AtomicModel m)) rest shown h = (refl, h)
  inputs_first p (Some (CoupledModel m)) rest shown h = h

  inputs_fit : (parts : List Part) →
      HaveInputs (parts_by inside models parts) (map (λ (s : Shown). length s.inputs) (filter_map (shown_of models) parts))
  inputs_fit [] = tt
  inputs_fit (p ∷ parts) =
      inputs_first p (model_named p.model.number models) (parts_by inside models parts) (filter_map (shown_of models) parts)
      (inputs_fit parts)

-- the parts of a model down to a depth, and the couplings from and to them
pub record FitsModel (models : List ModelTree) (m : CoupledTree) (t : PartTree) : Type 0 where
  pub ports : BeginAtPorts t (couplings_of_parts models m)
  pub inputs : HaveInputs t (input_counts models m)
  pub inside : Fits models t

parts_fit : (models : List ModelTree) (inside : CoupledTree → PartTree) → ((m : CoupledTree) → FitsModel models m (inside m)) →
    (parts : List Part) → Fits models (parts_by inside models parts)
parts_fit models inside below [] = tt
parts_fit models inside below (p ∷ parts) =
    first (model_named p.model.number models) (parts_fit models inside below parts)
  where
    first : (o : Option ModelTree) → Fits models (parts_by inside models parts) →
        Fits models (with_part inside p.name o (parts_by inside models parts))
    first None rest = rest
    first (Some (AtomicModel m)) rest = rest
    first (Some (CoupledModel m)) rest = ((below m).ports, (below m).inputs, (below m).inside, rest)

pub fits_to : (depth : ℕ) (models : List ModelTree) (m : CoupledTree) → FitsModel models m (parts_to depth models m)
fits_to zero models m = record { ports = tt; inputs = tt; inside = tt }
fits_to (suc depth) models m = record {
  ports =
      ports_fit models (parts_to depth models) (part_couplings (resolved_links models m)) m.parts 0
      (λ j i e.
      let Begin : ℕ → Type 0 =
      λ n. AllByRecursion (λ (c : Coupling). c.port < length (get_or (outputs_shown models m.parts) n []))
      (part_couplings (resolved_links models m) i) in
      subst Begin (let same : i ≡ j = omega (arith, e) in same) (part_begin models m i));
  inputs = inputs_fit models (parts_to depth models) (part_couplings (resolved_links models m)) m.parts;
  inside = parts_fit models (parts_to depth models) (fits_to depth models) m.parts;
}
