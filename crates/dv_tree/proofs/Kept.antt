-- Routing keeps what unions keep. Of several lists of what is sent, one for each w of W, there stands a bag at each port for each
-- w. Where a relation between such bags holds at the ports from which values come, it holds at those to which they come.
use Rattle.std.proofs.Common.{◌≡◌, ℕ, zero, suc, ◌+◌, ◌-◌, ◌<◌, ◌≤◌, Bool, true, false, cond, List, [], ◌∷◌, ◌++◌, length, map}
use Rattle.std.proofs.Common.{get_or, take, drop, refl, ap, sym, ◌∙◌, subst, arith, ⊎_elim}
use Rattle.std.specs.Prelude.{Option, Some, None, ◌&&◌}
use Rattle.std.specs.List.{AllByRecursion}
use Rattle.std.proofs.lemmas.Bool.{cases_lt}
use Rattle.std.proofs.lemmas.List.{get_or-drop, get_or-take, get_or_past, get_or_append_left, get_or-append-add}
use Rattle.std.proofs.lemmas.List.{get_or-append_right, length-map, map-append}
use mathlib.Core.Path.{fun_ext}
use Rattle.dv_syntax.specs.Trees.{ModelTree, CoupledTree, FileTree}
use Rattle.dv_eval.specs.Scope.{scope_of}
use Rattle.dv_bag.specs.Bag.{Counts, bag_at, union}
use Rattle.dv_check.specs.Tree.{PartTree, NoParts, AtomicPart, CoupledPart, component_count, tree_of}
use Rattle.dv_check.specs.Limits.{greatest_depth}
use Rattle.dv_check.specs.Names.{numbers_of}
use Rattle.dv_tree.specs.Instances.{Instance, instances_in, instances, root_of, root_inputs, tree_in, inputs_in}
use Rattle.dv_tree.specs.Couplings.{couplings_of_inputs, couplings_of_parts}
use Rattle.dv_tree.specs.Routing.{Arrived, with_values, with_coupling, along, along_all, nothing_at, from_parts, to_parts}
use Rattle.dv_tree.specs.Routing.{first_bags, leaving, arriving, leaves_root, arrives_in_root, leaves, arrives}
use Rattle.dv_tree.specs.declared.couplings.Target.{Target}
use Rattle.dv_tree.specs.declared.couplings.Target.TheVariants.{Own, OfPart}
use Rattle.dv_tree.specs.declared.couplings.Coupling.{Coupling}
use Rattle.dv_tree.proofs.Fitting.{BeginAtPorts, Fits, fits_to, own_begin}
use Rattle.dv_tree.proofs.Named.{length-instances_in}
use Rattle.dv_tree.proofs.Received.{length-arriving}
use Rattle.dv_tree.proofs.Standing.{value_at, has_port, same_target, value_with, has_with, none_standing}

-- it holds at the first ports
abbrev pub AtPorts : {W : Type 0} → ((W → Counts) → Type 0) → ℕ → (W → List Counts) → Type 0
AtPorts R n bags = (port : ℕ) → port < n → R (λ w. bag_at (bags w) port)

-- and at all ports of all parts or components
abbrev pub AtAllPorts : {W : Type 0} → ((W → Counts) → Type 0) → (W → List (List Counts)) → Type 0
AtAllPorts R all = (k port : ℕ) → R (λ w. bag_at (get_or (all w) k []) port)

-- it holds where couplings begin
abbrev pub Carries : {W : Type 0} → ((W → Counts) → Type 0) → List Coupling → (W → List Counts) → Type 0
Carries R couplings bags = AllByRecursion (λ (c : Coupling). R (λ w. bag_at (bags w) c.port)) couplings

-- it holds at the output ports of the components in parts
abbrev pub IsSent : {W : Type 0} → ((W → Counts) → Type 0) → PartTree → (W → List (List Counts)) → Type 0
IsSent R NoParts sent = Unit {0}
IsSent R (AtomicPart name m rest) sent =
    AtPorts R (length (scope_of m).outputs) (λ w. first_bags (sent w)) × IsSent R rest (λ w. drop 1 (sent w))
IsSent R (CoupledPart name m inside rest) sent =
    IsSent R inside (λ w. take (component_count inside) (sent w)) × IsSent R rest (λ w. drop (component_count inside) (sent w))

-- how many output ports each component has
abbrev pub output_counts : List Instance → List ℕ
output_counts is = map (λ (i : Instance). length (scope_of i.model).outputs) is

-- it holds at the output ports of components
abbrev pub AtOutputs : {W : Type 0} → ((W → Counts) → Type 0) → List Instance → (W → List (List Counts)) → Type 0
AtOutputs R is sent = (k port : ℕ) → port < get_or (output_counts is) k 0 → R (λ w. bag_at (get_or (sent w) k []) port)

pub first_is : (all : List (List Counts)) → get_or all 0 [] ≡ first_bags all
first_is [] = refl
first_is (bags ∷ rest) = refl

pub first_dropped : (all : List (List Counts)) (k : ℕ) → get_or all (suc k) [] ≡ get_or (drop 1 all) k []
first_dropped [] k = refl
first_dropped (bags ∷ rest) k = refl

-- the ports that a coupling has at its two ends
record Alike {W : Type 0} (R : (W → Counts) → Type 0) (p : W → Arrived) : Type 0 where
  ports : Target → Bool
  has : (w : W) (u : Target) → has_port (p w) u ≡ ports u
  holds : (u : Target) → R (λ w. value_at (p w) u)

all_carried : {W : Type 0} (R : (W → Counts) → Type 0) (bags : W → List Counts) → ((port : ℕ) → R (λ w. bag_at (bags w) port)) →
    (couplings : List Coupling) → Carries R couplings bags
all_carried R bags h [] = tt
all_carried R bags h (c ∷ couplings) = (h c.port, all_carried R bags h couplings)

first_carried : {W : Type 0} (R : (W → Counts) → Type 0) (n : ℕ) (bags : W → List Counts) → AtPorts R n bags →
    (couplings : List Coupling) → AllByRecursion (λ (c : Coupling). c.port < n) couplings → Carries R couplings bags
first_carried R n bags h [] begin = tt
first_carried R n bags h (c ∷ couplings) begin = (h c.port begin.0, first_carried R n bags h couplings begin.1)

module _ {W : Type 0} (R : (W → Counts) → Type 0) (none : R (λ w. []))
    (both : (a b : W → Counts) → R a → R b → R (λ w. union (a w) (b w))) where
  chosen : (b : Bool) (a x : W → Counts) → R a → R x → R (λ w. cond b (union (a w) (x w)) (a w))
  chosen true a x h k = both a x h k
  chosen false a x h k = h

  alike_with : (t : Target) (x : W → Counts) (p : W → Arrived) → R x → Alike R p → Alike R (λ w. with_values t (x w) (p w))
  alike_with t x p k h = record {
    ports = h.ports;
    has = λ w u. has_with t (x w) (p w) u ∙ h.has w u;
    holds =
        λ u. subst R
        (sym (fun_ext (λ w. value_with t (x w) (p w) u
        ∙ ap (λ has. cond (same_target t u && has) (union (value_at (p w) u) (x w)) (value_at (p w) u)) (h.has w t))))
        (chosen (same_target t u && h.ports t) (λ w. value_at (p w) u) x (h.holds u) k);
  }

  alike_along : (couplings : List Coupling) (x : W → List Counts) (p : W → Arrived) → Carries R couplings x → Alike R p →
      Alike R (λ w. along couplings (x w) (p w))
  alike_along [] x p k h = h
  alike_along (c ∷ couplings) x p k h =
      alike_along couplings x (λ w. with_coupling (x w) (p w) c) k.1 (alike_with c.target (λ w. bag_at (x w) c.port) p k.0 h)

  module _ (models : List ModelTree) where
    alike_nothing : (m : CoupledTree) → Alike R (λ w. nothing_at models m)
    alike_nothing m = record {
      ports = has_port (nothing_at models m);
      has = λ w u. refl;
      holds = λ u. subst R (fun_ext (λ w. sym (none_standing models m u))) none;
    }

    alike_parts : (t : PartTree) (couplings : List (List Coupling)) (sent : W → List (List Counts)) (p : W → Arrived) →
        Fits models t → BeginAtPorts t couplings → IsSent R t sent → Alike R p →
        Alike R (λ w. along_all couplings (leaving models t (sent w)) (p w))
    alike_parts NoParts [] sent p fits begin s h = h
    alike_parts NoParts (cs ∷ couplings) sent p fits begin s h = h
    alike_parts (AtomicPart name m rest) [] sent p fits begin s h = h
    alike_parts (AtomicPart name m rest) (cs ∷ couplings) sent p fits begin s h =
        let first : W → List Counts = λ w. first_bags (sent w) in
        alike_parts rest couplings (λ w. drop 1 (sent w)) (λ w. along cs (first w) (p w)) fits begin.1 s.1
        (alike_along cs first p (first_carried R (length (scope_of m).outputs) first s.0 cs begin.0) h)
    alike_parts (CoupledPart name m inside rest) [] sent p fits begin s h = h
    alike_parts (CoupledPart name m inside rest) (cs ∷ couplings) sent p fits begin s h =
        let k = component_count inside in
        let own : W → List Counts = λ w. (from_parts models m (leaving models inside (take k (sent w)))).own in
        let made =
        alike_parts inside (couplings_of_parts models m) (λ w. take k (sent w)) (λ w. nothing_at models m) fits.2 fits.0 s.0
        (alike_nothing m) in
        alike_parts rest couplings (λ w. drop k (sent w)) (λ w. along cs (own w) (p w)) fits.3 begin s.1
        (alike_along cs own p (all_carried R own (λ port. made.holds (Own port)) cs) h)

    -- what comes from the parts of a model
    alike_from : (m : CoupledTree) (t : PartTree) (sent : W → List (List Counts)) → BeginAtPorts t (couplings_of_parts models m) →
        Fits models t → IsSent R t sent → Alike R (λ w. from_parts models m (leaving models t (sent w)))
    alike_from m t sent begin fits s =
        alike_parts t (couplings_of_parts models m) sent (λ w. nothing_at models m) fits begin s (alike_nothing m)

    -- what comes to them
    alike_to : (m : CoupledTree) (t : PartTree) (sent : W → List (List Counts)) (input : W → List Counts) →
        BeginAtPorts t (couplings_of_parts models m) → Fits models t → IsSent R t sent → Carries R (couplings_of_inputs models m) input →
        AtAllPorts R (λ w. to_parts models m (input w) (leaving models t (sent w)))
    alike_to m t sent input begin fits s comes k port =
        (alike_along (couplings_of_inputs models m) input (λ w. from_parts models m (leaving models t (sent w))) comes
        (alike_from m t sent begin fits s)).holds (OfPart k port)

    arriving_kept : (t : PartTree) (comes sent : W → List (List Counts)) → Fits models t → AtAllPorts R comes → IsSent R t sent →
        AtAllPorts R (λ w. arriving models t (comes w) (sent w))
    arriving_kept NoParts comes sent fits h s k port = none
    arriving_kept (AtomicPart name m rest) comes sent fits h s zero port =
        subst R (fun_ext (λ w. ap (λ bags. bag_at bags port) (first_is (comes w)))) (h 0 port)
    arriving_kept (AtomicPart name m rest) comes sent fits h s (suc k) port =
        arriving_kept rest (λ w. drop 1 (comes w)) (λ w. drop 1 (sent w)) fits
        (λ j q. subst R (fun_ext (λ w. ap (λ bags. bag_at bags q) (first_dropped (comes w) j))) (h (suc j) q)) s.1 k port
    arriving_kept (CoupledPart name m inside rest) comes sent fits h s k port =
        let n = component_count inside in
        let below : W → List (List Counts) = λ w. take n (sent w) in
        let into : W → List (List Counts) = λ w. to_parts models m (first_bags (comes w)) (leaving models inside (below w)) in
        let there : W → List (List Counts) = λ w. arriving models inside (into w) (below w) in
        let others : W → List (List Counts) = λ w. arriving models rest (drop 1 (comes w)) (drop n (sent w)) in
        let comes_in : Carries R (couplings_of_inputs models m) (λ w. first_bags (comes w)) =
        all_carried R (λ w. first_bags (comes w))
        (λ q. subst R (fun_ext (λ w. ap (λ bags. bag_at bags q) (first_is (comes w)))) (h 0 q)) (couplings_of_inputs models m) in
        let received =
        arriving_kept inside into below fits.2 (alike_to m inside below (λ w. first_bags (comes w)) fits.0 fits.2 s.0 comes_in) s.0 in
        let behind =
        arriving_kept rest (λ w. drop 1 (comes w)) (λ w. drop n (sent w)) fits.3
        (λ j q. subst R (fun_ext (λ w. ap (λ bags. bag_at bags q) (first_dropped (comes w) j))) (h (suc j) q)) s.1 in
        let long : (w : W) → length (there w) ≡ n =
        λ w. length-arriving models inside [] (into w) (below w) ∙ length-instances_in [] inside in
        ⊎_elim
        (λ (within : k < n).
        subst R
        (fun_ext (λ w. ap (λ bags. bag_at bags port)
        (sym (get_or_append_left (there w) (others w) [] k (omega (arith, within, long w)))))) (received k port))
        (λ (past : n ≤ k).
        subst R
        (fun_ext (λ w. ap (λ bags. bag_at bags port) (sym (get_or-append_right (there w) (others w) n k [] (long w) past))))
        (behind (k - n) port)) (cases_lt k n)

  -- what is sent by components, by their numbers and by their tree
  sent_in : (path : List ℕ) (t : PartTree) (sent : W → List (List Counts)) → AtOutputs R (instances_in path t) sent → IsSent R t sent
  sent_in path NoParts sent h = tt
  sent_in path (AtomicPart name m rest) sent h = (
    λ port within. subst R (fun_ext (λ w. ap (λ bags. bag_at bags port) (first_is (sent w)))) (h 0 port within),
    sent_in path rest (λ w. drop 1 (sent w))
        (λ k port within. subst R (fun_ext (λ w. ap (λ bags. bag_at bags port) (first_dropped (sent w) k))) (h (suc k) port within)),
  )
  sent_in path (CoupledPart name m inside rest) sent h =
      let n = component_count inside in
      let deeper = path ++ name.number ∷ [] in
      let there = output_counts (instances_in deeper inside) in
      let others = output_counts (instances_in path rest) in
      let split = map-append (λ (i : Instance). length (scope_of i.model).outputs) (instances_in deeper inside) (instances_in path rest) in
      let long : length there ≡ n =
      length-map (instances_in deeper inside) (λ (i : Instance). length (scope_of i.model).outputs) ∙ length-instances_in deeper inside in (
        sent_in deeper inside (λ w. take n (sent w))
            (λ k port within.
            let early : k < length there = ⊎_elim (λ (lt : k < length there). lt)
            (λ (past : length there ≤ k). absurd (omega (arith, within, get_or_past there k 0 past))) (cases_lt k (length there)) in
            let same : get_or (output_counts (instances_in path (CoupledPart name m inside rest))) k 0 ≡ get_or there k 0 =
            ap (λ xs. get_or xs k 0) split ∙ get_or_append_left there others 0 k early in
            subst R
            (fun_ext (λ w. ap (λ bags. bag_at bags port) (sym (get_or-take n (sent w) k [] (omega (arith, early, long))))))
            (h k port (omega (arith, within, same)))),
        sent_in path rest (λ w. drop n (sent w))
            (λ k port within.
            let same : get_or (output_counts (instances_in path (CoupledPart name m inside rest))) (n + k) 0 ≡ get_or others k 0 =
            ap (λ xs. get_or xs (n + k) 0) split
            ∙ (ap (λ i. get_or (there ++ others) (i + k) 0) (sym long) ∙ get_or-append-add there others k 0) in
            subst R (fun_ext (λ w. ap (λ bags. bag_at bags port) (sym (get_or-drop n (sent w) k []))))
            (h (n + k) port (omega (arith, within, same)))),
      )

  root_leaves_kept : (models : List ModelTree) (root : Option CoupledTree) (sent : W → List (List Counts)) →
      AtOutputs R (instances_in [] (tree_in models root)) sent → (port : ℕ) → R (λ w. bag_at (leaves_root models root (sent w)) port)
  root_leaves_kept models None sent h port = none
  root_leaves_kept models (Some m) sent h port =
      let fits = fits_to greatest_depth models m in
      (alike_from models m (tree_of models m) sent fits.ports fits.inside (sent_in [] (tree_of models m) sent h)).holds (Own port)

  root_arrives_kept : (models : List ModelTree) (root : Option CoupledTree) (sent : W → List (List Counts)) (input : W → List Counts) →
      AtOutputs R (instances_in [] (tree_in models root)) sent → AtPorts R (length (numbers_of (inputs_in root))) input →
      AtAllPorts R (λ w. arrives_in_root models root (sent w) (input w))
  root_arrives_kept models None sent input h comes k port = none
  root_arrives_kept models (Some m) sent input h comes k port =
      let t = tree_of models m in
      let fits = fits_to greatest_depth models m in
      let s = sent_in [] t sent h in
      arriving_kept models t (λ w. to_parts models m (input w) (leaving models t (sent w))) sent fits.inside
      (alike_to models m t sent input fits.ports fits.inside s
      (first_carried R (length (numbers_of m.inputs)) input comes (couplings_of_inputs models m) (own_begin models m))) s k port

  -- a relation that holds at the components' outputs holds at the root's outputs
  pub leaves_kept : (f : FileTree) (sent : W → List (List Counts)) → AtOutputs R (instances f) sent → (port : ℕ) →
      R (λ w. bag_at (leaves f (sent w)) port)
  leaves_kept f = root_leaves_kept f.models (root_of f)

  -- and where it holds at the root's inputs too, it holds at the components' inputs
  pub arrives_kept : (f : FileTree) (sent : W → List (List Counts)) (input : W → List Counts) → AtOutputs R (instances f) sent →
      AtPorts R (length (root_inputs f)) input → AtAllPorts R (λ w. arrives f (sent w) (input w))
  arrives_kept f = root_arrives_kept f.models (root_of f)
