-- Each component receives, and what it receives has a bag for each of its input ports.
use Rattle.std.proofs.Common.{◌≡◌, ℕ, suc, List, [], ◌∷◌, ◌++◌, length, map, get_or, take, drop, replicate, refl, ap, sym, ◌∙◌}
use Rattle.std.proofs.Common.{subst, arith}
use Rattle.std.specs.Prelude.{Option, Some, None}
use Rattle.std.proofs.Math.Seq.{map-set_same}
use Rattle.std.proofs.lemmas.List.{length-append, length-replicate, length-set, map-append}
use Rattle.dv_syntax.specs.Trees.{ModelTree, CoupledTree, FileTree}
use Rattle.dv_eval.specs.Scope.{scope_of}
use Rattle.dv_bag.specs.Bag.{Counts}
use Rattle.dv_check.specs.Tree.{PartTree, NoParts, AtomicPart, CoupledPart, component_count, tree_of}
use Rattle.dv_check.specs.Limits.{greatest_depth}
use Rattle.dv_tree.specs.Instances.{Instance, instances_in, instances, root_of, tree_in}
use Rattle.dv_tree.specs.Couplings.{Shown, shown_parts, couplings_of_inputs, couplings_of_parts}
use Rattle.dv_tree.specs.Routing.{Arrived, joined_at, with_values, with_coupling, along, along_all, nothing_at, from_parts}
use Rattle.dv_tree.specs.Routing.{to_parts, first_bags, leaving, arriving, arrives_in_root, arrives}
use Rattle.dv_tree.specs.declared.couplings.Target.{Target}
use Rattle.dv_tree.specs.declared.couplings.Target.TheVariants.{Own, OfPart}
use Rattle.dv_tree.specs.declared.couplings.Coupling.{Coupling}
use Rattle.dv_tree.proofs.Fitting.{HaveInputs, Fits, input_counts, fits_to}

-- each component receives
pub length-arriving : (models : List ModelTree) (t : PartTree) (path : List ℕ) (comes sent : List (List Counts)) →
    length (arriving models t comes sent) ≡ length (instances_in path t)
length-arriving models NoParts path comes sent = refl
length-arriving models (AtomicPart name m rest) path comes sent = ap suc (length-arriving models rest path (drop 1 comes) (drop 1 sent))
length-arriving models (CoupledPart name m inside rest) path comes sent =
    let k = component_count inside in
    let into = to_parts models m (first_bags comes) (leaving models inside (take k sent)) in
    let there = arriving models inside into (take k sent) in
    let others = arriving models rest (drop 1 comes) (drop k sent) in
    omega (
      arith,
      length-append there others,
      length-append (instances_in (path ++ name.number ∷ []) inside) (instances_in path rest),
      length-arriving models inside (path ++ name.number ∷ []) into (take k sent),
      length-arriving models rest path (drop 1 comes) (drop k sent),
    )

root_receives : (models : List ModelTree) (root : Option CoupledTree) (sent : List (List Counts)) (input : List Counts) →
    length (arrives_in_root models root sent input) ≡ length (instances_in [] (tree_in models root))
root_receives models None sent input = refl
root_receives models (Some m) sent input = length-arriving models (tree_of models m) [] _ sent

pub each_receives : (f : FileTree) (sent : List (List Counts)) (input : List Counts) → length (arrives f sent input) ≡ length (instances f)
each_receives f sent input = root_receives f.models (root_of f) sent input

-- as many ports as before
ports_with : (t : Target) (more : Counts) (a : Arrived) → map length (with_values t more a).parts ≡ map length a.parts
ports_with (Own port) more a = refl
ports_with (OfPart part port) more a =
    map-set_same length a.parts part (joined_at port more (get_or a.parts part [])) [] (length-set (get_or a.parts part []) port _)

ports_along : (couplings : List Coupling) (bags : List Counts) (a : Arrived) →
    map length (along couplings bags a).parts ≡ map length a.parts
ports_along [] bags a = refl
ports_along (c ∷ couplings) bags a = ports_along couplings bags (with_coupling bags a c) ∙ ports_with c.target _ a

ports_along_all : (couplings : List (List Coupling)) (bags : List (List Counts)) (a : Arrived) →
    map length (along_all couplings bags a).parts ≡ map length a.parts
ports_along_all [] bags a = refl
ports_along_all (cs ∷ couplings) [] a = refl
ports_along_all (cs ∷ couplings) (b ∷ bags) a = ports_along_all couplings bags (along cs b a) ∙ ports_along cs b a

ports_of_none : (shown : List Shown) →
    map length (map (λ (s : Shown). replicate {A = Counts} (length s.inputs) []) shown) ≡ map (λ (s : Shown). length s.inputs) shown
ports_of_none [] = refl
ports_of_none (s ∷ shown) =
    ap (λ n. n ∷ map length (map (λ (s : Shown). replicate {A = Counts} (length s.inputs) []) shown))
    (length-replicate (length s.inputs) [])
    ∙ ap (λ ns. length s.inputs ∷ ns) (ports_of_none shown)

ports_to : (models : List ModelTree) (m : CoupledTree) (input : List Counts) (bags : List (List Counts)) →
    input_counts models m ≡ map length (to_parts models m input bags)
ports_to models m input bags =
    sym (ports_along (couplings_of_inputs models m) input (from_parts models m bags)
    ∙ (ports_along_all (couplings_of_parts models m) bags (nothing_at models m) ∙ ports_of_none (shown_parts models m)))

-- how many input ports each component has
abbrev pub port_counts : List Instance → List ℕ
port_counts is = map (λ (i : Instance). length (scope_of i.model).inputs) is

first_length : (all : List (List Counts)) → length (first_bags all) ≡ get_or (map length all) 0 0
first_length [] = refl
first_length (bags ∷ rest) = refl

rest_lengths : (all : List (List Counts)) → drop 1 (map length all) ≡ map length (drop 1 all)
rest_lengths [] = refl
rest_lengths (bags ∷ rest) = refl

ports_arriving : (models : List ModelTree) (path : List ℕ) (t : PartTree) (comes sent : List (List Counts)) → Fits models t →
    HaveInputs t (map length comes) → map length (arriving models t comes sent) ≡ port_counts (instances_in path t)
ports_arriving models path NoParts comes sent fits h = refl
ports_arriving models path (AtomicPart name m rest) comes sent fits h =
    ap (λ n. n ∷ map length (arriving models rest (drop 1 comes) (drop 1 sent))) (first_length comes ∙ h.0)
    ∙ ap (λ ns. length (scope_of m).inputs ∷ ns)
    (ports_arriving models path rest (drop 1 comes) (drop 1 sent) fits (subst (HaveInputs rest) (rest_lengths comes) h.1))
ports_arriving models path (CoupledPart name m inside rest) comes sent fits h =
    let n = component_count inside in
    let into = to_parts models m (first_bags comes) (leaving models inside (take n sent)) in
    let there = arriving models inside into (take n sent) in
    let others = arriving models rest (drop 1 comes) (drop n sent) in
    let deeper = path ++ name.number ∷ [] in
    map-append length there others
    ∙ (ap (λ ns. ns ++ map length others)
    (ports_arriving models deeper inside into (take n sent) fits.2
    (subst (HaveInputs inside) (ports_to models m (first_bags comes) (leaving models inside (take n sent))) fits.1))
    ∙ (ap (λ ns. port_counts (instances_in deeper inside) ++ ns)
    (ports_arriving models path rest (drop 1 comes) (drop n sent) fits.3 (subst (HaveInputs rest) (rest_lengths comes) h))
    ∙ sym (map-append (λ (i : Instance). length (scope_of i.model).inputs) (instances_in deeper inside) (instances_in path rest))))

root_ports : (models : List ModelTree) (root : Option CoupledTree) (sent : List (List Counts)) (input : List Counts) →
    map length (arrives_in_root models root sent input) ≡ port_counts (instances_in [] (tree_in models root))
root_ports models None sent input = refl
root_ports models (Some m) sent input =
    let t = tree_of models m in
    let fits = fits_to greatest_depth models m in
    ports_arriving models [] t (to_parts models m input (leaving models t sent)) sent fits.inside
    (subst (HaveInputs t) (ports_to models m input (leaving models t sent)) fits.inputs)

-- what each component receives has a bag for each of its input ports
pub ports_received : (f : FileTree) (sent : List (List Counts)) (input : List Counts) →
    map length (arrives f sent input) ≡ port_counts (instances f)
ports_received f = root_ports f.models (root_of f)
