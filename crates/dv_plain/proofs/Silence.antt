-- Where nobody sends anything and nothing comes from outside, nothing arrives and nothing leaves.
use Rattle.std.proofs.Common.{◌≡◌, ℕ, List, [], ◌∷◌, map, length, replicate, IsTrue, refl, ap, ◌∙◌}
use Rattle.std.specs.List.{All}
use Rattle.std.proofs.lemmas.Bool.{and_from, eq-eqb}
use Rattle.std.proofs.lemmas.List.Elements.{All-head, All-tail}
use Rattle.dv_syntax.specs.Trees.{FileTree}
use Rattle.dv_bag.specs.Bag.{Counts, size}
use Rattle.dv_devs.specs.Behaviour.{Behaviour, all_empty}
use Rattle.dv_devs.specs.Idle.{BringsNothing, LeavesOnlyWhatIsSent, no_values}
use Rattle.dv_tree.specs.Instances.{Instance, instances, root_inputs}
use Rattle.dv_tree.specs.Routing.{arrives, leaves}
use Rattle.dv_plain.specs.Source.{behaviour_of, network_of}

abbrev IsEmpty : Counts → Type 0
IsEmpty b = b ≡ []

abbrev none : List Counts
none = []

all_empty-all : (bags : List Counts) → All IsEmpty bags → IsTrue (all_empty bags)
all_empty-all [] h = refl
all_empty-all (b ∷ bags) h =
    and_from _ _ (eq-eqb (size b) 0 (ap size (All-head IsEmpty b bags h))) (all_empty-all bags (All-tail IsEmpty b bags h))

no_values-all : (received : List (List Counts)) → All (All IsEmpty) received → IsTrue (no_values received)
no_values-all [] h = refl
no_values-all (bags ∷ rest) h =
    and_from _ _ (all_empty-all bags (All-head (All IsEmpty) bags rest h)) (no_values-all rest (All-tail (All IsEmpty) bags rest h))

none_by_instance : (is : List Instance) →
    map (λ (b : Behaviour). none) (map (λ (i : Instance). behaviour_of i.model) is) ≡ map (λ (i : Instance). none) is
none_by_instance [] = refl
none_by_instance (i ∷ is) = ap (λ rest. none ∷ rest) (none_by_instance is)

pub nothing_arrives :
    ((f : FileTree) (ports : ℕ) → All (All IsEmpty) (arrives f (map (λ (i : Instance). none) (instances f)) (replicate ports []))) →
    (limit : ℕ) (f : FileTree) → BringsNothing (network_of limit f) (replicate (length (root_inputs f)) [])
nothing_arrives law limit f =
    ap (λ sent. no_values (arrives f sent (replicate (length (root_inputs f)) []))) (none_by_instance (instances f))
    ∙ no_values-all _ (law f (length (root_inputs f)))

pub nothing_leaves : ((f : FileTree) → All IsEmpty (leaves f (map (λ (i : Instance). none) (instances f)))) →
    (limit : ℕ) (f : FileTree) → LeavesOnlyWhatIsSent (network_of limit f)
nothing_leaves law limit f =
    ap (λ sent. all_empty (leaves f sent)) (none_by_instance (instances f)) ∙ all_empty-all _ (law f)
