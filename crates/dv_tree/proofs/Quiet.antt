-- Where nothing is sent, nothing travels.
use Rattle.std.proofs.Common.{◌≡◌, ℕ, zero, suc, List, [], ◌∷◌, map, get_or, replicate, refl, ap, ◌∙◌}
use Rattle.std.specs.List.{All}
use Rattle.std.proofs.lemmas.List.{get_or_default}
use Rattle.dv_syntax.specs.Trees.{FileTree}
use Rattle.dv_bag.specs.Bag.{Counts, bag_at, union}
use Rattle.dv_tree.specs.Instances.{Instance, instances}
use Rattle.dv_tree.specs.Routing.{leaves, arrives}
use Rattle.dv_tree.proofs.Kept.{leaves_kept, arrives_kept}
use Rattle.dv_tree.proofs.Standing.{none_in}

-- a bag without values, of the one list that is sent
abbrev IsNothing : (Unit {0} → Counts) → Type 0
IsNothing b = b tt ≡ []

nothing_united : (a b : Unit {0} → Counts) → IsNothing a → IsNothing b → IsNothing (λ w. union (a w) (b w))
nothing_united a b h k = ap (union (a tt)) k ∙ h

none_sent : (is : List Instance) (k port : ℕ) → bag_at (get_or (map (λ (i : Instance). []) is) k []) port ≡ []
none_sent [] k port = refl
none_sent (i ∷ is) zero port = refl
none_sent (i ∷ is) (suc k) port = none_sent is k port

-- bags that are all empty
all_nothing : (bags : List Counts) → ((port : ℕ) → bag_at bags port ≡ []) → All (λ b. b ≡ []) bags
all_nothing bags h k d within = get_or_default bags k d [] within ∙ h k

pub leaves_nothing : (f : FileTree) → All (λ b. b ≡ []) (leaves f (map (λ i. []) (instances f)))
leaves_nothing f =
    all_nothing (leaves f (map (λ i. []) (instances f)))
    (leaves_kept IsNothing refl nothing_united f (λ w. map (λ i. []) (instances f)) (λ k port within. none_sent (instances f) k port))

pub arrives_nothing : (f : FileTree) (ports : ℕ) →
    All (All (λ b. b ≡ [])) (arrives f (map (λ i. []) (instances f)) (replicate ports []))
arrives_nothing f ports k d within =
    let received = arrives f (map (λ i. []) (instances f)) (replicate ports []) in
    let kept =
    arrives_kept IsNothing refl nothing_united f (λ w. map (λ i. []) (instances f)) (λ w. replicate ports [])
    (λ j port begin. none_sent (instances f) j port) (λ port begin. none_in ports port) in
    all_nothing (get_or received k d)
    (λ port. ap (λ bags. bag_at bags port) (get_or_default received k d [] within) ∙ kept k port)
