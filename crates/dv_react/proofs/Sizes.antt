-- What a component receives, by the sizes of its bags.
use Rattle.std.proofs.Common.{◌≡◌, ◌+◌, Bool, ◌&&◌, nat_eq, List, [], ◌∷◌, refl, ap, ◌∙◌, arith}
use Rattle.std.proofs.lemmas.Bool.Decides.{nat_tests}
use Rattle.dv_bag.specs.Bag.{Counts, capped, size, size_of_all, total, total_of_all}
use Rattle.dv_devs.specs.Behaviour.{all_empty}

-- there is no value at all where there is none at any port
pub empty_by_port : (bags : List Counts) → nat_eq (size_of_all bags) 0 ≡ all_empty bags
empty_by_port [] = refl
empty_by_port (b ∷ bs) =
    let first : nat_eq (capped (total b + total_of_all bs)) 0 ≡ (nat_eq (size b) 0 && nat_eq (size_of_all bs) 0)
    = grind (arith, nat_tests) in
    first ∙ ap (λ (rest : Bool). nat_eq (size b) 0 && rest) (empty_by_port bs)
