-- What stands at a port where one output, or one input of the root, sends one value alone.
use Rattle.std.proofs.Common.{◌≡◌, ℕ, zero, suc, Bool, true, false, cond, eqb, [], ◌∷◌, ◌++◌, get_or, replicate, pos}
use Rattle.std.proofs.Common.{refl, ap, sym, ◌∙◌, subst, arith}
use Rattle.std.specs.Prelude.{◌&&◌}
use Rattle.std.proofs.lemmas.Bool.Decides.{nat_tests}
use Rattle.dv_bag.specs.Bag.{Counts, IsBag, bag_at, count_of}
use Rattle.dv_flat.specs.Carried.{same_port}
use Rattle.dv_flat.specs.Ends.{port_at}
use Rattle.dv_flat.specs.Links.{alone_at, sent_alone}
use Rattle.dv_flat.specs.declared.link.ComponentPort.{ComponentPort}
use Rattle.dv_flat.proofs.Picked.{tick}

-- of a list with one item behind so many that are empty
there : {X : Type 0} (none x : X) (n k : ℕ) → get_or (replicate n none ++ x ∷ []) k none ≡ cond (eqb n k) x none
there none x zero zero = refl
there none x zero (suc k) = ap (λ b. cond b x none) (let other : false ≡ eqb 0 (suc k) = grind (arith, nat_tests) in other)
there none x (suc n) zero = ap (λ b. cond b x none) (let other : false ≡ eqb (suc n) 0 = grind (arith, nat_tests) in other)
there none x (suc n) (suc k) =
    there none x n k ∙ ap (λ b. cond b x none) (let same : eqb n k ≡ eqb (suc n) (suc k) = grind (arith, nat_tests) in same)

count_chosen : (b : Bool) → count_of (pos 0) (cond b ((pos 0, 1) ∷ []) []) ≡ tick b
count_chosen true = refl
count_chosen false = refl

bag_chosen : (b : Bool) → IsBag (cond b ((pos 0, 1) ∷ []) [])
bag_chosen true = (omega arith, omega arith, tt)
bag_chosen false = tt

bags_chosen : (b : Bool) (from port : ℕ) → bag_at (cond b (alone_at from) []) port ≡ cond (b && eqb from port) ((pos 0, 1) ∷ []) []
bags_chosen true from port = there [] ((pos 0, 1) ∷ []) from port
bags_chosen false from port = refl

pub entry_alone : (from port : ℕ) → bag_at (alone_at from) port ≡ cond (eqb from port) ((pos 0, 1) ∷ []) []
entry_alone from port = there [] ((pos 0, 1) ∷ []) from port

pub output_alone : (from : ComponentPort) (k port : ℕ) →
    bag_at (get_or (sent_alone from) k []) port ≡ cond (same_port from (port_at k port)) ((pos 0, 1) ∷ []) []
output_alone from k port =
    ap (λ bags. bag_at bags port) (there [] (alone_at from.port) from.component k)
    ∙ bags_chosen (eqb from.component k) from.port port

-- it is a bag, and has the value once at the port that sends, and nowhere else
pub alone_ticks : (bag : Counts) (b : Bool) → bag ≡ cond b ((pos 0, 1) ∷ []) [] → count_of (pos 0) bag ≡ tick b
alone_ticks bag b is = ap (count_of (pos 0)) is ∙ count_chosen b

pub alone_bag : (bag : Counts) (b : Bool) → bag ≡ cond b ((pos 0, 1) ∷ []) [] → IsBag bag
alone_bag bag b is = subst IsBag (sym is) (bag_chosen b)
