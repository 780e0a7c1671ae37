-- The least of responses of holds is one of a hold.
use Rattle.std.proofs.Common.{ℕ, ◌+◌, ◌<◌, ◌^◌, Bool, true, false, cond, nat_eq, List, [], ◌∷◌, map, Option, Some, None, arith}
use Rattle.std.proofs.Common.{subst, sym, ◌≡◌}
use Rattle.std.specs.List.{All}
use Rattle.dv_bag.specs.declared.response.Response.{Response}
use Rattle.dv_bag.specs.declared.response.Response.TheVariants.{Ticks, Never}
use Rattle.dv_time.specs.Time.{earlier}
use Rattle.dv_conservative.specs.Responses.{least_response}
use Rattle.dv_bag.specs.Responses.{ticks_of}
use Rattle.dv_proc.specs.Foreseeing.{IsOfHold}
use Rattle.dv_local.proofs.Undoing.{all_first, all_rest}

abbrev IsShort : Option ℕ → Type 0
IsShort None = Unit {0}
IsShort (Some n) = n < 2 ^ 63

to_short : (r : Response) → IsOfHold r → IsShort (ticks_of r)
to_short (Ticks n) h = h
to_short Never h = tt

from_short : (r : Response) → IsShort (ticks_of r) → IsOfHold r
from_short (Ticks n) h = h
from_short Never h = tt

earlier_short : (a b : Option ℕ) → IsShort a → IsShort b → IsShort (earlier a b)
earlier_short None b h k = k
earlier_short (Some x) None h k = h
earlier_short (Some x) (Some y) h k = omega (arith, h, k)

least_short : (owner : ℕ → ℕ) (p k : ℕ) (rs : List Response) → All (λ (r : Response). IsOfHold r) rs
    → IsShort (least_response owner p k (map ticks_of rs))
least_short owner p k [] h = tt
least_short owner p k (r ∷ rs) h =
    by_test (nat_eq (owner k) p) (least_short owner p (k + 1) rs (all_rest (λ (r : Response). IsOfHold r) r rs h))
  where
    by_test : (t : Bool) → IsShort (least_response owner p (k + 1) (map ticks_of rs)) →
        IsShort (cond t (earlier (ticks_of r) (least_response owner p (k + 1) (map ticks_of rs)))
        (least_response owner p (k + 1) (map ticks_of rs)))
    by_test true rest =
        earlier_short (ticks_of r) (least_response owner p (k + 1) (map ticks_of rs))
        (to_short r (all_first (λ (r : Response). IsOfHold r) r rs h)) rest
    by_test false rest = rest

pub least_hold : (owner : ℕ → ℕ) (p : ℕ) (rs : List Response) (r : Response) → All (λ (r : Response). IsOfHold r) rs →
    ticks_of r ≡ least_response owner p 0 (map ticks_of rs) → IsOfHold r
least_hold owner p rs r h e = from_short r (subst IsShort (sym e) (least_short owner p 0 rs h))
