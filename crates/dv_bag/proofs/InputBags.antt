-- What comes in from outside stands in bags.
use Rattle.std.proofs.Common.{ℕ, zero, suc, ◌+◌, Bool, true, false, ◌&&◌, cond, nat_eq, List, [], ◌∷◌, replicate}
use Rattle.dv_bag.specs.Bag.{Counts, IsBag, with_copies}
use Rattle.dv_bag.specs.BagLists.{AreBags}
use Rattle.dv_bag.specs.Inputs.{bags_from, inputs_at, is_at, values_into}
use Rattle.dv_bag.specs.declared.inputs.Input.{Input}
use Rattle.dv_time.specs.Time.{time_of}
use Rattle.dv_time.specs.declared.time.Time.{Time}
use Rattle.dv_bag.proofs.Pairs.{with_copies_bag}

-- the values of inputs, beside those of a bag
into_bag : (t : Time) (port : ℕ) (inputs : List Input) (b : Counts) → IsBag b → IsBag (values_into t port inputs b)
into_bag t port [] b h = h
into_bag t port (i ∷ inputs) b h =
    into_bag t port inputs _ (with_bag (is_at t i && nat_eq i.port port))
  where
    with_bag : (here : Bool) → IsBag (cond here (with_copies i.value 1 b) b)
    with_bag true = with_copies_bag i.value 1 b h
    with_bag false = h

from_are_bags : (first ports : ℕ) (inputs : List Input) (t : Time) → AreBags (bags_from first ports inputs t)
from_are_bags first zero inputs t port = tt
from_are_bags first (suc ports) inputs t zero = into_bag t first inputs [] tt
from_are_bags first (suc ports) inputs t (suc port) = from_are_bags (first + 1) ports inputs t port

-- no values at any port
pub nothing_are_bags : (ports : ℕ) → AreBags (replicate ports [])
nothing_are_bags zero port = tt
nothing_are_bags (suc ports) zero = tt
nothing_are_bags (suc ports) (suc port) = nothing_are_bags ports port

pub bags_come_in : (limit ports n : ℕ) (inputs : List Input) → AreBags (inputs_at limit ports inputs n)
bags_come_in limit ports n inputs = from_are_bags 0 ports inputs (time_of limit n)
