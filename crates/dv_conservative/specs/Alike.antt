-- Shares that run alike: they differ at most in bags from outside that arrive at none of their components.
use Rattle.std.specs.Prelude.{◌≡◌, ℕ, List}
use Rattle.dv_bag.specs.Bag.{Counts}
use Rattle.dv_devs.specs.Inputs.{ArriveAlike}
use Rattle.dv_conservative.specs.Flat.{network}
use Rattle.dv_conservative.specs.Links.{Delivery}
use Rattle.dv_conservative.specs.Process.{Share}

-- a share, with other bags from outside
abbrev pub with_outside : (ℕ → List Counts) → Share → Share
with_outside outside s = record {
  limit = s.limit;
  horizon = s.horizon;
  flat = s.flat;
  outside = outside;
  incoming = s.incoming;
  outgoing = s.outgoing;
  response = s.response;
}

-- two shares differ only in the bags from outside, of which the same arrives
pub record AreAlike (s t : Share) : Type 0 where
  pub same : s ≡ with_outside s.outside t
  pub outside : (n : ℕ) (ds : List Delivery) → ArriveAlike (network t.flat) (s.outside n, ds) (t.outside n, ds)
