-- The components' next times, and what is true of them in every run.
use Rattle.std.specs.Prelude.{◌≡◌, ℕ, ◌≤◌, IsTrue, List, [], ◌∷◌, length, Option, Some, None}
use Rattle.std.specs.List.{Contains}
use Rattle.dv_time.specs.Time.{earlier, time_of}
use Rattle.dv_devs.specs.Behaviour.{Component}
use Rattle.dv_devs.specs.Network.{Network}
use Rattle.dv_bag.specs.declared.entry.Entry.{Entry}

-- the least of the components' next times: the time advance of the network
abbrev pub least_next : List Component → Option ℕ
least_next [] = None
least_next (c ∷ cs) = earlier c.next (least_next cs)

-- a next time is at this rank or later
abbrev pub IsFrom : ℕ → Option ℕ → Type 0
IsFrom n None = Unit {0}
IsFrom n (Some next) = n ≤ next

-- every next time is at this rank or later
abbrev pub AllFrom : ℕ → List Component → Type 0
AllFrom n [] = Unit {0}
AllFrom n (c ∷ cs) = IsFrom n c.next × AllFrom n cs

-- a component that had a fault has no next time
abbrev pub AllQuietForGood : List Component → Type 0
AllQuietForGood [] = Unit {0}
AllQuietForGood (c ∷ cs) = (IsTrue c.quiet → c.next ≡ None) × AllQuietForGood cs

-- a network at the beginning of a run: each component has its behaviour and its number, and a quiet one has no next time
pub record IsReady {I : Type 0} (net : Network I) : Type 0 where
  pub matched : length net.behaviours ≡ length net.start
  pub numbered : length net.numbers ≡ length net.behaviours
  pub quiet : AllQuietForGood net.start

-- there is an entry of a component at a rank
abbrev pub HasEntry : List Entry → ℕ → ℕ → ℕ → Type 0
HasEntry entries limit now k = (e : Entry) × Contains entries e × (e.component ≡ k) × (e.time ≡ time_of limit now)
