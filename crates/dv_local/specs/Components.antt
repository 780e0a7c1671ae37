-- The components of a process, with a count of visits.
use Rattle.std.specs.Prelude.{ℕ, List}
use Rattle.dv_react.specs.declared.running.Running.{Running}

-- the components by index, the index that was visited last, and how many visits there were
pub record ComponentsOf : Type 0 where
  pub running : List Running
  pub visited : ℕ
  pub visits : ℕ
