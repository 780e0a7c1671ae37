-- Steps of a rule: a step with the value of an expression, and a step for each copy of a value.
use Rattle.std.specs.Prelude.{ℕ, zero, suc, Result, Ok}
use Rattle.dv_syntax.specs.Trees.{Expression}
use Rattle.dv_bag.specs.Outcome.{◌>>=◌}
use Rattle.dv_bag.specs.declared.fault.Fault.{Fault}
use Rattle.dv_bag.specs.declared.state.Effect.{Effect}
use Rattle.dv_bag.specs.declared.value.Value.{Value}
use Rattle.dv_eval.specs.Meaning.{Context, value_within}
use Rattle.dv_eval.specs.Scope.{Scope}

-- a step with the value of an expression
abbrev pub with_value : Scope → Context → Expression → (Value → Effect → Result Effect Fault) → Effect → Result Effect Fault
with_value scope context value step e = value_within scope context e value >>= λ v. step v e

-- a step, repeated
abbrev pub repeated : (Effect → Result Effect Fault) → ℕ → Effect → Result Effect Fault
repeated step zero e = Ok e
repeated step (suc n) e = step e >>= repeated step n
