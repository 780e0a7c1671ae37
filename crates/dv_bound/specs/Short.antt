-- Responses that are ticks of a hold: a hold is a number of the language.
use Rattle.std.specs.Prelude.{◌≡◌, ℕ, ◌<◌, ◌^◌, List, Option, Some, IfSome, slice_get}
use Rattle.dv_syntax.specs.declared.tree.Hold.{Hold}
use Rattle.dv_syntax.specs.Trees.{hold_of}
use Rattle.dv_eval.specs.Scope.{Scope}
use Rattle.dv_bound.specs.Response.{hold_response}

abbrev pub IsShort : Option ℕ → Type 0
IsShort o = IfSome o (λ n. n < 2 ^ 63)

-- so are those of holds
abbrev pub AreShort : Scope → List Hold → Type 0
AreShort scope holds = (k : ℕ) (h : Hold) → slice_get holds k ≡ Some h → IsShort (hold_response scope (hold_of h).ticks)
