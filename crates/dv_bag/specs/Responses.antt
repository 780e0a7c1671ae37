-- Responses as counts of ticks.
use Rattle.std.specs.Prelude.{ℕ, Option, Some, None}
use Rattle.dv_bag.specs.declared.response.Response.{Response}
use Rattle.dv_bag.specs.declared.response.Response.TheVariants.{Ticks, Never}

-- the ticks of a response; None is never
abbrev pub ticks_of : Response → Option ℕ
ticks_of (Ticks n) = Some n
ticks_of Never = None
