-- The least response of several phases, and tables of responses.
use Rattle.std.specs.Prelude.{ℕ, nat_eq, if◌then◌else◌, is_some, List, [], ◌∷◌, ◌++◌, fold, map, Option, Some, None}
use Rattle.std.specs.Map.{lookup}
use Rattle.dv_bag.specs.declared.response.Response.{Response}
use Rattle.dv_bag.specs.Responses.{ticks_of}
use Rattle.dv_time.specs.Time.{earlier}
use Rattle.dv_bound.specs.declared.phase_responses.PhaseResponses.{PhaseResponses}
use Rattle.dv_bound.specs.declared.phase_responses.PhaseResponses.TheVariants.{Few, Many}

-- the least of a response and those of phases
abbrev pub soonest : (ℕ → Option ℕ) → Option ℕ → List ℕ → Option ℕ
soonest response start phases = fold earlier start (map response phases)

-- what was found, or else another value
abbrev pub found_or : Option Response → Option ℕ → Option ℕ
found_or None other = other
found_or (Some response) other = ticks_of response

-- the responses that are kept: a short list, or a table
abbrev pub entries_in : PhaseResponses → List (ℕ × Response)
entries_in (Few entries) = entries.items
entries_in (Many table) = table.entries

-- the response of a phase in a table; never if it is missing
abbrev pub response_in : List (ℕ × Response) → ℕ → Option ℕ
response_in entries phase = found_or (lookup (nat_eq phase) entries) None

-- one more phase, if it is new
abbrev pub with_response : List (ℕ × Response) → ℕ → Response → List (ℕ × Response)
with_response entries phase response =
    if is_some (lookup (nat_eq phase) entries) then entries else entries ++ (phase, response) ∷ []
