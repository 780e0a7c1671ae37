-- The responses of a text as those of a plan.
use Rattle.std.proofs.Common.{◌≡◌, List, length, get_or, map, ap, sym, ◌∙◌}
use Rattle.std.specs.List.{All}
use Rattle.std.proofs.lemmas.List.{length-map}
use Rattle.dv_bag.specs.declared.response.Response.{Response}
use Rattle.dv_bag.specs.declared.response.Response.TheVariants.{Ticks, Never}
use Rattle.dv_bound.specs.Response.{response_of}
use Rattle.dv_bound.specs.Short.{IsShort}
use Rattle.dv_bag.specs.Responses.{ticks_of}
use Rattle.dv_proc.specs.Foreseeing.{IsOfHold}
use Rattle.dv_tree.specs.Instances.{Instance}

hold_of : (r : Response) → IsShort (ticks_of r) → IsOfHold r
hold_of (Ticks n) h = h
hold_of Never h = tt

-- responses that are short are those of holds
pub holds : (rs : List Response) → All (λ (r : Response). IsShort (ticks_of r)) rs → All (λ (r : Response). IsOfHold r) rs
holds rs h k d lt = hold_of (get_or rs k d) (h k d lt)

pub as_many_responses : (rs : List Response) (is : List Instance) → map ticks_of rs ≡ map (λ (i : Instance). response_of i.model) is
    → length rs ≡ length is
as_many_responses rs is e = sym (length-map rs ticks_of) ∙ ap length e ∙ length-map is (λ (i : Instance). response_of i.model)
