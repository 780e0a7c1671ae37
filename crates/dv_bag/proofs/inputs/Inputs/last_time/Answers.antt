use Rattle.std.proofs.Common.{ap, ◌∙◌}
use Rattle.dv_bag.specs.Inputs.{last_time}
use Rattle.dv_bag.proofs.InputLists.{last_time_last}
use Rattle.dv_bag.proofs.inputs.Inputs.last_time.Goals as goal

pub returns-in-len1-up : goal.returns-in-len1-up
returns-in-len1-up c =
    last_time_last c.as_slice.result.now _ c.in-len1-up.len_at_least ∙ ap last_time (c.as_slice.ensures.value ∙ c.self.view_is)
