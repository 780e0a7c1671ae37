use Rattle.std.proofs.Common.{◌∙◌}
use Rattle.dv_react.proofs.Sizes.{empty_by_port}
use Rattle.dv_react.proofs.received.are_empty.Goals as goal

pub returns : goal.returns
returns c = c.is_empty.ensures.size ∙ empty_by_port c.args.received.now
