use Rattle.dv_valid.specs.Marks.{meaning}
use Rattle.dv_valid.proofs.agreement.is_same_below.Goals as goal

pub returns-in-None : goal.returns-in-None
returns-in-None c = (λ t. absurd (cc), λ e. absurd (c.in-None.ensures.only (meaning c.args.stacks.now c.args.mark) e))
