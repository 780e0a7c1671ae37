use Rattle.dv_run.proofs.responses.responses_of.Goals as goal

pub returns : goal.returns
returns c = c.in_ok-responses.ensures.responses
