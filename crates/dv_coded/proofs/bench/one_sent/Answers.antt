use Rattle.dv_coded.proofs.Machines.{sent-at-once}
use Rattle.dv_coded.proofs.bench.one_sent.Goals as goal

pub returns : goal.returns
returns c =
    sent-at-once c.args.program.now c.args.state.now c.number_sent.result c.number_sent.ensures.sent c.number_sent.ensures.fault
