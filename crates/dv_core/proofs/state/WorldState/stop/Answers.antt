use Rattle.std.proofs.Common.{◌<◌, arith, rules}
use Rattle.std.specs.Vec.{vec_len}
use Rattle.dv_core.proofs.Answering.{as_many, stop_done}
use Rattle.dv_core.proofs.Lookups.{some_at}
use Rattle.dv_core.proofs.state.WorldState.stop.Goals as goal

pub returns : goal.returns
returns g c =
    let w = c.args.self.now in
    let within : c.args.process < vec_len w.processes = search rules in
    let flags = as_many w c.requires in
    let within_flags : c.args.process < vec_len w.stopped = omega arith in
    let long = w.stopped.ok.0 in
    let flag = some_at w.stopped.items c.args.process (omega arith) in
    stop_done w c.requires c.args.process flag.0 flag.1
