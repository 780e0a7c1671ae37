use Rattle.std.proofs.Common.{length, refl}
use Rattle.std.proofs.lemmas.Option.{slice_get_read}
use Rattle.dv_proc.specs.Packets.{meant_packet}
use Rattle.dv_work.proofs.Sitting.{reports_same, took_none, took_sits}
use Rattle.dv_work.proofs.seat.Seat.take.Goals as goal

pub take_from-requires-clause-channel : goal.take_from-requires-clause-channel
take_from-requires-clause-channel g c =
    let s = c.args.self.now in
    let xs = s.ins.items in
    let read = slice_get_read xs (length xs) c.args.index c.index_mut-end.result.now refl c.requires.index c.index_mut-end.ensures.value in
    c.requires.sits.ins.channels c.args.index c.index_mut-end.result.now read

pub returns-in_default-clause-ok : goal.returns-in_default-clause-ok
returns-in_default-clause-ok g c =
    let s = c.args.self.now in
    let sits = c.requires.sits in
    let xs = s.ins.items in
    let read = slice_get_read xs (length xs) c.args.index c.index_mut-end.result.now refl c.requires.index c.index_mut-end.ensures.value in
    record {
      valid = sits.valid;
      fed = sits.fed;
      outs = sits.outs;
      ins = took_none g.N.OfJob.job g.P.LogicalProcess.state g.P.LogicalProcess.handed g.P.LogicalProcess.valid c.args.floor.now.links.now
          s sits
          c.args.index c.index_mut-end.result.now c.take_from.new.end read c.in_default.ensures.number c.in_default.ensures.end
          c.in_default.ensures.taken;
      posted = sits.posted;
    }

pub returns-in-Err-clause-err : goal.returns-in-Err-clause-err
returns-in-Err-clause-err g c =
    reports_same g.N.OfJob.job g.P.LogicalProcess.state g.P.LogicalProcess.handed g.P.LogicalProcess.valid c.args.floor.now.links.now
    c.args.self.now
    c.requires.sits c.receive.new.self c.args.self.now.outs _ c.in-Err.ensures.valid c.in-Err.ensures.handed c.in-Err.ensures.unchanged

pub returns-clause-ok : goal.returns-clause-ok
returns-clause-ok g c =
    let s = c.args.self.now in
    let xs = s.ins.items in
    let read = slice_get_read xs (length xs) c.args.index c.index_mut-end.result.now refl c.requires.index c.index_mut-end.ensures.value in
    took_sits g.N.OfJob.job g.P.LogicalProcess.state g.P.LogicalProcess.handed g.P.LogicalProcess.valid c.args.floor.now.links.now s
    c.requires.sits
    c.args.index c.index_mut-end.result.now c.take_from.new.end read c.in-Some.ensures.number c.in-Some.ensures.end
    c.receive.new.self (meant_packet c.in-Some.packet) c.in_default-receive.ensures.ok c.in-Some.ensures.taken c.in-Some.ensures.all_true
    c.in_default-receive.ensures.valid c.in_default-receive.ensures.handed _ refl
