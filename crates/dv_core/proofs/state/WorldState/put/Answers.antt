use Rattle.std.proofs.Common.{[], ◌∷◌, ◌++◌, ap, refl, ◌∙◌, arith, rules}
use Rattle.dv_proc.specs.Packets.{meant_packet}
use Rattle.dv_core.proofs.Answering.{ends, flagged, hidden_write, read_at}
use Rattle.dv_core.proofs.Answering.{same_process, sender_valid, put_stopped, put_empty, put_full, put_refused, put_done}
use Rattle.dv_core.proofs.state.WorldState.put.Goals as goal

pub index-requires-2 : goal.index-requires-2
index-requires-2 g c =
    let within = flagged c.args.self.now c.requires c.args.link c.index.result.now (search rules) c.index.ensures in
    omega (arith, within.0)

pub returns-then-index-clause-stepped : goal.returns-then-index-clause-stepped
returns-then-index-clause-stepped g c =
    put_stopped c.args.self.now c.requires c.args.link c.index.result.now (search rules) c.index.ensures
    c.index-2.result.now c.index-2.ensures c.if-index.true

pub index-requires-3 : goal.index-requires-3
index-requires-3 g c =
    let within = ends c.args.self.now c.requires c.args.link c.index.result.now (search rules) c.index.ensures in
    omega (arith, within.0)

pub returns-in_default-clause-stepped : goal.returns-in_default-clause-stepped
returns-in_default-clause-stepped g c =
    put_empty c.args.self.now c.requires c.args.link c.index.result.now (search rules) c.index.ensures
    c.index-2.result.now c.index-2.ensures c.if-index.false c.index-3.result.now c.index-3.ensures c.in_default.ensures

pub returns-then-len-self-clause-stepped : goal.returns-then-len-self-clause-stepped
returns-then-len-self-clause-stepped g c =
    put_full c.args.self.now c.requires c.args.link c.index.result.now (search rules) c.index.ensures
    c.index-2.result.now c.index-2.ensures c.if-index.false c.index-3.result.now c.index-3.ensures c.index_mut-queue.result.now
    c.index_mut-queue.ensures.value
    (meant_packet c.in-Some._standing.now) c.in-Some.ensures (omega arith)

pub returns-in_default-reserve-clause-stepped : goal.returns-in_default-reserve-clause-stepped
returns-in_default-reserve-clause-stepped g c =
    put_refused c.args.self.now c.requires c.args.link c.index.result.now (search rules) c.index.ensures
    c.index-2.result.now c.index-2.ensures c.if-index.false c.index-3.result.now c.index-3.ensures c.index_mut-queue.result.now
    c.index_mut-queue.ensures.value
    (meant_packet c.in-Some._standing.now) c.in-Some.ensures (omega arith) c.reserve.new.self c.reserve.ensures.items

pub index_mut-sender-requires : goal.index_mut-sender-requires
index_mut-sender-requires g c =
    let within = ends c.args.self.now c.requires c.args.link c.index.result.now (search rules) c.index.ensures in
    omega (arith, within.0)

pub sent-packet-requires-clause-valid : goal.sent-packet-requires-clause-valid
sent-packet-requires-clause-valid g c =
    sender_valid c.args.self.now c.requires c.args.link c.index.result.now (search rules) c.index.ensures
    c.index-2.result.now c.index-2.ensures c.if-index.false c.index_mut-sender.result.now c.index_mut-sender.ensures.value

pub sent-packet-requires-clause-stands : goal.sent-packet-requires-clause-stands
sent-packet-requires-clause-stands g c none =
    let same = same_process c.args.self.now c.requires c.args.link c.index.result.now (search rules) c.index.ensures
    c.index-2.result.now c.index-2.ensures c.if-index.false c.index-3.result.now c.index-3.ensures c.index_mut-sender.result.now
    c.index_mut-sender.ensures.value in
    let stands = c.in-Some.ensures in
    absurd (cc)

pub returns-clause-stepped : goal.returns-clause-stepped
returns-clause-stepped g c =
    put_done c.args.self.now c.requires c.args.link c.index.result.now (search rules) c.index.ensures
    c.index-2.result.now c.index-2.ensures c.if-index.false c.index_mut-sender.result.now c.index_mut-sender.ensures.value
    c.index_mut-queue.result.now c.index_mut-queue.ensures.value
    (meant_packet c.sent-packet.result) c.sent-packet.ensures.packet (omega arith)
    c.sent-packet.new.self c.sent-packet.ensures.valid c.sent-packet.result c.push_back_reserved.new.self refl c.sent-packet.ensures.sent
    (c.push_back_reserved.ensures.items ∙ ap (λ items. items ++ c.sent-packet.result ∷ []) c.reserve.ensures.items)

pub returns-clause-handed : goal.returns-clause-handed
returns-clause-handed g c =
    let w = c.args.self.now in
    let sender = c.index_mut-sender.result.now in
    let within = ends w c.requires c.args.link c.index.result.now (search rules) c.index.ensures in
    hidden_write g.P.LogicalProcess.handed w.processes.items c.index.result.now.source sender
    (read_at w.processes c.index.result.now.source sender within.0 c.index_mut-sender.ensures.value) c.sent-packet.new.self
    c.sent-packet.ensures.handed
