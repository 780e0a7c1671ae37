use Rattle.std.proofs.Common.{◌∷◌, ap, refl, sym, ◌∙◌, arith, rules}
use Rattle.dv_core.proofs.Answering.{ends, flagged, hidden_write, only_memory, read_at}
use Rattle.dv_core.proofs.Answering.{receiver_valid, take_accepts, take_stopped, take_empty}
use Rattle.dv_core.proofs.Answering.{take_refused, take_done}
use Rattle.dv_core.proofs.Lookups.{empty_of}
use Rattle.dv_core.proofs.state.WorldState.take.Goals as goal

pub index-requires-2 : goal.index-requires-2
index-requires-2 g c =
    let within = flagged c.args.self.now c.requires c.args.link c.index.result.now (search rules) c.index.ensures in
    omega (arith, within.1)

pub returns-then-index-clause-stepped : goal.returns-then-index-clause-stepped
returns-then-index-clause-stepped g c =
    take_stopped c.args.self.now c.requires c.args.link c.index.result.now (search rules) c.index.ensures
    c.index-2.result.now c.index-2.ensures c.if-index.true

pub returns-in_default-clause-stepped : goal.returns-in_default-clause-stepped
returns-in_default-clause-stepped g c =
    let cases = c.in_default.ensures.cases in
    let long = c.index_mut-queue.result.now.ok.0 in
    take_empty c.args.self.now c.requires c.args.link c.index.result.now (search rules) c.index.ensures
    c.index-2.result.now c.index-2.ensures c.if-index.false c.index_mut-queue.result.now c.index_mut-queue.ensures.value
    (empty_of c.index_mut-queue.result.now.items (omega arith)) c.pop_front.new.self (sym c.in_default.ensures.items)

pub index_mut-receiver-requires : goal.index_mut-receiver-requires
index_mut-receiver-requires g c =
    let within = ends c.args.self.now c.requires c.args.link c.index.result.now (search rules) c.index.ensures in
    omega (arith, within.1)

pub receive-requires : goal.receive-requires
receive-requires g c =
    receiver_valid c.args.self.now c.requires c.args.link c.index.result.now (search rules) c.index.ensures
    c.index-2.result.now c.index-2.ensures c.if-index.false c.index_mut-queue.result.now c.index_mut-queue.ensures.value
    c.in-Some.packet c.pop_front.new.self.items c.in-Some.ensures.items c.index_mut-receiver.result.now c.index_mut-receiver.ensures.value

pub returns-in-Err-clause-stepped : goal.returns-in-Err-clause-stepped
returns-in-Err-clause-stepped g c =
    take_refused c.args.self.now c.requires c.args.link c.index.result.now (search rules) c.index.ensures
    c.index-2.result.now c.index-2.ensures c.if-index.false c.index_mut-queue.result.now c.index_mut-queue.ensures.value
    c.in-Some.packet c.pop_front.new.self.items c.in-Some.ensures.items c.index_mut-receiver.result.now c.index_mut-receiver.ensures.value
    c.receive.new.self c.receive.ensures.valid c.push_front_reserved.new.self
    (c.push_front_reserved.ensures.items ∙ ap (λ p. p ∷ c.pop_front.new.self.items) c.in-Err.ensures.handed_back
    ∙ sym c.in-Some.ensures.items)
    c.in-Err.ensures.unchanged

pub returns-in-Ok-clause-stepped : goal.returns-in-Ok-clause-stepped
returns-in-Ok-clause-stepped g c =
    take_done c.args.self.now c.requires c.args.link c.index.result.now (search rules) c.index.ensures
    c.index-2.result.now c.index-2.ensures c.if-index.false c.index_mut-queue.result.now c.index_mut-queue.ensures.value
    c.in-Some.packet c.pop_front.new.self.items c.in-Some.ensures.items c.index_mut-receiver.result.now c.index_mut-receiver.ensures.value
    c.receive.new.self c.receive.ensures.valid c.pop_front.new.self refl c.in-Ok.ensures.ok

pub unreachable-requires : goal.unreachable-requires
unreachable-requires g c =
    let none = take_accepts c.args.self.now c.requires c.args.link c.index.result.now (search rules) c.index.ensures
    c.index-2.result.now c.index-2.ensures c.if-index.false c.index_mut-queue.result.now c.index_mut-queue.ensures.value
    c.in-Some.packet c.pop_front.new.self.items c.in-Some.ensures.items
    c.index_mut-receiver.result.now c.index_mut-receiver.ensures.value in
    only_memory c.in-Err.refused (c.in-Err.ensures.refused ∙ none) c.in_default-refused.not-NoMemory

pub returns-in-Err-clause-handed : goal.returns-in-Err-clause-handed
returns-in-Err-clause-handed g c =
    let w = c.args.self.now in
    let receiver = c.index_mut-receiver.result.now in
    let within = ends w c.requires c.args.link c.index.result.now (search rules) c.index.ensures in
    hidden_write g.P.LogicalProcess.handed w.processes.items c.index.result.now.target receiver
    (read_at w.processes c.index.result.now.target receiver within.1 c.index_mut-receiver.ensures.value) c.receive.new.self
    c.receive.ensures.handed

pub returns-in-Ok-clause-handed : goal.returns-in-Ok-clause-handed
returns-in-Ok-clause-handed g c =
    let w = c.args.self.now in
    let receiver = c.index_mut-receiver.result.now in
    let within = ends w c.requires c.args.link c.index.result.now (search rules) c.index.ensures in
    hidden_write g.P.LogicalProcess.handed w.processes.items c.index.result.now.target receiver
    (read_at w.processes c.index.result.now.target receiver within.1 c.index_mut-receiver.ensures.value) c.receive.new.self
    c.receive.ensures.handed
