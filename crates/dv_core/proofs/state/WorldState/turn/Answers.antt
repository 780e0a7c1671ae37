use Rattle.std.proofs.Common.{◌≡◌, ◌<◌, Bool, Some, subst, arith, rules}
use Rattle.std.specs.List.{slice_get}
use Rattle.std.specs.Vec.{vec_len}
use Rattle.dv_proc.specs.Midway.{meant_turned}
use Rattle.dv_core.proofs.Answering.{as_many, hidden_write, read_at, turn_refused, turn_done}
use Rattle.dv_core.proofs.state.WorldState.turn.Goals as goal

pub returns-in_default-clause-stepped : goal.returns-in_default-clause-stepped
returns-in_default-clause-stepped g c =
    let w = c.args.self.now in
    let within : c.args.process < vec_len w.processes = search rules in
    let flags = as_many w c.requires in
    turn_refused w c.requires c.args.process c.index_mut-owner.result.now c.turn.new.self
    (read_at w.processes c.args.process c.index_mut-owner.result.now within c.index_mut-owner.ensures.value)
    (subst (λ (b : Bool). slice_get w.stopped.items c.args.process ≡ Some b) c.if-index.false
    (read_at w.stopped c.args.process c.index.result.now (omega arith) c.index.ensures))
    c.turn.ensures.valid (search rules)

pub returns-clause-stepped : goal.returns-clause-stepped
returns-clause-stepped g c =
    let w = c.args.self.now in
    let within : c.args.process < vec_len w.processes = search rules in
    let flags = as_many w c.requires in
    turn_done w c.requires c.args.process c.index_mut-owner.result.now c.turn.new.self
    (read_at w.processes c.args.process c.index_mut-owner.result.now within c.index_mut-owner.ensures.value)
    (subst (λ (b : Bool). slice_get w.stopped.items c.args.process ≡ Some b) c.if-index.false
    (read_at w.stopped c.args.process c.index.result.now (omega arith) c.index.ensures))
    c.turn.ensures.valid (meant_turned c.in-Ok._answer) c.in-Ok.ensures.ok

pub returns-in_default-clause-handed : goal.returns-in_default-clause-handed
returns-in_default-clause-handed g c =
    let w = c.args.self.now in
    let within : c.args.process < vec_len w.processes = search rules in
    let owner = c.index_mut-owner.result.now in
    hidden_write g.P.LogicalProcess.handed w.processes.items c.args.process owner
    (read_at w.processes c.args.process owner within c.index_mut-owner.ensures.value) c.turn.new.self c.turn.ensures.handed

pub returns-clause-handed : goal.returns-clause-handed
returns-clause-handed g c =
    let w = c.args.self.now in
    let within : c.args.process < vec_len w.processes = search rules in
    let owner = c.index_mut-owner.result.now in
    hidden_write g.P.LogicalProcess.handed w.processes.items c.args.process owner
    (read_at w.processes c.args.process owner within c.index_mut-owner.ensures.value) c.turn.new.self c.turn.ensures.handed
