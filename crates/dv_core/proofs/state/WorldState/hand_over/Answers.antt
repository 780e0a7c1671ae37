use Rattle.std.proofs.Common.{◌≡◌, Some, map, subst, sym, ap, ◌∙◌}
use Rattle.std.specs.List.{slice_get}
use Rattle.std.proofs.Math.ListN.{set}
use Rattle.dv_bag.specs.Part.{joined}
use Rattle.dv_record.specs.Told.{Handed}
use Rattle.dv_core.proofs.Answering.{read_at, unseen, unseen_stands}
use Rattle.dv_core.proofs.Lookups.{map_set}
use Rattle.dv_core.proofs.state.WorldState.hand_over.Goals as goal

pub returns-clause-stands : goal.returns-clause-stands
returns-clause-stands g c =
    let w = c.args.self.now in
    let owner = c.index_mut-owner.result.now in
    unseen_stands w c.requires.stands c.args.process owner c.hand_over.new.self
    (read_at w.processes c.args.process owner c.requires.process c.index_mut-owner.ensures.value) c.hand_over.ensures.valid
    c.hand_over.ensures.state

pub returns-clause-kept : goal.returns-clause-kept
returns-clause-kept g c =
    let w = c.args.self.now in
    let owner = c.index_mut-owner.result.now in
    unseen w c.requires.stands c.args.process owner c.hand_over.new.self
    (read_at w.processes c.args.process owner c.requires.process c.index_mut-owner.ensures.value) c.hand_over.ensures.valid
    c.hand_over.ensures.state

pub returns-clause-handed : goal.returns-clause-handed
returns-clause-handed g c = λ x at.
    let w = c.args.self.now in
    let owner = c.index_mut-owner.result.now in
    let handed = g.P.LogicalProcess.handed in
    let state = g.P.LogicalProcess.state in
    let here = read_at w.processes c.args.process owner c.requires.process c.index_mut-owner.ensures.value in
    let both : Some owner ≡ Some x = sym here ∙ at in
    let same : owner ≡ x = cc in
    subst (λ z. map handed (set w.processes.items c.args.process c.hand_over.new.self)
    ≡ set (map handed w.processes.items) c.args.process (record (handed z) { past = (state z).part })) same
    (map_set handed w.processes.items c.args.process c.hand_over.new.self
    ∙ ap (set (map handed w.processes.items) c.args.process) c.hand_over.ensures.handed)

pub returns-clause-part : goal.returns-clause-part
returns-clause-part g c = λ x at.
    let w = c.args.self.now in
    let owner = c.index_mut-owner.result.now in
    let handed = g.P.LogicalProcess.handed in
    let state = g.P.LogicalProcess.state in
    let here = read_at w.processes c.args.process owner c.requires.process c.index_mut-owner.ensures.value in
    let both : Some owner ≡ Some x = sym here ∙ at in
    let same : owner ≡ x = cc in
    subst (λ z. (state z).part ≡ joined (handed z).past c.hand_over.result) same c.hand_over.ensures.part
