use Rattle.std.proofs.Common.{◌≡◌, ◌<◌, slice_index_or, sym, ap, subst, ◌∙◌}
use Rattle.std.proofs.Math.ListN.{set}
use Rattle.dv_time.specs.declared.time.Time.{Time}
use Rattle.dv_board.specs.Clocks.{later}
use Rattle.dv_conservative.specs.Process.{first_time}
use Rattle.dv_conservative.specs.World.{Job}
use Rattle.dv_core.specs.Kept.{Kept}
use Rattle.dv_core.proofs.Answering.{shown_at}
use Rattle.dv_work.specs.Seats.{HasHandedOver}
use Rattle.dv_work.proofs.Posting.{rest_is_piece}
use Rattle.dv_stream.proofs.Joining.{clocks_after, joined_after, over_there, some_same}
use Rattle.dv_stream.proofs.rounds.join_one.Goals as goal

pub process-requires : goal.process-requires
process-requires g c = subst (λ (j : Job). c.args.process < j.processes) c.requires.job c.requires.process

pub hand_over-part-requires : goal.hand_over-part-requires
hand_over-part-requires g c = subst (λ (j : Job). c.args.process < j.processes) c.requires.job c.requires.process

pub extend-requires : goal.extend-requires
extend-requires g c =
    let job = g.N.OfJob.job in
    let state = g.P.LogicalProcess.state in
    let handed = g.P.LogicalProcess.handed in
    let items = c.args.world.now.processes.items in
    let p = c.args.process in
    let x = c.process.result.now in
    let at = c.process.ensures.process in
    let whole = c.requires.true_to_model in
    let seen = shown_at state items p x at in
    let over = over_there job state handed items c.args.backlog.now.clocks c.requires.joined p x at c.requires.process in
    rest_is_piece job p (state x) (handed x) c.clock-from.result
    (subst (HasHandedOver job p (state x) (handed x)) (sym c.clock-from.ensures.kept) over)
    (whole.parts p (state x) seen) c.hand_over-part.result (c.hand_over-part.ensures.part x at) c.requires.process
    (whole.within p (state x) seen) c.clock-clock.result c.clock-clock.ensures

pub returns-clause-joined : goal.returns-clause-joined
returns-clause-joined g c =
    let job = g.N.OfJob.job in
    let state = g.P.LogicalProcess.state in
    let handed = g.P.LogicalProcess.handed in
    let items = c.args.world.now.processes.items in
    let clocks = c.args.backlog.now.clocks in
    let p = c.args.process in
    let x = c.process.result.now in
    let at = c.process.ensures.process in
    let whole = c.requires.true_to_model in
    let seen = shown_at state items p x at in
    let from = slice_index_or clocks p first_time in
    joined_after job state handed items clocks c.requires.joined p x at c.requires.process (whole.parts p (state x) seen)
    (whole.within p (state x) seen) c.hand_over-part.new.self.processes.items
    (ap (λ (k : Kept). k.states) c.hand_over-part.ensures.kept) (c.hand_over-part.ensures.handed x at) c.extend.new.self.clocks
    (c.in-Ok.ensures.clocks ∙ ap (λ (t : Time). set clocks p (later from t)) c.clock-clock.ensures)

pub returns-clause-clock : goal.returns-clause-clock
returns-clause-clock g c = λ y there.
    let job = g.N.OfJob.job in
    let state = g.P.LogicalProcess.state in
    let handed = g.P.LogicalProcess.handed in
    let items = c.args.world.now.processes.items in
    let clocks = c.args.backlog.now.clocks in
    let p = c.args.process in
    let x = c.process.result.now in
    let at = c.process.ensures.process in
    let whole = c.requires.true_to_model in
    let seen = shown_at state items p x at in
    let from = slice_index_or clocks p first_time in
    let same : x ≡ y = some_same at there in
    clocks_after job state handed items clocks c.requires.joined p x at c.requires.process (whole.parts p (state x) seen)
    (whole.within p (state x) seen) c.hand_over-part.new.self.processes.items
    (ap (λ (k : Kept). k.states) c.hand_over-part.ensures.kept) (c.hand_over-part.ensures.handed x at) c.extend.new.self.clocks
    (c.in-Ok.ensures.clocks ∙ ap (λ (t : Time). set clocks p (later from t)) c.clock-clock.ensures)
    ∙ ap (λ z. set clocks p (state z).position.clock) same
