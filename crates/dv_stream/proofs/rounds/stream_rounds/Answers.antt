use Rattle.std.proofs.Common.{◌≡◌, ℕ, ◌+◌, ◌-◌, false, List, map, refl, sym, ap, subst, ◌∙◌, arith}
use Rattle.dv_time.specs.declared.time.Time.{Time}
use Rattle.dv_core.specs.Worlds.{EndsAs, IsTrueToModel, kept_by, shown}
use Rattle.dv_core.specs.declared.step.Ended.{Ended}
use Rattle.dv_core.specs.declared.step.Ended.TheVariants as ended
use Rattle.dv_conservative.specs.Process.{first_time}
use Rattle.dv_conservative.specs.World.{Job}
use Rattle.dv_text.proofs.Taking.{OnErr-always}
use Rattle.dv_stream.specs.Rounds.{AreJoined}
use Rattle.dv_stream.specs.Written.{Falters, GoesOn}
use Rattle.dv_stream.specs.declared.written.Written.{Written}
use Rattle.dv_stream.proofs.Joining.{none_joined}
use Rattle.dv_stream.proofs.Rising.{ends_later}
use Rattle.dv_stream.proofs.Writing.{begun_from, nothing_written, written_further}
use Rattle.dv_stream.proofs.rounds.stream_rounds.Goals as goal

abbrev none : Written
none = record { mark = first_time; faulted = false }

pub advance-requires-clause-joined : goal.advance-requires-clause-joined
advance-requires-clause-joined g c =
    let state = g.P.LogicalProcess.state in
    let handed = g.P.LogicalProcess.handed in
    let items = c.args.world.now.processes.items in
    subst (λ (ts : List Time). AreJoined g.N.OfJob.job (map state items) (map handed items) ts) (sym c.requires.clocks)
    (none_joined g.N.OfJob.job state handed items c.requires.kept c.args.processes c.requires.processes)

pub returns-in_err-ended-clause-err : goal.returns-in_err-ended-clause-err
returns-in_err-ended-clause-err g c =
    let contents = g.W.Write.contents in
    let job = g.J.PlannedJob.means c.args.world.now.job in
    let tree = c.args.merger.now.lines in
    let start = contents c.args.writer.now in
    let now = contents c.advance.new.writer in
    OnErr-always _ (begun_from job tree c.a_trace_is_its_pieces.ensures.lines {a = start} {b = start} {c = now} none
    (nothing_written job tree c.a_trace_is_its_pieces.ensures.lines start none refl refl)
    (subst (λ (j : Job). Falters j tree start now none) c.requires.job c.in_err-ended.ensures.err))

pub loop-left-init : goal.loop-left-init
loop-left-init g c =
    let means = g.J.PlannedJob.means in
    let state = g.P.LogicalProcess.state in
    let contents = g.W.Write.contents in
    let job = means c.args.world.now.job in
    let tree = c.args.merger.now.lines in
    let start = contents c.args.writer.now in
    let now = contents c.advance.new.writer in
    let first = c.in_ok-ended in
    let gone : 0 ≡ c.args.rounds - c.args.rounds = omega arith in
    record {
      left = omega arith;
      same = first.ensures.job;
      tree = first.ensures.tree;
      joined = first.ensures.joined;
      mark = first.ensures.mark;
      within = first.ensures.within;
      rounds =
          subst (λ (n : ℕ). EndsAs job n first.ended (shown means state c.args.world.now) (shown means state c.advance.new.world)) gone
          (subst (λ (j : Job). EndsAs j 0 first.ended (shown means state c.args.world.now) (shown means state c.advance.new.world))
          c.requires.job first.ensures.rounds);
      true_to_model =
          subst (λ (j : Job). IsTrueToModel j (kept_by state c.advance.new.world))
          (c.requires.job ∙ ap means (sym first.ensures.job)) first.ensures.true_to_model;
      written =
          written_further job tree c.a_trace_is_its_pieces.ensures.lines {a = start} {b = start} {c = now} none
          (nothing_written job tree c.a_trace_is_its_pieces.ensures.lines start none refl refl) first.written
          (subst (λ (j : Job). GoesOn j tree start now none first.written) c.requires.job first.ensures.written);
      least = first.ensures.least;
    }

pub returns-in_err-ended-2-clause-err : goal.returns-in_err-ended-2-clause-err
returns-in_err-ended-2-clause-err g c =
    let contents = g.W.Write.contents in
    let job = g.J.PlannedJob.means c.args.world.now.job in
    let tree = c.args.merger.now.lines in
    let start = contents c.args.writer.now in
    let was = contents c.loop-left.writer in
    let now = contents c.advance-in-loop-left.new.writer in
    let at = c.loop-left.invariant in
    OnErr-always _ (begun_from job tree c.a_trace_is_its_pieces.ensures.lines {a = start} {b = was} {c = now} c.loop-left.written
    at.written
    (subst (λ t. Falters job t was now c.loop-left.written) at.tree
    (subst (λ (j : Job). Falters j c.loop-left.merger.lines was now c.loop-left.written) c.requires.job c.in_err-ended-2.ensures.err)))

pub loop-left-preserved : goal.loop-left-preserved
loop-left-preserved g c =
    let means = g.J.PlannedJob.means in
    let state = g.P.LogicalProcess.state in
    let contents = g.W.Write.contents in
    let job = means c.args.world.now.job in
    let tree = c.args.merger.now.lines in
    let start = contents c.args.writer.now in
    let was = contents c.loop-left.writer in
    let now = contents c.advance-in-loop-left.new.writer in
    let at = c.loop-left.invariant in
    let next = c.in_ok-ended-2 in
    let first = shown means state c.args.world.now in
    let before = shown means state c.loop-left.world in
    let after = shown means state c.advance-in-loop-left.new.world in
    let rounds = c.args.rounds in
    let left = c.loop-left.left in
    let batch = c.min-batch.result in
    let stalled : c.loop-left.ended ≡ ended.Stalled = c.is_stalled.ensures.0 c.if-is_stalled.true in
    let done : EndsAs job (rounds - left) ended.Stalled first before
    = subst (λ (e : Ended). EndsAs job (rounds - left) e first before) stalled at.rounds in
    let more : EndsAs job batch next.field-0-0 before after
    = subst (λ (j : Job). EndsAs j batch next.field-0-0 before after) c.requires.job next.ensures.rounds in
    let few = c.min-batch.ensures in
    let count : batch + (rounds - left) ≡ rounds - (left - batch) = omega (arith, few, at.left) in
    let same = next.ensures.job ∙ at.same in
    record {
      left = omega (arith, at.left);
      same = same;
      tree = next.ensures.tree ∙ at.tree;
      joined = next.ensures.joined;
      mark = next.ensures.mark;
      within = next.ensures.within;
      rounds =
          subst (λ (n : ℕ). EndsAs job n next.field-0-0 first after) count
          (ends_later job (rounds - left) batch next.field-0-0 first before after done more);
      true_to_model =
          subst (λ (j : Job). IsTrueToModel j (kept_by state c.advance-in-loop-left.new.world))
          (c.requires.job ∙ ap means (sym same)) next.ensures.true_to_model;
      written =
          written_further job tree c.a_trace_is_its_pieces.ensures.lines {a = start} {b = was} {c = now} c.loop-left.written at.written
          next.field-0-1
          (subst (λ t. GoesOn job t was now c.loop-left.written next.field-0-1) at.tree
          (subst (λ (j : Job). GoesOn j c.loop-left.merger.lines was now c.loop-left.written next.field-0-1) c.requires.job
          next.ensures.written));
      least = next.ensures.least;
    }
