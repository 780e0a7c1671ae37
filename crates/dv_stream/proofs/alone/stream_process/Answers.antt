use Rattle.std.proofs.Common.{◌≡◌, ℕ, ◌+◌, ◌-◌, ◌∷◌, [], false, map, refl, sym, ap, subst, ◌∙◌, arith}
use Rattle.dv_conservative.specs.Process.{first_time}
use Rattle.dv_core.specs.Worlds.{EndsAs, shown}
use Rattle.dv_core.specs.declared.step.Ended.{Ended}
use Rattle.dv_core.specs.declared.step.Ended.TheVariants as ended
use Rattle.dv_text.proofs.Taking.{OnErr-always}
use Rattle.dv_stream.specs.Alone.{Breaks, Continues, HasHandedTo, by_tree}
use Rattle.dv_stream.specs.Written.{lines_before}
use Rattle.dv_stream.specs.declared.written.Written.{Written}
use Rattle.dv_stream.proofs.Telling.{broken_off, first_rank, nothing_yet, written_on}
use Rattle.dv_stream.proofs.Rising.{ends_later}
use Rattle.dv_stream.proofs.alone.stream_process.Goals as goal

abbrev none : Written
none = record { mark = first_time; faulted = false }

pub advance_alone-requires-clause-handed : goal.advance_alone-requires-clause-handed
advance_alone-requires-clause-handed g c =
    let job = g.J.PlannedJob.means c.args.world.now.job in
    let tree = c.args.tree.now in
    c.requires.handed ∙ ap (λ (n : ℕ). by_tree tree (lines_before job tree n) ∷ []) (sym (first_rank job tree))

pub returns-in_err-ended-clause-err : goal.returns-in_err-ended-clause-err
returns-in_err-ended-clause-err g c =
    let job = g.J.PlannedJob.means c.args.world.now.job in
    let tree = c.args.tree.now in
    let contents = g.W.Write.contents in
    let start = contents c.args.writer.now in
    OnErr-always _ (broken_off job tree {a = start} {b = start} {c = contents c.advance_alone.new.writer} none
    (nothing_yet job tree start none refl refl) c.in_err-ended.ensures.err)

pub loop-left-init : goal.loop-left-init
loop-left-init g c =
    let means = g.J.PlannedJob.means in
    let state = g.P.LogicalProcess.state in
    let contents = g.W.Write.contents in
    let job = means c.args.world.now.job in
    let tree = c.args.tree.now in
    let start = contents c.args.writer.now in
    let now = contents c.advance_alone.new.writer in
    let first = c.in_ok-ended in
    let gone : 0 ≡ c.args.rounds - c.args.rounds = omega arith in
    record {
      left = omega arith;
      some = first.ensures.some;
      same = first.ensures.job;
      rounds =
          subst (λ (n : ℕ). EndsAs job n first.ended (shown means state c.args.world.now) (shown means state c.advance_alone.new.world))
          gone first.ensures.rounds;
      true_to_model = first.ensures.true_to_model;
      handed = first.ensures.handed;
      written =
          written_on job tree {a = start} {b = start} {c = now} none (nothing_yet job tree start none refl refl) first.written
          first.ensures.ok;
      least = first.ensures.least;
    }

pub returns-in_err-ended-2-clause-err : goal.returns-in_err-ended-2-clause-err
returns-in_err-ended-2-clause-err g c =
    let means = g.J.PlannedJob.means in
    let contents = g.W.Write.contents in
    let job = means c.args.world.now.job in
    let tree = c.args.tree.now in
    let start = contents c.args.writer.now in
    let was = contents c.loop-left.writer in
    let now = contents c.advance_alone-in-loop-left.new.writer in
    let at = c.loop-left.invariant in
    OnErr-always _ (broken_off job tree {a = start} {b = was} {c = now} c.loop-left.written at.written
    (subst (λ j. Breaks (means j) tree was now c.loop-left.written) at.same c.in_err-ended-2.ensures.err))

pub loop-left-preserved : goal.loop-left-preserved
loop-left-preserved g c =
    let means = g.J.PlannedJob.means in
    let state = g.P.LogicalProcess.state in
    let contents = g.W.Write.contents in
    let job = means c.args.world.now.job in
    let tree = c.args.tree.now in
    let start = contents c.args.writer.now in
    let was = contents c.loop-left.writer in
    let now = contents c.advance_alone-in-loop-left.new.writer in
    let at = c.loop-left.invariant in
    let next = c.in_ok-ended-2 in
    let first = shown means state c.args.world.now in
    let before = shown means state c.loop-left.world in
    let after = shown means state c.advance_alone-in-loop-left.new.world in
    let rounds = c.args.rounds in
    let left = c.loop-left.left in
    let batch = c.min-batch.result in
    let stalled : c.loop-left.ended ≡ ended.Stalled = c.is_stalled.ensures.0 c.if-is_stalled.true in
    let done : EndsAs job (rounds - left) ended.Stalled first before
    = subst (λ (e : Ended). EndsAs job (rounds - left) e first before) stalled at.rounds in
    let more : EndsAs job batch next.field-0-0 before after
    = subst (λ j. EndsAs (means j) batch next.field-0-0 before after) at.same next.ensures.rounds in
    let few = c.min-batch.ensures in
    let count : batch + (rounds - left) ≡ rounds - (left - batch) = omega (arith, few, at.left) in
    record {
      left = omega (arith, at.left);
      some = next.ensures.some;
      same = next.ensures.job ∙ at.same;
      rounds =
          subst (λ (n : ℕ). EndsAs job n next.field-0-0 first after) count
          (ends_later job (rounds - left) batch next.field-0-0 first before after done more);
      true_to_model = next.ensures.true_to_model;
      handed =
          subst (λ j. HasHandedTo (means j) tree next.field-0-1
          (map g.P.LogicalProcess.handed c.advance_alone-in-loop-left.new.world.processes.items)) at.same next.ensures.handed;
      written =
          written_on job tree {a = start} {b = was} {c = now} c.loop-left.written at.written next.field-0-1
          (subst (λ j. Continues (means j) tree was now c.loop-left.written next.field-0-1) at.same next.ensures.ok);
      least = next.ensures.least;
    }
