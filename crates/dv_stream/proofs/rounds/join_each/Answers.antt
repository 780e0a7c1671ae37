use Rattle.std.proofs.Common.{◌≡◌, ◌+◌, List, map, refl, sym, ap, subst, ◌∙◌, arith}
use Rattle.std.proofs.lemmas.List.{length-map}
use Rattle.dv_time.specs.declared.time.Time.{Time}
use Rattle.dv_core.specs.Kept.{Kept}
use Rattle.dv_core.specs.ProcessState.{ProcessState}
use Rattle.dv_core.specs.Worlds.{IsTrueToModel}
use Rattle.dv_core.proofs.Answering.{shown_at}
use Rattle.dv_core.proofs.Lookups.{some_at}
use Rattle.dv_stream.proofs.Joining.{AreAtFirst, all_at_first, clock_there, first_after}
use Rattle.dv_stream.proofs.rounds.join_each.Goals as goal

pub join_one-requires-clause-job : goal.join_one-requires-clause-job
join_one-requires-clause-job g c = c.requires.job ∙ ap g.J.PlannedJob.means (sym c.loop-process.invariant.job)

pub join_one-requires-clause-true_to_model : goal.join_one-requires-clause-true_to_model
join_one-requires-clause-true_to_model g c =
    subst (IsTrueToModel g.N.OfJob.job) (sym c.loop-process.invariant.kept) c.requires.true_to_model

pub loop-process-init : goal.loop-process-init
loop-process-init g c = record {
  job = refl;
  kept = refl;
  mark = refl;
  joined = c.requires.joined;
  first = λ p x t lt. absurd (omega (arith, lt));
}

pub loop-process-preserved : goal.loop-process-preserved
loop-process-preserved g c =
    let job = g.N.OfJob.job in
    let state = g.P.LogicalProcess.state in
    let handed = g.P.LogicalProcess.handed in
    let is = c.loop-process.invariant in
    let w = c.loop-process.world in
    let items = w.processes.items in
    let p = c.loop-process.process in
    let clocks = c.loop-process.backlog.clocks in
    let next = c.in_ok-join_one.ensures in
    let whole = subst (IsTrueToModel job) (sym is.kept) c.requires.true_to_model in
    let many = whole.count ∙ sym c.requires.processes in
    let inside = c.loop-process-test.true in
    let one = some_at items p
    (let long = length-map items state in omega (arith, many, long, inside, c.loop-process.auto.process-end)) in
    let states : map state c.join_one.new.world.processes.items ≡ map state items = ap (λ (k : Kept). k.states) next.kept in
    let there = clock_there job state handed items clocks is.joined p one.0 one.1
    (let n = c.requires.processes in omega (arith, n, inside, c.loop-process.auto.process-end)) in
    record {
      job = next.job ∙ is.job;
      kept = next.kept ∙ is.kept;
      mark = next.mark ∙ is.mark;
      joined = next.joined;
      first = subst (λ (xs : List ProcessState). AreAtFirst xs c.join_one.new.backlog.clocks (p + 1)) (sym states)
          (subst (λ (ts : List Time). AreAtFirst (map state items) ts (p + 1)) (sym (next.clock one.0 one.1))
          (first_after (map state items) clocks p (state one.0) _ is.first (shown_at state items p one.0 one.1) there));
    }

pub returns-clause-clocks : goal.returns-clause-clocks
returns-clause-clocks g c =
    let job = g.N.OfJob.job in
    let state = g.P.LogicalProcess.state in
    let is = c.loop-process.invariant in
    let items = c.loop-process.world.processes.items in
    let whole = subst (IsTrueToModel job) (sym is.kept) c.requires.true_to_model in
    let n : c.loop-process.process ≡ job.processes
    = (let e = c.requires.processes in omega (arith, e, c.loop-process-test.false, c.loop-process.auto.process-end)) in
    all_at_first state items c.loop-process.backlog.clocks c.loop-process.process (is.joined.count ∙ sym n)
    (sym (length-map items state) ∙ whole.count ∙ sym n) is.first
