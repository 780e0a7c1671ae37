use Rattle.std.proofs.Common.{◌≡◌, ◌<◌, length, get_or, ap, subst, sym, ◌∙◌, arith, below_more}
use Rattle.std.specs.Vec.{vec_len}
use Rattle.dv_time.specs.declared.time.Time.{Time}
use Rattle.dv_core.specs.Kept.{clock_of}
use Rattle.dv_core.proofs.Answering.{read_at, shown_at}
use Rattle.dv_core.proofs.Driving.{are_the_trace, is_end, processes_counted}
use Rattle.dv_core.proofs.state.WorldState.whole.Goals as goal

pub returns-then-clock-end-clause-whole : goal.returns-then-clock-end-clause-whole
returns-then-clock-end-clause-whole g c =
    let w = c.args.self.now in
    let count = processes_counted w c.requires in
    let items = c.deref-process-items.ensures.value in
    let same = ap length items in
    let long = w.processes.ok.0 in
    let within : c.loop-process.process-index < vec_len w.processes = omega (arith, c.loop-process-test.true) in
    let is : c.process-item.result ≡ get_or w.processes.items c.loop-process.process-index c.process-item.result
    = subst (λ xs. c.process-item.result ≡ get_or xs c.loop-process.process-index c.process-item.result) items c.process-item.is in
    let here = read_at w.processes c.loop-process.process-index c.process-item.result within is in
    let seen = shown_at g.P.LogicalProcess.state w.processes.items c.loop-process.process-index c.process-item.result here in
    let clock = ap clock_of seen ∙ sym c.clock-clock.ensures in (
      λ h. absurd (cc),
      λ is_whole.
          let at = is_whole c.loop-process.process-index (omega arith) in
          let tick = ap (λ (t : Time). t.tick) (sym clock ∙ at) in
          absurd (omega (arith, c.horizon-end.ensures.is)),
    )

pub returns-then-clock-ne0-clause-whole : goal.returns-then-clock-ne0-clause-whole
returns-then-clock-ne0-clause-whole g c =
    let w = c.args.self.now in
    let count = processes_counted w c.requires in
    let items = c.deref-process-items.ensures.value in
    let same = ap length items in
    let long = w.processes.ok.0 in
    let within : c.loop-process.process-index < vec_len w.processes = omega (arith, c.loop-process-test.true) in
    let is : c.process-item.result ≡ get_or w.processes.items c.loop-process.process-index c.process-item.result
    = subst (λ xs. c.process-item.result ≡ get_or xs c.loop-process.process-index c.process-item.result) items c.process-item.is in
    let here = read_at w.processes c.loop-process.process-index c.process-item.result within is in
    let seen = shown_at g.P.LogicalProcess.state w.processes.items c.loop-process.process-index c.process-item.result here in
    let clock = ap clock_of seen ∙ sym c.clock-clock.ensures in (
      λ h. absurd (cc),
      λ is_whole.
          let at = is_whole c.loop-process.process-index (omega arith) in
          let micro = ap (λ (t : Time). t.micro) (sym clock ∙ at) in
          absurd (omega arith),
    )

pub loop-process-preserved : goal.loop-process-preserved
loop-process-preserved g c =
    let w = c.args.self.now in
    let count = processes_counted w c.requires in
    let items = c.deref-process-items.ensures.value in
    let same = ap length items in
    let long = w.processes.ok.0 in
    let within : c.loop-process.process-index < vec_len w.processes = omega (arith, c.loop-process-test.true) in
    let is : c.process-item.result ≡ get_or w.processes.items c.loop-process.process-index c.process-item.result
    = subst (λ xs. c.process-item.result ≡ get_or xs c.loop-process.process-index c.process-item.result) items c.process-item.is in
    let here = read_at w.processes c.loop-process.process-index c.process-item.result within is in
    let seen = shown_at g.P.LogicalProcess.state w.processes.items c.loop-process.process-index c.process-item.result here in
    let clock = ap clock_of seen ∙ sym c.clock-clock.ensures in
    let end = is_end c.clock-clock.result (g.J.PlannedJob.means w.job) c.horizon-end.result c.horizon-end.ensures.is c.if-clock-end.false
    c.if-clock-ne0.false in
    below_more _ _ c.loop-process.invariant (clock ∙ end)

pub returns-clause-trace : goal.returns-clause-trace
returns-clause-trace g c =
    let w = c.args.self.now in
    let count = processes_counted w c.requires in
    let same = ap length c.deref-process-items.ensures.value in
    let long = w.processes.ok.0 in
    λ _. are_the_trace w c.requires (λ p lt. c.loop-process.invariant p (omega (arith, c.loop-process-test.false)))
