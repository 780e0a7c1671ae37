use Rattle.std.proofs.Common.{◌≡◌, ◌∙◌, ℕ, List, true, ap, arith, length, nat_eq, nat_lt, subst, sym}
use Rattle.std.proofs.lemmas.Bool.Decides.{nat_tests}
use Rattle.std.specs.List.{list_all, list_any}
use Rattle.std.specs.Prelude.{is_none}
use Rattle.dv_time.specs.Time.{IsOfRun, rank}
use Rattle.dv_conservative.specs.Turn.{IsTurnOf, turned}
use Rattle.dv_proc.specs.Arriving.{received_by}
use Rattle.dv_proc.specs.Leaving.{is_prepared, position_by}
use Rattle.dv_proc.specs.Midway.{meant_turned}
use Rattle.dv_proc.specs.Standing.{IsProcess}
use Rattle.dv_proc.specs.declared.outgoing.Outgoing.{Outgoing}
use Rattle.dv_proc.proofs.Whole.{alone_answer, alone_process, alone_turn, least_before_end, whole_answer, whole_process, whole_turn, written_back}
use Rattle.dv_proc.proofs.process.Process.finish.Goals as goal

no_length : (xs : List Outgoing) → nat_eq (length xs) 0 ≡ true → length xs ≡ 0
no_length xs h = grind (arith, nat_tests)

pub promise_at-upto-requires-clause-within : goal.promise_at-upto-requires-clause-within
promise_at-upto-requires-clause-within g c =
    least_before_end (g.L.Local.view c.args.self.now.local).share c.args.self.now.incoming.items c.args.frame.now.limit
    c.args.frame.now.horizon
    (rank c.args.frame.now.limit c.args.least) c.requires.limit c.requires.horizon c.requires.least

pub returns-clause-process : goal.returns-clause-process
returns-clause-process g c =
    let count : length c.finish_all.new.outgoing ≡ length c.args.self.now.outgoing.items
    = c.finish_all.ensures.0 ∙ ap length c.as_mut_slice.ensures.value in
    let back = written_back c.args.self.now.outgoing.len c.finish_all.new.outgoing c.args.self.now.outgoing.items count
    (sym c.as_mut_slice.ensures.len ∙ ap length c.as_mut_slice.ensures.value) in
    subst (λ (zs : List Outgoing). IsProcess (g.L.Local.view c.args.self.now.local) c.args.self.now.incoming.items zs c.args.now) (sym back)
    (whole_process (g.L.Local.view c.args.self.now.local) c.args.self.now.incoming.items c.args.self.now.outgoing.items
    c.as_mut_slice.result.now c.finish_all.new.outgoing
    c.args.emitted c.args.self.now.clock c.args.now c.promise_at-upto.result c.requires.midway c.args.frame.now.limit
    c.args.frame.now.horizon
    (rank c.args.frame.now.limit c.args.least) c.promise_at-upto.ensures.promise.0 c.requires.limit c.requires.horizon c.requires.least
    c.promise_at-upto.ensures.promise.1.0 c.promise_at-upto.ensures.promise.1.1 c.promise_at-upto.ensures.of_run
    c.as_mut_slice.ensures.value
    c.finish_all.ensures c.requires.heard c.requires.goes)

pub returns-clause-turn : goal.returns-clause-turn
returns-clause-turn g c =
    let count : length c.finish_all.new.outgoing ≡ length c.args.self.now.outgoing.items
    = c.finish_all.ensures.0 ∙ ap length c.as_mut_slice.ensures.value in
    let back = written_back c.args.self.now.outgoing.len c.finish_all.new.outgoing c.args.self.now.outgoing.items count
    (sym c.as_mut_slice.ensures.len ∙ ap length c.as_mut_slice.ensures.value) in
    subst (λ (zs : List Outgoing).
    IsTurnOf (g.L.Local.view c.args.self.now.local).share (received_by c.args.self.now.incoming.items)
    (position_by c.args.self.now.clock c.args.self.now.outgoing.items) (position_by c.args.now zs)) (sym back)
    (whole_turn (g.L.Local.view c.args.self.now.local) c.args.self.now.incoming.items c.args.self.now.outgoing.items
    c.as_mut_slice.result.now c.finish_all.new.outgoing
    c.args.emitted c.args.self.now.clock c.args.now c.promise_at-upto.result c.requires.midway c.args.frame.now.limit
    c.args.frame.now.horizon
    (rank c.args.frame.now.limit c.args.least) c.promise_at-upto.ensures.promise.0 c.requires.limit c.requires.horizon c.requires.least
    c.promise_at-upto.ensures.promise.1.0 c.promise_at-upto.ensures.promise.1.1 c.promise_at-upto.ensures.of_run
    c.as_mut_slice.ensures.value
    c.finish_all.ensures c.requires.heard c.requires.goes)

pub returns-clause-answer : goal.returns-clause-answer
returns-clause-answer g c =
    let count : length c.finish_all.new.outgoing ≡ length c.args.self.now.outgoing.items
    = c.finish_all.ensures.0 ∙ ap length c.as_mut_slice.ensures.value in
    let back = written_back c.args.self.now.outgoing.len c.finish_all.new.outgoing c.args.self.now.outgoing.items count
    (sym c.as_mut_slice.ensures.len ∙ ap length c.as_mut_slice.ensures.value) in
    let now : IsOfRun c.args.frame.now.limit c.args.now
    = subst (λ (l : ℕ). IsOfRun l c.args.now) (sym c.requires.limit) c.requires.midway.within.0 in
    subst (λ (zs : List Outgoing).
    meant_turned c.answer-2.result
    ≡ turned (g.L.Local.view c.args.self.now.local).share (position_by c.args.self.now.clock c.args.self.now.outgoing.items)
    (position_by c.args.now zs)) (sym back)
    (c.answer-2.ensures ∙ whole_answer (g.L.Local.view c.args.self.now.local) c.args.self.now.incoming.items c.args.self.now.outgoing.items
    c.as_mut_slice.result.now c.finish_all.new.outgoing
    c.args.emitted c.args.self.now.clock c.args.now c.promise_at-upto.result c.requires.midway c.args.frame.now.limit
    c.args.frame.now.horizon
    (rank c.args.frame.now.limit c.args.least) c.promise_at-upto.ensures.promise.0 c.requires.limit c.requires.horizon c.requires.least
    c.promise_at-upto.ensures.promise.1.0 c.promise_at-upto.ensures.promise.1.1 c.promise_at-upto.ensures.of_run
    c.as_mut_slice.ensures.value
    c.finish_all.ensures c.requires.heard c.requires.goes
    c.is_before-2.result c.are_free-free.result c.is_before-rose.result c.can_prepare_any-prepared.result
    (c.is_before-2.ensures.rank c.args.frame.now.limit now c.end-2.ensures.of_run ∙ ap (nat_lt (rank c.args.frame.now.limit c.args.now))
    c.end-2.ensures.rank)
    (c.are_free-free.ensures ∙ ap (λ (zs : List Outgoing). list_all (λ (o : Outgoing). is_none o.standing) zs) (c.as_slice-3.ensures.value
    ∙ back))
    (c.is_before-rose.ensures.rank c.args.frame.now.limit c.requires.clock now)
    (c.can_prepare_any-prepared.ensures
    ∙ ap (λ (zs : List Outgoing). list_any (is_prepared c.promise_at-upto.result) zs) c.as_slice-2.ensures.value))

pub returns-then-is_empty-clause-process : goal.returns-then-is_empty-clause-process
returns-then-is_empty-clause-process g c =
    let none : length c.args.self.now.outgoing.items ≡ 0
    = sym (ap length c.as_slice.ensures.value) ∙ no_length c.as_slice.result.now (sym c.is_empty.ensures ∙ c.if-is_empty.true) in
    alone_process (g.L.Local.view c.args.self.now.local) c.args.self.now.incoming.items c.args.self.now.outgoing.items c.args.emitted
    c.args.self.now.clock c.args.now c.requires.midway none c.args.frame.now.limit c.args.frame.now.horizon
    (rank c.args.frame.now.limit c.args.least) c.requires.limit c.requires.horizon c.requires.least c.requires.heard c.requires.goes

pub returns-then-is_empty-clause-turn : goal.returns-then-is_empty-clause-turn
returns-then-is_empty-clause-turn g c =
    let none : length c.args.self.now.outgoing.items ≡ 0
    = sym (ap length c.as_slice.ensures.value) ∙ no_length c.as_slice.result.now (sym c.is_empty.ensures ∙ c.if-is_empty.true) in
    alone_turn (g.L.Local.view c.args.self.now.local) c.args.self.now.incoming.items c.args.self.now.outgoing.items c.args.emitted
    c.args.self.now.clock c.args.now c.requires.midway none c.args.frame.now.limit c.args.frame.now.horizon
    (rank c.args.frame.now.limit c.args.least) c.requires.limit c.requires.horizon c.requires.least c.requires.heard c.requires.goes

pub returns-then-is_empty-clause-answer : goal.returns-then-is_empty-clause-answer
returns-then-is_empty-clause-answer g c =
    let none : length c.args.self.now.outgoing.items ≡ 0
    = sym (ap length c.as_slice.ensures.value) ∙ no_length c.as_slice.result.now (sym c.is_empty.ensures ∙ c.if-is_empty.true) in
    let now : IsOfRun c.args.frame.now.limit c.args.now
    = subst (λ (l : ℕ). IsOfRun l c.args.now) (sym c.requires.limit) c.requires.midway.within.0 in
    c.answer.ensures ∙ alone_answer (g.L.Local.view c.args.self.now.local) c.args.self.now.incoming.items c.args.self.now.outgoing.items c.args.emitted
    c.args.self.now.clock c.args.now c.requires.midway none c.args.frame.now.limit c.args.frame.now.horizon
    (rank c.args.frame.now.limit c.args.least) c.requires.limit c.requires.horizon c.requires.least c.requires.heard c.requires.goes c.is_before.result c.is_before-rose.result
    (c.is_before.ensures.rank c.args.frame.now.limit now c.end.ensures.of_run ∙ ap (nat_lt (rank c.args.frame.now.limit c.args.now))
    c.end.ensures.rank)
    (c.is_before-rose.ensures.rank c.args.frame.now.limit c.requires.clock now)
