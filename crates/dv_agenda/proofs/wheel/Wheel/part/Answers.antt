use Rattle.std.proofs.Common.{◌≡◌, ℕ, None, ◌+◌, ◌++◌, false, List, Option, OnOk, Result, Ok, Err, get_or, sym, ap, subst, arith, ◌∙◌}
use Rattle.dv_time.specs.declared.time.Time.{Time}
use Rattle.dv_agenda.specs.Agendas.{IsIn}
use Rattle.dv_agenda.specs.Waits.{ends_at, without}
use Rattle.dv_agenda.proofs.FirstWaits.{due_skip}
use Rattle.dv_agenda.proofs.Hands.{unless_is, unless_not, without_at}
use Rattle.dv_agenda.proofs.wheel.Wheel.part.Goals as goal

on_ok : {T E P : Type 0} (r : Result T E) → P → OnOk r P
on_ok (Ok x) h = h
on_ok (Err e) h = tt

-- the wait of a component that does not wait for a time is not left out
stays : (t : Time) (ws : List (Option Time)) (p : ℕ) (w : Option Time) → w ≡ get_or ws p None → ends_at t (get_or ws p None) ≡ false
    → get_or (without t ws) p None ≡ w
stays t ws p w is later = without_at t ws p ∙ unless_not t (get_or ws p None) later ∙ sym is

pub returns-then-is_due-clause-there : goal.returns-then-is_due-clause-there
returns-then-is_due-clause-there c =
    let ws : List (Option Time) = c.args.waits.now in
    on_ok c.push_due.result (subst (IsIn c.args.self.now c.args.index)
    (sym (without_at c.args.time ws c.args.index
    ∙ unless_is c.args.time (get_or ws c.args.index None) (sym c.is_due.ensures.due ∙ c.if-is_due.true))) tt)

pub returns-clause-there : goal.returns-clause-there
returns-clause-there c =
    subst (IsIn c.put.new.self c.args.index)
    (sym (stays c.args.time c.args.waits.now c.args.index c.wait_at.result c.wait_at.ensures
    (sym c.is_due.ensures.due ∙ c.if-is_due.false))) c.put.ensures.there

pub returns-clause-held : goal.returns-clause-held
returns-clause-held c =
    c.put.ensures.held (without c.args.time c.args.waits.now)
    (stays c.args.time c.args.waits.now c.args.index c.wait_at.result c.wait_at.ensures
    (sym c.is_due.ensures.due ∙ c.if-is_due.false)) c.requires.held

pub returns-clause-due : goal.returns-clause-due
returns-clause-due c = λ before e.
    let ws : List (Option Time) = c.args.waits.now in
    e ∙ ap (λ (ps : List ℕ). before ++ ps)
    (sym (due_skip c.args.time ws c.args.index (c.args.index + 1) (omega arith) (λ p low lt.
    let here : c.args.index ≡ p = omega arith in
    subst (λ (i : ℕ). ends_at c.args.time (get_or ws i None) ≡ false) here (sym c.is_due.ensures.due ∙ c.if-is_due.false))))
