use Rattle.std.proofs.Common.{◌≡◌, ℕ, ◌+◌, ◌<◌, ◌≤◌, ◌++◌, ◌∷◌, [], Bool, List, OnErr, Result, Ok, Err, length, take, sym, ap, arith, ◌∙◌}
use Rattle.std.proofs.Common.{append_assoc}
use Rattle.std.proofs.lemmas.List.{append-nil, length-append}
use Rattle.std.specs.Vec.{vec_capacity, vec_len}
use Rattle.dv_agenda.specs.Waits.{due_at}
use Rattle.dv_agenda.proofs.FirstWaits.{due_more, one_due, one_more_due}
use Rattle.dv_agenda.proofs.wait.push_due.Goals as goal

on_err : {T E P : Type 0} (r : Result T E) → P → OnErr r P
on_err (Ok x) h = tt
on_err (Err e) h = h

pub returns-in_err-push-clause-full : goal.returns-in_err-push-clause-full
returns-in_err-push-clause-full c = λ before e.
    let more : length (due_at c.args.time (take c.args.index c.args.waits.now)) < length (due_at c.args.time c.args.waits.now) =
    one_more_due c.args.time c.args.waits.now c.args.index (sym c.is_due.ensures.due ∙ c.if-is_due.true) in
    let count : length c.args.into.now.items ≡ length before + length (due_at c.args.time (take c.args.index c.args.waits.now)) =
    ap length e ∙ length-append before _ in
    let now : length c.args.into.now.items ≡ vec_len c.args.into.now = sym c.args.into.now.ok.0 in
    let full : vec_capacity c.args.into.now ≤ vec_len c.args.into.now = c.in_err-push.ensures.full in
    on_err c.from_residual.result (omega arith)

pub returns-in_ok-push-clause-due : goal.returns-in_ok-push-clause-due
returns-in_ok-push-clause-due c = λ before e.
    let due : List ℕ = due_at c.args.time (take c.args.index c.args.waits.now) in
    c.in_ok-push.ensures.items
    ∙ ap (λ (ps : List ℕ). ps ++ (c.args.index ∷ [])) e
    ∙ append_assoc before due (c.args.index ∷ [])
    ∙ ap (λ (ps : List ℕ). before ++ ps)
    (ap (λ (b : Bool). due ++ one_due b c.args.index) (sym (sym c.is_due.ensures.due ∙ c.if-is_due.true))
    ∙ sym (due_more c.args.time c.args.waits.now c.args.index))

pub returns-else-is_due-clause-due : goal.returns-else-is_due-clause-due
returns-else-is_due-clause-due c = λ before e.
    let due : List ℕ = due_at c.args.time (take c.args.index c.args.waits.now) in
    e
    ∙ ap (λ (ps : List ℕ). before ++ ps)
    (sym (append-nil due)
    ∙ ap (λ (b : Bool). due ++ one_due b c.args.index) (sym (sym c.is_due.ensures.due ∙ c.if-is_due.false))
    ∙ sym (due_more c.args.time c.args.waits.now c.args.index))
