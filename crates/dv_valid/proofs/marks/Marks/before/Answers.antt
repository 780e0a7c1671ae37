use Rattle.std.proofs.Common.{◌≡◌, ◌+◌, length, ap, sym, ◌∙◌, subst}
use Rattle.std.proofs.lemmas.Result.{IfOk-weaker}
use Rattle.dv_code.specs.Shape.{left_by}
use Rattle.dv_valid.specs.Marks.{Settles, mark_of, meaning, meaning_at, settling_address}
use Rattle.dv_valid.proofs.Unique.{forced_parts}
use Rattle.dv_valid.proofs.marks.Marks.before.Goals as goal

pub returns-in-Some-clause-only : goal.returns-in-Some-clause-only
returns-in-Some-clause-only c =
    let self = c.args.self.now in
    let next = c.args.address + 1 in
    let i = c.args.instruction in
    let there : mark_of self (settling_address next i) ≡ meaning self.stacks c.in-Some.after =
    ap (mark_of self) (sym c.settling_address.ensures) ∙ ap (meaning_at self.stacks) (sym c.mark.ensures ∙ c.in-Some.is) in
    IfOk-weaker c.mark_before.result _ _
    (λ found h here f.
    let parts = forced_parts (left_by c.args.sort) (length self.by_address.items) (mark_of self) next i here c.in_default.not-End f in
    h here parts.1 (subst (Settles next i here) there parts.2))
    c.mark_before.ensures.only
