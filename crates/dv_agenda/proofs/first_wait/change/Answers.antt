use Rattle.std.proofs.Common.{◌≡◌, true, false, sym, ◌∙◌}
use Rattle.dv_agenda.proofs.FirstWaits.{first_after, first_stays}
use Rattle.dv_agenda.proofs.first_wait.change.Goals as goal

pub returns-then-is_same : goal.returns-then-is_same
returns-then-is_same c = λ ws index lt at known yes.
    first_after ws index c.args.first.now.wait c.args.wait lt (known yes) (sym c.earliest.ensures ∙ c.is_same.ensures.0 c.if-is_same.true)

pub returns-else-is_same-2 : goal.returns-else-is_same-2
returns-else-is_same-2 c = λ ws index lt at known yes.
    first_stays ws index c.args.first.now.wait c.args.wait lt (known yes)
    (λ e. let no : false ≡ true = sym c.if-is_same-2.false ∙ c.is_same-2.ensures.1 (at ∙ e) in cc)
    (λ e. let no : false ≡ true = sym c.if-is_same.false ∙ c.is_same.ensures.1 (c.earliest.ensures ∙ e) in cc)
