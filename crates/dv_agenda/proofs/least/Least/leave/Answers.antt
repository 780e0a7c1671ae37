use Rattle.std.proofs.Common.{◌≡◌, true, false, sym, ◌∙◌}
use Rattle.dv_agenda.proofs.Leasts.{held_still}
use Rattle.dv_agenda.proofs.least.Least.leave.Goals as goal

pub returns-else-is_same-clause-held : goal.returns-else-is_same-clause-held
returns-else-is_same-clause-held c = λ ws now s index w lt e is h.
    held_still ws now s index w c.args.time c.args.self.now lt e
    (λ d. let no : false ≡ true = sym c.if-is_same.false ∙ c.is_same.ensures.1 d in cc) h
