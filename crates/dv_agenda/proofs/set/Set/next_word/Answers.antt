use Rattle.std.proofs.Common.{ℕ, ◌/◌, List, sym, ap, arith, ◌∙◌}
use Rattle.dv_agenda.specs.Sets.{has}
use Rattle.dv_agenda.proofs.Sets.{none_unheaded}
use Rattle.dv_agenda.proofs.set.Set.next_word.Goals as goal

pub returns-clause-none : goal.returns-clause-none
returns-clause-none c = λ p le lt.
    ap (λ (ws : List ℕ). has ws p) (sym c.self.view_is)
    ∙ none_unheaded c.self.inside.heads.items c.self.inside.words.items p c.self.invariant
    (ap (λ (hs : List ℕ). has hs (p / 64)) (sym c.deref.ensures.value) ∙ c.next.ensures.none (p / 64) (omega arith) (omega arith))
