use Rattle.std.proofs.Common.{◌≡◌, ℕ, ◌*◌, ◌/◌, ◌<◌, List, length, sym, ap, subst, arith, ◌∙◌}
use Rattle.std.proofs.lemmas.List.{get_or_default, with_items_is}
use Rattle.std.specs.Vec.{with_items}
use Rattle.dv_agenda.specs.Sets.{IsHeaded, has}
use Rattle.dv_agenda.proofs.Sets.{headed_more}
use Rattle.dv_agenda.proofs.set.Set.insert.Goals as goal

pub invariant_of-self-else-was_empty : goal.invariant_of-self-else-was_empty
invariant_of-self-else-was_empty c =
    let words : List ℕ = c.self.inside.words.items in
    let words_are : (with_items c.self.inside.words c.insert.new.words).items ≡ c.insert.new.words =
    with_items_is c.self.inside.words c.insert.new.words (c.insert.ensures.size ∙ c.deref_mut.ensures.len) in
    let within : c.args.number < 64 * length c.self.inside.words.items =
    subst (λ (ws : List ℕ). c.args.number < 64 * length ws) (sym c.self.view_is) c.requires in
    subst (IsHeaded c.self.inside.heads.items) (sym words_are)
    (headed_more c.self.inside.heads.items words c.insert.new.words c.args.number c.index.result.now c.self.invariant
    (c.insert.ensures.size ∙ ap length c.deref_mut.ensures.value)
    (get_or_default words (c.args.number / 64) 0 c.index.result.now (omega arith) ∙ sym c.index.ensures)
    c.if-was_empty.false (omega arith)
    (λ q ne. c.insert.ensures.others q ne ∙ ap (λ (ws : List ℕ). has ws q) c.deref_mut.ensures.value))
