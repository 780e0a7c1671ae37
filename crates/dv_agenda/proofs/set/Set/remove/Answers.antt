use Rattle.std.proofs.Common.{◌≡◌, ℕ, ◌/◌, List, get_or, length, sym, ap, subst, ◌∙◌}
use Rattle.std.proofs.lemmas.List.{with_items_is}
use Rattle.std.specs.Vec.{with_items}
use Rattle.dv_agenda.specs.Sets.{IsHeaded, has}
use Rattle.dv_agenda.proofs.Sets.{headed_nil, headed_remove}
use Rattle.dv_agenda.proofs.set.Set.remove.Goals as goal

pub invariant_of-self : goal.invariant_of-self
invariant_of-self c =
    let words2 : List ℕ = c.remove.new.words in
    let heads2 : List ℕ = c.remove-then-index-eq0.new.words in
    let n : ℕ = c.args.number in
    let words_are : (with_items c.self.inside.words c.remove.new.words).items ≡ c.remove.new.words =
    with_items_is c.self.inside.words c.remove.new.words (c.remove.ensures.size ∙ c.deref_mut.ensures.len) in
    let heads_are : (with_items c.self.inside.heads c.remove-then-index-eq0.new.words).items ≡ c.remove-then-index-eq0.new.words =
    with_items_is c.self.inside.heads c.remove-then-index-eq0.new.words
    (c.remove-then-index-eq0.ensures.size ∙ c.deref_mut-then-index-eq0.ensures.len) in
    let nil : get_or c.remove.new.words (c.args.number / 64) 0 ≡ 0 =
    ap (λ (ws : List ℕ). get_or ws (c.args.number / 64) 0) (sym words_are)
    ∙ ap (λ (d : ℕ). get_or (with_items c.self.inside.words c.remove.new.words).items (c.args.number / 64) d) (sym c.if-index-eq0.true)
    ∙ sym c.index.ensures ∙ c.if-index-eq0.true in
    subst (λ (hs : List ℕ). IsHeaded hs (with_items c.self.inside.words c.remove.new.words).items) (sym heads_are)
    (subst (λ (ws : List ℕ). IsHeaded heads2 ws) (sym words_are)
    (headed_nil c.self.inside.heads.items heads2 words2 n
    (headed_remove c.self.inside.heads.items c.self.inside.words.items words2 n c.self.invariant
    (c.remove.ensures.size ∙ ap length c.deref_mut.ensures.value) c.remove.ensures.gone
    (λ q ne. c.remove.ensures.others q ne ∙ ap (λ (ws : List ℕ). has ws q) c.deref_mut.ensures.value))
    (c.remove-then-index-eq0.ensures.size ∙ ap length c.deref_mut-then-index-eq0.ensures.value) nil
    (λ q ne. c.remove-then-index-eq0.ensures.others q ne ∙ ap (λ (hs : List ℕ). has hs q) c.deref_mut-then-index-eq0.ensures.value)))
