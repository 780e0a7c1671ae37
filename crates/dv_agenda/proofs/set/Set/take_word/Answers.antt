use Rattle.std.proofs.Common.{◌≡◌, ℕ, ◌/◌, ◌<◌, List, length, set, sym, ap, subst, arith, ◌∙◌}
use Rattle.std.proofs.lemmas.List.{with_items_is}
use Rattle.std.specs.Vec.{with_items}
use Rattle.dv_agenda.specs.Sets.{IsHeaded, has}
use Rattle.dv_agenda.proofs.Sets.{headed_taken, none_unheaded, others_nil}
use Rattle.dv_agenda.proofs.set.Set.take_word.Goals as goal

pub invariant_of-self : goal.invariant_of-self
invariant_of-self c =
    let words : List ℕ = c.self.inside.words.items in
    let heads_are : (with_items c.self.inside.heads c.pass-next.new.words).items ≡ c.pass-next.new.words =
    with_items_is c.self.inside.heads c.pass-next.new.words (c.pass-next.ensures.size ∙ c.deref_mut.ensures.len) in
    let here : c.args.at < length c.args.self.now = omega (arith, c.requires.at, c.requires.within) in
    let lt : c.args.at < length c.self.inside.words.items =
    subst (λ (ws : List ℕ). c.args.at < length ws) (sym c.self.view_is) here in
    subst (λ (hs : List ℕ). IsHeaded hs (set words c.args.at 0)) (sym heads_are)
    (headed_taken c.self.inside.heads.items c.pass-next.new.words words c.args.at c.self.invariant lt
    (c.pass-next.ensures.size ∙ ap length c.deref_mut.ensures.value)
    (λ q ne. c.pass-next.ensures.others q ne ∙ ap (λ (hs : List ℕ). has hs q) c.deref_mut.ensures.value))

pub returns-clause-others : goal.returns-clause-others
returns-clause-others c = λ p ne one.
    others_nil c.self.inside.words.items c.args.at p ne ∙ ap (λ (ws : List ℕ). has ws p) c.self.view_is ∙ one

pub returns-clause-none : goal.returns-clause-none
returns-clause-none c = λ p le less.
    let words : List ℕ = c.self.inside.words.items in
    let here : c.args.at < length c.args.self.now = omega (arith, c.requires.at, c.requires.within) in
    let lt : c.args.at < length c.self.inside.words.items =
    subst (λ (ws : List ℕ). c.args.at < length ws) (sym c.self.view_is) here in
    none_unheaded c.pass-next.new.words (set words c.args.at 0) p
    (headed_taken c.self.inside.heads.items c.pass-next.new.words words c.args.at c.self.invariant lt
    (c.pass-next.ensures.size ∙ ap length c.deref_mut.ensures.value)
    (λ q ne. c.pass-next.ensures.others q ne ∙ ap (λ (hs : List ℕ). has hs q) c.deref_mut.ensures.value))
    (c.pass-next.ensures.none (p / 64) (omega arith) (omega arith))
