use Rattle.std.proofs.Common.{◌-◌, length, ℤ, Some, sym, ap, ◌∙◌, rules}
use Rattle.std.proofs.lemmas.Int.{to_z-of_z}
use Rattle.dv_bag.specs.Bag.{most}
use Rattle.dv_bag.proofs.Pairs.{most_last, value_at}
use mir.Syntax.{w64}
use mir.Val.{SFits}
use Rattle.dv_bag.proofs.bag.Bag.most.Goals as goal

pub returns-in-len1-up : goal.returns-in-len1-up
returns-in-len1-up c =
    let items = c.as_slice.result.now in
    let number : SFits w64 (value_at items (length items - 1)) = search rules in
    ap (λ (v : ℤ). Some v) (to_z-of_z w64 _ number) ∙ sym (most_last items c.in-len1-up.len_at_least)
    ∙ ap most (c.as_slice.ensures ∙ c.self.view_is)
