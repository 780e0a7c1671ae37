use Rattle.std.proofs.Common.{nat_eq, ap, ◌∙◌}
use Rattle.dv_bag.specs.Bag.{size_of_all}
use Rattle.dv_bag.proofs.Sendings.{none_or_some}
use Rattle.dv_bag.proofs.sent.Sent.is_empty.Goals as goal

pub returns : goal.returns
returns c = c.is_empty.ensures ∙ none_or_some c.self.inside.ports c.self.inside.sendings.items c.self.invariant.0
    ∙ ap (λ bags. nat_eq (size_of_all bags) 0) c.self.view_is
