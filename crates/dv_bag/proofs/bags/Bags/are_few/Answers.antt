use Rattle.std.proofs.Common.{nat_le, refl, ap, sym, ◌∙◌}
use Rattle.std.specs.List.{list_all}
use Rattle.dv_bag.specs.Bag.{size}
use Rattle.dv_bag.specs.Limits.{greatest_count}
use Rattle.dv_bag.proofs.PortWalks.{few_values, held_pass}
use Rattle.dv_bag.proofs.bags.Bags.are_few.Goals as goal

pub returns-clause-sizes : goal.returns-clause-sizes
returns-clause-sizes c =
    let inside = c.self.inside in
    c.all_few.ensures
    ∙ ap (list_all (λ h. nat_le (size h.bag) greatest_count)) c.as_slice.ensures
    ∙ held_pass (λ b. nat_le (size b) greatest_count) refl inside.ports c.args.self.now inside.held.items c.self.view_is
    c.self.invariant.0 c.self.invariant.1

pub returns-clause-few : goal.returns-clause-few
returns-clause-few c pass = few_values c.args.self.now (sym (returns-clause-sizes c) ∙ pass)
