use Rattle.std.proofs.Common.{[], refl, unwrap_or, ap, sym, ◌∙◌}
use Rattle.std.specs.Option.{option_copied}
use Rattle.dv_tree.specs.Routing.{with_values}
use Rattle.dv_tree.proofs.Along.{with_values_none}
use Rattle.dv_tree.proofs.arrived.Arrived.add_held.Goals as goal

pub returns-in-None : goal.returns-in-None
returns-in-None c =
    sym (with_values_none c.args.target [] c.args.self.now refl)
    ∙ ap (λ held. with_values c.args.target (unwrap_or (option_copied held) []) c.args.self.now) (sym c.in-None.is)
