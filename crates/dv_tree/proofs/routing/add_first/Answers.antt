use Rattle.std.proofs.Common.{◌≡◌, [], ap, sym, ◌∙◌, arith, refl}
use Rattle.std.proofs.lemmas.List.{nil_from_length}
use Rattle.dv_tree.specs.Routing.{along, first_bags}
use Rattle.dv_tree.proofs.Along.{along_empty}
use Rattle.dv_tree.proofs.routing.add_first.Goals as goal

pub returns-in-empty-clause-arrived : goal.returns-in-empty-clause-arrived
returns-in-empty-clause-arrived c =
    let none : c.args.sent.now ≡ [] = nil_from_length c.args.sent.now (omega (arith, c.in-empty.len_below)) in
    along_empty c.args.couplings.now [] c.args.arrived.now refl
    ∙ ap (λ sent. along c.args.couplings.now (first_bags sent) c.args.arrived.now) (sym none)
