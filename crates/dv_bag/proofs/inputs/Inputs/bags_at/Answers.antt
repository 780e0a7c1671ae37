use Rattle.std.proofs.Common.{◌≡◌, List, length, filter, ap, ◌∙◌, arith}
use Rattle.dv_bag.specs.InputSteps.{with_inputs}
use Rattle.dv_bag.specs.Inputs.{is_at}
use Rattle.dv_bag.specs.declared.inputs.Input.{Input}
use Rattle.dv_bag.proofs.InputLists.{arriving, before_within, put_at_time}
use Rattle.dv_bag.proofs.inputs.Inputs.bags_at.Goals as goal

pub front_at-arriving-requires : goal.front_at-arriving-requires
front_at-arriving-requires c =
    let items = ap length (c.as_slice.ensures.value ∙ c.self.view_is) in
    omega (arith, before_within c.requires.0 c.args.time c.args.self.now, c.requires.2)

abbrev found : (c : goal.In_ok-put_all) → c.front_at-arriving.result.now ≡ filter (is_at c.args.time) c.args.self.now
found c = arriving c.requires.0 c.args.time c.args.index c.args.self.now c.self.inside.inputs.items c.as_slice.result.now _ c.self.invariant
    c.self.view_is c.as_slice.ensures.value c.requires.1 c.requires.2 c.front_at-arriving.ensures

pub returns : goal.returns
returns c =
    c.in_ok-put_all.ensures
    ∙ ap (λ (inputs : List Input). with_inputs inputs c.empty-bags.result) (found c)
    ∙ ap (with_inputs (filter (is_at c.args.time) c.args.self.now)) c.empty-bags.ensures
    ∙ put_at_time c.args.ports c.args.time c.args.self.now
