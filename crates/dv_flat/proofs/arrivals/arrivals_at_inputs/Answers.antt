use Rattle.std.proofs.Common.{◌<◌, ◌≡◌, ℕ, [], List, ap, arith, eqb, length, get_or, map, subst, sym, ◌∙◌}
use Rattle.std.specs.List.{IsDistinct}
use Rattle.std.proofs.lemmas.List.{get_or_default, length-map}
use Rattle.dv_syntax.specs.Trees.{file_of}
use Rattle.dv_bag.specs.Bag.{Counts}
use Rattle.dv_tree.specs.Instances.{Instance, instances}
use Rattle.dv_flat.specs.Ends.{input_count}
use Rattle.dv_flat.proofs.PortLists.{distinct_inputs, instance_at}
use Rattle.dv_flat.proofs.Received.{arrivals_step, as_many}
use Rattle.dv_flat.proofs.arrivals.arrivals_at_inputs.Goals as goal

pub port_count-requires : goal.port_count-requires
port_count-requires c =
    let at = instance_at (instances (file_of c.args.tree.now.file)) c.loop-component.component c.scope.result.now c.scope.ensures in
    subst (λ (names : List ℕ). IsDistinct eqb names) (sym c.inputs.ensures) (distinct_inputs at)

pub add_component-requires : goal.add_component-requires
add_component-requires c =
    let is = instances (file_of c.args.tree.now.file) in
    let k = c.loop-component.component in
    let received = c.args.received.now in
    let within : k < length received =
    omega (
      arith,
      ap length c.requires,
      length-map received (length {A = Counts}),
      length-map is (λ (i : Instance). input_count i.model),
      c.component_count-component-end.ensures.value,
    ) in
    let at = instance_at is k c.scope.result.now c.scope.ensures in
    let here : c.index-received-component.result ≡ get_or received k [] =
    c.index-received-component.is ∙ get_or_default received k c.index-received-component.result [] within in
    omega (
      arith,
      ap (length {A = Counts}) here,
      as_many at received within c.requires,
      ap length c.inputs.ensures,
      c.port_count.ensures.value,
      c.port_count.ensures.few,
    )

pub loop-component-preserved : goal.loop-component-preserved
loop-component-preserved c =
    let f = file_of c.args.tree.now.file in
    let is = instances f in
    let k = c.loop-component.component in
    let received = c.args.received.now in
    let bags = c.index-received-component.result in
    let within : k < length received =
    omega (
      arith,
      ap length c.requires,
      length-map received (length {A = Counts}),
      length-map is (λ (i : Instance). input_count i.model),
      c.component_count-component-end.ensures.value,
    ) in
    let at = instance_at is k c.scope.result.now c.scope.ensures in
    let here : bags ≡ get_or received k [] = c.index-received-component.is ∙ get_or_default received k bags [] within in
    arrivals_step at received bags (map (λ list. list.items) c.loop-component.lists.items)
    (map (λ list. list.items) c.add_component.new.lists.items) _ (ap length here ∙ as_many at received within c.requires) here
    c.in_ok-add_component.ensures c.loop-component.invariant
