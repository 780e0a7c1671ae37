use Rattle.std.proofs.Common.{◌∙◌, ◌+◌, arith, length, map}
use Rattle.dv_syntax.specs.Trees.{file_of}
use Rattle.dv_flat.proofs.Found.{arrival_lists-made, departure_lists-made, inputs_received}
use Rattle.dv_flat.proofs.arrivals.Reached.of.Goals as goal

pub arrivals_at_inputs-requires : goal.arrivals_at_inputs-requires
arrivals_at_inputs-requires c =
    inputs_received (file_of c.args.tree.now.file) c.args.sources.now c.deref.result.now
    (c.deref.ensures.value ∙ c.in_ok-routed.ensures.received)

pub returns-clause-inputs : goal.returns-clause-inputs
returns-clause-inputs c =
    arrival_lists-made (file_of c.args.tree.now.file) c.args.sources.now c.requires.outputs
    (length c.args.sources.now + c.input_count.result) c.deref.result.now
    (map (λ list. list.items) c.in_ok-arrivals_at_inputs.field-0.items) (omega (arith, c.input_count.ensures.value))
    (c.deref.ensures.value ∙ c.in_ok-routed.ensures.received) c.in_ok-arrivals_at_inputs.ensures

pub returns-clause-outputs : goal.returns-clause-outputs
returns-clause-outputs c =
    departure_lists-made (file_of c.args.tree.now.file) c.args.sources.now c.requires.outputs c.in_ok-routed.routed.leaving
    (map (λ list. list.items) c.in_ok-arrivals_at_outputs.field-0.items) c.in_ok-routed.ensures.leaving
    c.in_ok-arrivals_at_outputs.ensures
