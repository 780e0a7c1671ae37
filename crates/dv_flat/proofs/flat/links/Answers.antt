use Rattle.std.proofs.Common.{◌∙◌, ap, arith, length, map}
use Rattle.std.proofs.lemmas.List.{length-map}
use Rattle.std.proofs.lemmas.List.FromFn.{length-range_with_len}
use Rattle.dv_syntax.specs.Trees.{file_of}
use Rattle.dv_tree.specs.Instances.{root_inputs}
use Rattle.dv_flat.proofs.Found.{direct_links-made}
use Rattle.dv_flat.proofs.Found.{entry_links-made, exit_links-made, length-arrival_lists, length-departure_lists}
use Rattle.dv_flat.proofs.flat.links.Goals as goal

pub links_of-requires : goal.links_of-requires
links_of-requires c =
    omega (
      arith,
      ap length c.deref.ensures.value,
      length-map c.in_ok-reached.reached.inputs.items (λ list. list.items),
      ap length c.in_ok-reached.ensures.inputs,
      length-arrival_lists (file_of c.args.tree.now.file) c.args.sources.now c.requires.outputs,
    )

pub links_of-requires-2 : goal.links_of-requires-2
links_of-requires-2 c =
    omega (
      arith,
      ap length c.deref-2.ensures.value,
      ap length c.in_ok-inputs.ensures,
      length-range_with_len 0 (length (root_inputs (file_of c.args.tree.now.file))),
      ap length c.deref-3.ensures.value,
      length-map c.in_ok-reached.reached.inputs.items (λ list. list.items),
      ap length c.in_ok-reached.ensures.inputs,
      length-arrival_lists (file_of c.args.tree.now.file) c.args.sources.now c.requires.outputs,
    )

pub links_of-requires-3 : goal.links_of-requires-3
links_of-requires-3 c =
    omega (
      arith,
      ap length c.deref-4.ensures.value,
      length-map c.in_ok-reached.reached.outputs.items (λ list. list.items),
      ap length c.in_ok-reached.ensures.outputs,
      length-departure_lists (file_of c.args.tree.now.file) c.args.sources.now c.requires.outputs,
    )

pub returns-clause-direct : goal.returns-clause-direct
returns-clause-direct c =
    direct_links-made (file_of c.args.tree.now.file) c.args.sources.now c.requires.outputs
    (map (λ list. list.items) c.in_ok-reached.reached.inputs.items) c.in_ok-links_of.field-0.items
    c.in_ok-reached.ensures.inputs
    (rw (← c.deref.ensures.value) c.in_ok-links_of.ensures)

pub returns-clause-entries : goal.returns-clause-entries
returns-clause-entries c =
    entry_links-made (file_of c.args.tree.now.file) c.args.sources.now c.requires.outputs c.deref-2.result.now
    (map (λ list. list.items) c.in_ok-reached.reached.inputs.items) c.in_ok-links_of-2.field-0.items
    (c.deref-2.ensures.value ∙ c.in_ok-inputs.ensures) c.in_ok-reached.ensures.inputs
    (rw (← c.deref-3.ensures.value) c.in_ok-links_of-2.ensures)

pub returns-clause-exits : goal.returns-clause-exits
returns-clause-exits c =
    exit_links-made (file_of c.args.tree.now.file) c.args.sources.now c.requires.outputs
    (map (λ list. list.items) c.in_ok-reached.reached.outputs.items) c.in_ok-links_of-3.field-0.items
    c.in_ok-reached.ensures.outputs (rw (← c.deref-4.ensures.value) c.in_ok-links_of-3.ensures)
