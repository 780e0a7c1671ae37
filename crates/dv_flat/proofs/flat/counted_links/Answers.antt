use Rattle.std.proofs.Common.{ap, subst, sym, ◌∙◌}
use Rattle.std.specs.List.{All}
use Rattle.dv_syntax.specs.Trees.{file_of}
use Rattle.dv_flat.specs.Ends.{output_ports}
use Rattle.dv_flat.specs.Probes.{IsOutput, chosen_from}
use Rattle.dv_flat.proofs.Enough.{all_chosen, direct_enough, exit_enough}
use Rattle.dv_flat.proofs.Found.{outputs_valid}
use Rattle.dv_flat.proofs.flat.counted_links.Goals as goal

pub links-requires : goal.links-requires
links-requires c =
    let f = file_of c.args.tree.now.file in
    let flags = c.deref-2.result.now in
    let sources = c.deref-3.ensures.value ∙ c.in_ok-sources.ensures
    ∙ ap (chosen_from 0 flags) (c.deref.ensures.value ∙ c.in_ok-outputs.ensures) in
    record {
      outputs = subst (All (IsOutput f)) (sym sources)
          (all_chosen (IsOutput f) 0 flags (output_ports f) (outputs_valid f));
    }

pub links-requires-2 : goal.links-requires-2
links-requires-2 c =
    let f = file_of c.args.tree.now.file in
    record { outputs = subst (All (IsOutput f)) (sym (c.deref-4.ensures.value ∙ c.in_ok-outputs.ensures)) (outputs_valid f) }

pub returns-then-copies-count-clause-direct : goal.returns-then-copies-count-clause-direct
returns-then-copies-count-clause-direct c =
    let f = file_of c.args.tree.now.file in
    let flags = c.deref-2.result.now in
    let sources = c.deref-3.ensures.value ∙ c.in_ok-sources.ensures
    ∙ ap (chosen_from 0 flags) (c.deref.ensures.value ∙ c.in_ok-outputs.ensures) in
    let found = c.in_ok-found.ensures in
    direct_enough f flags _ _ _ _ sources found.direct found.entries found.exits
    (sym c.requires.count ∙ sym c.if-copies-count.true ∙ c.copies.ensures)

pub returns-then-copies-count-clause-exits : goal.returns-then-copies-count-clause-exits
returns-then-copies-count-clause-exits c =
    let f = file_of c.args.tree.now.file in
    let flags = c.deref-2.result.now in
    let sources = c.deref-3.ensures.value ∙ c.in_ok-sources.ensures
    ∙ ap (chosen_from 0 flags) (c.deref.ensures.value ∙ c.in_ok-outputs.ensures) in
    let found = c.in_ok-found.ensures in
    exit_enough f flags _ _ _ _ sources found.direct found.entries found.exits
    (sym c.requires.count ∙ sym c.if-copies-count.true ∙ c.copies.ensures)
