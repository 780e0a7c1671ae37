use Rattle.std.proofs.Common.{◌∙◌, ap, sym, length, arith}
use Rattle.std.proofs.lemmas.List.{length-map}
use Rattle.dv_bag.specs.Responses.{ticks_of}
use Rattle.dv_bound.specs.Response.{response_of}
use Rattle.dv_syntax.specs.Trees.{file_of}
use Rattle.dv_tree.specs.Instances.{Instance, instances}
use Rattle.dv_tree.proofs.Limits.{few_components}
use Rattle.dv_run.proofs.responses.least_responses.Goals as goal

pub responses_of-requires : goal.responses_of-requires
responses_of-requires c = record {
  compilable = c.accepted_files_are_compilable.ensures (file_of c.args.tree.now.file) c.requires.writable c.requires.accepted;
}

pub responses-requires : goal.responses-requires
responses-requires c =
    let f = file_of c.args.tree.now.file in
    let few = few_components f (c.checked_files.ensures f c.requires.accepted) in
    let each = c.in_ok-each.each.items in
    let long = sym (length-map each ticks_of) ∙ ap length c.in_ok-each.ensures
    ∙ length-map (instances f) (λ (i : Instance). response_of i.model) in
    omega (arith, few, long, ap length c.deref.ensures.value)
