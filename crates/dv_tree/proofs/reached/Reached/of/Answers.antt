use Rattle.std.proofs.Common.{ap, ◌∙◌, map}
use Rattle.dv_syntax.specs.Trees.{model_of}
use Rattle.dv_tree.specs.Tables.{model_names}
use Rattle.dv_tree.proofs.reached.Reached.of.Goals as goal

pub marks_of-requires : goal.marks_of-requires
marks_of-requires c = record {
  names = c.in_ok-names.ensures ∙ (c.from_vec.ensures.items ∙ (c.in_ok-model_numbers.ensures ∙ ap (λ x. model_names (map model_of x)) c.deref.ensures.value));
}
