use Rattle.std.proofs.Common.{nat_eq, length, ◌∙◌}
use Rattle.dv_tree.specs.Instances.{instances}
use Rattle.dv_plain.specs.Source.{outside}
use Rattle.law_sound.proofs.parts.processes_commit_the_run_of_the_text.Goals as goal

pub returns : goal.returns
returns c f inputs limit n owner parts writable fine within each = record {
  ready = c.networks_of_texts.ensures.ready limit f;
  rise = c.counted_numbers_rise.ensures (length (instances f));
  outputs = c.networks_of_texts.ensures.outputs limit f;
  linear = c.what_leaves_a_text_is_linear.ensures.linear limit f;
  bags = c.what_leaves_a_text_is_linear.ensures.bags limit f (outside f limit inputs) n;
  owned = within;
  each = λ p x at.
      each p x at
      ∙ c.parts_of_the_flat_model_are_those_of_the_text.ensures.part f inputs limit n (λ k. nat_eq (owner k) p) writable fine;
}
