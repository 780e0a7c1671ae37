use Rattle.std.proofs.Common.{◌≡◌, drop}
use Rattle.std.specs.Option.{option_or}
use Rattle.dv_partition.specs.Answers.{first_refusal}
use Rattle.dv_partition.specs.Listed.{Text}
use Rattle.dv_partition.specs.Steps.{among, is_in, number_at, texts_of}
use Rattle.dv_partition.proofs.listed.list_paths.Given as goal

abbrev pub invariant-loop-path : goal.invariant-loop-path
invariant-loop-path l = record {
  numbers : (text : Text) →
      option_or (number_at l.listed text) (among (texts_of (drop l.path-index l.list)) l.process text)
      ≡ option_or (number_at l.fn.listed text) (among (texts_of l.list) l.process text);
  refusal : first_refusal (is_in l.known) (is_in l.listed) (texts_of (drop l.path-index l.list))
      ≡ first_refusal (is_in l.known) (is_in l.fn.listed) (texts_of l.list);
}
