use Rattle.std.proofs.Common.{◌≡◌, drop, false, map}
use Rattle.std.specs.Option.{option_or}
use Rattle.dv_partition.specs.Answers.{first_refusal, in_reading_order, owner_from}
use Rattle.dv_partition.specs.Listed.{Text}
use Rattle.dv_partition.specs.Steps.{is_in, number_at, texts_of}
use Rattle.dv_partition.proofs.listed.listed.Given as goal

abbrev pub invariant-loop-process : goal.invariant-loop-process
invariant-loop-process l = record {
  numbers : (text : Text) →
      option_or (number_at l.listed text) (owner_from l.process (map (λ list. texts_of list.items) (drop l.process l.lists)) text)
      ≡ owner_from 0 (map (λ list. texts_of list.items) l.lists) text;
  refusal : first_refusal (is_in l.known) (is_in l.listed) (in_reading_order (map (λ list. texts_of list.items) (drop l.process l.lists)))
      ≡ first_refusal (is_in l.known) (λ _. false) (in_reading_order (map (λ list. texts_of list.items) l.lists));
}
