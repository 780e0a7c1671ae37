use Rattle.std.proofs.Common.{arith, rules, sym}
use Rattle.std.specs.Prelude.{pos}
use Rattle.std.proofs.lemmas.List.Sorted.{IsPartitionPoint-from_clause}
use Rattle.dv_time.specs.Time.{is_before}
use Rattle.dv_bag.specs.Inputs.{start_of}
use Rattle.dv_bag.specs.declared.inputs.Input.{Input as InputOfCode}
use Rattle.dv_local.proofs.InputTimes.{before_are, parted}
use Rattle.dv_local.proofs.waiting.inputs_before.Goals as goal

abbrev nothing : InputOfCode
nothing = record { time = start_of 0; port = 0; value = pos 0 }

pub returns-clause-index : goal.returns-clause-index
returns-clause-index c = λ limit run.
    let xs = c.args.inputs.now in
    let t = c.args.time in
    let p = c.partition_point.result in
    let point = IsPartitionPoint-from_clause (λ (i : InputOfCode). is_before i.time t) _ _
    c.partition_point.ensures.partitioned (parted xs t c.requires) (λ a r q k. search rules) in
    sym (before_are limit t p xs nothing run (omega arith) (λ k lt. point.0 k nothing (omega arith) lt)
    (λ lt. point.1 p nothing (omega arith) lt))
