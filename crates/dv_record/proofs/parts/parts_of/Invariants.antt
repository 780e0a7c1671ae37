use Rattle.std.proofs.Common.{◌≡◌, length, map, vec_len}
use Rattle.std.specs.Vec.{vec_capacity}
use Rattle.dv_record.proofs.parts.parts_of.Given as goal

abbrev pub invariant-loop-one : goal.invariant-loop-one
invariant-loop-one l = record {
  parts : l.parts.items ≡ map (λ r. r.told) l.yielded;
  room : vec_len l.parts ≡ length l.yielded;
  enough : vec_capacity l.parts ≡ length l.fn.records.items;
}
