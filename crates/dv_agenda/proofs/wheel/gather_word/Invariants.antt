use Rattle.std.proofs.Common.{◌≡◌, ℕ, ◌+◌, ◌^◌, ◌<◌, ◌≤◌, ◌++◌, List, take, w64}
use Rattle.std.specs.Int.{bit_at, trailing_zeros}
use Rattle.std.specs.Vec.{vec_capacity}
use Rattle.dv_agenda.specs.Waits.{due_at}
use Rattle.dv_agenda.proofs.wheel.gather_word.Given as goal

abbrev pub invariant-loop-rest : goal.invariant-loop-rest
invariant-loop-rest l = record {
  small : l.rest < 2 ^ 64;
  bits : (p : ℕ) → p < 64 → trailing_zeros w64 l.rest ≤ p → bit_at l.rest p ≡ bit_at l.word p;
  capacity : vec_capacity l.fn.into ≤ vec_capacity l.into;
  due : (before : List ℕ) → l.fn.into.items ≡ before ++ due_at l.time (take l.base l.waits)
      → l.into.items ≡ before ++ due_at l.time (take (l.base + trailing_zeros w64 l.rest) l.waits);
}

abbrev pub decreases-loop-rest : goal.decreases-loop-rest
decreases-loop-rest l = l.rest
