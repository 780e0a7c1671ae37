use Rattle.std.proofs.Common.{◌≡◌, ◌⊎◌, ℕ, ◌+◌, ◌^◌, ◌<◌, ◌≤◌, ◌++◌, List, None, get_or, take, w64}
use Rattle.std.specs.Int.{bit_at, trailing_zeros}
use Rattle.std.specs.Vec.{vec_capacity}
use Rattle.dv_agenda.specs.Agendas.{AreHeld, HasMore, HasRoom, IsIn}
use Rattle.dv_agenda.specs.Waits.{due_at, without}
use Rattle.dv_agenda.proofs.wheel.Wheel.part_word.Given as goal

abbrev pub invariant-loop-rest : goal.invariant-loop-rest
invariant-loop-rest l = record {
  room : HasRoom l.self;
  more : HasMore l.fn.self l.self;
  held : AreHeld (without l.time l.waits) l.self;
  there : (p : ℕ) → p < 64 → bit_at l.word p ≡ 1
      → (bit_at l.rest p ≡ 1) ⊎ IsIn l.self (l.base + p) (get_or (without l.time l.waits) (l.base + p) None);
  small : l.rest < 2 ^ 64;
  bits : (p : ℕ) → p < 64 → trailing_zeros w64 l.rest ≤ p → bit_at l.rest p ≡ bit_at l.word p;
  capacity : vec_capacity l.fn.into ≤ vec_capacity l.into;
  due : (before : List ℕ) → l.fn.into.items ≡ before ++ due_at l.time (take l.base l.waits)
      → l.into.items ≡ before ++ due_at l.time (take (l.base + trailing_zeros w64 l.rest) l.waits);
}

abbrev pub decreases-loop-rest : goal.decreases-loop-rest
decreases-loop-rest l = l.rest
