use Rattle.std.proofs.Common.{◌≡◌, ◌⊎◌, ℕ, ◌+◌, ◌<◌, Option, None, get_or}
use Rattle.std.specs.Int.{bit_at}
use Rattle.dv_time.specs.declared.time.Time.{Time}
use Rattle.dv_time.specs.Time.{earliest}
use Rattle.dv_agenda.specs.Waits.{first_of}
use Rattle.dv_agenda.proofs.wheel.least_of_word.Given as goal

abbrev pub invariant-loop-rest : goal.invariant-loop-rest
invariant-loop-rest l = record {
  above : earliest (first_of l.waits) l.found ≡ first_of l.waits;
  below : (p : ℕ) → p < 64 → bit_at l.word p ≡ 1
      → (bit_at l.rest p ≡ 1) ⊎ (earliest l.found (get_or l.waits (l.base + p) None) ≡ l.found);
  before : (w : Option Time) → earliest l.fn.least w ≡ l.fn.least → earliest l.found w ≡ l.found;
}

abbrev pub decreases-loop-rest : goal.decreases-loop-rest
decreases-loop-rest l = l.rest
