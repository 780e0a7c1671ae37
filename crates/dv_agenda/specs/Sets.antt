-- Sets of numbers as bits of words.
use Rattle.std.specs.Prelude.{◌≡◌, ℕ, ◌*◌, ◌/◌, ◌%◌, ◌^◌, ◌≤◌, length, List, slice_index_or}
use Rattle.std.specs.Int.{bit_at}

-- 1 where a set has a number
unfoldable pub has : List ℕ → ℕ → ℕ
has words p = bit_at (slice_index_or words (p / 64) 0) (p % 64)

-- for each word that has a number the heads have its index
pub record IsHeaded (heads words : List ℕ) : Type 0 where
  pub room : length words ≤ 64 * length heads
  pub few : length words ≤ 2 ^ 50
  pub heads_few : length heads ≤ 2 ^ 50
  pub headed : (p : ℕ) → has words p ≡ 1 → has heads (p / 64) ≡ 1
