-- Where a list is cut in two.
use Rattle.std.specs.Prelude.{◌≡◌, ◌≤◌, ℕ, Bool, not, List, length, take, drop, filter}

-- the front of a list, of this length, has all that passes a test, and the rest has what does not
pub record IsCut {X : Type 0} (test : X → Bool) (count : ℕ) (xs : List X) : Type 0 where
  pub count_within : count ≤ length xs
  pub front : take count xs ≡ filter test xs
  pub rest : drop count xs ≡ filter (λ x. not (test x)) xs
