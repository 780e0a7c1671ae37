-- Slices of bytes, into which texts are put one after the other.
use Rattle.std.specs.Prelude.{ℕ, ◌≡◌, ◌≤◌, List, ◌++◌, length, take}

-- a text was put into a slice from one index to another, and what was before it stays
abbrev pub IsPut : List ℕ → ℕ → List ℕ → ℕ → List ℕ → Type 0
IsPut old at new end text = (end ≤ length new) × (take end new ≡ take at old ++ text)
