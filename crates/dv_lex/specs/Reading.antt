-- How a model text is cut into lexemes: each is the longest at its offset.
use Rattle.std.specs.Prelude.{◌≡◌, ℕ, ◌+◌, ◌^◌, ◌<◌, ◌≤◌, List, [], ◌∷◌, ◌++◌, length}
use Rattle.dv_lex.specs.Lexemes.{Lexeme, Numeral, Spells}

-- a lexeme, and the number of bytes of the text before it
pub record Located : Type 0 where
  pub lexeme : Lexeme
  pub offset : ℕ

-- the bytes are `front`, which spells the lexeme, and then `rest`; no longer front spells a lexeme
pub record IsFirst (bytes : List ℕ) (lexeme : Lexeme) (front rest : List ℕ) : Type 0 where
  pub whole : bytes ≡ front ++ rest
  pub spelled : Spells lexeme front
  pub longest : (other : Lexeme) (longer more : List ℕ) → bytes ≡ longer ++ more → Spells other longer → length longer ≤ length front

-- no lexeme begins the bytes
abbrev pub NoneBegins : List ℕ → Type 0
NoneBegins bytes = (lexeme : Lexeme) (front rest : List ℕ) → bytes ≡ front ++ rest → ¬ Spells lexeme front

-- a number is at most 2^63 - 1
abbrev pub IsInRange : Lexeme → Type 0
IsInRange (Numeral value) = value < 2 ^ 63
IsInRange _ = Unit {0}

-- the bytes begin with a number above 2^63 - 1
abbrev pub LargeNumberBegins : List ℕ → Type 0
LargeNumberBegins bytes = (value : ℕ) × (front : List ℕ) × (rest : List ℕ) × IsFirst bytes (Numeral value) front rest × (2 ^ 63 ≤ value)

-- the bytes from one offset on are these lexemes and then `rest`, which begins at the offset `end`
abbrev pub Reads : ℕ → List ℕ → List Located → ℕ → List ℕ → Type 0
Reads offset bytes [] end rest = (end ≡ offset) × (rest ≡ bytes)
Reads offset bytes (x ∷ xs) end rest =
    (x.offset ≡ offset) × IsInRange x.lexeme
    × ((front : List ℕ) × (after : List ℕ) × IsFirst bytes x.lexeme front after × Reads (offset + length front) after xs end rest)
