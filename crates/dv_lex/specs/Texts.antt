-- Which tokens a model text has, and why a text is refused.
use Rattle.std.specs.Prelude.{◌≡◌, ℕ, ◌+◌, ◌<◌, ◌≤◌, List, [], ◌∷◌, length, take, IsUtf8}
use Rattle.std.specs.List.{AllByRecursion}
use Rattle.std.specs.Str.{IsValidUpTo}
use Rattle.dv_lex.specs.declared.token.Token.{Token}
use Rattle.dv_lex.specs.declared.token.TokenKind.{TokenKind}
use Rattle.dv_lex.specs.declared.token.TokenKind.TheVariants.{Name}
use Rattle.dv_lex.specs.declared.error.TextError.{TextError}
use Rattle.dv_lex.specs.declared.error.Refusal.{Refusal}
use Rattle.dv_lex.specs.declared.error.RefusalNumber.{RefusalNumber}
use Rattle.dv_lex.specs.declared.error.RefusalNumber.TheVariants.{E1, E2, E3, E17}
use Rattle.dv_lex.specs.Lexemes.{line_feeds}
use Rattle.dv_lex.specs.Reading.{Located, Reads, NoneBegins, LargeNumberBegins}
use Rattle.dv_lex.specs.Numbering.{names_of, tokens_of}
use Rattle.dv_lex.specs.Versions.{versioned}

-- the greatest length of a model text, in bytes
abbrev pub greatest_length : ℕ
greatest_length = 16777216

-- the line of an offset of a text, counted from 1: one more than the line feeds before it
abbrev pub line_of : List ℕ → ℕ → ℕ
line_of text offset = 1 + line_feeds (take offset text)

-- the text is not too long, and it is UTF-8
pub record IsReadable (text : List ℕ) : Type 0 where
  pub short : length text ≤ greatest_length
  pub utf8 : IsUtf8 text

-- the text has these tokens, and their names are numbered by this table
pub record IsTokensOf (text : List ℕ) (names : List (List ℕ)) (tokens : List Token) : Type 0 where
  pub readable : IsReadable text
  pub lexemes : List Located
  pub reads : Reads 0 text lexemes (length text) []
  pub table : names ≡ names_of lexemes
  pub numbered : tokens ≡ versioned names (tokens_of names lexemes)

-- the text reads as lexemes up to a rest that begins at this offset
pub record ReadsUpTo (text : List ℕ) (offset : ℕ) (rest : List ℕ) : Type 0 where
  pub readable : IsReadable text
  pub lexemes : List Located
  pub reads : Reads 0 text lexemes offset rest

-- what each refusal says of a text, and at which offset
abbrev pub IsRefusedAs : List ℕ → RefusalNumber → ℕ → Type 0
-- the text is too long
IsRefusedAs text E17 offset = (greatest_length < length text) × (offset ≡ 0)
-- the text is not UTF-8, from its byte n on
IsRefusedAs text E1 offset = (length text ≤ greatest_length) × IsValidUpTo text offset
-- a character with which no token, blank or comment begins
IsRefusedAs text E2 offset = (rest : List ℕ) × ReadsUpTo text offset rest × (0 < length rest) × NoneBegins rest
-- a number above 2^63 - 1
IsRefusedAs text E3 offset = (rest : List ℕ) × ReadsUpTo text offset rest × LargeNumberBegins rest
IsRefusedAs text _ offset = ⊥

-- the text has this refusal
abbrev pub IsRefused : List ℕ → Refusal → Type 0
IsRefused text r = IsRefusedAs text r.number r.offset

-- a name's number is that of a text in the table
abbrev pub IsNumbered : List (List ℕ) → TokenKind → Type 0
IsNumbered names (Name number) = number < length names
IsNumbered names _ = Unit {0}

-- an offset of a text, or its end
abbrev pub IsOffset : ℕ → Type 0
IsOffset offset = offset ≤ greatest_length

-- the offsets of the tokens rise
abbrev pub IsAscending : List Token → Type 0
IsAscending [] = Unit {0}
IsAscending (t ∷ ts) = AllByRecursion (λ other. t.offset < other.offset) ts × IsAscending ts

-- the answer to a refusal of a text: its number, its offset, and the line of that
abbrev pub answer_to : List ℕ → Refusal → TextError
answer_to text r = record { number = r.number; line = line_of text r.offset; offset = r.offset }
