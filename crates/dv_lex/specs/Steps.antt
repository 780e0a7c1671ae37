-- What each part of the lexer reads.
use Rattle.std.specs.Prelude.{◌≡◌, ℕ, ◌≤◌, length, Bool, false, true, List, [], ◌∷◌, ◌++◌, Some, encode_utf8, encode_utf8_all}
use Rattle.std.specs.List.{list_all}
use Rattle.dv_lex.specs.declared.token.Token.{Token}
use Rattle.dv_lex.specs.declared.token.Symbol.{Symbol}
use Rattle.dv_lex.specs.declared.error.RefusalNumber.{RefusalNumber}
use Rattle.dv_lex.specs.declared.error.RefusalNumber.TheVariants.{E2, E3}
use Rattle.dv_lex.specs.Table.{with_name}
use Rattle.dv_lex.specs.Lexemes.{Lexeme, Identifier, symbol_text}
use Rattle.dv_lex.specs.Reading.{IsFirst, IsInRange, NoneBegins, LargeNumberBegins}
use Rattle.dv_lex.specs.Numbering.{kind_of}

-- the text begins with the character
abbrev pub BeginsWith : ℕ → List ℕ → Type 0
BeginsWith c text = (rest : List ℕ) × (text ≡ encode_utf8 c ++ rest)

-- the text is its characters at the front that satisfy a test, and then the rest
pub record SplitsCharacters (passes : ℕ → Bool) (text run rest : List ℕ) : Type 0 where
  pub characters : List ℕ
  pub run_is : run ≡ encode_utf8_all characters
  pub whole : text ≡ run ++ rest
  pub each : list_all passes characters ≡ true
  pub ends : (c : ℕ) → BeginsWith c rest → passes c ≡ false

-- the rest does not begin with a byte that satisfies a test
abbrev pub Ends : (ℕ → Bool) → List ℕ → Type 0
Ends passes [] = Unit {0}
Ends passes (b ∷ bytes) = passes b ≡ false

-- the bytes are those at the front that satisfy a test, and then the rest
pub record SplitsRun (passes : ℕ → Bool) (bytes run rest : List ℕ) : Type 0 where
  pub whole : bytes ≡ run ++ rest
  pub each : list_all passes run ≡ true
  pub ends : Ends passes rest

-- the bytes are the symbol and then the rest, and begin with no longer symbol
pub record IsLongestSymbol (bytes : List ℕ) (sign : Symbol) (rest : List ℕ) : Type 0 where
  pub whole : bytes ≡ symbol_text sign ++ rest
  pub longest : (other : Symbol) (more : List ℕ) → bytes ≡ symbol_text other ++ more →
      length (symbol_text other) ≤ length (symbol_text sign)

-- the table after a lexeme: a name is added if it is new
abbrev pub with_lexeme : List (List ℕ) → Lexeme → List (List ℕ)
with_lexeme names (Identifier text) = with_name names text
with_lexeme names _ = names

-- the bytes begin with a lexeme within the range of numbers, whose token at its offset is this one; it changes the table from old to new
pub record ReadsToken (offset : ℕ) (bytes : List ℕ) (old new : List (List ℕ)) (token : Token) (rest : List ℕ) : Type 0 where
  pub lexeme : Lexeme
  pub front : List ℕ
  pub first : IsFirst bytes lexeme front rest
  pub range : IsInRange lexeme
  pub table : new ≡ with_lexeme old lexeme
  pub kind : kind_of new lexeme ≡ Some token.kind
  pub at_offset : token.offset ≡ offset

-- the bytes begin with no lexeme, or with a number that is out of range
abbrev pub IsNoToken : List ℕ → RefusalNumber → Type 0
IsNoToken bytes E2 = NoneBegins bytes
IsNoToken bytes E3 = LargeNumberBegins bytes
IsNoToken bytes _ = ⊥
