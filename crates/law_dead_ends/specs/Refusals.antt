-- What a refusal of tokens says, in the words of the grammar.
use Rattle.std.specs.Prelude.{◌≡◌, ◌⊎◌, ℕ, List, [], ◌∷◌, ◌++◌}
use Rattle.dv_lex.specs.declared.token.Token.{Token}
use Rattle.dv_lex.specs.declared.error.Refusal.{Refusal}
use Rattle.dv_lex.specs.declared.error.RefusalNumber.{RefusalNumber}
use Rattle.dv_lex.specs.declared.error.RefusalNumber.TheVariants.{E4, E5}
use Rattle.dv_source.specs.Grammar.{IsFileWithin, IsFileOf}
use Rattle.dv_syntax.specs.Trees.{FileTree}
use Rattle.dv_syntax.specs.Grammar.{Limits, the_limits}

-- a file within these limits on depth begins with the tokens
abbrev pub BeginsFileWithin : Limits → List Token → Type 0
BeginsFileWithin limits ts = (more : List Token) × (f : FileTree) × IsFileWithin limits (ts ++ more) f

-- a file within the limits on depth begins with the tokens
abbrev pub BeginsFile : List Token → Type 0
BeginsFile ts = BeginsFileWithin the_limits ts

-- a file of some depth begins with the tokens
abbrev pub BeginsFileAtAnyDepth : List Token → Type 0
BeginsFileAtAnyDepth ts = (limits : Limits) × BeginsFileWithin limits ts

-- The token at this offset is the first wrong one: a file begins with the tokens before it, and none with those up to it.
pub record NoneBeginsAt (ts : List Token) (offset : ℕ) : Type 0 where
  pub before : List Token
  pub token : Token
  pub behind : List Token
  pub whole : ts ≡ before ++ token ∷ behind
  pub at : token.offset ≡ offset
  pub begun : BeginsFile before
  pub none : ¬ BeginsFile (before ++ token ∷ [])

-- The number that refuses the tokens up to the first wrong one: E5 if they still begin a file without the limits on depth, else E4.
abbrev pub IsNumberOf : RefusalNumber → List Token → Type 0
IsNumberOf E4 ts = ¬ BeginsFileAtAnyDepth ts
IsNumberOf E5 ts = BeginsFileAtAnyDepth ts
IsNumberOf _ ts = ⊥

-- the refusal names the first wrong token, by its offset, and its number says whether it is only nested too deeply
pub record IsFirstWrong (ts : List Token) (r : Refusal) : Type 0 where
  pub first : NoneBeginsAt ts r.offset
  pub number : IsNumberOf r.number (first.before ++ first.token ∷ [])

-- a file begins with the tokens, but they are not a whole one
pub record EndEarly (ts : List Token) : Type 0 where
  pub begun : BeginsFile ts
  pub none : (f : FileTree) → ¬ IsFileOf ts f

-- If the tokens of a text are refused, no file continues them: at the first wrong token, which the refusal names, or at the end of the
-- text, where they end too early.
abbrev pub IsDeadEnd : List Token → ℕ → Refusal → Type 0
IsDeadEnd ts end r = IsFirstWrong ts r ⊎ ((r ≡ record { number = E4; offset = end }) × EndEarly ts)
