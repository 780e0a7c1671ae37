-- What is known of a file above the checker, where nothing is known of a text: it could be written down.
use Rattle.std.specs.Prelude.{◌≡◌, ◌<◌, ◌≤◌, ◌^◌, length}
use Rattle.std.specs.List.{AllByRecursion}
use Rattle.dv_lex.specs.declared.token.TokenKind.{TokenKind}
use Rattle.dv_lex.specs.declared.token.TokenKind.TheVariants as kind
use Rattle.dv_syntax.specs.Grammar.{Anywhere, At, IsModel, Spelled, file_spelling, the_limits}
use Rattle.dv_syntax.specs.Trees.{FileTree}
use Rattle.dv_syntax.specs.Written.{WrittenFile, sorted}

-- a number of the language, or no number
abbrev pub IsSmall : TokenKind → Type 0
IsSmall (kind.Number n) = n < 2 ^ 63
IsSmall _ = Unit {0}

-- what is asked of a token is a number of the language, or no number
abbrev pub AsksSmall : Spelled → Type 0
AsksSmall (At k offset) = IsSmall k
AsksSmall (Anywhere k) = IsSmall k

-- The file is that of models whose items stand in some order. Their expressions, blocks and loops are within the limits on depth. They
-- are spelled with numbers of the language, and with at most 2^27 tokens; a text has at most 2^24 bytes.
pub record IsWritable (f : FileTree) : Type 0 where
  pub written : WrittenFile
  pub tree : f ≡ sorted written
  pub within : AllByRecursion (IsModel the_limits) written.models
  pub small : AllByRecursion AsksSmall (file_spelling written)
  pub few : length (file_spelling written) ≤ 2 ^ 27
