-- The table of names of a model text, and its tokens.
use Rattle.std.specs.Prelude.{ℕ, List, Option, Some, None, filter_map, option_map}
use Rattle.dv_lex.specs.declared.token.Token.{Token}
use Rattle.dv_lex.specs.declared.token.TokenKind.{TokenKind}
use Rattle.dv_lex.specs.declared.token.TokenKind.TheVariants as kind
use Rattle.dv_lex.specs.Lexemes.{Lexeme, Blank, Comment, Identifier, Numeral, Reserved, Sign}
use Rattle.dv_lex.specs.Reading.{Located}
use Rattle.dv_lex.specs.Table.{first_appearances, number_of}

-- the text of a name
abbrev pub name_in : Lexeme → Option (List ℕ)
name_in (Identifier text) = Some text
name_in _ = None

-- the names of a text, in the order in which they first appear
abbrev pub names_of : List Located → List (List ℕ)
names_of xs = first_appearances (filter_map (λ x. name_in x.lexeme) xs)

-- the token of a lexeme: a name by its index in the table; blanks and comments are no tokens
abbrev pub kind_of : List (List ℕ) → Lexeme → Option TokenKind
kind_of names Blank = None
kind_of names Comment = None
kind_of names (Identifier text) = Some (kind.Name (number_of names text))
kind_of names (Numeral value) = Some (kind.Number value)
kind_of names (Reserved word) = Some (kind.Keyword word)
kind_of names (Sign sign) = Some (kind.Symbol sign)

abbrev pub token_of : List (List ℕ) → Located → Option Token
token_of names x = option_map (λ k. record { kind = k; offset = x.offset }) (kind_of names x.lexeme)

-- the tokens, each at the offset of its first byte
abbrev pub tokens_of : List (List ℕ) → List Located → List Token
tokens_of names xs = filter_map (token_of names) xs
