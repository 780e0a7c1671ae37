-- What a model text is cut into, and how each piece of it is spelled.
use Rattle.std.specs.Prelude.{◌≡◌, ◌≢◌, ℕ, ◌<◌, ◌==◌, Bool, true, false, not, ◌||◌, IsTrue, List, [], ◌∷◌, length, codes, count_by}
use Rattle.std.specs.Prelude.{encode_utf8_all}
use Rattle.std.specs.Char.{is_ascii_digit, is_ascii_alphanumeric}
use Rattle.std.specs.List.{list_all}
use Rattle.std.specs.Str.Parse.{digits_value}
use Rattle.unicode_ident.specs.Ident.{is_xid_start, is_xid_continue}
use Rattle.dv_lex.specs.declared.token.Keyword.{Keyword}
use Rattle.dv_lex.specs.declared.token.Keyword.TheVariants as keyword
use Rattle.dv_lex.specs.declared.token.Symbol.{Symbol}
use Rattle.dv_lex.specs.declared.token.Symbol.TheVariants as symbol

-- a token before names are numbered, or what is between tokens
pub data Lexeme : Type 0 where
  Blank : Lexeme
  Comment : Lexeme
  Identifier : (text : List ℕ) → Lexeme
  Numeral : (value : ℕ) → Lexeme
  Reserved : (word : Keyword) → Lexeme
  Sign : (sign : Symbol) → Lexeme

-- space, tab, carriage return, line feed
abbrev pub is_blank : ℕ → Bool
is_blank b = b == 32 || b == 9 || b == 13 || b == 10

-- whether a name may begin with the character
abbrev pub starts_name : ℕ → Bool
starts_name c = is_xid_start c || c == 95

-- whether the character may follow the first one in a name
abbrev pub continues_name : ℕ → Bool
continues_name c = is_xid_continue c

-- whether the byte is an ASCII character that may follow the first one in a name
abbrev pub is_name_byte : ℕ → Bool
is_name_byte b = is_ascii_alphanumeric b || b == 95

-- the number of line feeds among the bytes
abbrev pub line_feeds : List ℕ → ℕ
line_feeds bytes = count_by (λ b. b == 10) bytes

-- a number sign, and no line feed behind it
abbrev pub IsComment : List ℕ → Type 0
IsComment [] = ⊥
IsComment (b ∷ bytes) = (b ≡ 35) × IsTrue (list_all (λ c. not (c == 10)) bytes)

-- one character that starts a name, and then characters that continue it
abbrev pub IsWord : List ℕ → Type 0
IsWord bytes = (c : ℕ) × (cs : List ℕ) × (bytes ≡ encode_utf8_all (c ∷ cs)) × IsTrue (starts_name c) × IsTrue (list_all continues_name cs)

-- the spelling of a keyword
abbrev pub keyword_text : Keyword → List ℕ
keyword_text keyword.Atomic = codes "atomic"
keyword_text keyword.Coupled = codes "coupled"
keyword_text keyword.Root = codes "root"
keyword_text keyword.In = codes "in"
keyword_text keyword.Out = codes "out"
keyword_text keyword.Var = codes "var"
keyword_text keyword.Flag = codes "flag"
keyword_text keyword.Bag = codes "bag"
keyword_text keyword.Phases = codes "phases"
keyword_text keyword.Start = codes "start"
keyword_text keyword.Hold = codes "hold"
keyword_text keyword.Forever = codes "forever"
keyword_text keyword.Output = codes "output"
keyword_text keyword.Internal = codes "internal"
keyword_text keyword.External = codes "external"
keyword_text keyword.Confluent = codes "confluent"
keyword_text keyword.Part = codes "part"
keyword_text keyword.Link = codes "link"
keyword_text keyword.Itself = codes "self"
keyword_text keyword.If = codes "if"
keyword_text keyword.Else = codes "else"
keyword_text keyword.For = codes "for"
keyword_text keyword.Add = codes "add"
keyword_text keyword.To = codes "to"
keyword_text keyword.Drop = codes "drop"
keyword_text keyword.From = codes "from"
keyword_text keyword.Send = codes "send"
keyword_text keyword.Goto = codes "goto"
keyword_text keyword.True = codes "true"
keyword_text keyword.False = codes "false"
keyword_text keyword.Not = codes "not"
keyword_text keyword.And = codes "and"
keyword_text keyword.Or = codes "or"
keyword_text keyword.Elapsed = codes "elapsed"
keyword_text keyword.Size = codes "size"
keyword_text keyword.Sum = codes "sum"
keyword_text keyword.Least = codes "least"
keyword_text keyword.Most = codes "most"
keyword_text keyword.Times = codes "times"
keyword_text keyword.Version = codes "version"
keyword_text keyword.Queue = codes "queue"
keyword_text keyword.Push = codes "push"
keyword_text keyword.Pop = codes "pop"
keyword_text keyword.Front = codes "front"
keyword_text keyword.Const = codes "const"
keyword_text keyword.Each = codes "each"
keyword_text keyword.When = codes "when"

-- whether the word is never a name
abbrev pub is_reserved : Keyword → Bool
is_reserved keyword.Version = false
is_reserved keyword.Queue = false
is_reserved keyword.Push = false
is_reserved keyword.Pop = false
is_reserved keyword.Front = false
is_reserved keyword.Const = false
is_reserved keyword.Each = false
is_reserved keyword.When = false
is_reserved word = true

-- the spelling of a symbol
abbrev pub symbol_text : Symbol → List ℕ
symbol_text symbol.Assign = codes ":="
symbol_text symbol.Arrow = codes "->"
symbol_text symbol.Range = codes ".."
symbol_text symbol.Unequal = codes "!="
symbol_text symbol.AtMost = codes "<="
symbol_text symbol.AtLeast = codes ">="
symbol_text symbol.OpenBrace = codes "{"
symbol_text symbol.CloseBrace = codes "}"
symbol_text symbol.OpenParen = codes "("
symbol_text symbol.CloseParen = codes ")"
symbol_text symbol.Semicolon = codes ";"
symbol_text symbol.Colon = codes ":"
symbol_text symbol.Comma = codes ","
symbol_text symbol.Dot = codes "."
symbol_text symbol.Equal = codes "="
symbol_text symbol.Less = codes "<"
symbol_text symbol.Greater = codes ">"
symbol_text symbol.Plus = codes "+"
symbol_text symbol.Minus = codes "-"
symbol_text symbol.Star = codes "*"
symbol_text symbol.Slash = codes "/"
symbol_text symbol.Percent = codes "%"

-- the bytes spell the lexeme
abbrev pub Spells : Lexeme → List ℕ → Type 0
Spells Blank bytes = (b : ℕ) × (bytes ≡ b ∷ []) × IsTrue (is_blank b)
Spells Comment bytes = IsComment bytes
Spells (Identifier text) bytes = (bytes ≡ text) × IsWord text × ((word : Keyword) → IsTrue (is_reserved word) → text ≢ keyword_text word)
Spells (Numeral value) bytes = (0 < length bytes) × IsTrue (list_all is_ascii_digit bytes) × (value ≡ digits_value 10 bytes)
Spells (Reserved word) bytes = (bytes ≡ keyword_text word) × IsTrue (is_reserved word)
Spells (Sign sign) bytes = bytes ≡ symbol_text sign
