-- The header of a model text, which says the version of the language, and the words of later versions.
use Rattle.std.specs.Prelude.{◌≡◌, if◌then◌else◌, ℕ, Bool, false, IsTrue, ◌==◌, ◌||◌, List, [], ◌∷◌, Option, Some, None}
use Rattle.std.specs.Prelude.{find, map, bytes_eq, slice_get, unwrap_or}
use Rattle.dv_lex.specs.declared.token.Token.{Token}
use Rattle.dv_lex.specs.declared.token.TokenKind.{TokenKind}
use Rattle.dv_lex.specs.declared.token.TokenKind.TheVariants as kind
use Rattle.dv_lex.specs.declared.token.Keyword.{Keyword}
use Rattle.dv_lex.specs.declared.token.Keyword.TheVariants as keyword
use Rattle.dv_lex.specs.Lexemes.{keyword_text}

-- the words of a header
abbrev pub header_words : List Keyword
header_words = keyword.Version ∷ []

-- the words of version 2
abbrev pub second_words : List Keyword
second_words = keyword.Queue ∷ keyword.Push ∷ keyword.Pop ∷ keyword.Front ∷ []

-- the words of version 3
abbrev pub third_words : List Keyword
third_words = keyword.Const ∷ keyword.Each ∷ keyword.When ∷ second_words

-- the words that are keywords behind a header with this number
abbrev pub words_of : ℕ → List Keyword
words_of n = if n == 2 then second_words else (if n == 3 then third_words else [])

-- the one of these words with this spelling
abbrev pub word_written : List Keyword → List ℕ → Option Keyword
word_written words text = find (λ word. bytes_eq (keyword_text word) text) words

-- a keyword in place of a name with its spelling
abbrev pub kind_or_word : TokenKind → Option Keyword → TokenKind
kind_or_word k None = k
kind_or_word k (Some word) = kind.Keyword word

-- the text of a name; empty for other tokens
abbrev pub text_in : List (List ℕ) → TokenKind → List ℕ
text_in names (kind.Name n) = unwrap_or (slice_get names n) []
text_in names other = []

abbrev pub kind_among : List (List ℕ) → List Keyword → TokenKind → TokenKind
kind_among names words k = kind_or_word k (word_written words (text_in names k))

-- the same for a token, which keeps its offset
abbrev pub with_words : List (List ℕ) → List Keyword → Token → Token
with_words names words t = record { kind = kind_among names words t.kind; offset = t.offset }

-- the words that are keywords behind this token, which follows the word of a header
abbrev pub words_behind : TokenKind → List Keyword
words_behind (kind.Number n) = words_of n
words_behind other = []

-- the tokens behind the word of a header
abbrev pub behind_header : List (List ℕ) → List Token → List Token
behind_header names [] = []
behind_header names (t ∷ ts) = t ∷ map (with_words names (words_behind t.kind)) ts

abbrev pub headed : List (List ℕ) → Option Keyword → Token → List Token → List Token
headed names None t ts = t ∷ ts
headed names (Some word) t ts = record { kind = kind.Keyword word; offset = t.offset } ∷ behind_header names ts

-- The tokens of a text: if the first is the name `version` it is the word of a header. Everywhere else `version` is a name. If the number 2
-- or 3 follows that word, the names behind it that are spelled like words of that version are these words.
abbrev pub versioned : List (List ℕ) → List Token → List Token
versioned names [] = []
versioned names (t ∷ ts) = headed names (word_written header_words (text_in names t.kind)) t ts

-- the first of the tokens is the name `version`
abbrev pub IsHeaded : List (List ℕ) → List Token → Type 0
IsHeaded names [] = ⊥
IsHeaded names (t ∷ ts) = text_in names t.kind ≡ keyword_text keyword.Version

-- whether the token is the number of version 2 or 3
abbrev pub is_later_version : TokenKind → Bool
is_later_version (kind.Number n) = n == 2 || n == 3
is_later_version other = false

-- the first of the tokens behind the word of a header is the number of version 2 or 3
abbrev pub IsOfLaterVersion : List Token → Type 0
IsOfLaterVersion [] = ⊥
IsOfLaterVersion (t ∷ ts) = IsTrue (is_later_version t.kind)
