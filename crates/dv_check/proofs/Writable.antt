-- A file that was read from a text could be written down: it is spelled by the text's tokens, and these are few and of the language.
use Rattle.std.proofs.Common.{ℕ, ◌+◌, ◌≤◌, ◌^◌, List, [], ◌∷◌, length, map, Option, Some, None, sym, ap}
use Rattle.std.proofs.Common.{subst, ◌∙◌, arith}
use Rattle.std.specs.List.{AllByRecursion, cons_option}
use Rattle.dv_lex.specs.Lexemes.{Lexeme, Blank, Comment, Identifier, Numeral, Reserved, Sign}
use Rattle.dv_lex.specs.Numbering.{token_of, tokens_of}
use Rattle.dv_lex.specs.Reading.{IsInRange, Located, Reads}
use Rattle.dv_lex.specs.Texts.{IsTokensOf}
use Rattle.dv_lex.specs.Versions.{behind_header, headed, header_words, kind_or_word, text_in, versioned}
use Rattle.dv_lex.specs.Versions.{with_words, word_written, words_behind}
use Rattle.dv_lex.specs.declared.token.Keyword.{Keyword}
use Rattle.dv_lex.specs.declared.token.Token.{Token}
use Rattle.dv_lex.specs.declared.token.TokenKind.{TokenKind}
use Rattle.dv_source.specs.Texts.{TextFile, TextItem, TextModel, TextAtomic, TextCoupled, file_for, item_for, model_for}
use Rattle.dv_source.specs.Grammar.{IsFileOf, IsTextItem, IsTextModel, limits_behind, text_spelling}
use Rattle.dv_syntax.specs.declared.tree.Version.{Version}
use Rattle.dv_syntax.specs.Grammar.{Anywhere, At, IsItem, IsModel, IsSpelled, Spelled, Spells, the_limits}
use Rattle.dv_syntax.specs.Trees.{FileTree}
use Rattle.dv_syntax.specs.Written.{sorted}
use Rattle.dv_syntax.proofs.Lengths.{Spells-length}
use Rattle.dv_syntax.proofs.Within.{AreNoLess, item_within}
use Rattle.dv_check.specs.Writable.{AsksSmall, IsSmall, IsWritable}
use Rattle.dv_check.proofs.Longer.{file_longer}

-- tokens whose numbers are of the language
abbrev IsSmallToken : Token → Type 0
IsSmallToken t = IsSmall t.kind

abbrev AreSmall : List Token → Type 0
AreSmall ts = AllByRecursion IsSmallToken ts

-- tokens of a text
abbrev located : Lexeme → ℕ → Located
located l offset = record { lexeme = l; offset = offset }

small_then : (names : List (List ℕ)) (l : Lexeme) (index : ℕ) (more : List Token) → IsInRange l → AreSmall more →
    AreSmall (cons_option (token_of names (located l index)) more)
small_then names Blank index more h rest = rest
small_then names Comment index more h rest = rest
small_then names (Identifier text) index more h rest = (tt, rest)
small_then names (Numeral value) index more h rest = (h, rest)
small_then names (Reserved word) index more h rest = (tt, rest)
small_then names (Sign sign) index more h rest = (tt, rest)

tokens_small : (names : List (List ℕ)) (index : ℕ) (bytes : List ℕ) (xs : List Located) (end : ℕ) (rest : List ℕ) →
    Reads index bytes xs end rest → AreSmall (tokens_of names xs)
tokens_small names index bytes [] end rest h = tt
tokens_small names index bytes (x ∷ xs) end rest h =
    let front : List ℕ = h.2.0 in
    small_then names x.lexeme x.offset (tokens_of names xs) h.1
    (tokens_small names (index + length front) h.2.1 xs end rest h.2.3)

-- the same where words stand in the places of names
small_or : (k : TokenKind) (word : Option Keyword) → IsSmall k → IsSmall (kind_or_word k word)
small_or k None h = h
small_or k (Some word) h = tt

words_small : (names : List (List ℕ)) (words : List Keyword) (ts : List Token) → AreSmall ts →
    AreSmall (map (with_words names words) ts)
words_small names words [] h = tt
words_small names words (t ∷ ts) h =
    (small_or t.kind (word_written words (text_in names t.kind)) h.0, words_small names words ts h.1)

behind_small : (names : List (List ℕ)) (ts : List Token) → AreSmall ts → AreSmall (behind_header names ts)
behind_small names [] h = tt
behind_small names (t ∷ ts) h = (h.0, words_small names (words_behind t.kind) ts h.1)

headed_small : (names : List (List ℕ)) (word : Option Keyword) (t : Token) (ts : List Token) → AreSmall (t ∷ ts) →
    AreSmall (headed names word t ts)
headed_small names None t ts h = h
headed_small names (Some word) t ts h = (tt, behind_small names ts h.1)

versioned_small : (names : List (List ℕ)) (ts : List Token) → AreSmall ts → AreSmall (versioned names ts)
versioned_small names [] h = tt
versioned_small names (t ∷ ts) h = headed_small names (word_written header_words (text_in names t.kind)) t ts h

-- what they spell
spelled_small : (ss : List Spelled) (ts rest : List Token) → Spells ss ts rest → AreSmall ts → AllByRecursion AsksSmall ss
spelled_small [] ts rest h small = tt
spelled_small (s ∷ ss) [] rest h small = absurd h
spelled_small (s ∷ ss) (t ∷ ts) rest h small = (here s h.0 small.0, spelled_small ss ts rest h.1 small.1)
  where
    here : (s : Spelled) → IsSpelled t s → IsSmall t.kind → AsksSmall s
    here (At k offset) e h = subst IsSmall e.0 h
    here (Anywhere k) e h = subst IsSmall e h

-- what a text stands for is within the limits of the language
items_within : (header : Option Version) (items : List TextItem) → AllByRecursion (IsTextItem (limits_behind the_limits header)) items
    → AllByRecursion (IsItem the_limits) (map item_for items)
items_within header [] all = tt
items_within header (x ∷ items) all =
    let same : AreNoLess (limits_behind the_limits header) the_limits =
    record { expression = omega arith; block = omega arith; loop = omega arith } in
    (item_within (limits_behind the_limits header) the_limits same (item_for x) all.0.0, items_within header items all.1)

models_within : (header : Option Version) (models : List TextModel)
    → AllByRecursion (IsTextModel (limits_behind the_limits header)) models → AllByRecursion (IsModel the_limits) (map model_for models)
models_within header [] all = tt
models_within header (TextAtomic n items ∷ models) all = (items_within header items all.0, models_within header models all.1)
models_within header (TextCoupled n items ∷ models) all = (tt, models_within header models all.1)

-- the file that they stand for
pub text_writable : (text : List ℕ) (names : List (List ℕ)) (tokens : List Token) (f : FileTree) → length tokens ≤ length text
    → IsTokensOf text names tokens → IsFileOf tokens f → IsWritable f
text_writable text names tokens f few lexed parsed =
    let read : TextFile = parsed.read.text in
    let spelled = parsed.read.spelled in
    let longer = file_longer read in
    let small : AreSmall tokens = subst AreSmall (sym lexed.numbered)
    (versioned_small names (tokens_of names lexed.lexemes) (tokens_small names 0 text lexed.lexemes (length text) [] lexed.reads)) in
    let short : length (text_spelling read) ≤ 2 ^ 24 =
    omega (arith, few, lexed.readable.short, Spells-length (text_spelling read) tokens [] spelled) in
    record {
      written = file_for read;
      tree = parsed.tree ∙ ap sorted parsed.read.file;
      within = models_within read.header read.models parsed.read.models;
      small = longer.small (spelled_small (text_spelling read) tokens [] spelled small);
      few = omega (arith, short, longer.few);
    }
