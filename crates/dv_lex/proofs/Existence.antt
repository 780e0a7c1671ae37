-- Each text has tokens or is refused: a lexeme begins what is left of it, or reading stops.
use Rattle.std.proofs.Common.{◌≡◌, ◌≢◌, ℕ, ◌+◌, ◌<◌, ◌≤◌, ◌^◌, ◌⊎◌, inl, inr, zero, suc, true, false, not, ◌==◌, List, [], ◌∷◌}
use Rattle.std.proofs.Common.{length, ap, refl, sym, ◌∙◌, subst, arith, IsUtf8, encode_utf8_all}
use Rattle.std.specs.Char.{is_ascii_digit}
use Rattle.std.specs.Str.Parse.{digits_value}
use Rattle.std.proofs.lemmas.Bool.{cases_Bool, cases_eq, cases_lt}
use Rattle.std.proofs.lemmas.List.{length-append}
use Rattle.dv_lex.specs.declared.token.Token.{Token}
use Rattle.dv_lex.specs.declared.error.Refusal.{Refusal}
use Rattle.dv_lex.specs.declared.error.RefusalNumber.TheVariants.{E1, E2, E3, E17}
use Rattle.dv_lex.specs.Lexemes.{Lexeme, Blank, Comment, Identifier, Numeral, Reserved, Sign, Spells, IsWord, is_blank}
use Rattle.dv_lex.specs.Lexemes.{starts_name, continues_name, symbol_text}
use Rattle.dv_lex.specs.Reading.{Located, Reads, IsFirst, IsInRange, NoneBegins, LargeNumberBegins}
use Rattle.dv_lex.specs.Numbering.{names_of, tokens_of}
use Rattle.dv_lex.specs.Versions.{versioned}
use Rattle.dv_lex.specs.Steps.{BeginsWith, SplitsRun, SplitsCharacters}
use Rattle.dv_lex.specs.Texts.{IsReadable, IsTokensOf, IsRefused, ReadsUpTo, greatest_length}
use Rattle.dv_lex.proofs.Runs.{SplitsRun-cut}
use Rattle.dv_lex.proofs.Characters.{some_text, BeginsWith-ascii, SplitsCharacters-encoded}
use Rattle.dv_lex.proofs.Spellings.{is_blank-ascii, word_class}
use Rattle.dv_lex.proofs.Firsts.{IsFirst-blank, IsFirst-comment, IsFirst-word, IsFirst-numeral, IsFirst-sign, IsWord-split}
use Rattle.dv_lex.proofs.Firsts.{digits-split, NoneBegins-first, word_in_range, IsUtf8-behind_first}
use Rattle.dv_lex.proofs.Readings.{Reads-end, some_byte}
use Rattle.dv_lex.proofs.Decisions.{reserved_or_none, symbol_in_front, utf8_or_not}

-- where reading stops: at the end, where no lexeme begins, or at a number that is out of range
data Stop (bytes : List ℕ) : Type 0 where
  AtEnd : bytes ≡ [] → Stop bytes
  AtNone : 0 < length bytes → NoneBegins bytes → Stop bytes
  AtLarge : LargeNumberBegins bytes → Stop bytes

-- a lexeme within the range of numbers begins the text
record Begins (text : List ℕ) : Type 0 where
  lexeme : Lexeme
  front : List ℕ
  rest : List ℕ
  first : IsFirst text lexeme front rest
  range : IsInRange lexeme

-- a text that a lexeme begins, or where reading stops
abbrev Front : List ℕ → Type 0
Front text = Stop text ⊎ Begins text

begun : (text : List ℕ) (x : Lexeme) (front rest : List ℕ) → IsFirst text x front rest → IsInRange x → Front text
begun text x front rest first range = inr (record { lexeme = x; front = front; rest = rest; first = first; range = range })

-- a comment, up to the end of its line
comment_front : (text run rest : List ℕ) → SplitsRun (λ b. not (b == 10)) text run rest → Front (35 ∷ text)
comment_front text run rest s = begun (35 ∷ text) Comment (35 ∷ run) rest (IsFirst-comment text run rest s) tt

-- a word: a keyword, or a name
word_lexeme : (run : List ℕ) → IsWord run → (x : Lexeme) × Spells x run
word_lexeme run w =
    elim (reserved_or_none run) [ inl found ↦ (Reserved found.0, (found.1, found.2)) | inr none ↦ (Identifier run, (refl, w, none)) ]

word_front : (c : ℕ) (text run rest : List ℕ) → BeginsWith c text → starts_name c ≡ true → SplitsCharacters continues_name text run rest →
    Front text
word_front c text run rest b h s =
    let word : IsWord run = IsWord-split c text run rest b h s in
    let x : (x : Lexeme) × Spells x run = word_lexeme run word in
    let class = word_class x.0 run word x.1 in
    begun text x.0 run rest (IsFirst-word text run rest x.0 s class x.1) (word_in_range x.0 class)

-- a number, in range or not
digits_front : (c : ℕ) (text run rest : List ℕ) → BeginsWith c text → is_ascii_digit c ≡ true → SplitsRun is_ascii_digit text run rest →
    Front text
digits_front c text run rest b h s =
    let first = IsFirst-numeral text run rest s (digits-split c text run rest b h s) in
    elim (cases_lt (digits_value 10 run) (2 ^ 63)) [
      | inl small ↦ begun text (Numeral (digits_value 10 run)) run rest first small
      | inr large ↦ inl (AtLarge (digits_value 10 run, run, rest, first, large))
    ]

-- a symbol, or nothing that begins a lexeme
symbol_front : (c : ℕ) (text : List ℕ) → BeginsWith c text → is_blank c ≡ false → c ≢ 35 → starts_name c ≡ false →
    is_ascii_digit c ≡ false → Front text
symbol_front c text b blank comment name digit =
    elim (symbol_in_front text) [
      | inl found ↦ begun text (Sign found.0) (symbol_text found.0) found.1 (IsFirst-sign text found.0 found.1 found.2) tt
      | inr none ↦ inl (AtNone (some_text c text b) (NoneBegins-first c text b blank comment name digit none))
    ]

-- by the first character
blank_front : (c : ℕ) (text rest : List ℕ) → text ≡ c ∷ rest → is_blank c ≡ true → Front text
blank_front c text rest e blank = subst Front (sym e) (begun (c ∷ rest) Blank (c ∷ []) rest (IsFirst-blank c rest blank) tt)

number_sign_front : (text rest : List ℕ) → text ≡ 35 ∷ rest → Front text
number_sign_front text rest e = subst Front (sym e) (comment_front rest _ _ (SplitsRun-cut (λ b. not (b == 10)) rest _ refl))

token_front : (c : ℕ) (text : List ℕ) → IsUtf8 text → BeginsWith c text → is_blank c ≡ false → c ≢ 35 → Front text
token_front c text u b blank comment =
    elim (cases_Bool (starts_name c)) [
      | inl name ↦
          word_front c text _ _ b name
          (SplitsCharacters-encoded continues_name u.0 _ _ text (SplitsRun-cut continues_name u.0 _ refl) u.1.1)
      | inr no_name ↦ elim (cases_Bool (is_ascii_digit c)) [
        | inl digit ↦ digits_front c text _ _ b digit (SplitsRun-cut is_ascii_digit text _ refl)
        | inr no_digit ↦ symbol_front c text b blank comment no_name no_digit
      ]
    ]

first_front : (c : ℕ) (text : List ℕ) → IsUtf8 text → BeginsWith c text → Front text
first_front c text u b =
    elim (cases_Bool (is_blank c)) [
      | inl blank ↦ blank_front c text b.0 (BeginsWith-ascii c text b (is_blank-ascii c blank)) blank
      | inr no_blank ↦ elim (cases_eq c 35) [
        | inl comment ↦ number_sign_front text b.0 (BeginsWith-ascii c text b (omega (arith, comment)) ∙ ap (λ n. n ∷ b.0) comment)
        | inr no_comment ↦ token_front c text u b no_blank no_comment
      ]
    ]

front_by : (cs text : List ℕ) → encode_utf8_all cs ≡ text → IsUtf8 text → Front text
front_by [] text e u = inl (AtEnd (sym e))
front_by (c ∷ cs) text e u = first_front c text u (encode_utf8_all cs, sym e)

front_of : (text : List ℕ) → IsUtf8 text → Front text
front_of text u = front_by u.0 text u.1.1 u

-- the bytes, which begin at an offset, are read as far as it goes
record ReadsToStop (offset : ℕ) (bytes : List ℕ) : Type 0 where
  lexemes : List Located
  end : ℕ
  rest : List ℕ
  reads : Reads offset bytes lexemes end rest
  stop : Stop rest

ReadsToStop-here : (offset : ℕ) (bytes : List ℕ) → Stop bytes → ReadsToStop offset bytes
ReadsToStop-here offset bytes stop = record { lexemes = []; end = offset; rest = bytes; reads = (refl, refl); stop = stop }

ReadsToStop-more : (offset : ℕ) (bytes : List ℕ) (b : Begins bytes) → ReadsToStop (offset + length b.front) b.rest → ReadsToStop offset bytes
ReadsToStop-more offset bytes b r = record {
  lexemes = record { lexeme = b.lexeme; offset = offset } ∷ r.lexemes;
  end = r.end;
  rest = r.rest;
  reads = (refl, b.range, (b.front, b.rest, b.first, r.reads));
  stop = r.stop;
}

-- a lexeme leaves fewer bytes
rest_shorter : (bytes : List ℕ) (b : Begins bytes) → length b.rest < length bytes
rest_shorter bytes b = omega (arith, some_byte b.lexeme b.front b.first.spelled, ap length b.first.whole, length-append b.front b.rest)

-- by recursion on a bound of the number of bytes that are left
read_to_stop : (most offset : ℕ) (bytes : List ℕ) → length bytes ≤ most → IsUtf8 bytes → ReadsToStop offset bytes
read_to_stop zero offset bytes h u =
    elim (front_of bytes u) [ inl stop ↦ ReadsToStop-here offset bytes stop | inr b ↦ absurd (omega (arith, rest_shorter bytes b)) ]
read_to_stop (suc most) offset bytes h u =
    elim (front_of bytes u) [
      | inl stop ↦ ReadsToStop-here offset bytes stop
      | inr b ↦
          let text : IsUtf8 b.rest = IsUtf8-behind_first bytes b.lexeme b.front b.rest u b.first in
          ReadsToStop-more offset bytes b (read_to_stop most (offset + length b.front) b.rest (omega (arith, rest_shorter bytes b)) text)
    ]

-- what a text has: tokens, or a refusal
abbrev Outcome : List ℕ → Type 0
Outcome text = ((names : List (List ℕ)) × (tokens : List Token) × IsTokensOf text names tokens) ⊎ ((r : Refusal) × IsRefused text r)

read_whole : (text : List ℕ) → IsReadable text → (r : ReadsToStop 0 text) → r.rest ≡ [] → Outcome text
read_whole text readable r e =
    let end : r.end ≡ length text = omega (arith, Reads-end 0 text r.lexemes r.end r.rest r.reads, ap length e) in
    let names : List (List ℕ) = names_of r.lexemes in
    inl (
      names,
      versioned names (tokens_of names r.lexemes),
      record {
        readable = readable;
        lexemes = r.lexemes;
        reads = subst (λ n. Reads 0 text r.lexemes n []) end (subst (λ (rest : List ℕ). Reads 0 text r.lexemes r.end rest) e r.reads);
        table = refl;
        numbered = refl;
      },
    )

readable_outcome : (text : List ℕ) → IsReadable text → ReadsToStop 0 text → Outcome text
readable_outcome text readable r =
    let up_to : ReadsUpTo text r.end r.rest = record { readable = readable; lexemes = r.lexemes; reads = r.reads } in
    elim (r.stop) [
      | AtEnd e ↦ read_whole text readable r e
      | AtNone more none ↦ inr (record { number = E2; offset = r.end }, (r.rest, up_to, more, none))
      | AtLarge large ↦ inr (record { number = E3; offset = r.end }, (r.rest, up_to, large))
    ]

short_outcome : (text : List ℕ) → length text ≤ greatest_length → Outcome text
short_outcome text short =
    elim (utf8_or_not text) [
      | inl utf8 ↦ readable_outcome text (record { short = short; utf8 = utf8 }) (read_to_stop (length text) 0 text (omega arith) utf8)
      | inr valid ↦ inr (record { number = E1; offset = valid.0 }, (short, valid.1))
    ]

pub tokens_or_refusal : (text : List ℕ) → Outcome text
tokens_or_refusal text =
    elim (cases_lt greatest_length (length text)) [
      | inl long ↦ inr (record { number = E17; offset = 0 }, (long, refl))
      | inr short ↦ short_outcome text short
    ]
