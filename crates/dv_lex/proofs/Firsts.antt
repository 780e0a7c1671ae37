-- The longest lexeme at the front of bytes, by the first character.
use Rattle.std.proofs.Common.{◌≡◌, ◌≢◌, ℕ, ◌<◌, ◌≤◌, suc, true, false, not, ◌==◌, List, [], ◌∷◌, ◌++◌, length, take, drop, ap}
use Rattle.std.proofs.Common.{refl, sym, ◌∙◌, subst, arith, inl, inr, IsUtf8, encode_utf8_all}
use Rattle.std.specs.List.{list_all}
use Rattle.std.specs.Char.{is_ascii_digit}
use Rattle.std.specs.Str.Parse.{digits_value}
use Rattle.std.proofs.lemmas.Bool.{and_parts, and_from, both_ways, cases_Bool}
use Rattle.std.proofs.lemmas.Bool.Decides.{nat_tests}
use Rattle.std.proofs.lemmas.List.{take_at, drop_at, append_assoc, length-append}
use Rattle.std.proofs.lemmas.List.Folds.{list_all-append}
use Rattle.std.proofs.lemmas.Str.{encode_ascii, IsUtf8-past_char}
use Rattle.dv_lex.specs.declared.token.Symbol.{Symbol}
use Rattle.dv_lex.specs.Lexemes.{Lexeme, Blank, Comment, Identifier, Numeral, Reserved, Sign, Spells, IsWord, is_blank}
use Rattle.dv_lex.specs.Lexemes.{starts_name, continues_name, symbol_text}
use Rattle.dv_lex.specs.Reading.{IsFirst, IsInRange, NoneBegins}
use Rattle.dv_lex.specs.Steps.{BeginsWith, Ends, SplitsRun, SplitsCharacters, IsLongestSymbol}
use Rattle.dv_lex.proofs.Ascii.{is_ascii_digit-ascii, IsAscii-digits}
use Rattle.dv_lex.proofs.Characters.{same_first, characters_longest, BeginsWith-append, BeginsWith-ascii, IsUtf8-behind}
use Rattle.dv_lex.proofs.Characters.{IsUtf8-behind_ascii, line_end_behind}
use Rattle.dv_lex.proofs.Runs.{run_longest}
use Rattle.dv_lex.proofs.Spellings.{is_blank-ascii, IsUtf8-behind_symbol, class_of, lexeme_class, class_at, same_class}
use Rattle.dv_lex.proofs.Spellings.{not_Spells-empty, IsWord-spelled, continues_name-from_start, same_spelling}

-- a blank
blank_longest : (x : Lexeme) (front : List ℕ) → lexeme_class x ≡ 0 → Spells x front → length front ≤ 1
blank_longest Blank front k h = omega (arith, ap length h.1)
blank_longest _ front k h = absurd (omega arith)

pub IsFirst-blank : (b : ℕ) (bs : List ℕ) → is_blank b ≡ true → IsFirst (b ∷ bs) Blank (b ∷ []) bs
IsFirst-blank b bs h = record {
  whole = refl;
  spelled = (b, refl, h);
  longest = λ other longer more e t.
      blank_longest other longer (sym (same_class (b ∷ bs) Blank other (b ∷ []) bs longer more refl e (b, refl, h) t)) t;
}

-- a comment
comment_longest : (run rest : List ℕ) → Ends (λ b. not (b == 10)) rest → (x : Lexeme) (front more : List ℕ) → lexeme_class x ≡ 1 →
    35 ∷ (run ++ rest) ≡ front ++ more → Spells x front → length front ≤ suc (length run)
comment_longest run rest h Comment [] more k e t = omega arith
comment_longest run rest h Comment (c ∷ cs) more k e t =
    let same : run ++ rest ≡ cs ++ more = cc in
    omega (arith, run_longest (λ b. not (b == 10)) run rest cs more h same t.1)
comment_longest run rest h _ front more k e t = absurd (omega arith)

pub IsFirst-comment : (bytes run rest : List ℕ) → SplitsRun (λ b. not (b == 10)) bytes run rest →
    IsFirst (35 ∷ bytes) Comment (35 ∷ run) rest
IsFirst-comment bytes run rest s =
    let whole : 35 ∷ bytes ≡ 35 ∷ (run ++ rest) = ap (λ (bs : List ℕ). 35 ∷ bs) s.whole in
    record {
      whole = whole;
      spelled = (refl, s.each);
      longest = λ other longer more e t.
          comment_longest run rest s.ends other longer more
          (sym (same_class (35 ∷ bytes) Comment other (35 ∷ run) rest longer more whole e (refl, s.each) t)) (sym whole ∙ e) t;
    }

-- a word
word_characters : (c : ℕ) (cs : List ℕ) → starts_name c ≡ true → list_all continues_name cs ≡ true → list_all continues_name (c ∷ cs) ≡ true
word_characters c cs starts each = and_from (continues_name c) (list_all continues_name cs) (continues_name-from_start c starts) each

word_longest : (run rest : List ℕ) (text : List ℕ) → SplitsCharacters continues_name text run rest → (front more : List ℕ) →
    text ≡ front ++ more → IsWord front → length front ≤ length run
word_longest run rest text s front more e w =
    let joined : encode_utf8_all s.characters ++ rest ≡ encode_utf8_all (w.0 ∷ w.1) ++ more =
    ap (λ (bs : List ℕ). bs ++ rest) (sym s.run_is) ∙ (sym s.whole ∙ (e ∙ ap (λ (bs : List ℕ). bs ++ more) w.2)) in
    let less = characters_longest continues_name s.characters rest (w.0 ∷ w.1) more s.ends joined (word_characters w.0 w.1 w.3 w.4) in
    omega (arith, less, ap length s.run_is, ap length w.2)

pub IsFirst-word : (text run rest : List ℕ) (x : Lexeme) → SplitsCharacters continues_name text run rest → lexeme_class x ≡ 2 →
    Spells x run → IsFirst text x run rest
IsFirst-word text run rest x s k h = record {
  whole = s.whole;
  spelled = h;
  longest = λ other longer more e t.
      word_longest run rest text s longer more e
      (IsWord-spelled other longer (sym (same_class text x other run rest longer more s.whole e h t) ∙ k) t);
}

-- a number
numeral_longest : (run rest : List ℕ) → Ends is_ascii_digit rest → (x : Lexeme) (front more : List ℕ) → lexeme_class x ≡ 3 →
    run ++ rest ≡ front ++ more → Spells x front → length front ≤ length run
numeral_longest run rest h (Numeral value) front more k e t = run_longest is_ascii_digit run rest front more h e t.1
numeral_longest run rest h _ front more k e t = absurd (omega arith)

pub IsFirst-numeral : (bytes run rest : List ℕ) → SplitsRun is_ascii_digit bytes run rest → 0 < length run →
    IsFirst bytes (Numeral (digits_value 10 run)) run rest
IsFirst-numeral bytes run rest s h =
    let spelled : Spells (Numeral (digits_value 10 run)) run = (h, s.each, refl) in
    record {
      whole = s.whole;
      spelled = spelled;
      longest = λ other longer more e t.
          numeral_longest run rest s.ends other longer more
          (sym (same_class bytes (Numeral (digits_value 10 run)) other run rest longer more s.whole e spelled t)) (sym s.whole ∙ e) t;
    }

-- a symbol
sign_longest : (bytes : List ℕ) (s : Symbol) (rest : List ℕ) → IsLongestSymbol bytes s rest → (x : Lexeme) (front more : List ℕ) →
    lexeme_class x ≡ 4 → bytes ≡ front ++ more → Spells x front → length front ≤ length (symbol_text s)
sign_longest bytes s rest l (Sign other) front more k e t =
    omega (arith, l.longest other more (e ∙ ap (λ (bs : List ℕ). bs ++ more) t), ap length t)
sign_longest bytes s rest l _ front more k e t = absurd (omega arith)

pub IsFirst-sign : (bytes : List ℕ) (s : Symbol) (rest : List ℕ) → IsLongestSymbol bytes s rest →
    IsFirst bytes (Sign s) (symbol_text s) rest
IsFirst-sign bytes s rest l = record {
  whole = l.whole;
  spelled = refl;
  longest = λ other longer more e t.
      sign_longest bytes s rest l other longer more
      (sym (same_class bytes (Sign s) other (symbol_text s) rest longer more l.whole e refl t)) e t;
}

-- none
class_of-none : (c : ℕ) → is_blank c ≡ false → c ≢ 35 → starts_name c ≡ false → is_ascii_digit c ≡ false → 4 ≤ class_of c
class_of-none c blank comment name digit = grind (arith, nat_tests)

no_sign : (bytes : List ℕ) → ((s : Symbol) (rest : List ℕ) → bytes ≢ symbol_text s ++ rest) → (x : Lexeme) (front more : List ℕ) →
    4 ≤ lexeme_class x → bytes ≡ front ++ more → Spells x front → ⊥
no_sign bytes none (Sign s) front more k e t = none s more (e ∙ ap (λ (bs : List ℕ). bs ++ more) t)
no_sign bytes none Blank front more k e t = omega arith
no_sign bytes none _ front more k e t = omega arith

pub NoneBegins-first : (c : ℕ) (bytes : List ℕ) → BeginsWith c bytes → is_blank c ≡ false → c ≢ 35 → starts_name c ≡ false →
    is_ascii_digit c ≡ false → ((s : Symbol) (rest : List ℕ) → bytes ≢ symbol_text s ++ rest) → NoneBegins bytes
NoneBegins-first c bytes begins blank comment name digit none x front rest e t =
    no_sign bytes none x front rest (omega (arith, class_of-none c blank comment name digit, class_at c bytes begins x front rest e t)) e t

-- what follows a comment is the end of its line
longer_comment : (front : List ℕ) (b : ℕ) → Spells Comment front → not (b == 10) ≡ true → Spells Comment (front ++ b ∷ [])
longer_comment [] b h e = absurd h
longer_comment (a ∷ front) b h e =
    let last : list_all (λ c. not (c == 10)) (b ∷ []) ≡ true = and_from (not (b == 10)) true e refl in (
      h.0,
      list_all-append (λ c. not (c == 10)) front (b ∷ []) ∙ and_from (list_all (λ c. not (c == 10)) front)
          (list_all (λ c. not (c == 10)) (b ∷ [])) h.1 last,
    )

comment_ends : (bytes front rest : List ℕ) → IsFirst bytes Comment front rest → Ends (λ b. not (b == 10)) rest
comment_ends bytes front [] f = tt
comment_ends bytes front (b ∷ rest) f =
    elim (cases_Bool (not (b == 10))) [
      | inl e ↦
          let whole : bytes ≡ (front ++ b ∷ []) ++ rest = f.whole ∙ sym (append_assoc front (b ∷ []) rest) in
          let less = f.longest Comment (front ++ b ∷ []) rest whole (longer_comment front b f.spelled e) in
          absurd (omega (arith, less, length-append front (b ∷ [])))
      | inr e ↦ e
    ]

IsUtf8-behind_word : (front rest : List ℕ) → IsWord front → IsUtf8 (front ++ rest) → IsUtf8 rest
IsUtf8-behind_word front rest w u = IsUtf8-behind (w.0 ∷ w.1) rest (subst (λ (bs : List ℕ). IsUtf8 (bs ++ rest)) w.2 u)

-- what follows a lexeme of a text is a text
pub IsUtf8-behind_first : (bytes : List ℕ) (x : Lexeme) (front rest : List ℕ) → IsUtf8 bytes → IsFirst bytes x front rest → IsUtf8 rest
IsUtf8-behind_first bytes Blank front rest u f =
    let blank : ℕ = f.spelled.0 in
    let whole : bytes ≡ blank ∷ rest = f.whole ∙ ap (λ (bs : List ℕ). bs ++ rest) f.spelled.1 in
    let byte = encode_ascii blank (is_blank-ascii blank f.spelled.2) in
    IsUtf8-past_char bytes rest blank u (whole ∙ sym (ap (λ (bs : List ℕ). bs ++ rest) byte))
IsUtf8-behind_first bytes Comment front rest u f = line_end_behind front rest (comment_ends bytes front rest f) (subst IsUtf8 f.whole u)
IsUtf8-behind_first bytes (Identifier text) front rest u f =
    IsUtf8-behind_word front rest (IsWord-spelled (Identifier text) front refl f.spelled) (subst IsUtf8 f.whole u)
IsUtf8-behind_first bytes (Reserved word) front rest u f =
    IsUtf8-behind_word front rest (IsWord-spelled (Reserved word) front refl f.spelled) (subst IsUtf8 f.whole u)
IsUtf8-behind_first bytes (Numeral value) front rest u f =
    IsUtf8-behind_ascii front rest (IsAscii-digits front f.spelled.1) (subst IsUtf8 f.whole u)
IsUtf8-behind_first bytes (Sign s) front rest u f =
    IsUtf8-behind_symbol bytes s rest u (f.whole ∙ ap (λ (bs : List ℕ). bs ++ rest) f.spelled)

-- one lexeme is the longest
pub IsFirst-same : (bytes : List ℕ) (x y : Lexeme) (front rest other more : List ℕ) → IsFirst bytes x front rest →
    IsFirst bytes y other more → (x ≡ y) × (front ≡ other) × (rest ≡ more)
IsFirst-same bytes x y front rest other more f g =
    let n : length front ≡ length other =
    omega (arith, f.longest y other more g.whole g.spelled, g.longest x front rest f.whole f.spelled) in
    let joined : front ++ rest ≡ other ++ more = sym f.whole ∙ g.whole in
    let fronts : front ≡ other =
    sym (take_at front rest (length front) refl) ∙ (ap (take (length front)) joined ∙ take_at other more (length front) (sym n)) in
    let rests : rest ≡ more =
    sym (drop_at front rest (length front) refl) ∙ (ap (drop (length front)) joined ∙ drop_at other more (length front) (sym n)) in
    (same_spelling x y front f.spelled (subst (Spells y) (sym fronts) g.spelled), fronts, rests)

-- nothing is first in no bytes
empty_front : (front rest : List ℕ) → [] ≡ front ++ rest → [] ≡ front
empty_front [] rest e = refl
empty_front (b ∷ front) rest e = cc

pub not_IsFirst-empty : (x : Lexeme) (front rest : List ℕ) → IsFirst [] x front rest → ⊥
not_IsFirst-empty x front rest f = not_Spells-empty x (subst (Spells x) (sym (empty_front front rest f.whole)) f.spelled)

-- a run that its first character begins
word_run : (cs : List ℕ) (c : ℕ) (text run rest : List ℕ) → BeginsWith c text → starts_name c ≡ true →
    SplitsCharacters continues_name text run rest → run ≡ encode_utf8_all cs → list_all continues_name cs ≡ true → IsWord run
word_run [] c text run rest b h s e each =
    let begins : BeginsWith c rest = subst (BeginsWith c) (s.whole ∙ ap (λ (bs : List ℕ). bs ++ rest) e) b in
    absurd (both_ways (continues_name c) (s.ends c begins) (continues_name-from_start c h))
word_run (d ∷ ds) c text run rest b h s e each =
    let begins : BeginsWith d text = subst (BeginsWith d) (sym s.whole) (BeginsWith-append d run rest (encode_utf8_all ds, e)) in
    (d, ds, e, ap starts_name (same_first d c text begins b) ∙ h, (and_parts (continues_name d) (list_all continues_name ds) each).1)

pub IsWord-split : (c : ℕ) (text run rest : List ℕ) → BeginsWith c text → starts_name c ≡ true →
    SplitsCharacters continues_name text run rest → IsWord run
IsWord-split c text run rest b h s = word_run s.characters c text run rest b h s s.run_is s.each

digits_run : (c : ℕ) (bytes run rest more : List ℕ) → bytes ≡ c ∷ more → is_ascii_digit c ≡ true →
    SplitsRun is_ascii_digit bytes run rest → 0 < length run
digits_run c bytes [] rest more e h s =
    let ends : is_ascii_digit c ≡ false = subst (Ends is_ascii_digit) (sym s.whole ∙ e) s.ends in
    absurd (both_ways (is_ascii_digit c) ends h)
digits_run c bytes (d ∷ run) rest more e h s = omega arith

pub digits-split : (c : ℕ) (bytes run rest : List ℕ) → BeginsWith c bytes → is_ascii_digit c ≡ true →
    SplitsRun is_ascii_digit bytes run rest → 0 < length run
digits-split c bytes run rest b h s = digits_run c bytes run rest b.0 (BeginsWith-ascii c bytes b (is_ascii_digit-ascii c h)) h s

pub word_in_range : (x : Lexeme) → lexeme_class x ≡ 2 → IsInRange x
word_in_range (Numeral value) k = absurd (omega arith)
word_in_range Blank k = tt
word_in_range _ k = tt
