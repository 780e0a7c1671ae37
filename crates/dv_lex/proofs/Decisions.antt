-- What can be decided of bytes: which keyword or symbol they are, which symbol begins them, and how far they are UTF-8.
use Rattle.std.proofs.Common.{◌≡◌, ◌≢◌, ℕ, ◌≤◌, ◌⊎◌, inl, inr, zero, suc, List, [], ◌∷◌, ◌++◌, length, take, drop, Option, None}
use Rattle.std.proofs.Common.{Some, find, bytes_eq, IsUtf8, ap, refl, sym, ◌∙◌, arith}
use Rattle.std.specs.Prelude.{Bool, IfSome, IsTrue, false, true}
use Rattle.std.specs.Str.{IsValidUpTo, is_utf8}
use Rattle.std.proofs.lemmas.Bool.{cases_Bool, cases_eq, cases_lt, cond_both, both_ways, false≢true}
use Rattle.std.proofs.lemmas.List.{take_at, take_all, take-append-drop, length-take, length-append}
use Rattle.std.proofs.lemmas.Slice.Eq.{bytes_eq-Decides}
use Rattle.std.proofs.lemmas.Str.{IsUtf8-nil, IsUtf8-from_is_utf8, is_utf8-from_IsUtf8}
use Rattle.dv_lex.specs.declared.token.Symbol.{Symbol}
use Rattle.dv_lex.specs.declared.token.Symbol.TheVariants as symbol
use Rattle.dv_lex.specs.declared.token.Keyword.{Keyword}
use Rattle.dv_lex.specs.Lexemes.{is_reserved, keyword_text, symbol_text}
use Rattle.dv_lex.specs.Steps.{IsLongestSymbol}
use Rattle.dv_lex.proofs.Spellings.{keywords, symbols, keyword_at, same_keyword, symbol_at}

-- a text is that of something among all of a kind, or of none
abbrev pub IsTextOfOne : {X : Type 0} → (X → List ℕ) → List ℕ → Type 0
IsTextOfOne {X = X} text_of text = ((x : X) × (text ≡ text_of x)) ⊎ ((x : X) → text ≢ text_of x)

found_text : {X : Type 0} (text_of : X → List ℕ) (text : List ℕ) (all : List X) →
    IfSome (find (λ x. bytes_eq (text_of x) text) all) (λ x. text_of x ≡ text)
found_text text_of text [] = tt
found_text {X = X} text_of text (x ∷ xs) =
    cond_both (bytes_eq (text_of x) text) (Some x) (find (λ y. bytes_eq (text_of y) text) xs)
    (λ (o : Option X). IfSome o (λ y. text_of y ≡ text))
    (λ h. (bytes_eq-Decides (text_of x) text).0 h)
    (λ _. found_text text_of text xs)

by_found : {X : Type 0} (text_of : X → List ℕ) (all : List X) (text : List ℕ) →
    ((x : X) → find (λ y. bytes_eq (text_of y) (text_of x)) all ≡ Some x) → (o : Option X) →
    find (λ y. bytes_eq (text_of y) text) all ≡ o → IfSome o (λ x. text_of x ≡ text) → IsTextOfOne text_of text
by_found text_of all text each (Some x) e is = inl (x, sym is)
by_found {X = X} text_of all text each None e is =
    inr (λ x same. let t : ◌≡◌ {A = Option X} None (Some x) = sym e ∙
    (ap (λ (bytes : List ℕ). find (λ y. bytes_eq (text_of y) bytes) all) same ∙ each x) in cc)

text_of_one : {X : Type 0} (text_of : X → List ℕ) (all : List X) (text : List ℕ) →
    ((x : X) → find (λ y. bytes_eq (text_of y) (text_of x)) all ≡ Some x) → IsTextOfOne text_of text
text_of_one text_of all text each =
    by_found text_of all text each (find (λ y. bytes_eq (text_of y) text) all) refl (found_text text_of text all)

pub keyword_or_none : (text : List ℕ) → IsTextOfOne keyword_text text
keyword_or_none text = text_of_one keyword_text keywords text keyword_at

-- a text is that of a reserved word, or of none
abbrev pub IsReservedOrNone : List ℕ → Type 0
IsReservedOrNone text =
    ((word : Keyword) × (text ≡ keyword_text word) × IsTrue (is_reserved word))
    ⊎ ((word : Keyword) → IsTrue (is_reserved word) → text ≢ keyword_text word)

found_or_none : (text : List ℕ) (word : Keyword) → text ≡ keyword_text word → (b : Bool) → is_reserved word ≡ b → IsReservedOrNone text
found_or_none text word e true is = inl (word, e, is)
found_or_none text word e false is =
    inr (λ other reserved same.
    let one = same_keyword word other (sym e ∙ same) in absurd (false≢true (sym is ∙ ap is_reserved one ∙ reserved)))

pub reserved_or_none : (text : List ℕ) → IsReservedOrNone text
reserved_or_none text =
    elim (keyword_or_none text) [
      | inl found ↦ found_or_none text found.0 found.1 (is_reserved found.0) refl
      | inr none ↦ inr (λ word reserved. none word)
    ]

symbol_or_none : (text : List ℕ) → IsTextOfOne symbol_text text
symbol_or_none text = text_of_one symbol_text symbols text symbol_at

-- a symbol has one character or two
symbol_len : (s : Symbol) → (1 ≤ length (symbol_text s)) × (length (symbol_text s) ≤ 2)
symbol_len symbol.Assign = (omega arith, omega arith)
symbol_len _ = (omega arith, omega arith)

front_text : (bytes : List ℕ) (s : Symbol) (rest : List ℕ) (n : ℕ) → bytes ≡ symbol_text s ++ rest → length (symbol_text s) ≡ n →
    take n bytes ≡ symbol_text s
front_text bytes s rest n e len = ap (take n) e ∙ take_at (symbol_text s) rest n len

-- a symbol that no two characters in front are has one
short_symbol : (bytes : List ℕ) → ((s : Symbol) → take 2 bytes ≢ symbol_text s) → (s : Symbol) (rest : List ℕ) →
    bytes ≡ symbol_text s ++ rest → length (symbol_text s) ≡ 1
short_symbol bytes none s rest e =
    elim (cases_eq (length (symbol_text s)) 2) [
      | inl two ↦ absurd (none s (front_text bytes s rest 2 e two))
      | inr other ↦ omega (arith, symbol_len s)
    ]

longest_of_two : (bytes : List ℕ) (s : Symbol) → take 2 bytes ≡ symbol_text s → IsLongestSymbol bytes s (drop 2 bytes)
longest_of_two bytes s e = record {
  whole = sym (take-append-drop 2 bytes) ∙ ap (λ (front : List ℕ). front ++ drop 2 bytes) e;
  longest = λ other more whole.
      omega (arith, symbol_len other, ap length whole, length-append (symbol_text other) more, sym (ap length e) ∙ length-take 2 bytes);
}

longest_of_one : (bytes : List ℕ) (s : Symbol) → ((other : Symbol) → take 2 bytes ≢ symbol_text other) → take 1 bytes ≡ symbol_text s →
    IsLongestSymbol bytes s (drop 1 bytes)
longest_of_one bytes s none e = record {
  whole = sym (take-append-drop 1 bytes) ∙ ap (λ (front : List ℕ). front ++ drop 1 bytes) e;
  longest = λ other more whole. omega (arith, symbol_len s, short_symbol bytes none other more whole);
}

-- the symbol at the front of bytes, or that none is there
pub symbol_in_front : (bytes : List ℕ) →
    ((s : Symbol) × (rest : List ℕ) × IsLongestSymbol bytes s rest) ⊎ ((s : Symbol) (rest : List ℕ) → bytes ≢ symbol_text s ++ rest)
symbol_in_front bytes =
    elim (symbol_or_none (take 2 bytes)) [
      | inl two ↦ inl (two.0, drop 2 bytes, longest_of_two bytes two.0 two.1)
      | inr no_two ↦ elim (symbol_or_none (take 1 bytes)) [
        | inl one ↦ inl (one.0, drop 1 bytes, longest_of_one bytes one.0 no_two one.1)
        | inr no_one ↦ inr (λ s rest e. no_one s (front_text bytes s rest 1 e (short_symbol bytes no_two s rest e)))
      ]
    ]

-- how far bytes are UTF-8
utf8_up_to : (text : List ℕ) (n : ℕ) → n ≤ length text → ((m : ℕ) → n ≤ m → IsUtf8 (take m text) → ⊥) → (k : ℕ) × IsValidUpTo text k
utf8_up_to text zero h none = absurd (none 0 (omega arith) IsUtf8-nil)
utf8_up_to text (suc n) h none =
    elim (cases_Bool (is_utf8 (take n text))) [
      | inl e ↦ (n, record { short = omega arith; front = IsUtf8-from_is_utf8 (take n text) e; longest = λ m l. none m (omega arith) })
      | inr e ↦ utf8_up_to text n (omega arith) (λ m l u. elim (cases_lt n m) [
        | inl more ↦ none m (omega arith) u
        | inr same ↦ let here : m ≡ n = omega arith in
            both_ways (is_utf8 (take n text)) e (ap (λ k. is_utf8 (take k text)) (sym here) ∙ is_utf8-from_IsUtf8 (take m text) u)
      ])
    ]

pub utf8_or_not : (text : List ℕ) → IsUtf8 text ⊎ ((k : ℕ) × IsValidUpTo text k)
utf8_or_not text =
    elim (cases_Bool (is_utf8 text)) [
      | inl e ↦ inl (IsUtf8-from_is_utf8 text e)
      | inr e ↦ inr (utf8_up_to text (length text) (omega arith) (λ m l u.
          both_ways (is_utf8 text) e (ap is_utf8 (sym (take_all m text l)) ∙ is_utf8-from_IsUtf8 (take m text) u)))
    ]
