-- What the spellings of lexemes begin with, and that no two lexemes have one spelling.
use Rattle.std.proofs.Common.{◌≡◌, ℕ, ◌<◌, ◌≤◌, Bool, true, false, cond, ◌&&◌, ◌||◌, ◌==◌, List, [], ◌∷◌, ◌++◌, length, drop, ap}
use Rattle.std.proofs.Common.{refl, sym, ◌∙◌, subst, arith, encode_utf8_all, find, bytes_eq, Some, inl, inr, IsUtf8, IsAscii}
use Rattle.std.proofs.Common.{IsCharBoundary, get_or}
use Rattle.std.specs.List.{list_all}
use Rattle.std.specs.Char.{is_ascii_alphabetic, is_ascii_digit}
use Rattle.std.specs.Int.{is_in_range}
use Rattle.std.proofs.lemmas.Bool.{and_parts, and_from, or_cases, eqb-true, cases_lt}
use Rattle.std.proofs.lemmas.Bool.Decides.{nat_tests}
use Rattle.std.proofs.lemmas.List.{append-nil}
use Rattle.std.proofs.lemmas.Str.{encode_ascii, encodes-IsAscii, IsCharBoundary-from_drop}
use Rattle.std.proofs.lemmas.Option.{same_Some}
use Rattle.unicode_ident.specs.Ident.{is_xid_start, is_xid_continue}
use Rattle.unicode_ident.proofs.IdentLemmas.{is_xid_start-ascii, is_xid_continue-ascii, is_xid_start-is_xid_continue}
use Rattle.dv_lex.specs.declared.token.Keyword.{Keyword}
use Rattle.dv_lex.specs.declared.token.Keyword.TheVariants as keyword
use Rattle.dv_lex.specs.declared.token.Symbol.{Symbol}
use Rattle.dv_lex.specs.declared.token.Symbol.TheVariants as symbol
use Rattle.dv_lex.specs.Lexemes.{Lexeme, Blank, Comment, Identifier, Numeral, Reserved, Sign, Spells, IsWord, is_blank}
use Rattle.dv_lex.specs.Lexemes.{starts_name, continues_name, keyword_text, symbol_text}
use Rattle.dv_lex.specs.Steps.{BeginsWith}
use Rattle.dv_lex.proofs.Ascii.{IsAscii-run, is_ascii_digit-ascii}
use Rattle.dv_lex.proofs.Characters.{not_begun, same_first, BeginsWith-append, IsUtf8-behind_ascii}

-- whether a symbol begins with the character
abbrev pub is_sign : ℕ → Bool
is_sign c = c == 33 || c == 37 || is_in_range 40 47 c || is_in_range 58 62 c || c == 123 || c == 125

-- which lexemes begin with the character: blanks, comments, words, numbers, symbols, none
abbrev pub class_of : ℕ → ℕ
class_of c = cond (is_blank c) 0 (cond (c == 35) 1 (cond (starts_name c) 2 (cond (is_ascii_digit c) 3 (cond (is_sign c) 4 5))))

-- what may begin a name may also continue it
pub continues_name-from_start : (c : ℕ) → starts_name c ≡ true → continues_name c ≡ true
continues_name-from_start c h =
    elim (or_cases (is_xid_start c) (c == 95) h) [
      | inl e ↦ is_xid_start-is_xid_continue c e
      | inr e ↦ ap is_xid_continue (eqb-true c 95 e) ∙ is_xid_continue-ascii 95 (omega arith)
    ]

-- the classes among ASCII
starts_name-ascii : (c : ℕ) → c < 128 → starts_name c ≡ (is_ascii_alphabetic c || c == 95)
starts_name-ascii c h = ap (λ t. t || c == 95) (is_xid_start-ascii c h)

abbrev ascii_class : ℕ → ℕ
ascii_class c =
    cond (is_blank c) 0 (cond (c == 35) 1 (cond (is_ascii_alphabetic c || c == 95) 2 (cond (is_ascii_digit c) 3 (cond (is_sign c) 4 5))))

class_of-ascii : (c : ℕ) → c < 128 → class_of c ≡ ascii_class c
class_of-ascii c h =
    ap (λ t. cond (is_blank c) 0 (cond (c == 35) 1 (cond t 2 (cond (is_ascii_digit c) 3 (cond (is_sign c) 4 5))))) (starts_name-ascii c h)

pub is_blank-ascii : (c : ℕ) → is_blank c ≡ true → c < 128
is_blank-ascii c h = grind (arith, nat_tests)

is_sign-ascii : (c : ℕ) → is_sign c ≡ true → c < 128
is_sign-ascii c h = grind (arith, nat_tests)

class_of-blank : (c : ℕ) → is_blank c ≡ true → class_of c ≡ 0
class_of-blank c h = rw h refl

-- a name begins with no blank and no number sign
ascii_name : (c : ℕ) → (is_ascii_alphabetic c || c == 95) ≡ true → (is_blank c ≡ false) × ((c == 35) ≡ false)
ascii_name c h = (grind (arith, nat_tests), grind (arith, nat_tests))

name_first : (c : ℕ) → starts_name c ≡ true → (is_blank c ≡ false) × ((c == 35) ≡ false)
name_first c h =
    elim (cases_lt c 128) [
      | inl small ↦ ascii_name c (sym (starts_name-ascii c small) ∙ h)
      | inr large ↦ (grind (arith, nat_tests), grind (arith, nat_tests))
    ]

class_of-name : (c : ℕ) → starts_name c ≡ true → class_of c ≡ 2
class_of-name c h =
    let t = name_first c h in
    rw (t.0, t.1, h) refl

ascii_digit_class : (c : ℕ) → is_ascii_digit c ≡ true → ascii_class c ≡ 3
ascii_digit_class c h = grind (arith, nat_tests)

class_of-digit : (c : ℕ) → is_ascii_digit c ≡ true → class_of c ≡ 3
class_of-digit c h = class_of-ascii c (is_ascii_digit-ascii c h) ∙ ascii_digit_class c h

ascii_sign_class : (c : ℕ) → is_sign c ≡ true → ascii_class c ≡ 4
ascii_sign_class c h = grind (arith, nat_tests)

class_of-sign : (c : ℕ) → is_sign c ≡ true → class_of c ≡ 4
class_of-sign c h = class_of-ascii c (is_sign-ascii c h) ∙ ascii_sign_class c h

-- a keyword is a word of ASCII letters
abbrev letters_test : List ℕ → Bool
letters_test [] = false
letters_test (b ∷ bs) = is_ascii_alphabetic b && list_all is_ascii_alphabetic bs

keyword_text-letters : (k : Keyword) → letters_test (keyword_text k) ≡ true
keyword_text-letters keyword.Atomic = refl
keyword_text-letters _ = refl

letter-ascii : (b : ℕ) → is_ascii_alphabetic b ≡ true → b < 128
letter-ascii b h = grind (arith, nat_tests)

letter-name : (b : ℕ) → is_ascii_alphabetic b ≡ true → starts_name b ≡ true
letter-name b h = rw (starts_name-ascii b (letter-ascii b h), h) refl

letters-continue : (bs : List ℕ) → list_all is_ascii_alphabetic bs ≡ true → list_all continues_name bs ≡ true
letters-continue [] h = refl
letters-continue (b ∷ bs) h =
    let t = and_parts (is_ascii_alphabetic b) (list_all is_ascii_alphabetic bs) h in
    and_from (continues_name b) (list_all continues_name bs) (continues_name-from_start b (letter-name b t.0)) (letters-continue bs t.1)

IsWord-letters : (bytes : List ℕ) → letters_test bytes ≡ true → IsWord bytes
IsWord-letters [] h = cc
IsWord-letters (b ∷ bs) h =
    let t = and_parts (is_ascii_alphabetic b) (list_all is_ascii_alphabetic bs) h in
    let bytes = encodes-IsAscii (b ∷ bs) (IsAscii-run is_ascii_alphabetic letter-ascii (b ∷ bs) h) in
    (b, bs, sym bytes, letter-name b t.0, letters-continue bs t.1)

-- a symbol is one or two characters of ASCII, the first of which begins a symbol
abbrev sign_test : List ℕ → Bool
sign_test [] = false
sign_test (b ∷ bs) = is_sign b && list_all is_sign bs

symbol_text-sign : (s : Symbol) → sign_test (symbol_text s) ≡ true
symbol_text-sign symbol.Assign = refl
symbol_text-sign _ = refl

sign_test-all : (bs : List ℕ) → sign_test bs ≡ true → list_all is_sign bs ≡ true
sign_test-all [] h = refl
sign_test-all (b ∷ bs) h = h

IsAscii-symbol : (s : Symbol) → IsAscii (symbol_text s)
IsAscii-symbol s = IsAscii-run is_sign is_sign-ascii (symbol_text s) (sign_test-all (symbol_text s) (symbol_text-sign s))

pub IsUtf8-behind_symbol : (text : List ℕ) (s : Symbol) (rest : List ℕ) → IsUtf8 text → text ≡ symbol_text s ++ rest → IsUtf8 rest
IsUtf8-behind_symbol text s rest u e = IsUtf8-behind_ascii (symbol_text s) rest (IsAscii-symbol s) (subst IsUtf8 e u)

-- a text may be cut behind a symbol
boundary_behind : (text : List ℕ) (s : Symbol) (n : ℕ) → IsUtf8 text → n ≤ length text → text ≡ symbol_text s ++ drop n text →
    IsCharBoundary text n
boundary_behind text s n u more e = IsCharBoundary-from_drop text n more (IsUtf8-behind_symbol text s (drop n text) u e)

pub IsCharBoundary-double : (text : List ℕ) (s : Symbol) → IsUtf8 text → 2 ≤ length text →
    symbol_text s ≡ get_or text 0 0 ∷ get_or text 1 0 ∷ [] → IsCharBoundary text 2
IsCharBoundary-double [] s u more e = absurd (omega arith)
IsCharBoundary-double (a ∷ []) s u more e = absurd (omega arith)
IsCharBoundary-double (a ∷ b ∷ rest) s u more e =
    boundary_behind (a ∷ b ∷ rest) s 2 u more (ap (λ (bs : List ℕ). bs ++ rest) (sym e))

pub IsCharBoundary-single : (text : List ℕ) (s : Symbol) → IsUtf8 text → 1 ≤ length text → symbol_text s ≡ get_or text 0 0 ∷ [] →
    IsCharBoundary text 1
IsCharBoundary-single [] s u more e = absurd (omega arith)
IsCharBoundary-single (a ∷ rest) s u more e = boundary_behind (a ∷ rest) s 1 u more (ap (λ (bs : List ℕ). bs ++ rest) (sym e))

-- the class of a lexeme's first character
abbrev pub lexeme_class : Lexeme → ℕ
lexeme_class Blank = 0
lexeme_class Comment = 1
lexeme_class (Identifier _) = 2
lexeme_class (Numeral _) = 3
lexeme_class (Reserved _) = 2
lexeme_class (Sign _) = 4

-- the words among the spellings
pub IsWord-spelled : (x : Lexeme) (bytes : List ℕ) → lexeme_class x ≡ 2 → Spells x bytes → IsWord bytes
IsWord-spelled (Identifier text) bytes k h = subst IsWord (sym h.0) h.1
IsWord-spelled (Reserved word) bytes k h = subst IsWord (sym h.0) (IsWord-letters (keyword_text word) (keyword_text-letters word))
IsWord-spelled _ bytes k h = absurd (omega arith)

-- the bytes begin with a character of the class
abbrev BeginsInClass : ℕ → List ℕ → Type 0
BeginsInClass class bytes = (c : ℕ) × BeginsWith c bytes × (class_of c ≡ class)

ascii_first : (b : ℕ) (bs : List ℕ) (class : ℕ) → b < 128 → class_of b ≡ class → BeginsInClass class (b ∷ bs)
ascii_first b bs class small k = (b, (bs, sym (ap (λ (front : List ℕ). front ++ bs) (encode_ascii b small))), k)

word_first : (bytes : List ℕ) → IsWord bytes → BeginsInClass 2 bytes
word_first bytes w = (w.0, (encode_utf8_all w.1, w.2), class_of-name w.0 w.3)

sign_first : (bytes : List ℕ) → sign_test bytes ≡ true → BeginsInClass 4 bytes
sign_first [] h = cc
sign_first (b ∷ bs) h =
    let t = and_parts (is_sign b) (list_all is_sign bs) h in
    ascii_first b bs 4 (is_sign-ascii b t.0) (class_of-sign b t.0)

first_class : (x : Lexeme) (bytes : List ℕ) → Spells x bytes → BeginsInClass (lexeme_class x) bytes
first_class Blank bytes h = subst (BeginsInClass 0) (sym h.1) (ascii_first h.0 [] 0 (is_blank-ascii h.0 h.2) (class_of-blank h.0 h.2))
first_class Comment [] h = absurd h
first_class Comment (b ∷ bs) h = ascii_first b bs 1 (omega (arith, h.0)) (ap class_of h.0)
first_class (Identifier text) bytes h = word_first bytes (IsWord-spelled (Identifier text) bytes refl h)
first_class (Numeral value) [] h = absurd (omega (arith, h.0))
first_class (Numeral value) (b ∷ bs) h =
    let digit = (and_parts (is_ascii_digit b) (list_all is_ascii_digit bs) h.1).0 in
    ascii_first b bs 3 (is_ascii_digit-ascii b digit) (class_of-digit b digit)
first_class (Reserved word) bytes h = word_first bytes (IsWord-spelled (Reserved word) bytes refl h)
first_class (Sign s) bytes h = sign_first bytes (ap sign_test h ∙ symbol_text-sign s)

-- all lexemes that begin the bytes are of the class of the first character
pub class_at : (c : ℕ) (bytes : List ℕ) → BeginsWith c bytes → (x : Lexeme) (front rest : List ℕ) → bytes ≡ front ++ rest →
    Spells x front → class_of c ≡ lexeme_class x
class_at c bytes b x front rest e h =
    let f = first_class x front h in
    let begins : BeginsWith f.0 bytes = subst (BeginsWith f.0) (sym e) (BeginsWith-append f.0 front rest f.1) in
    ap class_of (same_first c f.0 bytes b begins) ∙ f.2

pub same_class : (bytes : List ℕ) (x y : Lexeme) (front rest other more : List ℕ) → bytes ≡ front ++ rest → bytes ≡ other ++ more →
    Spells x front → Spells y other → lexeme_class x ≡ lexeme_class y
same_class bytes x y front rest other more e f h t =
    let g = first_class x front h in
    let begins : BeginsWith g.0 bytes = subst (BeginsWith g.0) (sym e) (BeginsWith-append g.0 front rest g.1) in
    sym g.2 ∙ class_at g.0 bytes begins y other more f t

-- what is a word is of the words' class
pub word_class : (x : Lexeme) (bytes : List ℕ) → IsWord bytes → Spells x bytes → lexeme_class x ≡ 2
word_class x bytes w h =
    let f = word_first bytes w in
    sym (class_at f.0 bytes f.1 x bytes [] (sym (append-nil bytes)) h) ∙ f.2

-- each lexeme has a byte
pub not_Spells-empty : (x : Lexeme) → Spells x [] → ⊥
not_Spells-empty x h = let f = first_class x [] h in not_begun f.0 f.1

-- no two keywords and no two symbols have one text: the first of all that has it is found again
abbrev pub keywords : List Keyword
keywords =
    keyword.Atomic ∷ keyword.Coupled ∷ keyword.Root ∷ keyword.In ∷ keyword.Out ∷ keyword.Var ∷ keyword.Flag ∷ keyword.Bag
    ∷ keyword.Phases ∷ keyword.Start ∷ keyword.Hold ∷ keyword.Forever ∷ keyword.Output ∷ keyword.Internal ∷ keyword.External
    ∷ keyword.Confluent ∷ keyword.Part ∷ keyword.Link ∷ keyword.Itself ∷ keyword.If ∷ keyword.Else ∷ keyword.For ∷ keyword.Add
    ∷ keyword.To ∷ keyword.Drop ∷ keyword.From ∷ keyword.Send ∷ keyword.Goto ∷ keyword.True ∷ keyword.False ∷ keyword.Not
    ∷ keyword.And ∷ keyword.Or ∷ keyword.Elapsed ∷ keyword.Size ∷ keyword.Sum ∷ keyword.Least ∷ keyword.Most ∷ keyword.Times
    ∷ keyword.Version ∷ keyword.Queue ∷ keyword.Push ∷ keyword.Pop ∷ keyword.Front ∷ keyword.Const ∷ keyword.Each ∷ keyword.When ∷ []

abbrev pub symbols : List Symbol
symbols =
    symbol.Assign ∷ symbol.Arrow ∷ symbol.Range ∷ symbol.Unequal ∷ symbol.AtMost ∷ symbol.AtLeast ∷ symbol.OpenBrace
    ∷ symbol.CloseBrace ∷ symbol.OpenParen ∷ symbol.CloseParen ∷ symbol.Semicolon ∷ symbol.Colon ∷ symbol.Comma ∷ symbol.Dot
    ∷ symbol.Equal ∷ symbol.Less ∷ symbol.Greater ∷ symbol.Plus ∷ symbol.Minus ∷ symbol.Star ∷ symbol.Slash ∷ symbol.Percent
    ∷ []

pub keyword_at : (k : Keyword) → find (λ other. bytes_eq (keyword_text other) (keyword_text k)) keywords ≡ Some k
keyword_at keyword.Atomic = refl
keyword_at _ = refl

pub symbol_at : (s : Symbol) → find (λ other. bytes_eq (symbol_text other) (symbol_text s)) symbols ≡ Some s
symbol_at symbol.Assign = refl
symbol_at _ = refl

pub same_keyword : (k other : Keyword) → keyword_text k ≡ keyword_text other → k ≡ other
same_keyword k other e =
    same_Some k other (sym (keyword_at k) ∙ (ap (λ text. find (λ each. bytes_eq (keyword_text each) text) keywords) e ∙ keyword_at other))

same_symbol : (s other : Symbol) → symbol_text s ≡ symbol_text other → s ≡ other
same_symbol s other e =
    same_Some s other (sym (symbol_at s) ∙ (ap (λ text. find (λ each. bytes_eq (symbol_text each) text) symbols) e ∙ symbol_at other))

-- no two lexemes have one spelling
pub same_lexeme : (x y : Lexeme) (bytes : List ℕ) → lexeme_class x ≡ lexeme_class y → Spells x bytes → Spells y bytes → x ≡ y
same_lexeme Blank Blank bytes k h t = refl
same_lexeme Comment Comment bytes k h t = refl
same_lexeme (Identifier text) (Identifier other) bytes k h t = ap Identifier (sym h.0 ∙ t.0)
same_lexeme (Identifier text) (Reserved word) bytes k h t = absurd (h.2 word t.1 (sym h.0 ∙ t.0))
same_lexeme (Reserved word) (Identifier text) bytes k h t = absurd (t.2 word h.1 (sym t.0 ∙ h.0))
same_lexeme (Reserved word) (Reserved other) bytes k h t = ap Reserved (same_keyword word other (sym h.0 ∙ t.0))
same_lexeme (Numeral value) (Numeral other) bytes k h t = ap Numeral (h.2 ∙ sym t.2)
same_lexeme (Sign sign) (Sign other) bytes k h t = ap Sign (same_symbol sign other (sym h ∙ t))
same_lexeme _ _ bytes k h t = absurd (omega arith)

pub same_spelling : (x y : Lexeme) (bytes : List ℕ) → Spells x bytes → Spells y bytes → x ≡ y
same_spelling x y bytes h t =
    let whole : bytes ≡ bytes ++ [] = sym (append-nil bytes) in
    same_lexeme x y bytes (same_class bytes x y bytes [] bytes [] whole whole h t) h t
