-- What the header of a text changes: kinds of tokens, and neither their number nor their offsets.
use Rattle.std.proofs.Common.{◌≡◌, ◌≢◌, ℕ, zero, suc, ◌+◌, ◌<◌, ◌≤◌, ◌==◌, ◌||◌, IsTrue, Bool, false, cond, List, [], ◌∷◌, ◌++◌}
use Rattle.std.proofs.Common.{length, map, take, drop, get_or, set, Option, Some, None, refl, sym, ap, ◌∙◌, subst, arith, inl, inr}
use Rattle.std.proofs.Common.{bytes_eq}
use Rattle.std.specs.List.{AllByRecursion}
use Rattle.std.proofs.lemmas.Bool.{cases_Bool, false_from_ne_true, or_parts}
use Rattle.std.proofs.lemmas.Slice.Eq.{bytes_eq-Decides}
use Rattle.dv_lex.specs.declared.token.Token.{Token}
use Rattle.dv_lex.specs.declared.token.TokenKind.{TokenKind}
use Rattle.dv_lex.specs.declared.token.TokenKind.TheVariants as kind
use Rattle.dv_lex.specs.declared.token.Keyword.{Keyword}
use Rattle.dv_lex.specs.declared.token.Keyword.TheVariants as keyword
use Rattle.dv_lex.specs.Lexemes.{keyword_text}
use Rattle.dv_lex.specs.Texts.{IsAscending, IsNumbered}
use Rattle.dv_lex.specs.Versions.{IsHeaded, IsOfLaterVersion, behind_header, headed, header_words, is_later_version, kind_among}
use Rattle.dv_lex.specs.Versions.{kind_or_word, second_words, text_in, third_words, versioned, with_words, word_written, words_behind}

-- ---- A list whose elements are changed one after the other

abbrev pub mapped_from : {X : Type 0} → (X → X) → List X → ℕ → List X
mapped_from f xs k = take k xs ++ map f (drop k xs)

mapped_next : {X : Type 0} (f : X → X) (d : X) (xs : List X) (k : ℕ) → k < length xs
    → mapped_from f (set xs k (f (get_or xs k d))) (suc k) ≡ mapped_from f xs k
mapped_next f d [] k less = absurd (omega (arith, less))
mapped_next f d (x ∷ xs) zero less = refl
mapped_next {X = X} f d (x ∷ xs) (suc k) less = ap (λ (ys : List X). x ∷ ys) (mapped_next f d xs k (omega (arith, less)))

pub mapped_more : {X : Type 0} (f : X → X) (d : X) (xs : List X) (k : ℕ) → k < length xs
    → mapped_from f (set xs k (f (get_or xs k d))) (k + 1) ≡ mapped_from f xs k
mapped_more f d xs k less =
    let next : suc k ≡ k + 1 = omega arith in
    subst (λ n. mapped_from f (set xs k (f (get_or xs k d))) n ≡ mapped_from f xs k) next (mapped_next f d xs k less)

pub mapped_all : {X : Type 0} (f : X → X) (xs : List X) (k : ℕ) → length xs ≤ k → mapped_from f xs k ≡ xs
mapped_all f [] zero h = refl
mapped_all f [] (suc k) h = refl
mapped_all f (x ∷ xs) zero h = absurd (omega (arith, h))
mapped_all {X = X} f (x ∷ xs) (suc k) h = ap (λ (ys : List X). x ∷ ys) (mapped_all f xs k (omega (arith, h)))

-- ---- What stays

-- what holds of the offsets of tokens holds of those of the same with words
all_with : (P : ℕ → Type 0) (names : List (List ℕ)) (words : List Keyword) (ts : List Token)
    → AllByRecursion (λ (t : Token). P t.offset) ts → AllByRecursion (λ (t : Token). P t.offset) (map (with_words names words) ts)
all_with P names words [] h = h
all_with P names words (t ∷ ts) h = (h.0, all_with P names words ts h.1)

rising_with : (names : List (List ℕ)) (words : List Keyword) (ts : List Token) → IsAscending ts
    → IsAscending (map (with_words names words) ts)
rising_with names words [] h = h
rising_with names words (t ∷ ts) h = (all_with (λ n. t.offset < n) names words ts h.0, rising_with names words ts h.1)

numbered_or : (names : List (List ℕ)) (k : TokenKind) (word : Option Keyword) → IsNumbered names k → IsNumbered names (kind_or_word k word)
numbered_or names k None h = h
numbered_or names k (Some word) h = tt

numbered_among : (names : List (List ℕ)) (words : List Keyword) (k : TokenKind) → IsNumbered names k
    → IsNumbered names (kind_among names words k)
numbered_among names words k h = numbered_or names k (word_written words (text_in names k)) h

AllNumbered : List (List ℕ) → List Token → Type 0
AllNumbered names ts = AllByRecursion (λ (t : Token). IsNumbered names t.kind) ts

numbered_with : (names : List (List ℕ)) (words : List Keyword) (ts : List Token) → AllNumbered names ts
    → AllNumbered names (map (with_words names words) ts)
unfolding AllNumbered
numbered_with names words [] h = h
numbered_with names words (t ∷ ts) h = (numbered_among names words t.kind h.0, numbered_with names words ts h.1)

-- what holds of a list of tokens, however its first becomes a word and those from the third on do, holds of it behind a header
module _ (P : List Token → Type 0) (names : List (List ℕ)) where
  behind : (t : Token) (ts : List Token)
      → ((words : List Keyword) (t v : Token) (ts : List Token) → P (t ∷ v ∷ ts) → P (t ∷ v ∷ map (with_words names words) ts))
      → P (t ∷ ts) → P (t ∷ behind_header names ts)
  behind t [] rest h = h
  behind t (v ∷ ts) rest h = rest (words_behind v.kind) t v ts h

  by_first : (word : Option Keyword) (t : Token) (ts : List Token)
      → ((word : Keyword) (t : Token) (ts : List Token) → P (t ∷ ts) → P (record { kind = kind.Keyword word; offset = t.offset } ∷ ts))
      → ((words : List Keyword) (t v : Token) (ts : List Token) → P (t ∷ v ∷ ts) → P (t ∷ v ∷ map (with_words names words) ts))
      → P (t ∷ ts) → P (headed names word t ts)
  by_first None t ts first rest h = h
  by_first (Some word) t ts first rest h = behind (record { kind = kind.Keyword word; offset = t.offset }) ts rest (first word t ts h)

  pub by_header : (ts : List Token) → P ts
      → ((word : Keyword) (t : Token) (ts : List Token) → P (t ∷ ts) → P (record { kind = kind.Keyword word; offset = t.offset } ∷ ts))
      → ((words : List Keyword) (t v : Token) (ts : List Token) → P (t ∷ v ∷ ts) → P (t ∷ v ∷ map (with_words names words) ts))
      → P (versioned names ts)
  by_header [] h first rest = h
  by_header (t ∷ ts) h first rest = by_first (word_written header_words (text_in names t.kind)) t ts first rest h

pub rising_versioned : (names : List (List ℕ)) (ts : List Token) → IsAscending ts → IsAscending (versioned names ts)
rising_versioned names ts h =
    by_header IsAscending names ts h (λ word t ts h. h)
    (λ words t v ts h. ((h.0.0, all_with (λ n. t.offset < n) names words ts h.0.1), rising_with names words (v ∷ ts) h.1))

pub offsets_versioned : (P : ℕ → Type 0) (names : List (List ℕ)) (ts : List Token) → AllByRecursion (λ (t : Token). P t.offset) ts
    → AllByRecursion (λ (t : Token). P t.offset) (versioned names ts)
offsets_versioned P names ts h =
    by_header (AllByRecursion (λ (t : Token). P t.offset)) names ts h (λ word t ts h. h)
    (λ words t v ts h. (h.0, (h.1.0, all_with P names words ts h.1.1)))

pub length_versioned : (names : List (List ℕ)) (ts : List Token) → length (versioned names ts) ≡ length ts
length_versioned names ts = by_header (λ new. length new ≡ length ts) names ts refl (λ word t us h. h)
    (λ words t v us h. ap (λ n. suc (suc n)) (length_map_words words us) ∙ h)
  where
    length_map_words : (words : List Keyword) (us : List Token) → length (map (with_words names words) us) ≡ length us
    length_map_words words [] = refl
    length_map_words words (u ∷ us) = ap suc (length_map_words words us)

pub numbered_versioned : (names : List (List ℕ)) (ts : List Token) → AllByRecursion (λ (t : Token). IsNumbered names t.kind) ts
    → AllByRecursion (λ (t : Token). IsNumbered names t.kind) (versioned names ts)
unfolding AllNumbered
numbered_versioned names ts h =
    by_header (AllByRecursion (λ (t : Token). IsNumbered names t.kind)) names ts h
    (λ word t ts h. (tt, h.1)) (λ words t v ts h. (h.0, (h.1.0, numbered_with names words ts h.1.1)))

-- ---- What changes

-- the word of a header in the place of a name, and what follows it
abbrev begun : Token → List Token → List Token
begun t ts = record { kind = kind.Keyword keyword.Version; offset = t.offset } ∷ ts

word_in : (names : List (List ℕ)) (t : Token) (ts : List Token) (word : Option Keyword)
    → word_written header_words (text_in names t.kind) ≡ word → versioned names (t ∷ ts) ≡ headed names word t ts
word_in names t ts word e = ap (λ (found : Option Keyword). headed names found t ts) e

no_word : (text : List ℕ) → text ≢ keyword_text keyword.Version → word_written header_words text ≡ None
no_word text h =
    elim (cases_Bool (bytes_eq (keyword_text keyword.Version) text)) [
      | inl same ↦ absurd (h (sym ((bytes_eq-Decides (keyword_text keyword.Version) text).0 same)))
      | inr apart ↦ ap (λ (b : Bool). cond b (Some keyword.Version) None) apart
    ]

pub headless_kept : (names : List (List ℕ)) (ts : List Token) → ¬ IsHeaded names ts → versioned names ts ≡ ts
headless_kept names [] h = refl
headless_kept names (t ∷ ts) h = word_in names t ts None (no_word (text_in names t.kind) h)

-- where there are no words no name becomes one
none_kept : (names : List (List ℕ)) (ts : List Token) → map (with_words names []) ts ≡ ts
none_kept names [] = refl
none_kept names (t ∷ ts) = ap (λ (us : List Token). t ∷ us) (none_kept names ts)

-- only the numbers 2 and 3 have words
no_words_behind : (k : TokenKind) → ¬ IsTrue (is_later_version k) → words_behind k ≡ []
no_words_behind (kind.Number n) h =
    let apart : ((n == 2) ≡ false) × ((n == 3) ≡ false) = or_parts (n == 2) (n == 3) (false_from_ne_true (n == 2 || n == 3) h) in
    ap (λ (b : Bool). cond b second_words (cond (n == 3) third_words [])) apart.0 ∙ ap (λ (b : Bool). cond b third_words []) apart.1
no_words_behind (kind.Name n) h = refl
no_words_behind (kind.Keyword word) h = refl
no_words_behind (kind.Symbol sign) h = refl

behind_kept : (names : List (List ℕ)) (ts : List Token) → ¬ IsOfLaterVersion ts → behind_header names ts ≡ ts
behind_kept names [] h = refl
behind_kept names (t ∷ ts) h =
    ap (λ (words : List Keyword). t ∷ map (with_words names words) ts) (no_words_behind t.kind h)
    ∙ ap (λ (us : List Token). t ∷ us) (none_kept names ts)

pub headed_first : (names : List (List ℕ)) (t : Token) (ts : List Token) → IsHeaded names (t ∷ ts) → ¬ IsOfLaterVersion ts
    → versioned names (t ∷ ts) ≡ record { kind = kind.Keyword keyword.Version; offset = t.offset } ∷ ts
headed_first names t ts h other =
    let found : versioned names (t ∷ ts) ≡ begun t (behind_header names ts) =
    word_in names t ts (Some keyword.Version) (ap (word_written header_words) h) in
    found ∙ ap (begun t) (behind_kept names ts other)

-- where the version has no words the word of the header is all that changes
pub headed_alone : (names : List (List ℕ)) (ts : List Token) (word : Keyword) (first second : Token) → 2 ≤ length ts
    → first ≡ get_or ts 0 first → second ≡ get_or (set ts 0 (record { kind = kind.Keyword word; offset = first.offset })) 1 second
    → word_written header_words (text_in names first.kind) ≡ Some word → words_behind second.kind ≡ []
    → set ts 0 (record { kind = kind.Keyword word; offset = first.offset }) ≡ versioned names ts
headed_alone names [] word first second two one next found none = absurd (omega (arith, two))
headed_alone names (t ∷ []) word first second two one next found none = absurd (omega (arith, two))
headed_alone names (t ∷ v ∷ ts) word first second two one next found none =
    let header : versioned names (t ∷ v ∷ ts) ≡ headed names (Some word) t (v ∷ ts) =
    word_in names t (v ∷ ts) (Some word) (ap (λ (u : Token). word_written header_words (text_in names u.kind)) (sym one) ∙ found) in
    let kept : map (with_words names (words_behind v.kind)) ts ≡ ts =
    ap (λ (words : List Keyword). map (with_words names words) ts) (ap (λ (u : Token). words_behind u.kind) (sym next) ∙ none)
    ∙ none_kept names ts in
    ap (λ (u : Token). record { kind = kind.Keyword word; offset = u.offset } ∷ v ∷ ts) one
    ∙ ap (λ (us : List Token). record { kind = kind.Keyword word; offset = t.offset } ∷ v ∷ us) (sym kept) ∙ sym header
