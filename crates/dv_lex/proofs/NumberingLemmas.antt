-- One more lexeme: the table and the tokens.
use Rattle.std.proofs.Common.{◌≡◌, ℕ, suc, ◌+◌, ◌<◌, ◌≤◌, length, arith, true, false, not, cond, ◌||◌, List, [], ◌∷◌, ◌++◌}
use Rattle.std.proofs.Common.{Option, Some, None, ap, refl}
use Rattle.std.proofs.Common.{sym, ◌∙◌, subst, filter, filter_map, option_map, bytes_eq, inl, inr}
use Rattle.std.specs.List.{list_any, AllByRecursion, IsDistinct, cons_option}
use Rattle.std.proofs.lemmas.Bool.{cond_both, cond-true, cond-false, both_ways, or_left, or_right, or_cases, cases_Bool, false_from_ne_true}
use Rattle.std.proofs.lemmas.List.{append-nil}
use Rattle.std.proofs.lemmas.List.Elements.{filter-append, filter_map-append}
use Rattle.std.proofs.lemmas.List.Folds.{list_any-append}
use Rattle.std.proofs.lemmas.Option.{same_Some}
use Rattle.std.proofs.lemmas.Slice.Eq.{bytes_eq-Decides}
use Rattle.dv_lex.specs.declared.token.Token.{Token}
use Rattle.dv_lex.specs.declared.token.TokenKind.{TokenKind}
use Rattle.dv_lex.specs.declared.token.TokenKind.TheVariants as kind
use Rattle.dv_lex.specs.Table.{first_appearances, has_name, with_name, number_of}
use Rattle.dv_lex.specs.Lexemes.{Lexeme, Blank, Identifier, Numeral, Reserved, Sign}
use Rattle.dv_lex.specs.Reading.{Located}
use Rattle.dv_lex.specs.Numbering.{name_in, names_of, kind_of, token_of, tokens_of}
use Rattle.dv_lex.specs.Steps.{with_lexeme}
use Rattle.dv_lex.specs.Texts.{IsNumbered, IsAscending}
use Rattle.dv_lex.proofs.TableLemmas.{bytes_eq-same, number_of-lt}

bytes_eq-other : (t u : List ℕ) → bytes_eq t u ≡ false → bytes_eq u t ≡ false
bytes_eq-other t u h =
    false_from_ne_true (bytes_eq u t) (λ e. both_ways (bytes_eq t u) h ((bytes_eq-Decides t u).1 (sym ((bytes_eq-Decides u t).0 e))))

-- taking another name out leaves this one
list_any-without : (t u : List ℕ) → bytes_eq t u ≡ false → (xs : List (List ℕ)) →
    list_any (bytes_eq t) (filter (λ other. not (bytes_eq u other)) xs) ≡ list_any (bytes_eq t) xs
list_any-without t u h [] = refl
list_any-without t u h (x ∷ xs) =
    elim (cases_Bool (bytes_eq u x)) [
      | inl e ↦
          let same : bytes_eq t x ≡ false = ap (bytes_eq t) (sym ((bytes_eq-Decides u x).0 e)) ∙ h in
          rw (e, same) (list_any-without t u h xs)
      | inr e ↦ rw e (ap (λ b. bytes_eq t x || b) (list_any-without t u h xs))
    ]

-- one more text
has_more : (ts : List (List ℕ)) (t u : List ℕ) → bytes_eq t u ≡ false →
    list_any (bytes_eq t) (u ∷ filter (λ other. not (bytes_eq u other)) (first_appearances ts)) ≡ has_name (first_appearances ts) t
has_more ts t u h = rw h (list_any-without t u h (first_appearances ts))

pub first_appearances-push : (ts : List (List ℕ)) (t : List ℕ) → first_appearances (ts ++ t ∷ []) ≡ with_name (first_appearances ts) t
first_appearances-push [] t = refl
first_appearances-push (u ∷ ts) t =
    let without : List (List ℕ) → List (List ℕ) = filter (λ other. not (bytes_eq u other)) in
    ap (λ (names : List (List ℕ)). u ∷ without names) (first_appearances-push ts t) ∙ (elim (cases_Bool (bytes_eq t u)) [
      | inl e ↦
          let back : bytes_eq u t ≡ true = (bytes_eq-Decides u t).1 (sym ((bytes_eq-Decides t u).0 e)) in
          rw e (cond_both (has_name (first_appearances ts) t) (first_appearances ts) (first_appearances ts ++ t ∷ [])
          (λ names. u ∷ without names ≡ u ∷ without (first_appearances ts)) (λ _. refl)
          (λ _. ap (λ (names : List (List ℕ)). u ∷ names)
          (filter-append (λ other. not (bytes_eq u other)) (first_appearances ts) (t ∷ []) ∙ rw back
          (append-nil (without (first_appearances ts))))))
      | inr e ↦
          let back : bytes_eq u t ≡ false = bytes_eq-other t u e in
          cond_both (has_name (first_appearances ts) t) (first_appearances ts) (first_appearances ts ++ t ∷ [])
          (λ names. u ∷ without names ≡ with_name (u ∷ without (first_appearances ts)) t)
          (λ h. sym (cond-true (has_name (u ∷ without (first_appearances ts)) t) _ _ (has_more ts t u e ∙ h)))
          (λ h. ap (λ (names : List (List ℕ)). u ∷ names)
          (filter-append (λ other. not (bytes_eq u other)) (first_appearances ts) (t ∷ []) ∙ rw back refl) ∙ sym
          (cond-false (has_name (u ∷ without (first_appearances ts)) t) _ _ (has_more ts t u e ∙ h)))
    ])

name_more : (ts : List (List ℕ)) (x : Lexeme) → first_appearances (ts ++ cons_option (name_in x) []) ≡ with_lexeme (first_appearances ts) x
name_more ts (Identifier text) = first_appearances-push ts text
name_more ts Blank = ap first_appearances (append-nil ts)
name_more ts _ = ap first_appearances (append-nil ts)

pub names_of-push : (xs : List Located) (x : Located) → names_of (xs ++ x ∷ []) ≡ with_lexeme (names_of xs) x.lexeme
names_of-push xs x =
    ap first_appearances (filter_map-append (λ (p : Located). name_in p.lexeme) xs (x ∷ [])) ∙ name_more
    (filter_map (λ (p : Located). name_in p.lexeme) xs) x.lexeme

-- a name that is there keeps its number as the table grows
number_of-grown : (names more : List (List ℕ)) (t : List ℕ) → has_name names t ≡ true → number_of (names ++ more) t ≡ number_of names t
number_of-grown [] more t h = cc
number_of-grown (n ∷ names) more t h =
    elim (or_cases (bytes_eq t n) (has_name names t) h) [
      | inl e ↦ rw e refl
      | inr e ↦ ap (λ k. cond (not (bytes_eq t n)) (1 + k) 0) (number_of-grown names more t e)
    ]

number_of-with : (names : List (List ℕ)) (u t : List ℕ) → has_name names t ≡ true → number_of (with_name names u) t ≡ number_of names t
number_of-with names u t h =
    cond_both (has_name names u) names (names ++ u ∷ []) (λ ns. number_of ns t ≡ number_of names t) (λ _. refl)
    (λ _. number_of-grown names (u ∷ []) t h)

has_name-with : (names : List (List ℕ)) (u t : List ℕ) → has_name names t ≡ true → has_name (with_name names u) t ≡ true
has_name-with names u t h =
    cond_both (has_name names u) names (names ++ u ∷ []) (λ ns. has_name ns t ≡ true) (λ _. h)
    (λ _. list_any-append (bytes_eq t) names (u ∷ []) ∙ or_left (has_name names t) _ h)

has_name-new : (names : List (List ℕ)) (t : List ℕ) → has_name (with_name names t) t ≡ true
has_name-new names t =
    cond_both (has_name names t) names (names ++ t ∷ []) (λ ns. has_name ns t ≡ true) (λ h. h)
    (λ _. list_any-append (bytes_eq t) names (t ∷ []) ∙ or_right (has_name names t) _ (or_left (bytes_eq t t) false (bytes_eq-same t)))

-- the names among the lexemes are in the table
abbrev pub IsNamed : List (List ℕ) → Lexeme → Type 0
IsNamed names (Identifier text) = has_name names text ≡ true
IsNamed names _ = Unit {0}

IsNamed-with : (names : List (List ℕ)) (y x : Lexeme) → IsNamed names x → IsNamed (with_lexeme names y) x
IsNamed-with names (Identifier text) (Identifier other) h = has_name-with names text other h
IsNamed-with names _ (Identifier other) h = h
IsNamed-with names _ _ h = tt

IsNamed-new : (names : List (List ℕ)) (x : Lexeme) → IsNamed (with_lexeme names x) x
IsNamed-new names (Identifier text) = has_name-new names text
IsNamed-new names _ = tt

abbrev pub AreNamed : List (List ℕ) → List Located → Type 0
AreNamed names xs = AllByRecursion (λ (x : Located). IsNamed names x.lexeme) xs

pub AreNamed-push : (names : List (List ℕ)) (xs : List Located) (x : Located) → AreNamed names xs →
    AreNamed (with_lexeme names x.lexeme) (xs ++ x ∷ [])
AreNamed-push names [] x h = (IsNamed-new names x.lexeme, tt)
AreNamed-push names (y ∷ ys) x h = (IsNamed-with names x.lexeme y.lexeme h.0, AreNamed-push names ys x h.1)

-- so the tokens stay as the table grows
kind_of-with : (names : List (List ℕ)) (y x : Lexeme) → IsNamed names x → kind_of (with_lexeme names y) x ≡ kind_of names x
kind_of-with names (Identifier text) (Identifier other) h = ap (λ n. Some (kind.Name n)) (number_of-with names text other h)
kind_of-with names _ (Identifier other) h = refl
kind_of-with names _ _ h = refl

tokens_of-with : (names : List (List ℕ)) (y : Lexeme) (xs : List Located) → AreNamed names xs →
    tokens_of (with_lexeme names y) xs ≡ tokens_of names xs
tokens_of-with names y [] h = refl
tokens_of-with names y (x ∷ xs) h =
    ap (λ (k : Option TokenKind). cons_option (option_map (λ e. record { kind = e; offset = x.offset }) k)
    (tokens_of (with_lexeme names y) xs)) (kind_of-with names y x.lexeme h.0) ∙ ap (cons_option (token_of names x))
    (tokens_of-with names y xs h.1)

pub tokens_of-push : (names : List (List ℕ)) (xs : List Located) (x : Located) → AreNamed names xs →
    tokens_of (with_lexeme names x.lexeme) (xs ++ x ∷ []) ≡ tokens_of names xs ++ cons_option (token_of (with_lexeme names x.lexeme) x) []
tokens_of-push names xs x h =
    filter_map-append (token_of (with_lexeme names x.lexeme)) xs (x ∷ []) ∙ ap
    (λ (ts : List Token). ts ++ cons_option (token_of (with_lexeme names x.lexeme) x) []) (tokens_of-with names x.lexeme xs h)

-- the table has all names
first_appearances-has : (ts : List (List ℕ)) (t : List ℕ) → list_any (bytes_eq t) ts ≡ true → has_name (first_appearances ts) t ≡ true
first_appearances-has [] t h = h
first_appearances-has (u ∷ ts) t h =
    elim (cases_Bool (bytes_eq t u)) [
      | inl e ↦ or_left (bytes_eq t u) _ e
      | inr e ↦ has_more ts t u e ∙ first_appearances-has ts t
          (elim (or_cases (bytes_eq t u) (list_any (bytes_eq t) ts) h) [ inl w ↦ absurd (both_ways (bytes_eq t u) e w) | inr w ↦ w ])
    ]

AreNamed-all : (names : List (List ℕ)) (xs : List Located) →
    ((t : List ℕ) → list_any (bytes_eq t) (filter_map (λ (x : Located). name_in x.lexeme) xs) ≡ true → has_name names t ≡ true) →
    AreNamed names xs
AreNamed-all names [] h = tt
AreNamed-all names (x ∷ xs) h = (
  head_named x.lexeme (filter_map (λ (y : Located). name_in y.lexeme) xs) h,
  AreNamed-all names xs
      (λ t e. h t (tail_named x.lexeme (filter_map (λ (y : Located). name_in y.lexeme) xs) t e)),
)
  where
    head_named : (x : Lexeme) (ts : List (List ℕ)) →
        ((t : List ℕ) → list_any (bytes_eq t) (cons_option (name_in x) ts) ≡ true → has_name names t ≡ true) → IsNamed names x
    head_named (Identifier text) ts h = h text (or_left (bytes_eq text text) _ (bytes_eq-same text))
    head_named _ ts h = tt

    tail_named : (x : Lexeme) (ts : List (List ℕ)) (t : List ℕ) → list_any (bytes_eq t) ts ≡ true →
        list_any (bytes_eq t) (cons_option (name_in x) ts) ≡ true
    tail_named (Identifier text) ts t e = or_right (bytes_eq t text) _ e
    tail_named _ ts t e = e

pub AreNamed-names_of : (xs : List Located) → AreNamed (names_of xs) xs
AreNamed-names_of xs = AreNamed-all (names_of xs) xs (first_appearances-has (filter_map (λ (x : Located). name_in x.lexeme) xs))

-- once each
without_all : (u : List ℕ) (xs : List (List ℕ)) → AllByRecursion (λ y. bytes_eq u y ≡ false) (filter (λ other. not (bytes_eq u other)) xs)
without_all u [] = tt
without_all u (x ∷ xs) =
    elim (cases_Bool (bytes_eq u x)) [ inl e ↦ rw e (without_all u xs) | inr e ↦ rw e (e, without_all u xs) ]

All-without : (u : List ℕ) (P : List ℕ → Type 0) (xs : List (List ℕ)) → AllByRecursion P xs →
    AllByRecursion P (filter (λ other. not (bytes_eq u other)) xs)
All-without u P [] h = tt
All-without u P (x ∷ xs) h =
    elim (cases_Bool (bytes_eq u x)) [ inl e ↦ rw e (All-without u P xs h.1) | inr e ↦ rw e (h.0, All-without u P xs h.1) ]

IsDistinct-without : (u : List ℕ) (xs : List (List ℕ)) → IsDistinct bytes_eq xs →
    IsDistinct bytes_eq (filter (λ other. not (bytes_eq u other)) xs)
unfolding IsDistinct
IsDistinct-without u [] h = tt
IsDistinct-without u (x ∷ xs) h =
    elim (cases_Bool (bytes_eq u x)) [
      | inl e ↦ rw e (IsDistinct-without u xs h.1)
      | inr e ↦ rw e (All-without u (λ y. bytes_eq x y ≡ false) xs h.0, IsDistinct-without u xs h.1)
    ]

pub IsDistinct-first_appearances : (ts : List (List ℕ)) → IsDistinct bytes_eq (first_appearances ts)
unfolding IsDistinct
IsDistinct-first_appearances [] = tt
IsDistinct-first_appearances (u ∷ ts) =
    (without_all u (first_appearances ts), IsDistinct-without u (first_appearances ts) (IsDistinct-first_appearances ts))

-- what holds of the lexemes holds of the tokens
one_token : (Q : Token → Type 0) (offset : ℕ) (k : Option TokenKind) (ts : List Token) →
    ((kind : TokenKind) → k ≡ Some kind → Q (record { kind = kind; offset = offset })) → AllByRecursion Q ts →
    AllByRecursion Q (cons_option (option_map (λ e. record { kind = e; offset = offset }) k) ts)
one_token Q offset None ts step h = h
one_token Q offset (Some kind) ts step h = (step kind refl, h)

tokens_of-each : (P : Located → Type 0) (Q : Token → Type 0) (names : List (List ℕ)) →
    ((x : Located) (kind : TokenKind) → P x → kind_of names x.lexeme ≡ Some kind → Q (record { kind = kind; offset = x.offset })) →
    (xs : List Located) → AllByRecursion P xs → AllByRecursion Q (tokens_of names xs)
tokens_of-each P Q names step [] h = tt
tokens_of-each P Q names step (x ∷ xs) h =
    one_token Q x.offset (kind_of names x.lexeme) (tokens_of names xs) (λ kind e. step x kind h.0 e) (tokens_of-each P Q names step xs h.1)

numbered_kind : (names : List (List ℕ)) (x : Lexeme) (kind : TokenKind) → IsNamed names x → kind_of names x ≡ Some kind →
    IsNumbered names kind
numbered_kind names (Identifier text) kind h e =
    subst (IsNumbered names) (same_Some _ _ e) (number_of-lt names text h)
numbered_kind names (Numeral value) kind h e = subst (IsNumbered names) (same_Some _ _ e) tt
numbered_kind names (Reserved word) kind h e = subst (IsNumbered names) (same_Some _ _ e) tt
numbered_kind names (Sign sign) kind h e = subst (IsNumbered names) (same_Some _ _ e) tt
numbered_kind names _ kind h e = cc

pub each_numbered : (xs : List Located)
    → AllByRecursion (λ (token : Token). IsNumbered (names_of xs) token.kind) (tokens_of (names_of xs) xs)
each_numbered xs =
    tokens_of-each (λ (x : Located). IsNamed (names_of xs) x.lexeme) (λ (token : Token). IsNumbered (names_of xs) token.kind) (names_of xs)
    (λ x kind h e. numbered_kind (names_of xs) x.lexeme kind h e) xs (AreNamed-names_of xs)

pub all_tokens_of : (P : ℕ → Type 0) (names : List (List ℕ)) (xs : List Located) → AllByRecursion (λ (x : Located). P x.offset) xs →
    AllByRecursion (λ (token : Token). P token.offset) (tokens_of names xs)
all_tokens_of P names xs h =
    tokens_of-each (λ (x : Located). P x.offset) (λ (token : Token). P token.offset) names (λ x kind p e. p) xs h

-- the offsets of lexemes rise
abbrev pub AreAscending : List Located → Type 0
AreAscending [] = Unit {0}
AreAscending (x ∷ xs) = AllByRecursion (λ (other : Located). x.offset < other.offset) xs × AreAscending xs

one_ascending : (names : List (List ℕ)) (x : Located) (k : Option TokenKind) (xs : List Located) →
    AllByRecursion (λ (other : Located). x.offset < other.offset) xs → IsAscending (tokens_of names xs) →
    IsAscending (cons_option (option_map (λ e. record { kind = e; offset = x.offset }) k) (tokens_of names xs))
one_ascending names x None xs h rest = rest
one_ascending names x (Some kind) xs h rest = (all_tokens_of (λ n. x.offset < n) names xs h, rest)

pub IsAscending-tokens_of : (names : List (List ℕ)) (xs : List Located) → AreAscending xs → IsAscending (tokens_of names xs)
IsAscending-tokens_of names [] h = tt
IsAscending-tokens_of names (x ∷ xs) h =
    one_ascending names x (kind_of names x.lexeme) xs h.0 (IsAscending-tokens_of names xs h.1)

-- a lexeme is one token at most
few_more : (o : Option Token) (tokens : List Token) → length (cons_option o tokens) ≤ suc (length tokens)
few_more None tokens = omega arith
few_more (Some token) tokens = omega arith

pub tokens_of-few : (names : List (List ℕ)) (xs : List Located) → length (tokens_of names xs) ≤ length xs
tokens_of-few names [] = omega arith
tokens_of-few names (x ∷ xs) = omega (arith, few_more (token_of names x) (tokens_of names xs), tokens_of-few names xs)
