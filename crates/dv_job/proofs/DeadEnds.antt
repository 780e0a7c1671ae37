-- A list of tokens has at most one dead end, and none if it spells a file.
use Rattle.std.proofs.Common.{◌≡◌, ◌⊎◌, inl, inr, ℕ, List, [], ◌∷◌, ◌++◌, append-nil, refl, ap, ◌∙◌, sym, subst}
use Rattle.dv_lex.specs.declared.token.Token.{Token}
use Rattle.dv_lex.specs.declared.error.Refusal.{Refusal}
use Rattle.dv_lex.specs.declared.error.RefusalNumber.{RefusalNumber}
use Rattle.dv_lex.specs.declared.error.RefusalNumber.TheVariants.{E4, E5}
use Rattle.dv_syntax.specs.Trees.{FileTree}
use Rattle.dv_source.specs.Grammar.{IsFileOf}
use Rattle.law_dead_ends.specs.Refusals.{BeginsFile, BeginsFileAtAnyDepth, IsDeadEnd, IsNumberOf, NoneBeginsAt}

-- what is known of first wrong tokens
pub record FirstWrongLaws : Type 0 where
  pub front : (ts : List Token) (m n : ℕ) (a : NoneBeginsAt ts m) (b : NoneBeginsAt ts n) → a.before ≡ b.before
  pub offset : (ts : List Token) (m n : ℕ) → NoneBeginsAt ts m → NoneBeginsAt ts n → m ≡ n
  pub none : (ts : List Token) (n : ℕ) → NoneBeginsAt ts n → ¬ BeginsFile ts

-- the tokens of a file begin it
begins_whole : (ts : List Token) (f : FileTree) → IsFileOf ts f → BeginsFile ts
begins_whole ts f is = ([], f, subst (λ (xs : List Token). IsFileOf xs f) (sym (append-nil ts)) is)

same_token : (before : List Token) (t u : Token) (ts us : List Token) → before ++ t ∷ ts ≡ before ++ u ∷ us → t ≡ u
same_token [] t u ts us e = let same : t ∷ ts ≡ u ∷ us = e in cc
same_token (x ∷ before) t u ts us e =
    same_token before t u ts us (let same : x ∷ (before ++ t ∷ ts) ≡ x ∷ (before ++ u ∷ us) = e in cc)

number_is : (x : RefusalNumber) (ts : List Token) → IsNumberOf x ts
    → ((x ≡ E4) × (¬ BeginsFileAtAnyDepth ts)) ⊎ ((x ≡ E5) × BeginsFileAtAnyDepth ts)
number_is E4 ts is = inl (refl, is)
number_is E5 ts is = inr (refl, is)
number_is _ ts is = absurd is

same_number : (x y : RefusalNumber) (ts : List Token) → IsNumberOf x ts → IsNumberOf y ts → x ≡ y
same_number x y ts one two = by_number (number_is x ts one) (number_is y ts two)
  where
    by_number : ((x ≡ E4) × (¬ BeginsFileAtAnyDepth ts)) ⊎ ((x ≡ E5) × BeginsFileAtAnyDepth ts)
        → ((y ≡ E4) × (¬ BeginsFileAtAnyDepth ts)) ⊎ ((y ≡ E5) × BeginsFileAtAnyDepth ts) → x ≡ y
    by_number (inl a) (inl b) = a.0 ∙ sym b.0
    by_number (inl a) (inr b) = absurd (a.1 b.1)
    by_number (inr a) (inl b) = absurd (b.1 a.1)
    by_number (inr a) (inr b) = a.0 ∙ sym b.0

same_refusal : (r s : Refusal) → r.number ≡ s.number → r.offset ≡ s.offset → r ≡ s
same_refusal r s number offset =
    ap (λ (n : RefusalNumber). let x : Refusal = record { number = n; offset = r.offset } in x) number
    ∙ ap (λ (o : ℕ). let x : Refusal = record { number = s.number; offset = o } in x) offset

module _ (laws : FirstWrongLaws) (ts : List Token) (end : ℕ) where
  -- two first wrong tokens are behind the same tokens, and the same
  same_front : (m n : ℕ) (a : NoneBeginsAt ts m) (b : NoneBeginsAt ts n) → a.before ++ a.token ∷ [] ≡ b.before ++ b.token ∷ []
  same_front m n a b =
      let front = laws.front ts m n a b in
      let whole : b.before ++ a.token ∷ a.behind ≡ b.before ++ b.token ∷ b.behind
      = ap (λ (xs : List Token). xs ++ a.token ∷ a.behind) (sym front) ∙ sym a.whole ∙ b.whole in
      ap (λ (xs : List Token). xs ++ a.token ∷ []) front
      ∙ ap (λ (t : Token). b.before ++ t ∷ []) (same_token b.before a.token b.token a.behind b.behind whole)

  pub one_dead_end : (r other : Refusal) → IsDeadEnd ts end r → IsDeadEnd ts end other → r ≡ other
  one_dead_end r other (inl a) (inl b) =
      same_refusal r other
      (same_number r.number other.number (b.first.before ++ b.first.token ∷ [])
      (subst (IsNumberOf r.number) (same_front r.offset other.offset a.first b.first) a.number) b.number)
      (laws.offset ts r.offset other.offset a.first b.first)
  one_dead_end r other (inl a) (inr b) = absurd (laws.none ts r.offset a.first b.1.begun)
  one_dead_end r other (inr a) (inl b) = absurd (laws.none ts other.offset b.first a.1.begun)
  one_dead_end r other (inr a) (inr b) = a.0 ∙ sym b.0

  pub no_dead_end : (r : Refusal) (f : FileTree) → IsFileOf ts f → ¬ IsDeadEnd ts end r
  no_dead_end r f is (inl a) = laws.none ts r.offset a.first (begins_whole ts f is)
  no_dead_end r f is (inr a) = a.1.none f is
