-- What stands at indices.
use Rattle.std.proofs.Common.{◌≡◌, ◌⊎◌, inl, inr, ℕ, zero, suc, ◌<◌, ◌≤◌, Bool, true, false, ◌||◌, nat_eq, List, [], ◌∷◌, ◌++◌}
use Rattle.std.proofs.Common.{length, get_or, Option, Some, None, IsTrue, refl, sym, ap, ◌∙◌, subst, arith}
use Rattle.std.specs.List.{All, slice_get}
use Rattle.std.proofs.lemmas.Bool.{eq-eqb, eqb-true}
use Rattle.std.proofs.lemmas.Option.{slice_get-get_or}
use Rattle.dv_share.specs.Indices.{RiseFrom, found, is_in, indices_of}
use Rattle.dv_share.specs.declared.index.Indexed.{Indexed}

pub yes_or_no : (t : Bool) → (t ≡ true) ⊎ (t ≡ false)
yes_or_no true = inl refl
yes_or_no false = inr refl

pub differ : (a b : ℕ) → (a ≡ b → ⊥) → nat_eq a b ≡ false
differ a b h = elim (yes_or_no (nat_eq a b)) [ inl e ↦ absurd (h (eqb-true a b e)) | inr e ↦ e ]

pub itself : (n : ℕ) → nat_eq n n ≡ true
itself n = eq-eqb n n refl

pub turned : (a b : ℕ) (t : Bool) → nat_eq a b ≡ t → nat_eq b a ≡ t
turned a b true e = eq-eqb b a (sym (eqb-true a b e))
turned a b false e = differ b a (λ d. false_true (sym e ∙ eq-eqb a b (sym d)))
  where
    false_true : false ≡ true → ⊥
    false_true h = cc

pub weaken : (low lower : ℕ) (ps : List ℕ) → lower ≤ low → RiseFrom low ps → RiseFrom lower ps
weaken low lower [] le h = tt
weaken low lower (p ∷ ps) le h = (omega (arith, h.0), h.1)

pub not_below : (low p : ℕ) (ps : List ℕ) → RiseFrom low ps → p < low → is_in p ps ≡ false
not_below low p [] h lt = refl
not_below low p (q ∷ ps) h lt =
    let e : nat_eq q p ≡ false = differ q p (λ e. absurd (omega (arith, h.0))) in
    rw e (not_below (suc q) p ps h.1 (omega (arith, h.0)))

pub all_first : {X : Type 0} (P : X → Type 0) (x : X) (xs : List X) → All P (x ∷ xs) → P x
all_first P x xs h = h 0 x (omega arith)

pub all_rest : {X : Type 0} (P : X → Type 0) (x : X) (xs : List X) → All P (x ∷ xs) → All P xs
all_rest P x xs h = λ k d lt. h (suc k) d (omega (arith, lt))

pub rise_push : (low p : ℕ) (ps : List ℕ) → RiseFrom low ps → low ≤ p → All (λ q. q < p) ps → RiseFrom low (ps ++ p ∷ [])
rise_push low p [] h le below = (le, tt)
rise_push low p (q ∷ ps) h le below =
    let less : q < p = all_first (λ q. q < p) q ps below in
    (h.0, rise_push (suc q) p ps h.1 (omega (arith, less)) (all_rest (λ q. q < p) q ps below))

-- what stands at an index of a list
pub there : {X : Type 0} (xs : List X) (p : ℕ) → p < length xs → (x : X) × (slice_get xs p ≡ Some x)
there [] p lt = absurd (omega arith)
there (x ∷ xs) zero lt = (x, refl)
there (x ∷ xs) (suc p) lt = there xs p (omega arith)

pub in_push : (p q : ℕ) (ps : List ℕ) → is_in p (ps ++ q ∷ []) ≡ (is_in p ps || nat_eq q p)
in_push p q [] = by_test (nat_eq q p)
  where
    by_test : (t : Bool) → (t || false) ≡ (false || t)
    by_test true = refl
    by_test false = refl
in_push p q (r ∷ ps) = ap (λ t. nat_eq r p || t) (in_push p q ps) ∙ by_tests (nat_eq r p) (is_in p ps) (nat_eq q p)
  where
    by_tests : (t u v : Bool) → (t || (u || v)) ≡ ((t || u) || v)
    by_tests true u v = refl
    by_tests false u v = refl

false_true : false ≡ true → ⊥
false_true h = cc

pub in_all : (P : ℕ → Type 0) (p : ℕ) (ps : List ℕ) → All P ps → IsTrue (is_in p ps) → P p
in_all P p [] h i = absurd (false_true i)
in_all P p (q ∷ ps) h i = elim (yes_or_no (nat_eq q p)) [
  | inl e ↦ subst P (eqb-true q p e) (all_first P q ps h)
  | inr e ↦ in_all P p ps (all_rest P q ps h) (rw e at i)
]

module _ {X : Type 0} where
  some_none : (w : X) → Some w ≡ None → ⊥
  some_none w h = cc

  some_same : (v w : X) → Some v ≡ Some w → v ≡ w
  some_same v w h = cc

  pub found_absent : (p : ℕ) (xs : List (Indexed X)) → is_in p (indices_of xs) ≡ false → found p xs ≡ None
  found_absent p [] h = refl
  found_absent p (x ∷ xs) h = elim (yes_or_no (nat_eq x.index p)) [
    | inl e ↦ absurd (false_true (sym (rw e at h)))
    | inr e ↦ rw e (found_absent p xs (rw e at h))
  ]

  -- what is found is an element, at its index
  pub found_all : (P : ℕ → X → Type 0) (p : ℕ) (w : X) (xs : List (Indexed X)) → All (λ (x : Indexed X). P x.index x.what) xs
      → found p xs ≡ Some w → P p w
  found_all P p w [] h e = absurd (some_none w (sym e))
  found_all P p w (x ∷ xs) h e = elim (yes_or_no (nat_eq x.index p)) [
    | inl here ↦
        let same : x.what ≡ w = some_same x.what w (rw here at e) in
        subst (λ v. P p v) same (subst (λ (q : ℕ). P q x.what) (eqb-true x.index p here)
        (all_first (λ (x : Indexed X). P x.index x.what) x xs h))
    | inr apart ↦ found_all P p w xs (all_rest (λ (x : Indexed X). P x.index x.what) x xs h) (rw apart at e)
  ]

  pub some_or_none : (o : Option X) → ((w : X) × (o ≡ Some w)) ⊎ (o ≡ None)
  some_or_none None = inr refl
  some_or_none (Some w) = inl (w, refl)

  pub found_none : (p : ℕ) (xs : List (Indexed X)) → found p xs ≡ None → is_in p (indices_of xs) ≡ false
  found_none p [] h = refl
  found_none p (x ∷ xs) h = elim (yes_or_no (nat_eq x.index p)) [
    | inl e ↦ absurd (some_none x.what (rw e at h))
    | inr e ↦ rw e (found_none p xs (rw e at h))
  ]

  -- of indices that rise, each element is what is found at its index
  pub found_at : (low i : ℕ) (x : Indexed X) (xs : List (Indexed X)) → RiseFrom low (indices_of xs) → slice_get xs i ≡ Some x
      → found x.index xs ≡ Some x.what
  found_at low i x [] h e = absurd (cc)
  found_at low zero x (y ∷ xs) h e =
      let same : y ≡ x = cc in
      rw same (rw (itself x.index) refl)
  found_at low (suc i) x (y ∷ xs) h e =
      let rest = found_at (suc y.index) i x xs h.1 e in
      let apart : nat_eq y.index x.index ≡ false = differ y.index x.index
      (λ d. some_none x.what (sym rest ∙ found_absent x.index xs
      (not_below (suc y.index) x.index (indices_of xs) h.1 (omega (arith, d))))) in
      rw apart rest

  pub nothing_found : (p : ℕ) (xs : List (Indexed X)) → ((k : ℕ) (d : Indexed X) → k < length xs → (get_or xs k d).index ≡ p → ⊥)
      → found p xs ≡ None
  nothing_found p [] h = refl
  nothing_found p (x ∷ xs) h =
      let apart : nat_eq x.index p ≡ false = differ x.index p (λ e. h 0 x (omega arith) e) in
      rw apart (nothing_found p xs (λ k d lt e. h (suc k) d (omega (arith, lt)) e))

  pub found_here : (p i : ℕ) (d : Indexed X) (xs : List (Indexed X)) → RiseFrom 0 (indices_of xs) → i < length xs → (get_or xs i d).index ≡ p →
      found p xs ≡ Some (get_or xs i d).what
  found_here p i d xs h lt e =
      subst (λ (q : ℕ). found q xs ≡ Some (get_or xs i d).what) e (found_at 0 i (get_or xs i d) xs h (slice_get-get_or xs i d lt))
