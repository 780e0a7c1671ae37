-- The first wait of a list and the indices that are due, as a walk over the list finds them.
use Rattle.std.proofs.Common.{◌≡◌, inl, inr, ◌⊎◌, ℕ, zero, suc, ◌+◌, ◌-◌, ◌<◌, ◌≤◌, Bool, true, false, cond, List, [], ◌∷◌, ◌++◌, length}
use Rattle.std.proofs.Common.{take}
use Rattle.std.proofs.Common.{◌≢◌, set, get_or-set_same, get_or-set_other, get_or, Option, Some, None, refl, sym, ap, arith, ◌∙◌, add-zero}
use Rattle.std.proofs.lemmas.Bool.{cases_eq}
use Rattle.std.proofs.lemmas.Bool.Decides.{nat_tests}
use Rattle.std.proofs.lemmas.List.{append-nil, length-append}
use Rattle.dv_time.specs.Time.{earliest, is_before}
use Rattle.dv_time.specs.declared.time.Time.{Time}
use Rattle.dv_agenda.specs.Waits.{due_at, due_from, ends_at, first_of, same_time}
use Rattle.dv_agenda.proofs.OrderOfWaits.{earliest-none, earliest_assoc, earliest_comm}

pub either : (a b : Option Time) → (earliest a b ≡ a) ⊎ (earliest a b ≡ b)
either None b = inr refl
either (Some t) None = inl refl
either (Some t) (Some u) = by (is_before u t)
  where
    by : (b : Bool) → (cond b (Some u) (Some t) ≡ Some t) ⊎ (cond b (Some u) (Some t) ≡ Some u)
    by true = inr refl
    by false = inl refl

pub twice : (a : Option Time) → earliest a a ≡ a
twice a = same (either a a)
  where
    same : (earliest a a ≡ a) ⊎ (earliest a a ≡ a) → earliest a a ≡ a
    same (inl e) = e
    same (inr e) = e

-- what does not end before two waits does not end before the earliest of them, and what ends no later than one ends no later than it
pub earliest_above : (f a w : Option Time) → earliest f a ≡ f → earliest f w ≡ f → earliest f (earliest a w) ≡ f
earliest_above f a w h k = earliest_assoc f a w ∙ ap (λ (v : Option Time). earliest v w) h ∙ k

pub earliest_keeps : (a w v : Option Time) → earliest a v ≡ a → earliest (earliest a w) v ≡ earliest a w
earliest_keeps a w v h =
    sym (earliest_assoc a w v) ∙ ap (earliest a) (earliest_comm w v) ∙ earliest_assoc a v w
    ∙ ap (λ (x : Option Time). earliest x w) h

pub earliest_second : (a w : Option Time) → earliest (earliest a w) w ≡ earliest a w
earliest_second a w = sym (earliest_assoc a w w) ∙ ap (earliest a) (twice w)

-- a walk over a list, one index further
pub first_more : (ws : List (Option Time)) (c : ℕ) → first_of (take (c + 1) ws) ≡ earliest (first_of (take c ws)) (get_or ws c None)
first_more [] zero = refl
first_more [] (suc c) =
    let e : suc c + 1 ≡ suc (c + 1) = omega arith in
    ap (λ (n : ℕ). first_of (take {A = Option Time} n [])) e
first_more (w ∷ ws) zero = earliest-none w
first_more (w ∷ ws) (suc c) =
    let e : suc c + 1 ≡ suc (c + 1) = omega arith in
    ap (λ (n : ℕ). first_of (take n (w ∷ ws))) e
    ∙ ap (earliest w) (first_more ws c)
    ∙ earliest_assoc w (first_of (take c ws)) (get_or ws c None)

-- no wait of the list ends before the first
pub first_least : (ws : List (Option Time)) (p : ℕ) → earliest (first_of ws) (get_or ws p None) ≡ first_of ws
first_least [] p = refl
first_least (w ∷ ws) zero =
    earliest_comm (earliest w (first_of ws)) w ∙ earliest_assoc w w (first_of ws)
    ∙ ap (λ (v : Option Time). earliest v (first_of ws)) (twice w)
first_least (w ∷ ws) (suc p) =
    sym (earliest_assoc w (first_of ws) (get_or ws p None)) ∙ ap (earliest w) (first_least ws p)

pub first_there : (ws : List (Option Time)) (t : Time) → first_of ws ≡ Some t → (p : ℕ) × (get_or ws p None ≡ Some t)
first_there [] t e = absurd (cc)
first_there (w ∷ ws) t e = elim (either w (first_of ws)) [
  | inl d ↦ (0, sym d ∙ e)
  | inr d ↦ let q = first_there ws t (sym d ∙ e) in (suc q.0, q.1)
]

all_later : (ws : List (Option Time)) (a : Option Time) → ((q : ℕ) → earliest a (get_or ws q None) ≡ a)
    → earliest a (first_of ws) ≡ a
all_later [] a h = earliest-none a
all_later (w ∷ ws) a h =
    earliest_assoc a w (first_of ws)
    ∙ ap (λ (v : Option Time). earliest v (first_of ws)) (h 0)
    ∙ all_later ws a (λ q. h (suc q))

-- a wait of the list before which none ends is the first
pub first_is : (ws : List (Option Time)) (p : ℕ) (a : Option Time) → get_or ws p None ≡ a
    → ((q : ℕ) → earliest a (get_or ws q None) ≡ a)
    → a ≡ first_of ws
first_is ws p a e h =
    sym (all_later ws a h)
    ∙ earliest_comm a (first_of ws)
    ∙ ap (earliest (first_of ws)) (sym e)
    ∙ first_least ws p

pub nothing_first : (ws : List (Option Time)) → ((q : ℕ) → get_or ws q None ≡ None) → None ≡ first_of ws
nothing_first ws h = first_is ws 0 None (h 0) (λ q. h q)

-- where the first is nothing, all are
pub none_of : (ws : List (Option Time)) → None ≡ first_of ws → (q : ℕ) → get_or ws q None ≡ None
none_of ws e q = ap (λ (v : Option Time). earliest v (get_or ws q None)) e ∙ first_least ws q ∙ sym e

pub earlier : (t u : Time) → t.tick < u.tick → is_before u t ≡ false
earlier t u lt = grind (arith, nat_tests)

pub earlier_first : (t u : Time) → t.tick < u.tick → earliest (Some t) (Some u) ≡ Some t
earlier_first t u lt = ap (λ (b : Bool). cond b (Some u) (Some t)) (earlier t u lt)

pub same_tick : (t u : Time) → same_time u t ≡ true → u.tick ≡ t.tick
same_tick t u e = grind (arith, nat_tests)

-- the same for the indices that are due
abbrev pub one_due : Bool → ℕ → List ℕ
one_due b p = cond b (p ∷ []) []

pub due_more_from : (k : ℕ) (t : Time) (ws : List (Option Time)) (c : ℕ)
    → due_from k t (take (c + 1) ws) ≡ due_from k t (take c ws) ++ one_due (ends_at t (get_or ws c None)) (k + c)
due_more_from k t [] zero = refl
due_more_from k t [] (suc c) =
    let e : suc c + 1 ≡ suc (c + 1) = omega arith in
    ap (λ (n : ℕ). due_from k t (take {A = Option Time} n [])) e
due_more_from k t (w ∷ ws) zero =
    ap (λ (n : ℕ). one_due (ends_at t w) n) (sym (add-zero k))
due_more_from k t (w ∷ ws) (suc c) =
    let e : suc c + 1 ≡ suc (c + 1) = omega arith in
    let d : k + 1 + c ≡ k + suc c = omega arith in
    ap (λ (n : ℕ). due_from k t (take n (w ∷ ws))) e
    ∙ ap (λ (ps : List ℕ). cond (ends_at t w) (k ∷ ps) ps)
    (due_more_from (k + 1) t ws c
    ∙ ap (λ (n : ℕ). due_from (k + 1) t (take c ws) ++ one_due (ends_at t (get_or ws c None)) n) d)
    ∙ in_front (ends_at t w) (due_from (k + 1) t (take c ws)) (one_due (ends_at t (get_or ws c None)) (k + suc c))
  where
    in_front : (b : Bool) (ys zs : List ℕ) → cond b (k ∷ (ys ++ zs)) (ys ++ zs) ≡ cond b (k ∷ ys) ys ++ zs
    in_front true ys zs = refl
    in_front false ys zs = refl

pub due_more : (t : Time) (ws : List (Option Time)) (c : ℕ)
    → due_at t (take (c + 1) ws) ≡ due_at t (take c ws) ++ one_due (ends_at t (get_or ws c None)) c
due_more t ws c =
    let e : 0 + c ≡ c = omega arith in
    due_more_from 0 t ws c ∙ ap (λ (n : ℕ). due_at t (take c ws) ++ one_due (ends_at t (get_or ws c None)) n) e

due_skip_by : (t : Time) (ws : List (Option Time)) (c n : ℕ)
    → ((p : ℕ) → c ≤ p → p < c + n → ends_at t (get_or ws p None) ≡ false)
    → due_at t (take (c + n) ws) ≡ due_at t (take c ws)
due_skip_by t ws c zero h = ap (λ (n : ℕ). due_at t (take n ws)) (add-zero c)
due_skip_by t ws c (suc n) h =
    let e : c + suc n ≡ c + n + 1 = omega arith in
    ap (λ (m : ℕ). due_at t (take m ws)) e
    ∙ due_more t ws (c + n)
    ∙ ap (λ (b : Bool). due_at t (take (c + n) ws) ++ one_due b (c + n)) (h (c + n) (omega arith) (omega arith))
    ∙ append-nil (due_at t (take (c + n) ws))
    ∙ due_skip_by t ws c n (λ p le lt. h p le (omega arith))

pub due_skip : (t : Time) (ws : List (Option Time)) (c d : ℕ) → c ≤ d
    → ((p : ℕ) → c ≤ p → p < d → ends_at t (get_or ws p None) ≡ false)
    → due_at t (take d ws) ≡ due_at t (take c ws)
due_skip t ws c d le h =
    let e : d ≡ c + (d - c) = omega arith in
    ap (λ (n : ℕ). due_at t (take n ws)) e ∙ due_skip_by t ws c (d - c) (λ p low lt. h p low (omega arith))

take_none : (ws : List (Option Time)) → take 0 ws ≡ []
take_none [] = refl
take_none (w ∷ ws) = refl

pub due_none : (t : Time) (ws : List (Option Time)) → due_at t (take 0 ws) ≡ []
due_none t ws = ap (due_at t) (take_none ws)

pub first_none : (ws : List (Option Time)) → first_of (take 0 ws) ≡ None
first_none ws = ap first_of (take_none ws)

pub take_whole : (ws : List (Option Time)) (n : ℕ) → length ws ≤ n → take n ws ≡ ws
take_whole [] zero le = refl
take_whole [] (suc n) le = refl
take_whole (w ∷ ws) zero le = absurd (omega arith)
take_whole (w ∷ ws) (suc n) le = ap (λ (vs : List (Option Time)). w ∷ vs) (take_whole ws n (omega arith))

-- no more are due among the first of a list than in all of it
pub fewer_due : (k : ℕ) (t : Time) (ws : List (Option Time)) (c : ℕ) → length (due_from k t (take c ws)) ≤ length (due_from k t ws)
fewer_due k t [] zero = omega arith
fewer_due k t [] (suc c) = omega arith
fewer_due k t (w ∷ ws) zero = omega arith
fewer_due k t (w ∷ ws) (suc c) =
    both (ends_at t w) (due_from (k + 1) t (take c ws)) (due_from (k + 1) t ws) (fewer_due (k + 1) t ws c)
  where
    both : (b : Bool) (ps qs : List ℕ) → length ps ≤ length qs → length (cond b (k ∷ ps) ps) ≤ length (cond b (k ∷ qs) qs)
    both true ps qs h = omega arith
    both false ps qs h = h

-- where the index at hand is due, there is another besides those before it
pub one_more_due : (t : Time) (ws : List (Option Time)) (c : ℕ) → ends_at t (get_or ws c None) ≡ true
    → length (due_at t (take c ws)) < length (due_at t ws)
one_more_due t ws c e =
    let fewer : length (due_at t (take (c + 1) ws)) ≤ length (due_at t ws) = fewer_due 0 t ws (c + 1) in
    let more : length (due_at t (take (c + 1) ws)) ≡ length (due_at t (take c ws)) + 1 =
    ap length (due_more t ws c ∙ ap (λ (b : Bool). due_at t (take c ws) ++ one_due b c) e)
    ∙ length-append (due_at t (take c ws)) (c ∷ []) in
    omega arith

-- no more are due than there are indices
pub few_due : (t : Time) (ws : List (Option Time)) (k : ℕ) → length (due_from k t ws) ≤ length ws
few_due t [] k = omega arith
few_due t (w ∷ ws) k = few (ends_at t w) (due_from (k + 1) t ws) (few_due t ws (k + 1))
  where
    few : (b : Bool) (ps : List ℕ) → length ps ≤ length ws → length (cond b (k ∷ ps) ps) ≤ suc (length ws)
    few true ps h = omega arith
    few false ps h = omega arith

-- what is the first wait where an index waits for another time: that one, where none of the others ends before
pub first_after : (ws : List (Option Time)) (index : ℕ) (f w : Option Time) → index < length ws → f ≡ first_of ws
    → earliest w f ≡ w
    → w ≡ first_of (set ws index w)
first_after ws index f w lt e h =
    first_is (set ws index w) index w (get_or-set_same ws index w None lt) (λ q. elim (cases_eq q index) [
      | inl d ↦
          ap (earliest w) (ap (λ (i : ℕ). get_or (set ws index w) i None) d ∙ get_or-set_same ws index w None lt) ∙ twice w
      | inr ne ↦
          ap (earliest w) (get_or-set_other ws index q w None ne)
          ∙ ap (λ (v : Option Time). earliest v (get_or ws q None)) (sym h)
          ∙ sym (earliest_assoc w f (get_or ws q None))
          ∙ ap (earliest w) (ap (λ (v : Option Time). earliest v (get_or ws q None)) e ∙ first_least ws q ∙ sym e)
          ∙ h
    ])

-- or the same as before, where another index waits for it
pub first_stays : (ws : List (Option Time)) (index : ℕ) (f w : Option Time) → index < length ws → f ≡ first_of ws
    → (get_or ws index None ≡ f → ⊥) → (earliest w f ≡ w → ⊥) → f ≡ first_of (set ws index w)
first_stays ws index None w lt e other later = absurd (other (none_of ws e index))
first_stays ws index (Some t) w lt e other later =
    let there = first_there ws t (sym e) in
    let apart : there.0 ≢ index = λ d. other (ap (λ (i : ℕ). get_or ws i None) (sym d) ∙ there.1) in
    let earliest_one : earliest w (Some t) ≡ Some t = by (either w (Some t)) in
    first_is (set ws index w) there.0 (Some t) (get_or-set_other ws index there.0 w None apart ∙ there.1)
    (λ q. elim (cases_eq q index) [
      | inl d ↦
          ap (earliest (Some t)) (ap (λ (i : ℕ). get_or (set ws index w) i None) d ∙ get_or-set_same ws index w None lt)
          ∙ earliest_comm (Some t) w ∙ earliest_one
      | inr ne ↦
          ap (earliest (Some t)) (get_or-set_other ws index q w None ne)
          ∙ ap (λ (v : Option Time). earliest v (get_or ws q None)) e ∙ first_least ws q ∙ sym e
    ])
  where
    by : (earliest w (Some t) ≡ w) ⊎ (earliest w (Some t) ≡ Some t) → earliest w (Some t) ≡ Some t
    by (inl h) = absurd (later h)
    by (inr h) = h

-- an index that waits for a time is one of the list
pub within_due : (ws : List (Option Time)) (p : ℕ) (t : Time) → ends_at t (get_or ws p None) ≡ true → p < length ws
within_due [] p t e = absurd (cc)
within_due (w ∷ ws) zero t e = omega arith
within_due (w ∷ ws) (suc p) t e = let h : p < length ws = within_due ws p t e in omega arith
