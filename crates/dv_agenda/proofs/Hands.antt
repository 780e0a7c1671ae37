-- Waits without those of the components in hand.
use Rattle.std.proofs.Common.{◌≡◌, ◌≢◌, inl, inr, ◌⊎◌, ℕ, zero, suc, ◌+◌, ◌*◌, ◌^◌, ◌<◌, ◌≤◌, Bool, true, false, cond, List, [], ◌∷◌, length, set}
use Rattle.std.proofs.Common.{get_or, get_or-set_same, get_or-set_other, length-set, Option, Some, None, refl, sym, ap, subst, arith, ◌∙◌}
use Rattle.std.proofs.lemmas.Bool.{cases_eq}
use Rattle.std.proofs.lemmas.Bool.Decides.{nat_tests}
use Rattle.dv_time.specs.Time.{earliest, rank}
use Rattle.dv_time.specs.declared.time.Time.{Time}
use Rattle.dv_agenda.specs.Agendas.{IsAgenda, IsKept, IsKnown}
use Rattle.dv_agenda.specs.Sets.{has}
use Rattle.dv_agenda.specs.Waits.{due_at, due_from, ends_at, first_of, same_time, unless_at, without}
use Rattle.dv_agenda.specs.Wheel.{AreFrom, IsFrom, IsHeld, IsOfSlot, least_at, nothing, slot}
use Rattle.dv_agenda.specs.declared.least.Least.{Least}
use Rattle.dv_agenda.specs.declared.first_wait.FirstWait.{FirstWait}
use Rattle.dv_agenda.specs.declared.hand.Hand.{Hand}
use Rattle.dv_agenda.specs.declared.wheel.Wheel.{Wheel}
use Rattle.dv_agenda.proofs.Leasts.{elsewhere, nothing_held, written}
use Rattle.dv_agenda.proofs.FirstWaits.{either, first_is, first_least, first_there, same_tick, twice}
use Rattle.dv_agenda.proofs.OrderOfWaits.{earliest_comm, same}
use Rattle.dv_agenda.proofs.Wheels.{held_on, in_at, later_by, tick_from}

pub without_at : (t : Time) (ws : List (Option Time)) (p : ℕ) → get_or (without t ws) p None ≡ unless_at t (get_or ws p None)
without_at t [] zero = refl
without_at t [] (suc p) = refl
without_at t (w ∷ ws) zero = refl
without_at t (w ∷ ws) (suc p) = without_at t ws p

pub length-without : (t : Time) (ws : List (Option Time)) → length (without t ws) ≡ length ws
length-without t [] = refl
length-without t (w ∷ ws) = ap suc (length-without t ws)

without_set : (t : Time) (ws : List (Option Time)) (i : ℕ) (w : Option Time)
    → without t (set ws i w) ≡ set (without t ws) i (unless_at t w)
without_set t [] zero w = refl
without_set t [] (suc i) w = refl
without_set t (v ∷ ws) zero w = refl
without_set t (v ∷ ws) (suc i) w = ap (λ (vs : List (Option Time)). unless_at t v ∷ vs) (without_set t ws i w)

pub unless_not : (t : Time) (w : Option Time) → ends_at t w ≡ false → unless_at t w ≡ w
unless_not t w e = ap (λ (b : Bool). cond b None w) e

pub unless_is : (t : Time) (w : Option Time) → ends_at t w ≡ true → unless_at t w ≡ None
unless_is t w e = ap (λ (b : Bool). cond b None w) e

-- where none is due, none is left out
pub none_due : (k : ℕ) (t : Time) (ws : List (Option Time)) → length (due_from k t ws) ≡ 0 → without t ws ≡ ws
none_due k t [] e = refl
none_due k t (w ∷ ws) e = by (ends_at t w) refl (none_due (k + 1) t ws)
  where
    count : Bool → ℕ
    count b = length (cond b (k ∷ due_from (k + 1) t ws) (due_from (k + 1) t ws))

    by : (b : Bool) → ends_at t w ≡ b → (length (due_from (k + 1) t ws) ≡ 0 → without t ws ≡ ws) → without t (w ∷ ws) ≡ w ∷ ws
    by true d none =
        let no : suc (length (due_from (k + 1) t ws)) ≡ 0 = sym (ap count d) ∙ e in
        absurd (omega arith)
    by false d none =
        let rest : length (due_from (k + 1) t ws) ≡ 0 = sym (ap count d) ∙ e in
        ap (λ (v : Option Time). v ∷ without t ws) (unless_not t w d)
        ∙ ap (λ (vs : List (Option Time)). w ∷ vs) (none rest)

some_due : (k : ℕ) (t : Time) (ws : List (Option Time)) → 0 < length (due_from k t ws)
    → (p : ℕ) × (ends_at t (get_or ws p None) ≡ true)
some_due k t [] lt = absurd (omega arith)
some_due k t (w ∷ ws) lt = by (ends_at t w) refl (some_due (k + 1) t ws)
  where
    count : Bool → ℕ
    count b = length (cond b (k ∷ due_from (k + 1) t ws) (due_from (k + 1) t ws))

    by : (b : Bool) → ends_at t w ≡ b
        → (0 < length (due_from (k + 1) t ws) → (p : ℕ) × (ends_at t (get_or ws p None) ≡ true))
        → (p : ℕ) × (ends_at t (get_or (w ∷ ws) p None) ≡ true)
    by true d some = (0, d)
    by false d some =
        let same : length (due_from k t (w ∷ ws)) ≡ length (due_from (k + 1) t ws) = ap count d in
        let q = some (omega arith) in
        (suc q.0, q.1)

-- how many are due when a component has another wait
pub due_count : (k : ℕ) (t : Time) (ws : List (Option Time)) (i : ℕ) (w : Option Time) → i < length ws
    → length (due_from k t (set ws i w)) + cond (ends_at t (get_or ws i None)) 1 0
    ≡ length (due_from k t ws) + cond (ends_at t w) 1 0
due_count k t [] i w lt = absurd (omega arith)
due_count k t (v ∷ ws) zero w lt = by (ends_at t w) (ends_at t v) (due_from (k + 1) t ws)
  where
    by : (b c : Bool) (ps : List ℕ)
        → length (cond b (k ∷ ps) ps) + cond c 1 0 ≡ length (cond c (k ∷ ps) ps) + cond b 1 0
    by true true ps = refl
    by true false ps = omega arith
    by false true ps = omega arith
    by false false ps = refl
due_count k t (v ∷ ws) (suc i) w lt =
    by (ends_at t v) (due_from (k + 1) t (set ws i w)) (due_from (k + 1) t ws) (cond (ends_at t (get_or ws i None)) 1 0)
    (cond (ends_at t w) 1 0) (due_count (k + 1) t ws i w (omega arith))
  where
    by : (b : Bool) (ps qs : List ℕ) (x y : ℕ) → length ps + x ≡ length qs + y
        → length (cond b (k ∷ ps) ps) + x ≡ length (cond b (k ∷ qs) qs) + y
    by true ps qs x y h = omega arith
    by false ps qs x y h = h

same_micro : (t u : Time) → same_time u t ≡ true → u.micro ≡ t.micro
same_micro t u e = grind (arith, nat_tests)

ends_is : (t : Time) (w : Option Time) → ends_at t w ≡ true → w ≡ Some t
ends_is t None e = absurd (cc)
ends_is t (Some u) e =
    let ranks : rank (t.micro + u.micro) u ≡ rank (t.micro + u.micro) t =
    ap (λ (n : ℕ). n * (t.micro + u.micro + 1) + u.micro) (same_tick t u e)
    ∙ ap (λ (n : ℕ). t.tick * (t.micro + u.micro + 1) + n) (same_micro t u e) in
    ap Some (same (t.micro + u.micro) u t (omega arith) (omega arith) ranks)

-- a wait after a time does not end then
pub not_now : (t : Time) (w : Option Time) → (earliest w (Some t) ≡ w → ⊥) → ends_at t w ≡ false
not_now t w later = by (ends_at t w) refl
  where
    by : (b : Bool) → ends_at t w ≡ b → ends_at t w ≡ false
    by false d = d
    by true d =
        let e : w ≡ Some t = ends_is t w d in
        absurd (later (ap (λ (v : Option Time). earliest v (Some t)) e ∙ twice (Some t) ∙ sym e))

pub after_time : (t : Time) (w : Option Time) → (earliest w (Some t) ≡ w → ⊥) → earliest (Some t) w ≡ Some t
after_time t w later = earliest_comm (Some t) w ∙ by (either w (Some t))
  where
    by : (earliest w (Some t) ≡ w) ⊎ (earliest w (Some t) ≡ Some t) → earliest w (Some t) ≡ Some t
    by (inl h) = absurd (later h)
    by (inr h) = h

-- the first wait stays the first while a component is left that has it, and the others have later ones
pub first_left : (ws : List (Option Time)) (index : ℕ) (w : Option Time) (t : Time) → index < length ws
    → Some t ≡ first_of ws → (earliest w (Some t) ≡ w → ⊥) → 0 < length (due_at t (set ws index w))
    → Some t ≡ first_of (set ws index w)
first_left ws index w t lt first later some =
    let q = some_due 0 t (set ws index w) some in
    first_is (set ws index w) q.0 (Some t) (ends_is t (get_or (set ws index w) q.0 None) q.1)
    (λ p. elim (cases_eq p index) [
      | inl d ↦
          ap (earliest (Some t)) (ap (λ (i : ℕ). get_or (set ws index w) i None) d ∙ get_or-set_same ws index w None lt)
          ∙ after_time t w later
      | inr ne ↦
          ap (earliest (Some t)) (get_or-set_other ws index p w None ne)
          ∙ ap (λ (v : Option Time). earliest v (get_or ws p None)) first ∙ first_least ws p ∙ sym first
    ])

-- a wait after that of those in hand is not before the present tick
pub later_from : (now : ℕ) (t : Time) (w : Option Time) → now ≤ t.tick → (earliest w (Some t) ≡ w → ⊥) → IsFrom now w
later_from now t w le later = later_by now (Some t) w le (after_time t w later)

positive : (n : ℕ) → (n ≡ 0) ⊎ (0 < n)
positive zero = inl refl
positive (suc n) = inr (omega arith)

-- where components are in hand, the first wait is theirs
pub first_hand : (ws : List (Option Time)) (wheel : Wheel) (first : FirstWait) (hand : Hand) → IsAgenda ws wheel first hand
    → 0 < hand.left → Some hand.time ≡ first_of ws
first_hand ws wheel first hand h lt = sym (h.ahead lt).1 ∙ h.known (h.ahead lt).0

-- one component has another wait, which is after that of those in hand
pub beside : (ws : List (Option Time)) (before after : Wheel) (first first2 : FirstWait) (hand : Hand) (index left : ℕ) (w : Option Time)
    → IsAgenda ws before first hand → 0 < hand.left → index < length ws
    → (earliest w (Some hand.time) ≡ w → ⊥) → after.present ≡ before.present
    → IsKept (set (without hand.time ws) index w) after
    → left + cond (ends_at hand.time (get_or ws index None)) 1 0 ≡ hand.left
    → (0 < left → first2 ≡ first) → (left ≡ 0 → (vs : List (Option Time)) → IsKept vs after → IsKnown first2 vs)
    → IsAgenda (set ws index w) after first2 (record { time = hand.time; left = left })
beside ws before after first first2 hand index left w h some lt later now_is kept count stays found =
    let t : Time = hand.time in
    let not_due : ends_at hand.time w ≡ false = not_now t w later in
    let size : length (set ws index w) ≡ length ws = length-set ws index w in
    let few : length ws ≤ 2 ^ 32 = h.few in
    let counted : length (due_at hand.time (set ws index w)) + cond (ends_at hand.time (get_or ws index None)) 1 0
    ≡ length (due_at hand.time ws) + 0 =
    due_count 0 t ws index w lt ∙ ap (λ (b : Bool). length (due_at t ws) + cond b 1 0) not_due in
    let was : hand.left ≡ length (due_at hand.time ws) = h.count some in
    let now : left ≡ length (due_at hand.time (set ws index w)) = omega arith in
    let rest : IsKept (without hand.time (set ws index w)) after =
    subst (λ (vs : List (Option Time)). IsKept vs after)
    (sym (without_set t ws index w ∙ ap (set (without t ws) index) (unless_not t w not_due))) kept in
    let all : left ≡ 0 → IsKept (set ws index w) after =
    λ nil. subst (λ (vs : List (Option Time)). IsKept vs after) (none_due 0 t (set ws index w) (sym now ∙ nil)) rest in
    record {
      few = omega arith;
      known = elim (positive left) [
        | inl nil ↦ found nil (set ws index w) (all nil)
        | inr lot ↦ λ yes.
            ap (λ (f : FirstWait). f.wait) (stays lot) ∙ (h.ahead some).1
            ∙ first_left ws index w t lt (first_hand ws before first hand h some) later (subst (λ (n : ℕ). 0 < n) now lot)
      ];
      all = all;
      rest = λ lot. rest;
      from = λ lot. subst (λ (n : ℕ). n ≤ t.tick) (sym now_is) (h.from some);
      ahead = λ lot. (
        ap (λ (f : FirstWait). f.known) (stays lot) ∙ (h.ahead some).0,
        ap (λ (f : FirstWait). f.wait) (stays lot) ∙ (h.ahead some).1,
      );
      count = λ lot. now;
    }

unless_some : (t : Time) (w : Option Time) (u : Time) → unless_at t w ≡ Some u → (w ≡ Some u) × (ends_at t (Some u) ≡ false)
unless_some t w u e = by (ends_at t w) refl
  where
    by : (b : Bool) → ends_at t w ≡ b → (w ≡ Some u) × (ends_at t (Some u) ≡ false)
    by true d = let no : None ≡ Some u = sym (unless_is t w d) ∙ e in absurd (cc)
    by false d =
        let is : w ≡ Some u = sym (unless_not t w d) ∙ e in
        (is, sym (ap (ends_at t) is) ∙ d)

-- a wait that is not left out
pub without_some : (t : Time) (ws : List (Option Time)) (p : ℕ) (u : Time) → get_or (without t ws) p None ≡ Some u
    → (get_or ws p None ≡ Some u) × (ends_at t (Some u) ≡ false)
without_some t ws p u e = unless_some t (get_or ws p None) u (sym (without_at t ws p) ∙ e)

from_unless : (t : Time) (now : ℕ) (w : Option Time) → IsFrom now w → IsFrom now (unless_at t w)
from_unless t now w h = by (ends_at t w) refl
  where
    by : (b : Bool) → ends_at t w ≡ b → IsFrom now (unless_at t w)
    by true d = subst (IsFrom now) (sym (unless_is t w d)) tt
    by false d = subst (IsFrom now) (sym (unless_not t w d)) h

pub from_without : (t : Time) (now : ℕ) (ws : List (Option Time)) → AreFrom ws now → AreFrom (without t ws) now
from_without t now ws h = λ p. subst (IsFrom now) (sym (without_at t ws p)) (from_unless t now (get_or ws p None) (h p))

of_slot_without : (t : Time) (ws : List (Option Time)) (now q : ℕ) (u : Time) → slot t.tick now ≢ q → IsOfSlot ws now q u
    → IsOfSlot (without t ws) now q u
of_slot_without t ws now q u ne h = (
  h.0,
  (
    h.1.0,
    without_at t ws h.1.0
        ∙ ap (unless_at t) h.1.1 ∙ unless_not t (Some u) (by (ends_at t (Some u)) refl),
  ),
)
  where
    by : (b : Bool) → ends_at t (Some u) ≡ b → ends_at t (Some u) ≡ false
    by false d = d
    by true d = absurd (ne (ap (λ (x : ℕ). slot x now) (sym (same_tick t u d)) ∙ h.0))

held_by : (t : Time) (ws : List (Option Time)) (now q : ℕ) (l : Least) → slot t.tick now ≢ q → IsHeld ws now q l
    → IsHeld (without t ws) now q l
held_by t ws now q l ne h = λ u told. of_slot_without t ws now q u ne (h u told)

-- what is known of the slots when time goes on to a time, without the components that wait for it, where nothing is left in its slot
pub held_due : (t : Time) (ws : List (Option Time)) (now s : ℕ) (leasts : List Least) → now ≤ t.tick → AreFrom ws t.tick
    → s ≡ slot t.tick now → s < length leasts → ((q : ℕ) → IsHeld ws now q (least_at leasts q))
    → (q : ℕ) → IsHeld (without t ws) t.tick q (least_at (set leasts s nothing) q)
held_due t ws now s leasts on from is lt h q = elim (cases_eq q s) [
  | inl d ↦ subst (IsHeld (without t ws) t.tick q) (sym (written leasts s q nothing lt d)) (nothing_held (without t ws) t.tick q)
  | inr ne ↦
      subst (IsHeld (without t ws) t.tick q) (sym (elsewhere leasts s q nothing ne))
      (held_on (without t ws) now t.tick q (least_at leasts q) on (from_without t t.tick ws from) (λ e. ne (sym e ∙ sym is))
      (held_by t ws now q (least_at leasts q) (λ e. ne (sym e ∙ sym is)) (h q)))
]

-- a component that waits for a time is in the set of its slot
pub due_there : (ws : List (Option Time)) (wheel : Wheel) (s p : ℕ) (t : Time) → s ≡ slot t.tick wheel.present → IsKept ws wheel
    → ends_at t (get_or ws p None) ≡ true → has wheel.members (s * wheel.span + p) ≡ 1
due_there ws wheel s p t is kept e =
    ap (λ (x : ℕ). has wheel.members (x * wheel.span + p)) is
    ∙ (in_at ws wheel p t kept (ends_is t (get_or ws p None) e)).1

-- no component is in hand
pub nothing_left : (ws : List (Option Time)) (wheel : Wheel) (first : FirstWait) (hand : Hand) → hand.left ≡ 0 → length ws ≤ 2 ^ 32
    → IsKnown first ws → IsKept ws wheel → IsAgenda ws wheel first hand
nothing_left ws wheel first hand nil few known kept = record {
  few = few;
  known = known;
  all = λ e. kept;
  rest = λ lot. absurd (omega arith);
  from = λ lot. absurd (omega arith);
  ahead = λ lot. absurd (omega arith);
  count = λ lot. absurd (omega arith);
}

-- the components that wait for the first time are in hand
pub taken : (ws : List (Option Time)) (wheel : Wheel) (first : FirstWait) (t : Time) (left : ℕ) → length ws ≤ 2 ^ 32
    → first.known ≡ true → first.wait ≡ Some t → Some t ≡ first_of ws → IsKept (without t ws) wheel → wheel.present ≡ t.tick
    → left ≡ length (due_at t ws) → IsAgenda ws wheel first (record { time = t; left = left })
taken ws wheel first t left few known wait is kept now_is count = record {
  few = few;
  known = λ yes. wait ∙ is;
  all = λ nil. subst (λ (vs : List (Option Time)). IsKept vs wheel) (none_due 0 t ws (sym count ∙ nil)) kept;
  rest = λ lot. kept;
  from = λ lot. omega arith;
  ahead = λ lot. (known, wait);
  count = λ lot. count;
}

-- a component has a place in each slot
pub room_in : (ws : List (Option Time)) (wheel : Wheel) (first : FirstWait) (hand : Hand) (index : ℕ) → IsAgenda ws wheel first hand
    → 0 < hand.left → index < length ws → index < wheel.span
room_in ws wheel first hand index h lot lt =
    let rest : IsKept (without hand.time ws) wheel = h.rest lot in
    let fits : length (without hand.time ws) ≤ wheel.span = rest.fits in
    let size : length (without hand.time ws) ≡ length ws = length-without hand.time ws in
    omega arith

-- the present tick is not after the first wait
pub present_first : (ws : List (Option Time)) (now : ℕ) (t : Time) → Some t ≡ first_of ws → AreFrom ws now → now ≤ t.tick
present_first ws now t first from =
    let q = first_there ws t (sym first) in
    tick_from now (get_or ws q.0 None) t q.1 (from q.0)
