-- What the sets of a wheel say of the waits.
use Rattle.std.proofs.Common.{◌≡◌, ◌≢◌, inl, inr, ◌⊎◌, ℕ, zero, suc, ◌+◌, ◌-◌, ◌*◌, ◌/◌, ◌%◌, ◌^◌, ◌<◌, ◌≤◌, Bool, true, false, List, [], ◌∷◌}
use Rattle.std.proofs.Common.{length, replicate, set, length-set, get_or-set_same, get_or-set_other, get_or}
use Rattle.std.proofs.Common.{Option, Some, None, refl, sym, ap, subst}
use Rattle.std.proofs.Common.{arith, ◌∙◌}
use Rattle.std.proofs.lemmas.Bool.{cases_eq, cases_lt, eq-eqb, eqb-true}
use Rattle.std.proofs.Math.Nat.{mul_assoc}
use Rattle.std.proofs.lemmas.List.{length-replicate}
use Rattle.std.proofs.lemmas.Nat.{mod-mul-add}
use Rattle.std.specs.Int.{bit_at}
use Rattle.dv_time.specs.declared.time.Time.{Time}
use Rattle.dv_time.specs.Time.{earliest}
use Rattle.dv_agenda.specs.Agendas.{AreHeld, AreIn, HasMore, HasRoom, IsIn, IsKept}
use Rattle.dv_agenda.specs.Sets.{has}
use Rattle.dv_agenda.specs.Waits.{ends_at, first_of, same_time}
use Rattle.dv_agenda.specs.Wheel.{AreFrom, IsFrom, IsHeld, IsLow, IsOfSlot, IsTold, in_slot, least_at, nothing, slot}
use Rattle.dv_agenda.specs.declared.least.Least.{Least}
use Rattle.dv_agenda.specs.declared.wheel.Wheel.{Wheel}
use Rattle.dv_agenda.proofs.FirstWaits.{earlier_first, first_least, first_there, nothing_first, same_tick}
use Rattle.dv_agenda.proofs.Leasts.{elsewhere, held_empty}
use Rattle.dv_agenda.proofs.OrderOfWaits.{earliest_comm}
use Rattle.dv_agenda.proofs.Sets.{has_word}
use Rattle.dv_agenda.proofs.Slots.{slot_below, slot_stays, slots_ordered}

not_due_by : (wheel : Wheel) (p : ℕ) (t : Time) (w : Option Time) → IsIn wheel p w
    → has wheel.members (slot t.tick wheel.present * wheel.span + p) ≡ 0 → ends_at t w ≡ false
not_due_by wheel p t None h none = refl
not_due_by wheel p t (Some u) h none = by (same_time u t) refl
  where
    by : (b : Bool) → same_time u t ≡ b → same_time u t ≡ false
    by false d = d
    by true d =
        let one : has wheel.members (slot t.tick wheel.present * wheel.span + p) ≡ 1 =
        ap (λ (x : ℕ). has wheel.members (slot x wheel.present * wheel.span + p)) (sym (same_tick t u d)) ∙ h.1 in
        absurd (omega arith)

-- a component that is not in the set of a time's slot is not due then
pub not_due : (ws : List (Option Time)) (wheel : Wheel) (p : ℕ) (t : Time) → IsKept ws wheel
    → has wheel.members (slot t.tick wheel.present * wheel.span + p) ≡ 0 → ends_at t (get_or ws p None) ≡ false
not_due ws wheel p t h none = not_due_by wheel p t (get_or ws p None) (h.there p) none

-- a component is not due where each that is due from a number on is in a set, and it is not
pub not_due_there : (ws : List (Option Time)) (members : List ℕ) (t : Time) (n at p : ℕ)
    → ((q : ℕ) → ends_at t (get_or ws q None) ≡ true → at ≤ n + q → has members (n + q) ≡ 1)
    → at ≤ n + p → has members (n + p) ≡ 0 → ends_at t (get_or ws p None) ≡ false
not_due_there ws members t n at p still le none = by (ends_at t (get_or ws p None)) refl
  where
    by : (b : Bool) → ends_at t (get_or ws p None) ≡ b → ends_at t (get_or ws p None) ≡ false
    by false d = d
    by true d = let one : has members (n + p) ≡ 1 = still p d le in absurd (omega arith)

past_by : (now : ℕ) (t : Time) (w : Option Time) → IsFrom now w → t.tick < now → ends_at t w ≡ false
past_by now t None h lt = refl
past_by now t (Some u) h lt = by (same_time u t) refl
  where
    by : (b : Bool) → same_time u t ≡ b → same_time u t ≡ false
    by false d = d
    by true d = let e : u.tick ≡ t.tick = same_tick t u d in absurd (omega arith)

-- nothing is due before the present tick
pub past : (ws : List (Option Time)) (wheel : Wheel) (p : ℕ) (t : Time) → IsKept ws wheel → t.tick < wheel.present
    → ends_at t (get_or ws p None) ≡ false
past ws wheel p t h lt = past_by wheel.present t (get_or ws p None) (h.from p) lt

pub tick_from : (now : ℕ) (w : Option Time) (t : Time) → w ≡ Some t → IsFrom now w → now ≤ t.tick
tick_from now w t e h = subst (IsFrom now) e h

pub from_at : (ws : List (Option Time)) (now p : ℕ) (t : Time) → AreFrom ws now → get_or ws p None ≡ Some t → now ≤ t.tick
from_at ws now p t h e = tick_from now (get_or ws p None) t e (h p)

pub in_at : (ws : List (Option Time)) (wheel : Wheel) (p : ℕ) (t : Time) → IsKept ws wheel → get_or ws p None ≡ Some t
    → IsIn wheel p (Some t)
in_at ws wheel p t h e = subst (IsIn wheel p) e (h.there p)

-- a component that waits for a time is there
pub within : (ws : List (Option Time)) (p : ℕ) (t : Time) → get_or ws p None ≡ Some t → p < length ws
within [] p t e = absurd (cc)
within (w ∷ ws) zero t e = omega arith
within (w ∷ ws) (suc p) t e = let h : p < length ws = within ws p t e in omega arith

pub later_by : (tick : ℕ) (f w : Option Time) → IsFrom tick f → earliest f w ≡ f → IsFrom tick w
later_by tick f None h e = tt
later_by tick None (Some u) h e = absurd (cc)
later_by tick (Some f) (Some u) h e = elim (cases_lt u.tick f.tick) [
  | inl lt ↦
      let same : Some u ≡ Some f = sym (earlier_first u f lt) ∙ earliest_comm (Some u) (Some f) ∙ e in
      let eq : u ≡ f = cc in
      let tick_eq : u.tick ≡ f.tick = ap (λ (x : Time). x.tick) eq in
      absurd (omega arith)
  | inr le ↦ omega arith
]

-- where the first wait does not end before a tick, none does
pub all_from : (ws : List (Option Time)) (tick : ℕ) (f : Option Time) → f ≡ first_of ws → IsFrom tick f → AreFrom ws tick
all_from ws tick f e h = λ p. later_by tick (first_of ws) (get_or ws p None) (subst (IsFrom tick) e h) (first_least ws p)

-- the wait of a list that ends no later than another
tick_le : (a b : Time) → earliest (Some a) (Some b) ≡ Some a → a.tick ≤ b.tick
tick_le a b e = let le : a.tick ≤ a.tick = omega arith in later_by a.tick (Some a) (Some b) le e

in_its_slot : (now s : ℕ) (t : Time) → in_slot now s (Some t) ≡ true → slot t.tick now ≡ s
in_its_slot now s t e = eqb-true (slot t.tick now) s e

-- The least wait of the lowest slot that is not empty is the first of all, if it has that slot.
pub lowest_first : (ws : List (Option Time)) (wheel : Wheel) (s : ℕ) (r : Option Time) → IsKept ws wheel
    → ((p : ℕ) (u : Time) → get_or ws p None ≡ Some u → s ≤ slot u.tick wheel.present)
    → earliest (first_of ws) r ≡ first_of ws
    → ((p : ℕ) (t : Time) → get_or ws p None ≡ Some t → slot t.tick wheel.present ≡ s → earliest r (Some t) ≡ r)
    → in_slot wheel.present s r ≡ true → r ≡ first_of ws
lowest_first ws wheel s None h low above below is = absurd (cc)
lowest_first ws wheel s (Some t) h low above below is = by (first_of ws) refl
  where
    by : (f : Option Time) → first_of ws ≡ f → Some t ≡ first_of ws
    by None e =
        let no : Some t ≡ None = ap (λ (v : Option Time). earliest v (Some t)) (sym e) ∙ above ∙ e in
        absurd (cc)
    by (Some u) e =
        let q = first_there ws u e in
        let now_u : wheel.present ≤ u.tick = from_at ws wheel.present q.0 u h.from q.1 in
        let u_first : earliest (Some u) (Some t) ≡ Some u = ap (λ (v : Option Time). earliest v (Some t)) (sym e) ∙ above ∙ e in
        let u_t : u.tick ≤ t.tick = tick_le u t u_first in
        let is_s : slot t.tick wheel.present ≡ s = in_its_slot wheel.present s t is in
        let le : s ≤ slot u.tick wheel.present = low q.0 u q.1 in
        let t_first : earliest (Some t) (Some u) ≡ Some t = elim (cases_eq (slot u.tick wheel.present) s) [
          | inl d ↦ below q.0 u q.1 d
          | inr ne ↦ earlier_first t u (slots_ordered t.tick u.tick wheel.present (omega arith) now_u (omega arith))
        ] in
        sym t_first ∙ earliest_comm (Some t) (Some u) ∙ u_first ∙ sym e

-- If it has not, no wait has that slot.
pub lowest_empty : (ws : List (Option Time)) (wheel : Wheel) (s : ℕ) (r : Option Time) → IsKept ws wheel
    → ((p : ℕ) (u : Time) → get_or ws p None ≡ Some u → s ≤ slot u.tick wheel.present)
    → earliest (first_of ws) r ≡ first_of ws
    → ((p : ℕ) (t : Time) → get_or ws p None ≡ Some t → slot t.tick wheel.present ≡ s → earliest r (Some t) ≡ r)
    → in_slot wheel.present s r ≡ false → (p : ℕ) (t : Time) → get_or ws p None ≡ Some t → slot t.tick wheel.present ≢ s
lowest_empty ws wheel s None h low above below not_in p t e d =
    let no : Some t ≡ None = below p t e d in
    cc
lowest_empty ws wheel s (Some v) h low above below not_in p t e d = by (first_of ws) refl
  where
    by : (f : Option Time) → first_of ws ≡ f → ⊥
    by None i =
        let no : Some v ≡ None = ap (λ (x : Option Time). earliest x (Some v)) (sym i) ∙ above ∙ i in
        cc
    by (Some u) i =
        let q = first_there ws u i in
        let now_u : wheel.present ≤ u.tick = from_at ws wheel.present q.0 u h.from q.1 in
        let now_t : wheel.present ≤ t.tick = from_at ws wheel.present p t h.from e in
        let u_v : u.tick ≤ v.tick =
        tick_le u v (ap (λ (x : Option Time). earliest x (Some v)) (sym i) ∙ above ∙ i) in
        let v_t : v.tick ≤ t.tick = tick_le v t (below p t e d) in
        let le : s ≤ slot u.tick wheel.present = low q.0 u q.1 in
        elim (cases_eq (slot v.tick wheel.present) s) [
          | inl is ↦ let no : true ≡ false = sym (eq-eqb (slot v.tick wheel.present) s is) ∙ not_in in cc
          | inr ne ↦ elim (cases_lt (slot v.tick wheel.present) s) [
            | inl lt ↦
                let before : v.tick < u.tick = slots_ordered v.tick u.tick wheel.present (omega arith) now_u (omega arith) in
                omega arith
            | inr ge ↦
                let before : t.tick < v.tick = slots_ordered t.tick v.tick wheel.present now_t (omega arith) (omega arith) in
                omega arith
          ]
        ]

-- the numbers of a slot begin with a word
pub aligned : (s span : ℕ) → span ≡ 64 * (span / 64) → s * span ≡ 64 * (s * (span / 64))
aligned s span e =
    let a : s * 64 * (span / 64) ≡ s * (64 * (span / 64)) = mul_assoc s 64 (span / 64) in
    let b : s * 64 ≡ 64 * s = omega arith in
    ap (λ (n : ℕ). s * n) e ∙ sym a ∙ ap (λ (n : ℕ). n * (span / 64)) b ∙ mul_assoc 64 s (span / 64)

same_index : (a b span p q : ℕ) → p < span → q < span → a * span + p ≡ b * span + q → p ≡ q
same_index a b span p q lp lq e =
    sym (mod-mul-add a span p lp) ∙ ap (λ (n : ℕ). n % span) e ∙ mod-mul-add b span q lq

-- two components have two numbers in all slots
pub apart : (a b span p q : ℕ) → p < span → q < span → p ≢ q → a * span + p ≢ b * span + q
apart a b span p q lp lq ne e = ne (same_index a b span p q lp lq e)

-- the number of a component in the set of the slot of a tick, in two wheels
same_number : (before after : Wheel) (tick p : ℕ) → after.present ≡ before.present → after.span ≡ before.span
    → slot tick after.present * after.span + p ≡ slot tick before.present * before.span + p
same_number before after tick p e d =
    ap (λ (now : ℕ). slot tick now * after.span + p) e ∙ ap (λ (span : ℕ). slot tick before.present * span + p) d

-- what is in a wheel is in one that has more
pub in_more : (before after : Wheel) (p : ℕ) (w : Option Time) → HasMore before after → IsIn before p w → IsIn after p w
in_more before after p None more h = tt
in_more before after p (Some t) more h =
    let same : slot t.tick after.present ≡ slot t.tick before.present = ap (slot t.tick) more.present in (
      ap (has after.used) same ∙ more.used (slot t.tick before.present) h.0,
      ap (has after.members) (same_number before after t.tick p more.present more.span)
          ∙ more.members (slot t.tick before.present * before.span + p) h.1,
      subst (λ (s : ℕ). IsLow (least_at after.leasts.items s) (Some t)) (sym same)
          (more.low (slot t.tick before.present) (Some t) h.2),
    )

pub more_same : (wheel : Wheel) → HasMore wheel wheel
more_same wheel = record {
  present = refl;
  span = refl;
  used = λ s h. h;
  members = λ p h. h;
  low = λ s w h. h;
}

pub more_more : (a b c : Wheel) → HasMore a b → HasMore b c → HasMore a c
more_more a b c one two = record {
  present = two.present ∙ one.present;
  span = two.span ∙ one.span;
  used = λ s h. two.used s (one.used s h);
  members = λ p h. two.members p (one.members p h);
  low = λ s w h. two.low s w (one.low s w h);
}

-- as much room as before
pub room_after : (before after : Wheel) → HasRoom before → after.span ≡ before.span → length after.used ≡ length before.used
    → length after.members ≡ length before.members → length after.leasts.items ≡ length before.leasts.items → HasRoom after
room_after before after h same e d l =
    let known : 641 ≤ length before.leasts.items = h.known in
    let slots : 641 ≤ 64 * length before.used = h.slots in
    let room : 641 * before.span ≤ 64 * length before.members = h.room in
    let few : length before.used ≤ 2 ^ 50 = h.few in
    let small : length before.members ≤ 2 ^ 50 = h.small in
    let whole : before.span ≡ 64 * (before.span / 64) = h.whole in
    let narrow : before.span ≤ 2 ^ 33 = h.narrow in
    record {
      slots = omega arith;
      room = omega arith;
      known = omega arith;
      few = omega arith;
      small = omega arith;
      whole = omega arith;
      narrow = omega arith;
    }

-- When time goes on, a component stands in the set of its slot, or else it is one of the slot that the present tick had before, and its
-- turn comes.
pub started : (ws : List (Option Time)) (before after : Wheel) (s at : ℕ) → ((p : ℕ) (t : Time) → get_or ws p None ≡ Some t → IsIn before p (Some t))
    → before.present ≤ after.present
    → AreFrom ws after.present → s ≡ slot after.present before.present → after.span ≡ before.span
    → ((q : ℕ) → q ≢ s → has before.used q ≡ 1 → has after.used q ≡ 1) → after.members ≡ before.members
    → after.leasts.items ≡ set before.leasts.items s nothing
    → ((q : ℕ) → s * before.span ≤ q → q < at → has before.members q ≡ 0) → (p : ℕ) (t : Time)
    → get_or ws p None ≡ Some t
    → (IsIn after p (Some t)) ⊎ ((at ≤ s * before.span + p) × (has before.members (s * before.span + p) ≡ 1))
started ws before after s at h on from is wide others members leasts none p t e =
    let le : after.present ≤ t.tick = from_at ws after.present p t from e in
    let here = h p t e in
    elim (cases_eq (slot t.tick before.present) s) [
      | inl d ↦
          let one : has before.members (s * before.span + p) ≡ 1 =
          ap (λ (x : ℕ). has before.members (x * before.span + p)) (sym d) ∙ here.1 in
          inr (
            elim (cases_lt (s * before.span + p) at) [
              | inl lt ↦
                  let nil : has before.members (s * before.span + p) ≡ 0 = none (s * before.span + p) (omega arith) lt in
                  absurd (omega arith)
              | inr ge ↦ ge
            ],
            one,
          )
      | inr ne ↦
          let q : ℕ = slot t.tick before.present in
          let same : slot t.tick after.present ≡ slot t.tick before.present =
          slot_stays after.present t.tick before.present on le (λ x. ne (sym x ∙ sym is)) in
          let least : least_at after.leasts.items (slot t.tick after.present) ≡ least_at before.leasts.items q =
          ap (least_at after.leasts.items) same ∙ ap (λ (ls : List Least). least_at ls q) leasts
          ∙ elsewhere before.leasts.items s q nothing ne in
          inl (
            ap (has after.used) same ∙ others q ne here.0,
            ap (λ (ps : List ℕ). has ps (slot t.tick after.present * after.span + p)) members
                ∙ ap (λ (x : ℕ). has before.members (x * after.span + p)) same
                ∙ ap (λ (n : ℕ). has before.members (q * n + p)) wide ∙ here.1,
            subst (λ (l : Least). IsLow l (Some t)) (sym least) here.2,
          )
    ]

-- a wait of a slot, where none ends before a tick, when time goes on to the tick
of_slot_on : (ws : List (Option Time)) (before now q : ℕ) (t : Time) → before ≤ now
    → AreFrom ws now → slot now before ≢ q → IsOfSlot ws before q t → IsOfSlot ws now q t
of_slot_on ws before now q t on from ne h =
    let le : now ≤ t.tick = tick_from now (get_or ws h.1.0 None) t h.1.1 (from h.1.0) in
    (slot_stays now t.tick before on le (λ x. ne (x ∙ h.0)) ∙ h.0, h.1)

pub held_on : (ws : List (Option Time)) (before now q : ℕ) (l : Least) → before ≤ now
    → AreFrom ws now → slot now before ≢ q → IsHeld ws before q l → IsHeld ws now q l
held_on ws before now q l on from ne h = λ t told. of_slot_on ws before now q t on from ne (h t told)

-- a number that is in a word that was taken, or not
moved_by : (ws : List (Option Time)) (before after : Wheel) (span s at p q : ℕ) (t : Time)
    → span ≡ 64 * (span / 64) → s * (span / 64) ≤ at → at < s * (span / 64) + span / 64
    → get_or ws p None ≡ Some t → p < span → has before.members (q * span + p) ≡ 1
    → ((n : ℕ) → n / 64 ≢ at → has before.members n ≡ 1 → has after.members n ≡ 1)
    → ((j : ℕ) → j < 64 → bit_at (get_or before.members at 0) j ≡ 1
    → IsIn after (64 * (at - s * (span / 64)) + j) (get_or ws (64 * (at - s * (span / 64)) + j) None))
    → (IsIn after p (Some t)) ⊎ ((has after.members (q * span + p) ≡ 1) × ((q * span + p) / 64 ≢ at))
moved_by ws before after span s at p q t whole low high e lt one removed there =
    elim (cases_eq ((q * span + p) / 64) at) [
      | inl d ↦
          let j : ℕ = (q * span + p) % 64 in
          let sum : q * span + p ≡ 64 * at + (q * span + p) % 64 = omega arith in
          let row : s * span ≡ 64 * (s * (span / 64)) = aligned s span whole in
          let bit : bit_at (get_or before.members at 0) ((q * span + p) % 64) ≡ 1 =
          sym (has_word before.members at ((q * span + p) % 64) (omega arith)) ∙ ap (has before.members) (sym sum) ∙ one in
          let here : p ≡ 64 * (at - s * (span / 64)) + (q * span + p) % 64 =
          same_index q s span p (64 * (at - s * (span / 64)) + (q * span + p) % 64) lt (omega arith) (omega arith) in
          inl (subst (λ (w : Option Time). IsIn after p w) e
          (subst (λ (i : ℕ). IsIn after i (get_or ws i None)) (sym here) (there j (omega arith) bit)))
      | inr ne ↦ inr (removed (q * span + p) ne one, ne)
    ]

-- the turn of a word: each of its components stands in the set of its slot then
pub moved_on : (ws : List (Option Time)) (before after : Wheel) (taken : List ℕ) (span s at then p : ℕ) (t : Time)
    → span ≡ 64 * (span / 64) → s * (span / 64) ≤ at → at < s * (span / 64) + span / 64
    → get_or ws p None ≡ Some t → p < span → before.span ≡ span → after.present ≡ before.present
    → after.span ≡ before.span
    → ((n : ℕ) → n / 64 ≢ at → has before.members n ≡ 1 → has taken n ≡ 1)
    → ((n : ℕ) → has taken n ≡ 1 → has after.members n ≡ 1)
    → ((j : ℕ) → j < 64 → bit_at (get_or before.members at 0) j ≡ 1
    → IsIn after (64 * (at - s * (span / 64)) + j) (get_or ws (64 * (at - s * (span / 64)) + j) None))
    → ((n : ℕ) → has before.used n ≡ 1 → has after.used n ≡ 1)
    → ((n : ℕ) (v : Option Time) → IsLow (least_at before.leasts.items n) v → IsLow (least_at after.leasts.items n) v)
    → ((n : ℕ) → 64 * (at + 1) ≤ n → n < 64 * then → has taken n ≡ 0)
    → (IsIn before p (Some t)) ⊎ ((64 * at ≤ s * span + p) × (has before.members (s * span + p) ≡ 1))
    → (IsIn after p (Some t)) ⊎ ((64 * then ≤ s * span + p) × (has after.members (s * span + p) ≡ 1))
moved_on ws before after taken span s at then p t whole low high e lt is now_is wide removed added there more lesser none old =
    let kept : (n : ℕ) → n / 64 ≢ at → has before.members n ≡ 1 → has after.members n ≡ 1 = λ n ne one. added n (removed n ne one) in
    let q : ℕ = slot t.tick before.present in
    let same : slot t.tick after.present ≡ slot t.tick before.present = ap (slot t.tick) now_is in
    let number : q * before.span + p ≡ q * span + p = ap (λ (n : ℕ). q * n + p) is in
    elim old [
      | inl i ↦ elim (moved_by ws before after span s at p q t whole low high e lt
          (ap (has before.members) (sym number) ∙ i.1) kept there) [
            | inl k ↦ inl k
            | inr k ↦ inl (
              ap (has after.used) same ∙ more q i.0,
              ap (has after.members) (same_number before after t.tick p now_is wide ∙ number) ∙ k.0,
              subst (λ (n : ℕ). IsLow (least_at after.leasts.items n) (Some t)) (sym same) (lesser q (Some t) i.2),
            )
          ]
      | inr i ↦ elim (moved_by ws before after span s at p s t whole low high e lt i.1 kept there) [
        | inl k ↦ inl k
        | inr k ↦
            let from : 64 * at ≤ s * span + p = i.0 in
            let not_at : (s * span + p) / 64 ≢ at = k.1 in
            inr (
              elim (cases_lt (s * span + p) (64 * then)) [
                | inl l ↦
                    let one : has taken (s * span + p) ≡ 1 = removed (s * span + p) not_at i.1 in
                    let nil : has taken (s * span + p) ≡ 0 = none (s * span + p) (omega arith) l in
                    absurd (omega arith)
                | inr ge ↦ ge
              ],
              k.0,
            )
      ]
    ]

pub all_by : (wheel : Wheel) (p : ℕ) (w : Option Time) → ((t : Time) → w ≡ Some t → IsIn wheel p (Some t)) → IsIn wheel p w
all_by wheel p None h = tt
all_by wheel p (Some t) h = h t refl

-- all had their turn
pub all_moved : (ws : List (Option Time)) (wheel : Wheel) (span s at : ℕ) → s * span + length ws ≤ at
    → ((p : ℕ) (t : Time) → get_or ws p None ≡ Some t
    → (IsIn wheel p (Some t)) ⊎ ((at ≤ s * span + p) × (has wheel.members (s * span + p) ≡ 1)))
    → AreIn ws wheel
all_moved ws wheel span s at le h = λ p. all_by wheel p (get_or ws p None) (λ t e. elim (h p t e) [
  | inl i ↦ i
  | inr j ↦
      let lt : p < length ws = within ws p t e in
      let low : at ≤ s * span + p = j.0 in
      absurd (omega arith)
])

at_index : (ws : List (Option Time)) (p index : ℕ) (w : Option Time) → p ≡ index → index < length ws
    → get_or (set ws index w) p None ≡ w
at_index ws p index w e lt = ap (λ (q : ℕ). get_or (set ws index w) q None) e ∙ get_or-set_same ws index w None lt

-- where no wait ends before a tick, none does after one is written that does not
from_after : (ws : List (Option Time)) (now index : ℕ) (w : Option Time) → index < length ws → AreFrom ws now → IsFrom now w
    → AreFrom (set ws index w) now
from_after ws now index w lt h from = λ p. elim (cases_eq p index) [
  | inl e ↦ subst (IsFrom now) (sym (at_index ws p index w e lt)) from
  | inr ne ↦ subst (IsFrom now) (sym (get_or-set_other ws index p w None ne)) (h p)
]

earliest_from : (now then : ℕ) (w : Option Time) → then ≤ now → IsFrom now w → IsFrom then w
earliest_from now then None le h = tt
earliest_from now then (Some t) le h = omega arith

-- an earlier tick
from_earlier : (ws : List (Option Time)) (now then : ℕ) → then ≤ now → AreFrom ws now → AreFrom ws then
from_earlier ws now then le h = λ p. earliest_from now then (get_or ws p None) le (h p)

-- a component is taken out of the set of a slot, and the slot out of use where it is empty then
pub left_by : (before after : Wheel) (s index : ℕ) → after.present ≡ before.present → after.span ≡ before.span
    → index < before.span
    → ((q : ℕ) → q ≢ s * before.span + index → has before.members q ≡ 1 → has after.members q ≡ 1)
    → ((q : ℕ) → has before.used q ≡ 1
    → ((has after.used q ≡ 1)
    × ((v : Option Time) → IsLow (least_at before.leasts.items q) v → IsLow (least_at after.leasts.items q) v))
    ⊎ ((q ≡ s) × ((i : ℕ) → i < before.span → has after.members (s * before.span + i) ≡ 0)))
    → (p : ℕ) (w : Option Time) → p < before.span → p ≢ index → IsIn before p w → IsIn after p w
left_by before after s index now_is wide l removed rest p None lp ne h = tt
left_by before after s index now_is wide l removed rest p (Some t) lp ne h =
    let q : ℕ = slot t.tick before.present in
    let same : slot t.tick after.present ≡ slot t.tick before.present = ap (slot t.tick) now_is in
    let one : has after.members (slot t.tick before.present * before.span + p) ≡ 1 =
    removed (q * before.span + p) (apart q s before.span p index lp l ne) h.1 in
    elim (rest q h.0) [
      | inl k ↦ (
        ap (has after.used) same ∙ k.0,
        ap (has after.members) (same_number before after t.tick p now_is wide) ∙ one,
        subst (λ (n : ℕ). IsLow (least_at after.leasts.items n) (Some t)) (sym same) (k.1 (Some t) h.2),
      )
      | inr k ↦
          let nil : has after.members (slot t.tick before.present * before.span + p) ≡ 0 =
          ap (λ (x : ℕ). has after.members (x * before.span + p)) k.0 ∙ k.1 p lp in
          absurd (omega arith)
    ]

of_slot_above : (ws : List (Option Time)) (now s : ℕ) (t : Time) → IsOfSlot ws now s t
    → earliest (first_of ws) (Some t) ≡ first_of ws
of_slot_above ws now s t h = ap (earliest (first_of ws)) (sym h.1.1) ∙ first_least ws h.1.0

-- no wait ends before the first, so that one that is known of a slot does not either
pub known_above : (ws : List (Option Time)) (now s : ℕ) (l : Least) (t : Time) → IsTold l t → IsHeld ws now s l
    → earliest (first_of ws) (Some t) ≡ first_of ws
known_above ws now s l t told h = of_slot_above ws now s t (h t told)

-- no wait of a slot ends before the least one that is known of it
pub known_below : (ws : List (Option Time)) (wheel : Wheel) (s p : ℕ) (t l : Time) → IsKept ws wheel
    → IsTold (least_at wheel.leasts.items s) l → get_or ws p None ≡ Some t → slot t.tick wheel.present ≡ s
    → earliest (Some l) (Some t) ≡ Some l
known_below ws wheel s p t l h told e is =
    subst (λ (u : Time). earliest (Some u) (Some t) ≡ Some u)
    (ap (λ (q : ℕ). (least_at wheel.leasts.items q).time) is ∙ told.0) (in_at ws wheel p t h e).2

not_below : (used : List ℕ) (n at : ℕ) → ((p : ℕ) → p < at → has used p ≡ 0) → has used n ≡ 1 → at ≤ n
not_below used n at none one = elim (cases_lt n at) [
  | inl lt ↦ let nil : has used n ≡ 0 = none n lt in absurd (omega arith)
  | inr le ↦ le
]

-- The least wait that is known of the lowest slot in use is the first of all,
pub known_lowest : (ws : List (Option Time)) (wheel : Wheel) (s : ℕ) (t : Time) → IsKept ws wheel
    → ((p : ℕ) → p < s → has wheel.used p ≡ 0) → IsTold (least_at wheel.leasts.items s) t → Some t ≡ first_of ws
known_lowest ws wheel s t h none told =
    let now : ℕ = wheel.present in
    let held : IsOfSlot ws wheel.present s t = h.held s t told in
    lowest_first ws wheel s (Some t) h
    (λ p u e. not_below wheel.used (slot u.tick now) s none (in_at ws wheel p u h e).0)
    (of_slot_above ws now s t held)
    (λ p u e is. known_below ws wheel s p u t h told e is)
    (eq-eqb (slot t.tick now) s held.0)

pub nothing_by : (w : Option Time) → ((t : Time) → w ≡ Some t → ⊥) → w ≡ None
nothing_by None h = refl
nothing_by (Some t) h = absurd (h t refl)

-- and there is none where no slot is in use.
pub none_used : (ws : List (Option Time)) (wheel : Wheel) → IsKept ws wheel → ((p : ℕ) → p < 641 → has wheel.used p ≡ 0)
    → None ≡ first_of ws
none_used ws wheel h none = nothing_first ws (λ q. nothing_by (get_or ws q None) (λ t e.
    let one : has wheel.used (slot t.tick wheel.present) ≡ 1 = (in_at ws wheel q t h e).0 in
    let nil : has wheel.used (slot t.tick wheel.present) ≡ 0 =
    none (slot t.tick wheel.present) (slot_below t.tick wheel.present) in
    absurd (omega arith)))

-- another wait of a component, put into the set of its slot
pub kept_after : (ws : List (Option Time)) (before left after : Wheel) (index : ℕ) (w : Option Time) → IsKept ws before
    → index < length ws → left.present ≡ before.present → left.span ≡ before.span → IsFrom left.present w → HasRoom after
    → ((p : ℕ) (v : Option Time) → p < before.span → p ≢ index → IsIn before p v → IsIn left p v)
    → HasMore left after → IsIn after index w → AreHeld (set ws index w) after → IsKept (set ws index w) after
kept_after ws before left after index w h lt now_is wide from room others more there held =
    let size : length (set ws index w) ≡ length ws = length-set ws index w in
    let fits : length ws ≤ before.span = h.fits in
    let spans : after.span ≡ left.span = more.span in
    record {
      room = room;
      fits = omega arith;
      from = subst (AreFrom (set ws index w)) (sym more.present)
          (from_after ws left.present index w lt (subst (AreFrom ws) (sym now_is) h.from) from);
      there = λ p. elim (cases_eq p index) [
        | inl e ↦
            subst (IsIn after p) (sym (at_index ws p index w e lt)) (subst (λ (q : ℕ). IsIn after q w) (sym e) there)
        | inr ne ↦
            subst (IsIn after p) (sym (get_or-set_other ws index p w None ne)) (all_by after p (get_or ws p None) (λ t e.
            let lp : p < length ws = within ws p t e in
            in_more left after p (Some t) more (others p (Some t) (omega arith) ne (in_at ws before p t h e))))
      ];
      held = held;
    }

-- another wait of a component, before the present tick, where all components are put into the sets of their slots anew
pub kept_anew : (ws : List (Option Time)) (before left after : Wheel) (index : ℕ) (w : Option Time) → IsKept ws before
    → index < length ws → left.present ≡ before.present → left.span ≡ before.span → after.present ≤ left.present
    → after.span ≡ left.span → IsFrom after.present w → HasRoom after → AreIn (set ws index w) after
    → AreHeld (set ws index w) after → IsKept (set ws index w) after
kept_anew ws before left after index w h lt now_is wide le same from room there held =
    let size : length (set ws index w) ≡ length ws = length-set ws index w in
    let fits : length ws ≤ before.span = h.fits in
    record {
      room = room;
      fits = omega arith;
      from = from_after ws after.present index w lt (from_earlier ws before.present after.present (omega arith) h.from) from;
      there = there;
      held = held;
    }

pub nothing_there : (n p : ℕ) → get_or (replicate {A = Option Time} n None) p None ≡ None
nothing_there zero p = refl
nothing_there (suc n) zero = refl
nothing_there (suc n) (suc p) = nothing_there n p

-- a wheel at the first tick that knows of no wait, where no component has one
pub kept_empty : (wheel : Wheel) (n : ℕ) → HasRoom wheel → n ≤ wheel.span → wheel.present ≡ 0
    → wheel.leasts.items ≡ replicate 641 nothing → IsKept (replicate n None) wheel
kept_empty wheel n room fits now_is leasts =
    let size : length (replicate {A = Option Time} n None) ≡ n = length-replicate {A = Option Time} n None in
    let ws : List (Option Time) = replicate n None in
    record {
      room = room;
      fits = omega arith;
      from = λ p. subst (IsFrom wheel.present) (sym (nothing_there n p)) tt;
      there = λ p. subst (IsIn wheel p) (sym (nothing_there n p)) tt;
      held = λ s. subst (λ (ls : List Least). IsHeld ws wheel.present s (least_at ls s)) (sym leasts) (held_empty ws wheel.present 641 s);
    }

-- where the first wait is not before the present tick, and all are put into the sets of their slots
pub kept_all : (ws : List (Option Time)) (wheel : Wheel) (w : Option Time) → w ≡ first_of ws → HasRoom wheel → length ws ≤ wheel.span
    → IsFrom wheel.present w → AreIn ws wheel → AreHeld ws wheel → IsKept ws wheel
kept_all ws wheel w first room fits from there held = record {
  room = room;
  fits = fits;
  from = all_from ws wheel.present w first from;
  there = there;
  held = held;
}
