-- What is known of the least waits in the slots when a component has another wait.
use Rattle.std.proofs.Common.{◌≡◌, ◌≢◌, inl, inr, ℕ, zero, suc, ◌<◌, List, length, replicate, set, get_or-set_same, get_or-set_other}
use Rattle.std.proofs.Common.{get_or, Option, Some, None, sym, ap, subst, arith, ◌∙◌}
use Rattle.std.proofs.lemmas.Bool.{cases_eq}
use Rattle.std.proofs.lemmas.List.{get_or_default}
use Rattle.dv_time.specs.declared.time.Time.{Time}
use Rattle.dv_agenda.specs.Wheel.{IsHeld, IsLow, IsOfSlot, least_at, nothing, slot, unknown}
use Rattle.dv_agenda.specs.declared.least.Least.{Least}

-- what is known of a slot, where that of a slot is written
pub elsewhere : (leasts : List Least) (s q : ℕ) (l : Least) → q ≢ s → least_at (set leasts s l) q ≡ least_at leasts q
elsewhere leasts s q l ne = get_or-set_other leasts s q l unknown ne

pub written : (leasts : List Least) (s q : ℕ) (l : Least) → s < length leasts → q ≡ s → least_at (set leasts s l) q ≡ l
written leasts s q l lt e = ap (least_at (set leasts s l)) e ∙ get_or-set_same leasts s l unknown lt

-- what is read at a slot is what is known of it
pub known_is : (leasts : List Least) (at : ℕ) (l : Least) → at < length leasts → l ≡ get_or leasts at l → least_at leasts at ≡ l
known_is leasts at l lt read = get_or_default leasts at unknown l lt ∙ sym read

-- what is low in the slots stays so, where what is written at one keeps what was low there
pub low_written : (leasts : List Least) (at : ℕ) (old l : Least) → at < length leasts → old ≡ get_or leasts at old
    → ((w : Option Time) → IsLow old w → IsLow l w) → (s : ℕ) (w : Option Time) → IsLow (least_at leasts s) w
    → IsLow (least_at (set leasts at l) s) w
low_written leasts at old l lt read keeps s w h = elim (cases_eq s at) [
  | inl d ↦
      subst (λ (k : Least). IsLow k w) (sym (written leasts at s l lt d))
      (keeps w (subst (λ (k : Least). IsLow k w) (ap (least_at leasts) d ∙ known_is leasts at old lt read) h))
  | inr ne ↦ subst (λ (k : Least). IsLow k w) (sym (elsewhere leasts at s l ne)) h
]

-- what is known of the slots is so, where what is written at one is so when what was known of it was
pub held_written : (leasts : List Least) (ws : List (Option Time)) (now at : ℕ) (old l : Least) → at < length leasts
    → old ≡ get_or leasts at old → (IsHeld ws now at old → IsHeld ws now at l)
    → ((q : ℕ) → IsHeld ws now q (least_at leasts q)) → (s : ℕ) → IsHeld ws now s (least_at (set leasts at l) s)
held_written leasts ws now at old l lt read keeps h s = elim (cases_eq s at) [
  | inl d ↦
      subst (IsHeld ws now s) (sym (written leasts at s l lt d))
      (subst (λ (q : ℕ). IsHeld ws now q l) (sym d)
      (keeps (subst (IsHeld ws now at) (known_is leasts at old lt read) (h at))))
  | inr ne ↦ subst (IsHeld ws now s) (sym (elsewhere leasts at s l ne)) (h s)
]

pub unknown_held : (ws : List (Option Time)) (now s : ℕ) → IsHeld ws now s unknown
unknown_held ws now s t told =
    let e : unknown.time ≡ t = told.0 in
    let tick : 0 ≡ t.tick = ap (λ (u : Time). u.tick) e in
    let lt : 0 < t.tick = told.1.0 in
    absurd (omega arith)

pub nothing_held : (ws : List (Option Time)) (now s : ℕ) → IsHeld ws now s nothing
nothing_held ws now s t told =
    let e : nothing.time ≡ t = told.0 in
    let tick : 18446744073709551615 ≡ t.tick = ap (λ (u : Time). u.tick) e in
    let lt : t.tick < 18446744073709551615 = told.1.1 in
    absurd (omega arith)

-- a wait of a slot is one still when a component has another wait, unless the component had it
of_slot_still : (ws : List (Option Time)) (now s index : ℕ) (w : Option Time) (t : Time) → index < length ws
    → (slot t.tick now ≡ s → get_or ws index None ≢ Some t) → IsOfSlot ws now s t → IsOfSlot (set ws index w) now s t
of_slot_still ws now s index w t lt other h =
    let ne : h.1.0 ≢ index = λ d. other h.0 (ap (λ (i : ℕ). get_or ws i None) (sym d) ∙ h.1.1) in
    (h.0, (h.1.0, get_or-set_other ws index h.1.0 w None ne ∙ h.1.1))

-- a component of another slot, or of none
pub held_by : (ws : List (Option Time)) (now s index : ℕ) (w : Option Time) (l : Least) → index < length ws
    → ((t : Time) → slot t.tick now ≡ s → get_or ws index None ≢ Some t)
    → IsHeld ws now s l → IsHeld (set ws index w) now s l
held_by ws now s index w l lt other h = λ t told. of_slot_still ws now s index w t lt (other t) (h t told)

-- a component whose wait is not the least one of its slot
pub held_still : (ws : List (Option Time)) (now s index : ℕ) (w : Option Time) (u : Time) (l : Least) → index < length ws
    → get_or ws index None ≡ Some u → (Some l.time ≡ Some u → ⊥) → IsHeld ws now s l → IsHeld (set ws index w) now s l
held_still ws now s index w u l lt e other h = λ t told.
    of_slot_still ws now s index w t lt (λ is d. other (ap Some told.0 ∙ sym d ∙ e)) (h t told)

pub held_none : (ws : List (Option Time)) (now s index : ℕ) (w : Option Time) (l : Least) → index < length ws
    → get_or ws index None ≡ None → IsHeld ws now s l → IsHeld (set ws index w) now s l
held_none ws now s index w l lt e h =
    held_by ws now s index w l lt (λ t is d. let no : None ≡ Some t = sym e ∙ d in absurd (cc)) h

same_slot : (now at : ℕ) (v : Option Time) (t u : Time) → v ≡ Some t → v ≡ Some u → slot t.tick now ≡ at
    → slot u.tick now ≡ at
same_slot now at v t u e d is =
    let both : Some u ≡ Some t = sym d ∙ e in
    let one : u ≡ t = cc in
    ap (λ (x : Time). slot x.tick now) one ∙ is

held_other : (ws : List (Option Time)) (now at index s : ℕ) (w : Option Time) (t : Time) (l : Least) → index < length ws
    → get_or ws index None ≡ Some t → slot t.tick now ≡ at → s ≢ at → IsHeld ws now s l → IsHeld (set ws index w) now s l
held_other ws now at index s w t l fits e is ne h =
    held_by ws now s index w l fits (λ u of_s d. ne (sym of_s ∙ same_slot now at (get_or ws index None) t u e d is)) h

-- what is known of slots, where that of the slot of the time that a component had is right when it has another wait
pub held_after : (ws : List (Option Time)) (now at index s : ℕ) (w : Option Time) (t : Time) (l : Least) (leasts : List Least)
    → at < length leasts → index < length ws → get_or ws index None ≡ Some t → slot t.tick now ≡ at
    → IsHeld (set ws index w) now at l → ((r : ℕ) → IsHeld ws now r (least_at leasts r))
    → IsHeld (set ws index w) now s (least_at (set leasts at l) s)
held_after ws now at index s w t l leasts lt fits e is here h = elim (cases_eq s at) [
  | inl d ↦
      subst (IsHeld (set ws index w) now s) (sym (written leasts at s l lt d))
      (subst (λ (r : ℕ). IsHeld (set ws index w) now r l) (sym d) here)
  | inr ne ↦
      subst (IsHeld (set ws index w) now s) (sym (elsewhere leasts at s l ne))
      (held_other ws now at index s w t (least_at leasts s) fits e is ne (h s))
]

-- the same with what was known of that slot
pub held_left : (ws : List (Option Time)) (now at index : ℕ) (w : Option Time) (t : Time) (leasts : List Least) (old l : Least)
    → at < length leasts → index < length ws → get_or ws index None ≡ Some t → slot t.tick now ≡ at
    → old ≡ get_or leasts at old
    → (IsHeld ws now at old → IsHeld (set ws index w) now at l) → ((r : ℕ) → IsHeld ws now r (least_at leasts r))
    → (s : ℕ) → IsHeld (set ws index w) now s (least_at (set leasts at l) s)
held_left ws now at index w t leasts old l lt fits e is read keeps h s =
    held_after ws now at index s w t l leasts lt fits e is
    (keeps (subst (IsHeld ws now at) (known_is leasts at old lt read) (h at))) h

none_in : (ws : List (Option Time)) (now s n q : ℕ) → IsHeld ws now s (least_at (replicate n nothing) q)
none_in ws now s zero q = unknown_held ws now s
none_in ws now s (suc n) zero = nothing_held ws now s
none_in ws now s (suc n) (suc q) = none_in ws now s n q

-- no slot is known to have a wait
pub held_empty : (ws : List (Option Time)) (now n s : ℕ) → IsHeld ws now s (least_at (replicate n nothing) s)
held_empty ws now n s = none_in ws now s n s
