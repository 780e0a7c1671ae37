-- What is not kept back where packets are put, end after end.
use Rattle.std.proofs.Common.{◌≡◌, ℕ, ◌+◌, ◌<◌, ◌≤◌, Bool, true, false, nat_eq, List, length, Option, Some, None}
use Rattle.std.proofs.Common.{refl, sym, ap, subst, ◌∙◌, arith}
use Rattle.std.proofs.lemmas.Bool.Decides.{nat_tests}
use Rattle.std.specs.List.{slice_get}
use Rattle.std.proofs.Math.ListN.{set}
use Rattle.std.proofs.lemmas.Option.{slice_get_within}
use Rattle.std.specs.declared.alloc.Global.{Global}
use Rattle.std.specs.declared.vec.Vec.{Vec}
use Rattle.dv_conservative.specs.Process.{Packet}
use Rattle.dv_conservative.proofs.Local.{same_number}
use Rattle.dv_core.specs.ProcessState.{IsSent, ProcessState}
use Rattle.dv_core.proofs.Lookups.{set_other, set_same}
use Rattle.dv_work.specs.Seats.{HasEvents, HasNull, HeldAt, IsAny, KeepsNoneBack, KeepsNoneBackAt, NoneIsNew, OthersStay, holds_packet}
use Rattle.dv_work.specs.declared.seat.Out.{Out}
use Rattle.dv_work.specs.declared.seat.Seat.{Seat}

same_some : {X : Type 0} {o : Option X} {a b : X} → o ≡ Some a → o ≡ Some b → a ≡ b
same_some e d = cc

after_is_other : (i index : ℕ) → index < i → nat_eq i index ≡ false
after_is_other i index lt = grind (arith, nat_tests)

-- the ends from an index on are as before
abbrev pub RestStays : {P : Type 0} → ℕ → (before after : Seat P) → Type 0
RestStays n before after = (i : ℕ) → n ≤ i → slice_get after.outs.items i ≡ slice_get before.outs.items i

-- none is kept back at so many indices, from the first on
abbrev pub KeepsNoneBackAtFirst : {P : Type 0} → (Packet → Type 0) → (P → ProcessState) → ℕ → (before after : Seat P) → Type 0
KeepsNoneBackAtFirst IsOfKind state n before after = (i : ℕ) → i < n → KeepsNoneBackAt IsOfKind state i before after

module _ {P : Type 0} where
  -- an end that held a packet did so before, where it was the same
  pub held_since : (first before : Seat P) (index : ℕ) (o : Out) → slice_get before.outs.items index ≡ slice_get first.outs.items index
      → HeldAt before index o → HeldAt first index o
  held_since first before index o same held =
      record { end = held.end; there = sym same ∙ held.there; same_link = held.same_link; holds = held.holds }

  pub rest_further : (first before after : Seat P) (index : ℕ) → RestStays index first before → OthersStay index before after
      → RestStays (index + 1) first after
  rest_further first before after index rest others = λ i le.
      others i (after_is_other i index (omega (arith, le))) ∙ rest i (omega (arith, le))

module _ {P : Type 0} (state : P → ProcessState) where
  -- of any kind, and so of each
  pub of_each_kind : (IsOfKind : Packet → Type 0) (index : ℕ) (before after : Seat P) → KeepsNoneBackAt IsAny state index before after
      → KeepsNoneBackAt IsOfKind state index before after
  of_each_kind IsOfKind index before after kept = λ o p at stands is. kept o p at stands tt

  -- a null message has no events
  pub only_nulls : (index : ℕ) (s : Seat P) → ((end : Out) → slice_get s.outs.items index ≡ Some end → HasNull (state s.process) end)
      → KeepsNoneBackAt HasEvents state index s s
  only_nulls index s has = λ o p at stands loud.
      let null = has o at in
      let packet : null.packet ≡ p = same_some null.stands stands in
      absurd (loud (ap (λ (q : Packet). q.events) (sym packet) ∙ null.silent))

  module _ (IsOfKind : Packet → Type 0) where
    -- at one index more
    pub kept_further : (first before after : Seat P) (index : ℕ) → KeepsNoneBackAtFirst IsOfKind state index first before
        → RestStays index first before → OthersStay index before after → NoneIsNew (state before.process) (state after.process)
        → KeepsNoneBackAt IsOfKind state index before after → KeepsNoneBackAtFirst IsOfKind state (index + 1) first after
    kept_further first before after index kept rest others no_more here = λ i lt o p at stands is.
        by_index i lt o p at stands is (nat_eq i index) refl
      where
        by_index : (i : ℕ) → i < index + 1 → (o : Out) (p : Packet) → slice_get after.outs.items i ≡ Some o
            → (state after.process).position.standing o.number ≡ Some p → IsOfKind p → (t : Bool) → nat_eq i index ≡ t → HeldAt first i o
        by_index i lt o p at stands is true same =
            let e : i ≡ index = same_number i index same in
            let now = subst (λ (n : ℕ). slice_get after.outs.items n ≡ Some o) e at in
            subst (λ (n : ℕ). HeldAt first n o) (sym e)
            (held_since first before index o (rest index (omega arith)) (here o p now stands is))
        by_index i lt o p at stands is false other =
            let earlier : i < index = grind (arith, nat_tests) in
            kept i earlier o p (sym (others i other) ∙ at) (no_more o.number p stands) is

    -- at all indices
    pub kept_at_all : (first after : Seat P) (n : ℕ) → length after.outs.items ≤ n → KeepsNoneBackAtFirst IsOfKind state n first after
        → KeepsNoneBack IsOfKind state first after
    kept_at_all first after n all kept = λ i o p at stands is.
        let within = slice_get_within after.outs.items i o at in
        kept i (omega (arith, all, within)) o p at stands is

    -- since before the ends were looked at
    pub kept_since : (first before after : Seat P) → before.outs ≡ first.outs → KeepsNoneBack IsOfKind state before after
        → KeepsNoneBack IsOfKind state first after
    kept_since first before after same kept = λ i o p at stands is.
        held_since first before i o (ap (λ (v : Vec Out Global). slice_get v.items i) same) (kept i o p at stands is)

-- the end at an index is written, and its link stays
module _ {P : Type 0} (before : Seat P) (index : ℕ) (o q : Out) (there : slice_get before.outs.items index ≡ Some o)
    (number : q.number ≡ o.number) where
  written_is : (r : Out) → slice_get (set before.outs.items index q) index ≡ Some r → o.number ≡ r.number
  written_is r at =
      let same : q ≡ r = same_some (set_same before.outs.items index o q there) at in
      sym number ∙ ap (λ (e : Out). e.number) same

  -- no packet stands there, or the end held one
  pub kept_where_free : (y : ProcessState) → y.position.standing o.number ≡ None → (r : Out) (p : Packet)
      → slice_get (set before.outs.items index q) index ≡ Some r → y.position.standing r.number ≡ Some p → IsAny p → HeldAt before index r
  kept_where_free y free r p at stands is =
      let same = ap y.position.standing (written_is r at) in
      let none : None ≡ Some p = sym free ∙ same ∙ stands in
      absurd (cc)

  pub kept_where_held : (y : ProcessState) → holds_packet o ≡ true → (r : Out) (p : Packet)
      → slice_get (set before.outs.items index q) index ≡ Some r → y.position.standing r.number ≡ Some p → IsAny p → HeldAt before index r
  kept_where_held y holds r p at stands is =
      record { end = o; there = there; same_link = written_is r at; holds = holds }

  -- none was kept back there since earlier
  pub kept_at_end : (state : P → ProcessState) (first : Seat P) → KeepsNoneBackAt IsAny state index first before → (r : Out) (p : Packet)
      → slice_get (set before.outs.items index q) index ≡ Some r → (state before.process).position.standing r.number ≡ Some p → IsAny p
      → HeldAt first index r
  kept_at_end state first kept r p at stands is =
      let link = written_is r at in
      let stood : (state before.process).position.standing o.number ≡ Some p
      = ap (state before.process).position.standing link ∙ stands in
      let held = kept o p there stood tt in
      record { end = held.end; there = held.there; same_link = held.same_link ∙ link; holds = held.holds }

-- the packet that leaves a process stands no more, and the others stand as they did
pub none_new : (x y : ProcessState) (l : ℕ) → IsSent l x y → NoneIsNew x y
none_new x y l sent = λ m p stands. by_link m p stands (nat_eq m l) refl
  where
    by_link : (m : ℕ) (p : Packet) → y.position.standing m ≡ Some p → (t : Bool) → nat_eq m l ≡ t → x.position.standing m ≡ Some p
    by_link m p stands true same =
        let e : m ≡ l = same_number m l same in
        let free : y.position.standing m ≡ None = ap y.position.standing e ∙ sent.free in
        let none : None ≡ Some p = sym free ∙ stands in
        absurd (cc)
    by_link m p stands false other = sym (sent.others m other) ∙ stands

-- ---- Several processes

abbrev pub ItemsStay : {X : Type 0} → ℕ → (before after : List X) → Type 0
ItemsStay n before after = (k : ℕ) → n ≤ k → slice_get after k ≡ slice_get before k

abbrev pub EachAtFirst : {P : Type 0} → (Packet → Type 0) → (P → ProcessState) → ℕ → (before after : List (Seat P)) → Type 0
EachAtFirst {P} IsOfKind state n before after =
    (k : ℕ) (s t : Seat P) → k < n → slice_get before k ≡ Some s → slice_get after k ≡ Some t → KeepsNoneBack IsOfKind state s t

pub items_further : {X : Type 0} (first before : List X) (i : ℕ) (y : X) → ItemsStay i first before
    → ItemsStay (i + 1) first (set before i y)
items_further first before i y stay = λ k le.
    set_other before i k y (after_is_other k i (omega (arith, le))) ∙ stay k (omega (arith, le))

module _ {P : Type 0} (IsOfKind : Packet → Type 0) (state : P → ProcessState) (first before : List (Seat P)) (i : ℕ) where
  pub each_further : (s t : Seat P) → slice_get before i ≡ Some s → ItemsStay i first before → EachAtFirst IsOfKind state i first before
      → KeepsNoneBack IsOfKind state s t → EachAtFirst IsOfKind state (i + 1) first (set before i t)
  each_further s t there stay earlier own = λ k a b lt at now. by_index k a b lt at now (nat_eq k i) refl
    where
      by_index : (k : ℕ) (a b : Seat P) → k < i + 1 → slice_get first k ≡ Some a → slice_get (set before i t) k ≡ Some b → (e : Bool)
          → nat_eq k i ≡ e → KeepsNoneBack IsOfKind state a b
      by_index k a b lt at now true same =
          let e : k ≡ i = same_number k i same in
          let first_at : slice_get first i ≡ Some a = subst (λ (n : ℕ). slice_get first n ≡ Some a) e at in
          let now_at : slice_get (set before i t) i ≡ Some b = subst (λ (n : ℕ). slice_get (set before i t) n ≡ Some b) e now in
          let was : s ≡ a = same_some there (stay i (omega arith) ∙ first_at) in
          let is : t ≡ b = same_some (set_same before i s t there) now_at in
          subst (λ (z : Seat P). KeepsNoneBack IsOfKind state z b) was (subst (KeepsNoneBack IsOfKind state s) is own)
      by_index k a b lt at now false other =
          let less : k < i = grind (arith, nat_tests) in
          earlier k a b less at (sym (set_other before i k t other) ∙ now)

  pub each_of_all : length before ≤ i → EachAtFirst IsOfKind state i first before
      → (k : ℕ) (s t : Seat P) → slice_get first k ≡ Some s → slice_get before k ≡ Some t → KeepsNoneBack IsOfKind state s t
  each_of_all all each = λ k s t at now.
      let within = slice_get_within before k t now in
      each k s t (omega (arith, all, within)) at now
