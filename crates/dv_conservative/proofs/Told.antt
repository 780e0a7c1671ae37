-- Events in order are told by what they deliver.
use Rattle.std.proofs.Common.{◌≡◌, ◌⊎◌, inl, inr, ℕ, ◌+◌, Bool, true, false, ◌&&◌, cond, nat_eq, List, [], ◌∷◌, ℤ, refl, sym}
use Rattle.std.proofs.Common.{ap, ◌∙◌, arith}
use Rattle.std.specs.Ordering.{is_eq, ordering_reverse, ordering_then}
use Rattle.std.specs.declared.cmp.Ordering.{Ordering}
use Rattle.std.specs.declared.cmp.Ordering.TheVariants.{Less, Equal, Greater}
use Rattle.std.proofs.lemmas.Bool.{and_parts}
use Rattle.std.proofs.lemmas.Cmp.{tied_itself}
use Rattle.dv_time.specs.Time.{IsOfRun, rank, time_cmp, time_of}
use Rattle.dv_time.specs.declared.time.Time.{Time}
use Rattle.dv_time.proofs.Ranks.{time_of-rank}
use Rattle.dv_bag.specs.Bag.{IsBag, capped, count_of, with_copies}
use Rattle.dv_bag.proofs.Monoid.{count_with_other, count_with_same}
use Rattle.dv_bag.proofs.Pairs.{with_copies_bag}
use Rattle.dv_conservative.specs.Links.{Delivery, delivered}
use Rattle.dv_conservative.specs.Events.{AllHaveCopies, AllOfRun, AreInOrder, AreInOrderAfter, DeliverTheSame, Event}
use Rattle.dv_conservative.specs.Events.{deliveries_at, delivery_cmp, delivery_of, event_cmp, same_time}
use Rattle.dv_conservative.proofs.Order.{delivery_tied, delivery_total, event_total, time_tied, time_total}
use Rattle.dv_conservative.proofs.Windows.{itself, same_number}

-- the copies of the events that have the index of one
abbrev copies_in : Event → List Event → ℕ
copies_in x [] = 0
copies_in x (e ∷ es) = cond (is_eq (event_cmp x e)) e.copies 0 + copies_in x es

-- the same time, component, port and value
tied : (x e : Event) → event_cmp x e ≡ Equal → (x.time ≡ e.time) × (x.component ≡ e.component) × (x.port ≡ e.port) × (x.value ≡ e.value)
tied x e h =
    let both = halves (time_cmp x.time e.time) (delivery_cmp (delivery_of x) (delivery_of e)) h in
    let rest = delivery_tied (delivery_of x) (delivery_of e) both.1 in
    (time_tied x.time e.time both.0, rest.0, rest.1, rest.2)
  where
    halves : (o p : Ordering) → ordering_then o p ≡ Equal → (o ≡ Equal) × (p ≡ Equal)
    halves Less p h = absurd (cc)
    halves Equal p h = (refl, h)
    halves Greater p h = absurd (cc)

same_index : (x e : Event) → x.time ≡ e.time → x.component ≡ e.component → x.port ≡ e.port → x.value ≡ e.value → event_cmp x e ≡ Equal
same_index x e t c p v =
    rw (t, c, p, v)
    (ap (λ (o : Ordering). ordering_then o (delivery_cmp (delivery_of e) (delivery_of e))) (tied_itself time_total e.time)
    ∙ tied_itself delivery_total (delivery_of e))

bag_made : (k port : ℕ) (ds : List Delivery) → IsBag (delivered k port ds [])
bag_made k port [] = tt
bag_made k port (d ∷ ds) = by_test (bag_made k port ds) (nat_eq d.component k && nat_eq d.port port)
  where
    by_test : IsBag (delivered k port ds []) → (t : Bool) →
        IsBag (cond t (with_copies d.value d.copies (delivered k port ds [])) (delivered k port ds []))
    by_test rest true = with_copies_bag d.value d.copies (delivered k port ds []) rest
    by_test rest false = rest

pub same_times : (t u : Time) → same_time t u ≡ true → t ≡ u
same_times t u h =
    let parts = and_parts (nat_eq t.tick u.tick) (nat_eq t.micro u.micro) h in
    ap (λ (n : ℕ). let v : Time = record { tick = n; micro = t.micro } in v) (same_number t.tick u.tick parts.0)
    ∙ ap (λ (n : ℕ). let v : Time = record { tick = u.tick; micro = n } in v) (same_number t.micro u.micro parts.1)

time_itself : (t : Time) → same_time t t ≡ true
time_itself t = rw (itself t.tick, itself t.micro) refl

module _ (limit : ℕ) (x : Event) (run : IsOfRun limit x.time) where
  abbrev counted : List Event → ℕ
  counted es = count_of x.value (delivered x.component x.port (deliveries_at limit es (rank limit x.time)) [])

  -- an event of another index
  other_counted : (e : Event) (es : List Event) → counted es ≡ capped (copies_in x es) → (event_cmp x e ≡ Equal → ⊥) → (t : Bool) →
      same_time e.time (time_of limit (rank limit x.time)) ≡ t → (u : Bool) →
      (nat_eq e.component x.component && nat_eq e.port x.port) ≡ u
      → count_of x.value
      (delivered x.component x.port
      (cond t (delivery_of e ∷ deliveries_at limit es (rank limit x.time)) (deliveries_at limit es (rank limit x.time))) [])
      ≡ capped (0 + copies_in x es)
  other_counted e es rest differ false at u here = omega (arith, rest)
  other_counted e es rest differ true at false here = rw here (omega (arith, rest))
  other_counted e es rest differ true at true here =
      let parts = and_parts (nat_eq e.component x.component) (nat_eq e.port x.port) here in
      let time : x.time ≡ e.time = sym (same_times e.time (time_of limit (rank limit x.time)) at ∙ time_of-rank limit x.time run) in
      let value : x.value ≡ e.value → ⊥
      = λ v. differ
      (same_index x e time (sym (same_number e.component x.component parts.0)) (sym (same_number e.port x.port parts.1)) v) in
      rw here
      (count_with_other x.value e.value e.copies (delivered x.component x.port (deliveries_at limit es (rank limit x.time)) []) value
      ∙ omega (arith, rest))

  one_counted : (e : Event) (es : List Event) → counted es ≡ capped (copies_in x es) → (o : Ordering) → event_cmp x e ≡ o →
      counted (e ∷ es) ≡ capped (cond (is_eq o) e.copies 0 + copies_in x es)
  one_counted e es rest Equal h =
      let same = tied x e h in
      let here : same_time e.time (time_of limit (rank limit x.time)) ≡ true
      = ap (same_time e.time) (time_of-rank limit x.time run ∙ same.0) ∙ time_itself e.time in
      let component : nat_eq e.component x.component ≡ true = ap (nat_eq e.component) same.1 ∙ itself e.component in
      let port : nat_eq e.port x.port ≡ true = ap (nat_eq e.port) same.2 ∙ itself e.port in
      let bag = bag_made x.component x.port (deliveries_at limit es (rank limit x.time)) in
      rw (here, component, port)
      (ap (λ (v : ℤ).
      count_of x.value (with_copies v e.copies (delivered x.component x.port (deliveries_at limit es (rank limit x.time)) [])))
      (sym same.3)
      ∙ count_with_same x.value e.copies (delivered x.component x.port (deliveries_at limit es (rank limit x.time)) []) bag
      ∙ omega (arith, rest))
  one_counted e es rest Less h =
      other_counted e es rest (λ same. absurd (cc)) (same_time e.time (time_of limit (rank limit x.time))) refl
      (nat_eq e.component x.component && nat_eq e.port x.port) refl
  one_counted e es rest Greater h =
      other_counted e es rest (λ same. absurd (cc)) (same_time e.time (time_of limit (rank limit x.time))) refl
      (nat_eq e.component x.component && nat_eq e.port x.port) refl

  -- what is delivered for a value is as often as its events say
  all_counted : (es : List Event) → counted es ≡ capped (copies_in x es)
  all_counted [] = omega arith
  all_counted (e ∷ es) = one_counted e es (all_counted es) (event_cmp x e) refl

-- what is not after the first of events in order is not among those behind it
none_behind : (x a : Event) (es : List Event) → (event_cmp x a ≡ Less) ⊎ (event_cmp x a ≡ Equal) → AreInOrderAfter a es → copies_in x es ≡ 0
none_behind x a [] h order = refl
none_behind x a (e ∷ es) h order =
    let less : event_cmp x e ≡ Less = elim h [
      | inl l ↦ event_total.trans x a e l order.0
      | inr q ↦ event_total.congr x a e q ∙ order.0
    ] in
    let rest : copies_in x es ≡ 0 = none_behind x e es (inl less) order.1 in
    rw less (omega arith)

turned : (a b : Event) → event_cmp a b ≡ Greater → event_cmp b a ≡ Less
turned a b h = by_order (event_cmp b a) (sym (event_total.antisymm a b) ∙ h)
  where
    by_order : (o : Ordering) → ordering_reverse o ≡ Greater → o ≡ Less
    by_order Less e = refl
    by_order Equal e = absurd (cc)
    by_order Greater e = absurd (cc)

same_event : (e f : Event) → event_cmp e f ≡ Equal → e.copies ≡ f.copies → e ≡ f
same_event e f h n =
    let same = tied e f h in
    ap (λ (t : Time). let x : Event = record { time = t; component = e.component; port = e.port; value = e.value; copies = e.copies } in
    x) same.0
    ∙ ap (λ (k : ℕ). let x : Event = record { time = f.time; component = k; port = e.port; value = e.value; copies = e.copies } in x) same.1
    ∙ ap (λ (p : ℕ). let x : Event = record { time = f.time; component = f.component; port = p; value = e.value; copies = e.copies } in x)
    same.2
    ∙ ap (λ (v : ℤ). let x : Event = record { time = f.time; component = f.component; port = f.port; value = v; copies = e.copies } in x)
    same.3
    ∙ ap (λ (c : ℕ). let x : Event = record { time = f.time; component = f.component; port = f.port; value = f.value; copies = c } in x) n

module _ (limit : ℕ) where
  -- each event of the run stands as often in both
  abbrev AsOften : List Event → List Event → Type 0
  AsOften es fs = (x : Event) → IsOfRun limit x.time → capped (copies_in x es) ≡ capped (copies_in x fs)

  behind_order : (e : Event) (es : List Event) → AreInOrderAfter e es → AreInOrder es
  behind_order e [] h = tt
  behind_order e (f ∷ fs) h = h.1

  first_alone : (e : Event) (es : List Event) → AreInOrderAfter e es → copies_in e (e ∷ es) ≡ e.copies
  first_alone e es order =
      let here : event_cmp e e ≡ Equal = tied_itself event_total e in
      rw here (omega (arith, none_behind e e es (inr here) order))

  not_first : (x f : Event) (fs : List Event) → event_cmp x f ≡ Less → AreInOrderAfter f fs → copies_in x (f ∷ fs) ≡ 0
  not_first x f fs less order =
      let rest : copies_in x fs ≡ 0 = none_behind x f fs (inl less) order in
      rw less (omega arith)

  tails : (e f : Event) (es fs : List Event) → e ≡ f → AreInOrderAfter e es → AreInOrderAfter f fs → AsOften (e ∷ es) (f ∷ fs) →
      AsOften es fs
  tails e f es fs same one two often x run = by_order (event_cmp x e) refl (often x run)
    where
      by_order : (o : Ordering) → event_cmp x e ≡ o →
          capped (cond (is_eq (event_cmp x e)) e.copies 0 + copies_in x es)
          ≡ capped (cond (is_eq (event_cmp x f)) f.copies 0 + copies_in x fs)
          → capped (copies_in x es) ≡ capped (copies_in x fs)
      by_order Equal h both =
          let other : event_cmp x f ≡ Equal = ap (event_cmp x) (sym same) ∙ h in
          omega (arith, none_behind x e es (inr h) one, none_behind x f fs (inr other) two)
      by_order Less h both =
          let other : event_cmp x f ≡ Less = ap (event_cmp x) (sym same) ∙ h in
          let left : cond (is_eq (event_cmp x e)) e.copies 0 ≡ 0 = rw h refl in
          let right : cond (is_eq (event_cmp x f)) f.copies 0 ≡ 0 = rw other refl in
          omega arith
      by_order Greater h both =
          let other : event_cmp x f ≡ Greater = ap (event_cmp x) (sym same) ∙ h in
          let left : cond (is_eq (event_cmp x e)) e.copies 0 ≡ 0 = rw h refl in
          let right : cond (is_eq (event_cmp x f)) f.copies 0 ≡ 0 = rw other refl in
          omega arith

  told_by : (es fs : List Event) → AreInOrder es → AreInOrder fs → AllHaveCopies es → AllHaveCopies fs → AllOfRun limit es →
      AllOfRun limit fs →
      AsOften es fs → es ≡ fs
  told_by [] [] a b c d r s often = refl
  told_by [] (f ∷ fs) a b c d r s often =
      let now : capped 0 ≡ capped (copies_in f (f ∷ fs)) = often f s.0 in
      absurd (omega (arith, first_alone f fs b, d.0))
  told_by (e ∷ es) [] a b c d r s often =
      let now : capped (copies_in e (e ∷ es)) ≡ capped 0 = often e r.0 in
      absurd (omega (arith, first_alone e es a, c.0))
  told_by (e ∷ es) (f ∷ fs) a b c d r s often =
      by_order (λ same. told_by es fs (behind_order e es a) (behind_order f fs b) c.2 d.2 r.1 s.1 (tails e f es fs same a b often))
      (event_cmp e f) refl
    where
      by_order : (e ≡ f → es ≡ fs) → (o : Ordering) → event_cmp e f ≡ o → (e ∷ es) ≡ (f ∷ fs)
      by_order rest Less h =
          let now : capped (copies_in e (e ∷ es)) ≡ capped (copies_in e (f ∷ fs)) = often e r.0 in
          absurd (omega (arith, first_alone e es a, not_first e f fs h b, c.0))
      by_order rest Equal h =
          let now : capped (copies_in e (e ∷ es)) ≡ capped (copies_in e (f ∷ fs)) = often e r.0 in
          let same : copies_in e (f ∷ fs) ≡ f.copies = rw h (omega (arith, none_behind e f fs (inr h) b)) in
          let copies : e.copies ≡ f.copies = omega (arith, first_alone e es a, c.1, d.1) in
          let first = same_event e f h copies in
          ap (λ (x : Event). x ∷ es) first ∙ ap (λ (xs : List Event). f ∷ xs) (rest first)
      by_order rest Greater h =
          let now : capped (copies_in f (e ∷ es)) ≡ capped (copies_in f (f ∷ fs)) = often f s.0 in
          absurd (omega (arith, first_alone f fs b, not_first f e es (turned e f h) a, d.0))

  pub told : (es fs : List Event) → AreInOrder es → AreInOrder fs → AllHaveCopies es → AllHaveCopies fs → AllOfRun limit es →
      AllOfRun limit fs →
      DeliverTheSame limit es fs → es ≡ fs
  told es fs a b c d r s same =
      told_by es fs a b c d r s (λ x run.
      sym (all_counted limit x run es) ∙ ap (count_of x.value) (same (rank limit x.time) x.component x.port) ∙ all_counted limit x run fs)
