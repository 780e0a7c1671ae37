-- How many components are visited as they emit, and as they are committed.
use Rattle.std.proofs.Common.{◌≡◌, ℕ, ◌+◌, ◌-◌, ◌^◌, ◌<◌, ◌≤◌, min, Bool, true, false, cond, length, List, [], ◌∷◌, Option}
use Rattle.std.proofs.Common.{Some, None, Result, refl, ap, ap₂, sym, ◌∙◌, subst, arith}
use Rattle.std.specs.List.{count_by, slice_get}
use Rattle.std.proofs.lemmas.Bool.{and_parts, eqb-true}
use Rattle.std.proofs.lemmas.List.{length-append, length-map}
use Rattle.std.proofs.lemmas.List.Sums.{sum_by-cons}
use Rattle.dv_time.specs.Time.{rank}
use Rattle.dv_time.specs.declared.time.Time.{Time}
use Rattle.dv_bag.specs.Bag.{Counts}
use Rattle.dv_bag.specs.declared.entry.Entry.{Entry}
use Rattle.dv_bag.specs.declared.entry.What.{What}
use Rattle.dv_bag.specs.declared.fault.Fault.{Fault}
use Rattle.dv_bag.specs.declared.state.State.{State}
use Rattle.dv_devs.specs.Behaviour.{Behaviour, is_at, is_imminent}
use Rattle.dv_devs.specs.Network.{entry_of}
use Rattle.dv_react.specs.Components.{component_of, components_of, next_of_wait}
use Rattle.dv_react.specs.Outcomes.{event_of, happened_in, sent_of}
use Rattle.dv_react.specs.Outcomes.{Outcome}
use Rattle.dv_react.specs.declared.running.Running.{Running}
use Rattle.dv_react.specs.declared.wait.Wait.{Wait}
use Rattle.dv_react.specs.declared.wait.Wait.TheVariants.{Until, Forever, Quiet}
use Rattle.dv_agenda.specs.Waits.{due_at, due_from, ends_at}
use Rattle.dv_proc.specs.Accesses.{CountsEmission, CountsInstant, IsCounted, entries_at, imminent_at, receiving_at}
use Rattle.dv_proc.specs.Local.{View}
use Rattle.dv_share.specs.Commits.{entries_of}
use Rattle.dv_share.specs.Indices.{indices_of}
use Rattle.dv_share.specs.Rows.{number_of}
use Rattle.dv_share.specs.Share.{given_at}
use Rattle.dv_share.specs.declared.index.Indexed.{Indexed}
use Rattle.dv_share.specs.declared.tables.Tables.{Tables}
use Rattle.dv_local.specs.Commits.{HaveReacted}
use Rattle.dv_local.specs.Undoing.{time_of_wait, waits_of}

-- one more is counted where a test says so
one_more : {X : Type 0} (p : X → Bool) (x : X) (xs : List X) → count_by p (x ∷ xs) ≡ cond (p x) 1 0 + count_by p xs
one_more p x xs = sum_by-cons (λ y. cond (p y) 1 0) x xs

-- a wait that ends at a time ends at its rank
ends_at_rank : (limit : ℕ) (t : Time) (w : Wait) → ends_at t (time_of_wait w) ≡ true → is_at (rank limit t) (next_of_wait limit w) ≡ true
ends_at_rank limit t (Until u) e =
    let both = and_parts _ _ e in
    let same : u ≡ t =
    ap₂ (λ (tick micro : ℕ). let v : Time = record { tick = tick; micro = micro } in v) (eqb-true u.tick t.tick both.0)
    (eqb-true u.micro t.micro both.1) in
    subst (λ (v : Time). is_at (rank limit t) (Some (rank limit v)) ≡ true) (sym same) (by_itself (rank limit t))
  where
    by_itself : (n : ℕ) → is_at n (Some n) ≡ true
    by_itself n = grind arith
ends_at_rank limit t Forever e = absurd (cc)
ends_at_rank limit t Quiet e = absurd (cc)

one_due : (b i : Bool) (k n : ℕ) (ps : List ℕ) → (b ≡ true → i ≡ true) → length ps ≤ n → length (cond b (k ∷ ps) ps) ≤ cond i 1 0 + n
one_due true true k n ps h le = omega (arith, le)
one_due true false k n ps h le = let no : false ≡ true = h refl in absurd (cc)
one_due false i k n ps h le = omega (arith, le)

due_from_few : (limit k : ℕ) (t : Time) (rs : List Running) →
    length (due_from k t (waits_of rs)) ≤ count_by (is_imminent (rank limit t)) (components_of limit rs)
due_from_few limit k t [] = omega arith
due_from_few limit k t (r ∷ rs) =
    subst (λ (n : ℕ). length (due_from k t (waits_of (r ∷ rs))) ≤ n)
    (sym (one_more (is_imminent (rank limit t)) (component_of limit r) (components_of limit rs)))
    (one_due (ends_at t (time_of_wait r.wait)) (is_at (rank limit t) (next_of_wait limit r.wait)) k
    (count_by (is_imminent (rank limit t)) (components_of limit rs)) (due_from (k + 1) t (waits_of rs)) (ends_at_rank limit t r.wait)
    (due_from_few limit (k + 1) t rs))

-- no more are due at a time than are imminent
pub due_few : (limit : ℕ) (t : Time) (rs : List Running) →
    length (due_at t (waits_of rs)) ≤ count_by (is_imminent (rank limit t)) (components_of limit rs)
due_few limit t rs = due_from_few limit 0 t rs

at_most_one : (limit now k : ℕ) (e : Option (What × List Counts)) → length (entry_of limit now k e) ≤ 1
at_most_one limit now k None = omega arith
at_most_one limit now k (Some e) = omega arith

-- an instant has no more entries than components that reacted
pub reacted_few : {S : Type 0} (behaviour : S → Behaviour) (fits : S → State → Type 0) (t : Tables S) (now : ℕ) (rs : List Running)
    (es : List (Indexed (Result (List Counts) Fault))) (xs : List (Indexed (List Counts))) (ss : List Running) (old new : List Entry)
    → HaveReacted behaviour fits t now rs es xs (indices_of xs) ss old new → length new ≤ length old + length xs
reacted_few behaviour fits t now rs es xs ss old new h =
    let os = h.outcomes in
    let many : length os ≡ length xs =
    sym (length-map os (λ (o : Indexed Outcome). o.index)) ∙ ap length h.indices ∙ length-map xs (λ (x : Indexed (List Counts)). x.index) in
    omega (
      arith,
      ap length h.entries,
      length-append old (entries_of t.limit now t.members.items es os),
      few os,
      many,
    )
  where
    few : (os : List (Indexed Outcome)) → length (entries_of t.limit now t.members.items es os) ≤ length os
    few [] = omega arith
    few (o ∷ os) =
        let k = number_of (slice_get t.members.items o.index) in
        let e = event_of (happened_in o.what) (sent_of (given_at o.index es)) in
        omega (
          arith,
          length-append (entry_of t.limit now k e) (entries_of t.limit now t.members.items es os),
          at_most_one t.limit now k e,
          few os,
        )

-- nothing was visited
pub counted_none : (n : ℕ) → IsCounted 0 0 n n
counted_none n = record { never_falls = omega arith; least = λ low. omega arith; most = omega arith }

-- one visit is counted
pub counted_one : (before after : ℕ) → before ≤ after → after ≡ min (before + 1) (2 ^ 64 - 1) → IsCounted 1 1 before after
counted_one before after never count = record {
  never_falls = never;
  least = λ low. omega (arith, low, count, never);
  most = omega (arith, count);
}

-- visits add up
pub counted_both : (m n a b c : ℕ) → IsCounted m m a b → IsCounted n n b c → IsCounted (m + n) (m + n) a c
counted_both m n a b c one two = record {
  never_falls = omega (arith, one.never_falls, two.never_falls);
  least = λ low.
      let mid : b < 2 ^ 64 - 1 = omega (arith, low, two.never_falls) in
      omega (arith, one.least mid, two.least low);
  most = omega (arith, one.most, two.most);
}

-- so many are at most more
pub counted_within : (m n a b : ℕ) → m ≤ n → IsCounted m m a b → IsCounted 0 n a b
counted_within m n a b le one = record {
  never_falls = one.never_falls;
  least = λ low. omega (arith, one.never_falls);
  most = omega (arith, one.most, le);
}

-- so many were due and were visited, at most
pub found_counted : (due imminent before after : ℕ) → due ≤ imminent → IsCounted 0 due before after → IsCounted 0 imminent before after
found_counted due imminent before after few counted = record {
  never_falls = counted.never_falls;
  least = λ low. omega (arith, counted.never_falls);
  most = omega (arith, few, counted.most);
}

-- the instant at a rank: what is sent is found, and each component that emitted or receives a value is visited
pub instant_counted : (n visited : ℕ) (v : View) (before mid after : ℕ) → CountsEmission n v before mid → entries_at v n ≤ visited
    → visited ≤ imminent_at v n + receiving_at v n → IsCounted visited visited mid after → CountsInstant n v before after
instant_counted n visited v before mid after found least most counted = record {
  never_falls = omega (arith, found.never_falls, counted.never_falls);
  least = λ low. omega (arith, found.never_falls, counted.least low, least);
  most = omega (arith, counted.most, most, found.most);
}
