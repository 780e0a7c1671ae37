-- Arrivals by time: a map in code and what it stands for.
use Rattle.std.proofs.Common.{◌≡◌, inl, inr, ℕ, ◌+◌, ◌-◌, ◌<◌, ◌≤◌, Bool, true, false, cond, List, [], ◌∷◌, ◌++◌, length, take}
use Rattle.std.proofs.Common.{drop, map, Option, Some, None, refl, sym, ap, subst, arith, ◌∙◌, append_assoc, get_or}
use Rattle.std.specs.Cmp.{IsTotalOrder}
use Rattle.std.specs.BTreeMap.{BTreeMap, IsLowerBound, get, is_at}
use Rattle.std.specs.FinMap as finite
use Rattle.std.specs.List.{slice_get}
use Rattle.std.specs.Map.{lookup}
use Rattle.std.specs.Option.{IfSome, IsSome, option_map}
use Rattle.std.specs.Ordering.{is_eq, is_gt, is_lt, ordering_reverse}
use Rattle.std.specs.Prelude.{Vec}
use Rattle.std.specs.declared.cmp.Ordering.{Ordering}
use Rattle.std.specs.declared.cmp.Ordering.TheVariants.{Less, Equal, Greater}
use Rattle.std.proofs.lemmas.Bool.{cases_lt, false≢true}
use Rattle.std.proofs.lemmas.Bool.Decides.{nat_tests}
use Rattle.std.proofs.lemmas.Cmp.{nat_cmp_total, on_total, then_total}
use Rattle.std.proofs.Math.Seq.{take-add}
use Rattle.std.proofs.lemmas.List.{append-nil, length_push, nil_from_length, length-drop, take_all, take_at, take_more}
use Rattle.std.proofs.lemmas.List.Elements.{All-head, All-tail}
use Rattle.dv_time.specs.Time.{is_before, time_cmp}
use Rattle.dv_time.specs.declared.time.Time.{Time}
use Rattle.dv_local.specs.Arrivals.{AllFilled, AreAt, BringOnlyAt, arrivals_at, arrivals_of, coming_at, delivery_in, items_at, items_of}
use Rattle.dv_local.specs.Arrivals.{or_nothing}
use Rattle.dv_agenda.specs.Waits.{same_time}
use Rattle.dv_share.specs.declared.link.Delivery.{Delivery}
use Rattle.dv_proc.specs.declared.packet.Event.{Event}

pub time_total : IsTotalOrder time_cmp
time_total = then_total (on_total (λ (t : Time). t.tick) nat_cmp_total) (on_total (λ (t : Time). t.micro) nat_cmp_total)

pub same_is_equal : (t u : Time) → is_eq (time_cmp t u) ≡ same_time t u
same_is_equal t u = grind (arith, nat_tests)

same_tick : (t u : Time) → time_cmp t u ≡ Equal → t.tick ≡ u.tick
same_tick t u e = grind (arith, nat_tests)

same_micro : (t u : Time) → time_cmp t u ≡ Equal → t.micro ≡ u.micro
same_micro t u e = grind (arith, nat_tests)

pub time_exact : finite.IsAntisymmetric time_cmp
time_exact t u e =
    let tick : t.tick ≡ u.tick = same_tick t u e in
    let micro : t.micro ≡ u.micro = same_micro t u e in
    λ i. record { tick = tick i; micro = micro i }

pub coming_at-append : (t : Time) (cs ds : List Event) → coming_at t (cs ++ ds) ≡ coming_at t cs ++ coming_at t ds
coming_at-append t [] ds = refl
coming_at-append t (c ∷ cs) ds =
    ap (λ (found : List Delivery). cond (same_time c.time t) (delivery_in c ∷ found) found) (coming_at-append t cs ds)
    ∙ cond_append (same_time c.time t) (delivery_in c) (coming_at t cs) (coming_at t ds)
  where
    cond_append : (b : Bool) (a : Delivery) (ys zs : List Delivery) → cond b (a ∷ (ys ++ zs)) (ys ++ zs) ≡ cond b (a ∷ ys) ys ++ zs
    cond_append true a ys zs = refl
    cond_append false a ys zs = refl

take_last : (zs : List Delivery) (a : Delivery) → take (length (zs ++ a ∷ []) - 1) (zs ++ a ∷ []) ≡ zs
take_last zs a =
    let e : length (zs ++ a ∷ []) ≡ length zs + 1 = length_push zs a in
    take_at zs (a ∷ []) (length (zs ++ a ∷ []) - 1) (omega arith)

back_by : (b : Bool) (a : Delivery) (old new before more : List Delivery) → old ≡ before ++ (more ++ cond b (a ∷ []) [])
    → new ≡ cond b (take (length old - 1) old) old → new ≡ before ++ more
back_by true a old new before more e n =
    let d : old ≡ before ++ more ++ a ∷ [] = e ∙ sym (append_assoc before more (a ∷ [])) in
    n ∙ ap (λ (xs : List Delivery). take (length xs - 1) xs) d ∙ take_last (before ++ more) a
back_by false a old new before more e n = n ∙ e ∙ ap (λ (xs : List Delivery). before ++ xs) (append-nil more)

-- what one event added is taken away again
pub back : (t : Time) (c : Event) (old new before more : List Delivery) → old ≡ before ++ (more ++ coming_at t (c ∷ []))
    → new ≡ cond (same_time c.time t) (take (length old - 1) old) old → new ≡ before ++ more
back t c old new before more e n = back_by (same_time c.time t) (delivery_in c) old new before more e n

module _ {Z : Type 0} where
  found_in : (t : Time) (es : List (Time × Vec Delivery Z))
      → finite.find time_cmp t (map (λ e. (e.0, e.1.items)) es)
      ≡ option_map (λ (v : Vec Delivery Z). v.items) (lookup (is_at (time_cmp t)) es)
  found_in t [] = refl
  found_in t (e ∷ es) =
      ap (cond (is_eq (time_cmp t e.0)) (Some e.1.items)) (found_in t es)
      ∙ cond_map (is_eq (time_cmp t e.0)) e.1 (lookup (is_at (time_cmp t)) es)
    where
      cond_map : (b : Bool) (v : Vec Delivery Z) (o : Option (Vec Delivery Z))
          → cond b (Some v.items) (option_map (λ (w : Vec Delivery Z). w.items) o)
          ≡ option_map (λ (w : Vec Delivery Z). w.items) (cond b (Some v) o)
      cond_map true v o = refl
      cond_map false v o = refl

  get_of : (m : BTreeMap Time (Vec Delivery Z)) (t : Time) → finite.get (arrivals_of m) t
      ≡ option_map (λ (v : Vec Delivery Z). v.items) (get time_cmp m t)
  get_of m t = finite.get-from_entries time_total (map (λ e. (e.0, e.1.items)) m.entries) t ∙ found_in t m.entries

  nothing_of : (o : Option (Vec Delivery Z)) → or_nothing (option_map (λ (v : Vec Delivery Z). v.items) o) ≡ items_of o
  nothing_of None = refl
  nothing_of (Some v) = refl

  -- what arrives at a time by the model and by the code
  pub at_of : (m : BTreeMap Time (Vec Delivery Z)) (t : Time) → arrivals_at t (arrivals_of m) ≡ items_at t m
  at_of m t = ap or_nothing (get_of m t) ∙ nothing_of (get time_cmp m t)

  same_items : (o p : Option (Vec Delivery Z)) → IfSome o (λ v. 0 < length v.items) → IfSome p (λ v. 0 < length v.items)
      → items_of o ≡ items_of p
      → option_map (λ (v : Vec Delivery Z). v.items) o ≡ option_map (λ (v : Vec Delivery Z). v.items) p
  same_items None None h k e = refl
  same_items None (Some w) h k e = let d : 0 ≡ length w.items = ap length e in let no : ⊥ = omega arith in absurd no
  same_items (Some v) None h k e = let d : length v.items ≡ 0 = ap length e in let no : ⊥ = omega arith in absurd no
  same_items (Some v) (Some w) h k e = ap Some e

  -- maps with an arrival at each entry that have the same arrivals stand for the same
  pub same_of : (m n : BTreeMap Time (Vec Delivery Z)) → AllFilled m → AllFilled n → ((t : Time) → items_at t m ≡ items_at t n)
      → arrivals_of m ≡ arrivals_of n
  same_of m n h k e =
      finite.same_map time_total time_exact (arrivals_of m) (arrivals_of n)
      (λ t. get_of m t ∙ same_items (get time_cmp m t) (get time_cmp n t) (h t) (k t) (e t) ∙ sym (get_of n t))

  -- an empty map
  pub empty_of : (m : BTreeMap Time (Vec Delivery Z)) → m.entries ≡ [] → arrivals_of m ≡ finite.empty
  empty_of m e = ap (λ (es : List (Time × Vec Delivery Z)). finite.from_entries {R = time_cmp} (map (λ e. (e.0, e.1.items)) es)) e

-- one event less
pub back_step : (events : List Event) (left : ℕ) (d : Event) → 0 < left → left ≤ length events
    → (t : Time) (old new before : List Delivery)
    → old ≡ before ++ coming_at t (take left events)
    → new ≡ cond (same_time (get_or events (left - 1) d).time t) (take (length old - 1) old) old
    → new ≡ before ++ coming_at t (take (left - 1) events)
back_step events left d low fits t old new before e n =
    let s : left ≡ left - 1 + 1 = omega arith in
    back t (get_or events (left - 1) d) old new before (coming_at t (take (left - 1) events))
    (e ∙ ap (λ (k : ℕ). before ++ coming_at t (take k events)) s
    ∙ ap (λ (cs : List Event). before ++ coming_at t cs) (take_more events (left - 1) d (omega arith))
    ∙ ap (λ (found : List Delivery). before ++ found) (coming_at-append t (take (left - 1) events) (get_or events (left - 1) d ∷ [])))
    n

-- events of a time more
pub run_step : (events : List Event) (done count : ℕ) (t : Time) (first old new : List Delivery)
    → old ≡ first ++ coming_at t (take done events) → new ≡ old ++ coming_at t (take count (drop done events))
    → new ≡ first ++ coming_at t (take (done + count) events)
run_step events done count t first old new e n =
    let run = take count (drop done events) in
    n
    ∙ ap (λ (xs : List Delivery). xs ++ coming_at t run) e
    ∙ append_assoc first (coming_at t (take done events)) (coming_at t run)
    ∙ ap (λ (found : List Delivery). first ++ found) (sym (coming_at-append t (take done events) run))
    ∙ ap (λ (cs : List Event). first ++ coming_at t cs) (sym (take-add done count events))

same_as : (a b c : Time) → same_time a b ≡ true → same_time a c ≡ same_time b c
same_as a b c e = grind (arith, nat_tests)

-- from an index on
pub rest_is : (events : List Event) (done : ℕ) → take (length events - done) (drop done events) ≡ drop done events
rest_is events done = take_all (length events - done) (drop done events) (omega (arith, length-drop done events))

pub rest_length : (events : List Event) (done : ℕ)
    → length (take (length events - done) (drop done events)) ≡ length events - done
rest_length events done = ap length (rest_is events done) ∙ length-drop done events

-- events that are all at one time bring something at that time alone
pub brings_only_at : (time : Time) (es : List Event) → AreAt time es → BringOnlyAt time es
brings_only_at time [] all t = nothing (same_time time t)
  where
    none : List Delivery
    none = []

    nothing : (b : Bool) → none ≡ cond b none none
    nothing true = refl
    nothing false = refl
brings_only_at time (e ∷ es) all t =
    let at : same_time e.time time ≡ true = All-head (λ (x : Event). same_time x.time time ≡ true) e es all in
    let others = brings_only_at time es (All-tail (λ (x : Event). same_time x.time time ≡ true) e es all) t in
    one_more (same_time e.time t) (same_time time t) (delivery_in e) (map delivery_in es) (coming_at t es) (same_as e.time time t at) others
  where
    one_more : (b c : Bool) (d : Delivery) (ds rest : List Delivery) → b ≡ c → rest ≡ cond c ds []
        → cond b (d ∷ rest) rest ≡ cond c (d ∷ ds) []
    one_more b true d ds rest same is = ap (λ (x : Bool). cond x (d ∷ rest) rest) same ∙ ap (λ (xs : List Delivery). d ∷ xs) is
    one_more b false d ds rest same is = ap (λ (x : Bool). cond x (d ∷ rest) rest) same ∙ is

reversed : (o : Ordering) → is_gt (ordering_reverse o) ≡ is_lt o
reversed Less = refl
reversed Equal = refl
reversed Greater = refl

pub is_after : (t k : Time) → is_before t k ≡ true → is_gt (time_cmp k t) ≡ true
is_after t k h = ap is_gt (time_total.antisymm k t) ∙ reversed (time_cmp t k) ∙ h

pub not_after : (t k : Time) → is_gt (time_cmp k t) ≡ is_before t k
not_after t k = ap is_gt (time_total.antisymm k t) ∙ reversed (time_cmp t k)

-- what is so of the first of a list
pub first_in : {X : Type 0} (P : X → Type 0) (xs : List X) (x : X) (rest : List X) → xs ≡ x ∷ rest → IfSome (slice_get xs 0) P → P x
first_in {X} P xs x rest e h = subst (λ (ys : List X). IfSome (slice_get ys 0) P) e h

module _ {Z : Type 0} where
  filled_in : (o : Option (Vec Delivery Z)) (v : Vec Delivery Z) → IfSome o (λ v. 0 < length v.items) → o ≡ Some v → 0 < length (items_of o)
  filled_in None v h e = cc
  filled_in (Some w) v h e = h

  -- something arrives where there is an entry
  pub filled_at : (m : BTreeMap Time (Vec Delivery Z)) (t : Time) (v : Vec Delivery Z) → AllFilled m → get time_cmp m t ≡ Some v
      → 0 < length (items_at t m)
  filled_at m t v h e = filled_in (get time_cmp m t) v (h t) e

  pub nothing_in : (o : Option (Vec Delivery Z)) (b : Bool) → (IsSome o → b ≡ false) → b ≡ true → items_of o ≡ []
  nothing_in None b h e = refl
  nothing_in (Some v) b h e = let no : true ≡ false = sym e ∙ h refl in absurd (false≢true (sym no))

  -- nothing arrives before the least key
  pub nothing_before : (m : BTreeMap Time (Vec Delivery Z)) (k t : Time) → IsLowerBound time_cmp m k → is_before t k ≡ true
      → items_at t m ≡ []
  nothing_before m k t h e = nothing_in (get time_cmp m t) (is_gt (time_cmp k t)) (h t) (is_after t k e)

  -- nothing arrives where there is no entry
  pub nothing_at_all : (m : BTreeMap Time (Vec Delivery Z)) (t : Time) → (0 < length m.entries → ⊥) → items_at t m ≡ []
  nothing_at_all m t h =
      elim (cases_lt 0 (length m.entries)) [
        | inl lt ↦ absurd (h lt)
        | inr le ↦ let z : length m.entries ≡ 0 = omega arith in
            ap (λ (es : List (Time × Vec Delivery Z)). items_of (lookup (is_at (time_cmp t)) es)) (nil_from_length m.entries z)
      ]

  of_cond : (b : Bool) (o : Option (Vec Delivery Z)) → items_of (cond b None o) ≡ cond b [] (items_of o)
  of_cond true o = refl
  of_cond false o = refl

  -- what is left where a time was taken out
  pub removed_at : (m n : BTreeMap Time (Vec Delivery Z)) (time t : Time)
      → get time_cmp n t ≡ cond (is_eq (time_cmp time t)) None (get time_cmp m t)
      → items_at t n ≡ cond (same_time time t) [] (items_at t m)
  removed_at m n time t e =
      ap items_of e ∙ of_cond (is_eq (time_cmp time t)) (get time_cmp m t) ∙ ap (λ (b : Bool). cond b [] (items_at t m))
      (same_is_equal time t)

pub nothing_in_empty : (t : Time) → arrivals_at t finite.empty ≡ []
nothing_in_empty t = ap or_nothing (finite.get-empty time_cmp t)
