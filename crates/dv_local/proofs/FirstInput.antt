-- The first time at which something comes, of what is held and of inputs from outside.
use Rattle.std.proofs.Common.{◌≡◌, inl, inr, ℕ, suc, ◌<◌, ◌≤◌, Bool, true, false, not, cond, nat_lt, List, [], ◌∷◌}
use Rattle.std.proofs.Common.{◌++◌, length, map, Option, Some, None, refl, sym, ap, subst, ◌∙◌, arith}
use Rattle.std.specs.List.{All, Contains}
use Rattle.std.specs.Option.{IfSome, MatchOption}
use Rattle.std.proofs.lemmas.Bool.{le-ltb}
use Rattle.std.proofs.lemmas.Bool.Decides.{nat_tests}
use Rattle.dv_time.specs.Time.{IsOfRun, earliest, is_before, rank, time_of}
use Rattle.dv_time.specs.declared.time.Time.{Time}
use Rattle.dv_time.proofs.Ranks.{is_before-rank, time_of-rank}
use Rattle.dv_bag.specs.Part.{PartOf}
use Rattle.dv_bag.specs.Bag.{bag_at, total}
use Rattle.dv_bag.specs.Inputs.{IsByTime, inputs_at, is_passed, next_from}
use Rattle.dv_bag.specs.declared.inputs.Input.{Input}
use Rattle.dv_bag.proofs.InputWalks.{between, next_not_before}
use Rattle.dv_devs.specs.Behaviour.{Behaviour, all_empty}
use Rattle.dv_devs.specs.Idle.{no_values, nothing_sent}
use Rattle.dv_devs.proofs.NextTimes.{rank_at_time, time_of_run}
use Rattle.dv_conservative.specs.Flat.{network, numbers}
use Rattle.dv_conservative.specs.Links.{Delivery, carried, sent_of}
use Rattle.dv_conservative.proofs.Bags.{nothing_arrives}
use Rattle.dv_share.specs.Links.{delivery_of}
use Rattle.dv_share.specs.declared.link.Delivery.{Delivery as DeliveryOfCode}
use Rattle.dv_share.specs.declared.tables.Member.{Member}
use Rattle.dv_share.proofs.Indices.{yes_or_no}
use Rattle.dv_proc.specs.Local.{IsFirstInput, View, brings_at}
use Rattle.dv_local.specs.Shares.{AreOfRun, IsLed}
use Rattle.dv_local.specs.States.{AllArrive, IsOfPort, view_by}
use Rattle.dv_local.specs.Undoing.{arrivals_but}
use Rattle.dv_local.specs.declared.state.LocalState.{LocalState}
use Rattle.dv_local.proofs.Inboxes.{but_all, but_some}
use Rattle.dv_local.proofs.Outside.{outside_some, replicate_none}
use Rattle.dv_local.proofs.Reaching.{Reaches, entered, reaches_left, reaches_right, received_some}
use Rattle.dv_local.proofs.Undoing.{all_first}

-- the first rank from one on that is loud, if there is one; before it all are quiet
abbrev pub IsFirstRank : ℕ → (ℕ → Type 0) → (ℕ → Type 0) → ℕ → Option Time → Type 0
IsFirstRank limit quiet loud k None = (n : ℕ) → k ≤ n → quiet n
IsFirstRank limit quiet loud k (Some t) =
    IsOfRun limit t × (k ≤ rank limit t) × loud (rank limit t) × ((n : ℕ) → k ≤ n → n < rank limit t → quiet n)

less : (a b : ℕ) → nat_lt a b ≡ true → a < b
less a b h = grind (arith, nat_tests)

no_less : (a b : ℕ) → nat_lt a b ≡ false → b ≤ a
no_less a b h = grind (arith, nat_tests)

module _ (v : View) (k : ℕ) (one other : ℕ → Type 0) (calm : (n : ℕ) → one n → other n → brings_at v n ≡ false) where
  abbrev pub Loud : ℕ → Type 0
  Loud n = brings_at v n ≡ true

  pub both_first : (a b : Option Time) → IsFirstRank v.share.limit one Loud k a → IsFirstRank v.share.limit other Loud k b
      → IsFirstInput v k (earliest a b)
  both_first None None h g = λ n le. calm n (h n le) (g n le)
  both_first None (Some u) h g = (g.0, g.1, g.2, λ n le lt. calm n (h n le) (g.3 n le lt))
  both_first (Some t) None h g = (h.0, h.1, h.2, λ n le lt. calm n (h.3 n le lt) (g n le))
  both_first (Some t) (Some u) h g =
      let order = is_before-rank v.share.limit u t g.0 h.0 in
      elim (yes_or_no (is_before u t)) [
        | inl y ↦
            let lt : rank v.share.limit u < rank v.share.limit t = less _ _ (sym order ∙ y) in
            subst (λ (b : Bool). IsFirstInput v k (cond b (Some u) (Some t))) (sym y)
            (g.0, g.1, g.2, λ n le below. calm n (h.3 n le (omega (arith, below, lt))) (g.3 n le below))
        | inr m ↦
            let le : rank v.share.limit t ≤ rank v.share.limit u = no_less _ _ (sym order ∙ m) in
            subst (λ (b : Bool). IsFirstInput v k (cond b (Some u) (Some t))) (sym m)
            (h.0, h.1, h.2, λ n from below. calm n (h.3 n from below) (g.3 n from (omega (arith, below, le))))
      ]

first_reaches : (ms : List Member) (xs : List DeliveryOfCode) → 0 < length xs → All (IsOfPort ms) xs
    → (m : Member) × (port : ℕ) × Contains ms m × (port < m.inputs) × Reaches m.number port (map delivery_of xs)
first_reaches ms [] lt h = absurd (omega (arith, lt))
first_reaches ms (a ∷ xs) lt h =
    let p = all_first (IsOfPort ms) a xs h in
    let q = p.1 in
    (q.0, a.port, q.1, q.3, inl (p.0, sym q.2, refl))

-- the next time of an input is that of one which is there
next_there : (limit : ℕ) (t : Time) (xs : List Input) (u : Time) → next_from limit xs t ≡ Some u
    → (i : Input) × Contains xs i × (i.time ≡ u)
next_there limit t [] u e = absurd (cc)
next_there limit t (x ∷ xs) u e = step (is_passed limit t x) (next_there limit t xs u) e
  where
    step : (b : Bool) → (next_from limit xs t ≡ Some u → (i : Input) × Contains xs i × (i.time ≡ u))
        → cond b (next_from limit xs t) (Some x.time) ≡ Some u → (i : Input) × Contains (x ∷ xs) i × (i.time ≡ u)
    step true rest h =
        let there = rest h in
        let c = there.1 in
        (there.0, (suc c.0, omega (arith, c.1), c.2), there.2)
    step false rest h = let same : x.time ≡ u = cc in (x, (0, omega arith, refl), same)

module _ {S R : Type 0} (behaviour : S → Behaviour) (told : R → PartOf) (x : LocalState S R) where
  abbrev pub v : View
  v = view_by behaviour told x

  abbrev pub limit : ℕ
  limit = x.share.tables.limit

  abbrev pub but : Time → List DeliveryOfCode
  but t = arrivals_but x.undo.taken t x.inbox

  abbrev pub QuietInside : ℕ → Type 0
  QuietInside n = but (time_of limit n) ≡ []

  abbrev pub QuietOutside : ℕ → Type 0
  QuietOutside n = all_empty (inputs_at limit x.share.ports x.share.inputs n) ≡ true

  pub calm : (n : ℕ) → QuietInside n → QuietOutside n → brings_at v n ≡ false
  calm n h g =
      let f = v.share.flat in
      ap (λ (xs : List DeliveryOfCode). not (no_values ((network f).arrives (nothing_sent (network f)) (v.share.outside n, map delivery_of xs)))) h
      ∙ ap not (nothing_arrives f (v.share.outside n) g)

  abbrev coming : ℕ → List Delivery
  coming n =
      carried v.share.flat.entrances (λ k. v.share.outside n)
      ++ (carried v.share.flat.links (sent_of (numbers v.share.flat.members) (nothing_sent (network v.share.flat))) ++ v.held n)

  loud : (n port : ℕ) (m : Member) → Contains x.share.tables.members.items m → port < m.inputs → Reaches m.number port (coming n)
      → brings_at v n ≡ true
  loud n port m c lt r =
      ap not (received_some behaviour limit x.share.tables.models.items (coming n) port x.share.tables.members.items c.0 m c.1 c.2 lt r)

  pub loud_inside : (t : Time) → IsOfRun limit t → 0 < length (but t) → All (IsOfPort x.share.tables.members.items) (but t)
      → brings_at v (rank limit t) ≡ true
  loud_inside t run lt h =
      let r = first_reaches x.share.tables.members.items (but t) lt h in
      let m = r.0 in
      let n = rank limit t in
      let held : Reaches m.number r.1 (v.held n) =
      subst (λ (u : Time). Reaches m.number r.1 (map delivery_of (but u))) (sym (time_of-rank limit t run)) r.4 in
      loud n r.1 m r.2 r.3
      (reaches_right m.number r.1 (carried v.share.flat.entrances (λ k. v.share.outside n)) _
      (reaches_right m.number r.1 (carried v.share.flat.links
      (sent_of (numbers v.share.flat.members) (nothing_sent (network v.share.flat)))) (v.held n) held))

  pub loud_outside : (i : Input) → Contains x.share.inputs i → IsOfRun limit i.time → IsLed x.share i → brings_at v (rank limit i.time)
      ≡ true
  loud_outside i c run led =
      let n = rank limit i.time in
      let l = led.1.0 in
      let p = led.1.4 in
      let m = p.0 in
      let some : 0 < total (bag_at (v.share.outside n) i.port) = outside_some limit x.share.ports x.share.inputs c.0 i c.1 c.2 led.0 run in
      let r : Reaches l.to l.to_port (carried x.share.tables.entrances (λ k. v.share.outside n)) =
      entered x.share.tables.entrances led.1.1.0 l (v.share.outside n) led.1.1.1 led.1.1.2 led.1.3
      (subst (λ (q : ℕ). 0 < total (bag_at (v.share.outside n) q)) (sym led.1.2) some) in
      loud n l.to_port m p.1 p.3
      (reaches_left m.number l.to_port (carried v.share.flat.entrances (λ k. v.share.outside n)) _
      (subst (λ (q : ℕ). Reaches q l.to_port (carried x.share.tables.entrances (λ k. v.share.outside n))) (sym p.2) r))

  not_before : (t u : Time) → IsOfRun limit t → IsOfRun limit u → rank limit u ≤ rank limit t → is_before t u ≡ false
  not_before t u h g le = is_before-rank limit t u h g ∙ le-ltb (rank limit t) (rank limit u) le

  at_or_after : (from : Time) (n : ℕ) → IsOfRun limit from → rank limit from ≤ n → is_before (time_of limit n) from ≡ false
  at_or_after from n h le =
      let e : rank limit (time_of limit n) ≡ n = rank_at_time limit n in
      not_before (time_of limit n) from (time_of_run limit n) h (omega (arith, le, e))

  before : (t : Time) (n : ℕ) → IsOfRun limit t → n < rank limit t → is_before (time_of limit n) t ≡ true
  before t n h lt =
      let e : rank limit (time_of limit n) ≡ n = rank_at_time limit n in
      is_before-rank limit (time_of limit n) t (time_of_run limit n) h ∙ lt-true (rank limit (time_of limit n)) (rank limit t)
      (omega (arith, lt, e))
    where
      lt-true : (a b : ℕ) → a < b → nat_lt a b ≡ true
      lt-true a b lt = grind (arith, nat_tests)

  after_from : (t from : Time) → IsOfRun limit t → IsOfRun limit from → is_before t from ≡ false → rank limit from ≤ rank limit t
  after_from t from h g e = no_less (rank limit t) (rank limit from) (sym (is_before-rank limit t from h g) ∙ e)

  pub first_inside : (r : Option Time) (from : Time) → IsOfRun limit from → AllArrive limit x.share.tables.members.items x.inbox
      → MatchOption r ((t : Time) → is_before t from ≡ false → but t ≡ [])
      (λ first. (is_before first from ≡ false) × (0 < length (but first)))
      → IfSome r (λ first. (t : Time) → is_before t from ≡ false → is_before t first ≡ true → but t ≡ [])
      → IsFirstRank limit QuietInside (λ n. brings_at v n ≡ true) (rank limit from) r
  first_inside None from run arrive there least = λ n le. there (time_of limit n) (at_or_after from n run le)
  first_inside (Some t) from run arrive there least =
      let of_run : IsOfRun limit t = arrive.1 t (but_some x.undo.taken t x.inbox there.1) in (
        of_run,
        after_from t from of_run run there.0,
        loud_inside t of_run there.1 (but_all (IsOfPort x.share.tables.members.items) x.undo.taken t x.inbox (arrive.0 t)),
        λ n le lt. least (time_of limit n) (at_or_after from n run le) (before t n of_run lt),
      )

  -- before the next input nothing comes from outside
  quiet_until : (from : Time) (n : ℕ) → IsOfRun limit from → IsByTime x.share.inputs → rank limit from ≤ n
      → IfSome (next_from limit x.share.inputs from) (λ t. n < rank limit t) → QuietOutside n
  quiet_until from n run h le next =
      ap all_empty
      (between limit x.share.ports (rank limit from) n x.share.inputs h le
      (subst (λ (u : Time). IfSome (next_from limit x.share.inputs u) (λ t. n < rank limit t)) (sym (time_of-rank limit from run)) next))
      ∙ replicate_none x.share.ports

  not_past : (from : Time) → IsOfRun limit from → IfSome (next_from limit x.share.inputs from) (λ t. rank limit from ≤ rank limit t)
  not_past from run =
      subst (λ (u : Time). IfSome (next_from limit x.share.inputs u) (λ t. rank limit from ≤ rank limit t)) (time_of-rank limit from run)
      (next_not_before limit (rank limit from) x.share.inputs)

  pub first_of_inputs : (r : Option Time) (from : Time) → IsOfRun limit from → IsByTime x.share.inputs → All (IsLed x.share) x.share.inputs
      → AreOfRun limit x.share.inputs → r ≡ next_from limit x.share.inputs from
      → IsFirstRank limit QuietOutside (λ n. brings_at v n ≡ true) (rank limit from) r
  first_of_inputs None from run h led all is = λ n le.
      quiet_until from n run h le (subst (λ (o : Option Time). IfSome o (λ t. n < rank limit t)) is tt)
  first_of_inputs (Some t) from run h led all is =
      let there = next_there limit from x.share.inputs t (sym is) in
      let i = there.0 in
      let c = there.1 in
      let of_run : IsOfRun limit i.time = subst (λ (y : Input). IsOfRun limit y.time) c.2 (all c.0 i c.1) in (
        subst (λ (u : Time). IsOfRun limit u) there.2 of_run,
        subst (λ (o : Option Time). IfSome o (λ u. rank limit from ≤ rank limit u)) (sym is) (not_past from run),
        subst (λ (u : Time). brings_at v (rank limit u) ≡ true) there.2
            (loud_outside i c of_run (subst (λ (y : Input). IsLed x.share y) c.2 (led c.0 i c.1))),
        λ n le lt. quiet_until from n run h le (subst (λ (o : Option Time). IfSome o (λ u. n < rank limit u)) is lt),
      )
