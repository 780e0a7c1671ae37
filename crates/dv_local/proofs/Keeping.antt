-- What events bring, kept in an inbox, is delivered as the events are.
use Rattle.std.proofs.Common.{◌≡◌, inl, inr, ℕ, suc, ◌<◌, ◌≤◌, Bool, true, false, ◌&&◌, cond, nat_eq, nat_le, nat_lt, List, []}
use Rattle.std.proofs.Common.{◌∷◌, ◌++◌, length, map, filter, refl, sym, ap, subst, ◌∙◌, arith}
use Rattle.std.specs.List.{All, list_all}
use Rattle.std.proofs.lemmas.Bool.{eqb-true}
use Rattle.std.proofs.lemmas.Bool.Decides.{nat_tests}
use Rattle.std.proofs.lemmas.List.{map-append}
use Rattle.std.proofs.lemmas.List.Elements.{All-append}
use Rattle.dv_bag.specs.Bag.{Counts, with_copies}
use Rattle.dv_devs.specs.Behaviour.{Behaviour}
use Rattle.dv_time.specs.Time.{IsOfRun, micro_of, tick_of, time_of}
use Rattle.dv_time.specs.declared.time.Time.{Time}
use Rattle.dv_conservative.specs.Events.{Event, deliveries_at, delivery_of as meant_delivery}
use Rattle.dv_conservative.specs.Links.{Delivery, delivered, taken}
use Rattle.dv_conservative.specs.Process.{is_port_of}
use Rattle.dv_conservative.proofs.Delivered.{delivered-append}
use Rattle.dv_local.specs.Arrivals.{Arrivals, arrivals_at, brings, coming_at, delivery_in}
use Rattle.dv_agenda.specs.Waits.{same_time}
use Rattle.dv_share.specs.Links.{delivery_of}
use Rattle.dv_share.specs.declared.link.Delivery.{Delivery as DeliveryOfCode}
use Rattle.dv_proc.specs.Local.{DeliverAlike}
use Rattle.dv_proc.specs.Packets.{meant_event, meant_events}
use Rattle.dv_proc.specs.declared.packet.Event.{Event as EventOfCode}
use Rattle.dv_share.specs.Share.{member_by}
use Rattle.dv_share.specs.declared.tables.Member.{Member}
use Rattle.dv_share.proofs.Indices.{yes_or_no}
use Rattle.dv_local.specs.Shares.{IsPortOf}
use Rattle.dv_local.specs.States.{AllArrive, IsOfPort}
use Rattle.dv_local.proofs.Undoing.{all_join, all_none}

and_left : (a b : Bool) → (a && b) ≡ true → a ≡ true
and_left true b h = refl
and_left false b h = cc

and_right : (a b : Bool) → (a && b) ≡ true → b ≡ true
and_right true b h = h
and_right false b h = cc

map_cond : (s : Bool) (a : DeliveryOfCode) (xs : List DeliveryOfCode) → map delivery_of (cond s (a ∷ xs) xs)
    ≡ cond s (delivery_of a ∷ map delivery_of xs) (map delivery_of xs)
map_cond true a xs = refl
map_cond false a xs = refl

step_in : (limit : ℕ) (b : Bool) (t : Time) (e : EventOfCode) (es : List EventOfCode)
    → map delivery_of (coming_at t ((cond b (e ∷ filter (brings limit) es) (filter (brings limit) es))))
    ≡ cond b (cond (same_time e.time t)
    (meant_delivery (meant_event e) ∷ map delivery_of (coming_at t (filter (brings limit) es)))
    (map delivery_of (coming_at t (filter (brings limit) es))))
    (map delivery_of (coming_at t (filter (brings limit) es)))
step_in limit true t e es = map_cond (same_time e.time t) (delivery_in e) (coming_at t (filter (brings limit) es))
step_in limit false t e es = refl

module _ (k port : ℕ) where
  both : (s : Bool) (bag : Counts) → cond s bag bag ≡ bag
  both true bag = refl
  both false bag = refl

  none : (d : Delivery) (bag : Counts) → d.copies ≡ 0 → taken k port d bag ≡ bag
  none d bag h =
      ap (λ (n : ℕ). cond (nat_eq d.component k && nat_eq d.port port) (with_copies d.value n bag) bag) h
      ∙ both (nat_eq d.component k && nat_eq d.port port) bag

  one_more : (b s : Bool) (d : Delivery) (xs ys : List Delivery) (bag : Counts) → (b ≡ false → s ≡ true → d.copies ≡ 0)
      → delivered k port xs bag ≡ delivered k port ys bag
      → delivered k port (cond b (cond s (d ∷ xs) xs) xs) bag ≡ delivered k port (cond s (d ∷ ys) ys) bag
  one_more true true d xs ys bag h e = ap (λ (found : Counts). taken k port d found) e
  one_more true false d xs ys bag h e = e
  one_more false true d xs ys bag h e = e ∙ sym (none d (delivered k port ys bag) (h refl refl))
  one_more false false d xs ys bag h e = e

  not_left : (a b : Bool) → (a && b) ≡ false → b ≡ true → a ≡ false
  not_left true b h e = absurd (cc)
  not_left false b h e = refl

  zero_copies : (n : ℕ) → nat_lt 0 n ≡ false → n ≡ 0
  zero_copies n h = grind (arith, nat_tests)

  within : (n limit : ℕ) → n ≤ limit → nat_le n limit ≡ true
  within n limit h = grind (arith, nat_tests)

  -- what brings nothing at a time of the run has no copies
  no_copies : (limit n : ℕ) (e : EventOfCode) → brings limit e ≡ false → same_time e.time (time_of limit n) ≡ true → e.copies ≡ 0
  no_copies limit n e h same =
      let m : e.time.micro ≡ micro_of limit n =
      eqb-true e.time.micro (micro_of limit n) (and_right (nat_eq e.time.tick (tick_of limit n)) (nat_eq e.time.micro (micro_of limit n))
      same) in
      zero_copies e.copies (not_left (nat_lt 0 e.copies) (nat_le e.time.micro limit) h
      (within e.time.micro limit (subst (λ (k : ℕ). k ≤ limit) (sym m) (omega arith))))

  alike : (limit n : ℕ) (es : List EventOfCode) (bag : Counts)
      → delivered k port (map delivery_of (coming_at (time_of limit n) (filter (brings limit) es))) bag
      ≡ delivered k port (deliveries_at limit (meant_events es) n) bag
  alike limit n [] bag = refl
  alike limit n (e ∷ es) bag =
      ap (λ (ds : List Delivery). delivered k port ds bag) (step_in limit (brings limit e) (time_of limit n) e es)
      ∙ one_more (brings limit e) (same_time e.time (time_of limit n)) (meant_delivery (meant_event e))
      (map delivery_of (coming_at (time_of limit n) (filter (brings limit) es))) (deliveries_at limit (meant_events es) n)
      bag
      (no_copies limit n e) (alike limit n es bag)

-- what is kept is delivered as what was held, and the events beside it
pub kept_alike : (limit n : ℕ) (before after : List DeliveryOfCode) (es : List EventOfCode)
    → after ≡ before ++ coming_at (time_of limit n) (filter (brings limit) es)
    → DeliverAlike (map delivery_of after) (map delivery_of before ++ deliveries_at limit (meant_events es) n)
kept_alike limit n before after es e k port bag =
    let news = coming_at (time_of limit n) (filter (brings limit) es) in
    ap (λ (xs : List DeliveryOfCode). delivered k port (map delivery_of xs) bag) e
    ∙ ap (λ (ds : List Delivery). delivered k port ds bag) (map-append delivery_of before news)
    ∙ delivered-append k port (map delivery_of before) (map delivery_of news) bag
    ∙ ap (λ (found : Counts). delivered k port (map delivery_of before) found) (alike k port limit n es bag)
    ∙ sym (delivered-append k port (map delivery_of before) (deliveries_at limit (meant_events es) n) bag)

less : (a b : ℕ) → nat_lt a b ≡ true → a < b
less a b h = grind (arith, nat_tests)

pub port_of : {S : Type 0} (behaviour : S → Behaviour) (limit : ℕ) (models : List S) (k port : ℕ) (ms : List Member)
    → is_port_of (map (member_by behaviour limit models) ms) k port ≡ true → IsPortOf ms k port
port_of behaviour limit models k port [] h = absurd (cc)
port_of behaviour limit models k port (m ∷ ms) h = elim (yes_or_no (nat_eq m.number k && nat_lt port m.inputs)) [
  | inl y ↦ (
    m,
    (0, omega arith, refl),
    eqb-true m.number k (and_left (nat_eq m.number k) (nat_lt port m.inputs) y),
    less port m.inputs (and_right (nat_eq m.number k) (nat_lt port m.inputs) y),
  )
  | inr n ↦
      let rest = port_of behaviour limit models k port ms (rw n at h) in
      (rest.0, (suc rest.1.0, omega (arith, rest.1.1), rest.1.2), rest.2, rest.3)
]

-- what events bring is for ports, at times of the run
module _ {S : Type 0} (behaviour : S → Behaviour) (models : List S) (limit : ℕ) (ms : List Member) where
  abbrev is_here : Event → Bool
  is_here e = is_port_of (map (member_by behaviour limit models) ms) e.component e.port

  cond_all : (P : DeliveryOfCode → Type 0) (s : Bool) (a : DeliveryOfCode) (xs : List DeliveryOfCode) → P a → All P xs → All P (cond s (a ∷ xs) xs)
  cond_all P true a xs p h = all_join P a xs p h
  cond_all P false a xs p h = h

  step_all : (b : Bool) (t : Time) (e : EventOfCode) (es : List EventOfCode) → b ≡ brings limit e → IsPortOf ms e.component e.port
      → All (IsOfPort ms) (coming_at t (filter (brings limit) es))
      → All (IsOfPort ms) (coming_at t ((cond b (e ∷ filter (brings limit) es) (filter (brings limit) es))))
  step_all true t e es y p h =
      cond_all (IsOfPort ms) (same_time e.time t) (delivery_in e) (coming_at t (filter (brings limit) es))
      (less 0 e.copies (and_left (nat_lt 0 e.copies) (nat_le e.time.micro limit) (sym y)), p) h
  step_all false t e es y p h = h

  pub all_here : (t : Time) (es : List EventOfCode) → list_all is_here (meant_events es) ≡ true
      → All (IsOfPort ms) (coming_at t (filter (brings limit) es))
  all_here t [] h = all_none (IsOfPort ms)
  all_here t (e ∷ es) h =
      step_all (brings limit e) t e es refl
      (port_of behaviour limit models e.component e.port ms (and_left (is_here (meant_event e)) (list_all is_here (meant_events es)) h))
      (all_here t es (and_right (is_here (meant_event e)) (list_all is_here (meant_events es)) h))

  same_run : (t u : Time) → IsOfRun limit t → same_time t u ≡ true → IsOfRun limit u
  same_run t u h e =
      let m : t.micro ≡ u.micro = eqb-true t.micro u.micro (and_right (nat_eq t.tick u.tick) (nat_eq t.micro u.micro) e) in
      omega (arith, h, m)

  cond_run : (s : Bool) (t : Time) (e : EventOfCode) (a : DeliveryOfCode) (xs : List DeliveryOfCode) → s ≡ same_time e.time t → IsOfRun limit e.time
      → (0 < length xs → IsOfRun limit t) → 0 < length (cond s (a ∷ xs) xs) → IsOfRun limit t
  cond_run true t e a xs y h rest lt = same_run e.time t h (sym y)
  cond_run false t e a xs y h rest lt = rest lt

  at_most : (n m : ℕ) → nat_le n m ≡ true → n ≤ m
  at_most n m h = grind (arith, nat_tests)

  step_run : (b : Bool) (t : Time) (e : EventOfCode) (es : List EventOfCode) → b ≡ brings limit e
      → (0 < length (coming_at t (filter (brings limit) es)) → IsOfRun limit t)
      → 0 < length (coming_at t ((cond b (e ∷ filter (brings limit) es) (filter (brings limit) es)))) → IsOfRun limit t
  step_run true t e es h rest lt =
      cond_run (same_time e.time t) t e (delivery_in e) (coming_at t (filter (brings limit) es)) refl
      (at_most e.time.micro limit (and_right (nat_lt 0 e.copies) (nat_le e.time.micro limit) (sym h))) rest lt
  step_run false t e es h rest lt = rest lt

  run_here : (t : Time) (es : List EventOfCode) → 0 < length (coming_at t (filter (brings limit) es)) → IsOfRun limit t
  run_here t [] lt = absurd (omega (arith, lt))
  run_here t (e ∷ es) lt =
      step_run (brings limit e) t e es refl (run_here t es) lt

  either_run : (t : Time) (xs ys : List DeliveryOfCode) → (0 < length xs → IsOfRun limit t) → (0 < length ys → IsOfRun limit t)
      → 0 < length (xs ++ ys) → IsOfRun limit t
  either_run t [] ys h k lt = k lt
  either_run t (x ∷ xs) ys h k lt = h (omega arith)

  pub kept_arrive : (old new : Arrivals) (es : List EventOfCode)
      → ((t : Time) → arrivals_at t new ≡ arrivals_at t old ++ coming_at t (filter (brings limit) es))
      → list_all is_here (meant_events es) ≡ true → AllArrive limit ms old → AllArrive limit ms new
  kept_arrive old new es e here h = (
    λ t. subst (λ (xs : List DeliveryOfCode). All (IsOfPort ms) xs) (sym (e t))
        (All-append (IsOfPort ms) (arrivals_at t old) (coming_at t (filter (brings limit) es)) (h.0 t)
        (all_here t es here)),
    λ t lt. either_run t (arrivals_at t old) (coming_at t (filter (brings limit) es)) (h.1 t) (run_here t es)
        (subst (λ (xs : List DeliveryOfCode). 0 < length xs) (e t) lt),
  )
