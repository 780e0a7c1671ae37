-- Numbers of the language stay so along links and in runs, and states stay fit.
use Rattle.std.proofs.Common.{◌≡◌, inl, inr, ℕ, suc, zero, ◌+◌, Bool, true, false, ◌&&◌, cond, nat_eq, List, [], ◌∷◌, ◌++◌, map}
use Rattle.std.proofs.Common.{ℤ, Option, Result, Ok, Err, IfOk, IsTrue, refl, sym, ap, ◌∙◌, subst, arith}
use Rattle.std.specs.List.{list_all}
use Rattle.std.specs.Ordering.{int_cmp, match_ordering}
use Rattle.std.specs.declared.cmp.Ordering.{Ordering}
use Rattle.std.specs.declared.cmp.Ordering.TheVariants.{Less, Equal, Greater}
use Rattle.std.proofs.lemmas.Bool.{and_parts, cases_lt}
use Rattle.std.proofs.lemmas.List.{length-map}
use Rattle.dv_bag.specs.Bag.{Counts, bag_at, capped, is_number, with_copies, with_some}
use Rattle.dv_bag.specs.declared.fault.Fault.{Fault}
use Rattle.dv_bag.specs.declared.state.State.{State}
use Rattle.dv_devs.specs.Behaviour.{Behaviour, Component, emission, is_imminent}
use Rattle.dv_devs.specs.Fits.{AllFit, AllKeep, OnlyArrives}
use Rattle.dv_devs.specs.Idle.{nothing_sent}
use Rattle.dv_devs.specs.Network.{components_after, components_at, emissions, emissions_at, sent_by}
use Rattle.dv_devs.specs.NextTimes.{AllQuietForGood, IsReady}
use Rattle.dv_devs.proofs.Fits.{states_fit}
use Rattle.dv_conservative.specs.Events.{Event, deliveries_at, delivery_of, in_order, same_time, with_delivery, delivery_cmp}
use Rattle.dv_conservative.specs.Flat.{Flat, Member, behaviours, fed, network, numbers, received, whole}
use Rattle.dv_conservative.specs.Links.{Delivery, Link, carried, carried_by, delivered, inbox, sent_of}
use Rattle.dv_conservative.specs.Promise.{AllRespond, BringsOnly}
use Rattle.dv_conservative.specs.Sound.{AllNumbers, AllSound, are_of_numbers, by_index, is_of_numbers}
use Rattle.dv_time.specs.Time.{time_of}

both_true : (a b : Bool) → a ≡ true → b ≡ true → (a && b) ≡ true
both_true a b h k = rw (h, k) refl

-- bags of numbers, by port and by component
bag_of : (bags : List Counts) (port : ℕ) → IsTrue (are_of_numbers bags) → IsTrue (is_of_numbers (bag_at bags port))
bag_of [] zero h = refl
bag_of [] (suc port) h = refl
bag_of (b ∷ bs) zero h = let parts = and_parts (is_of_numbers b) (are_of_numbers bs) h in parts.0
bag_of (b ∷ bs) (suc port) h = let parts = and_parts (is_of_numbers b) (are_of_numbers bs) h in bag_of bs port parts.1

abbrev AllSent : List (List Counts) → Type 0
AllSent sent = IsTrue (list_all are_of_numbers sent)

by_either : (t : Bool) (a b : List Counts) → IsTrue (are_of_numbers a) → IsTrue (are_of_numbers b) → IsTrue (are_of_numbers (cond t a b))
by_either true a b h k = h
by_either false a b h k = k

sent_numbers : (js : List ℕ) (sent : List (List Counts)) (k : ℕ) → AllSent sent → IsTrue (are_of_numbers (sent_of js sent k))
sent_numbers [] sent k h = refl
sent_numbers (j ∷ js) [] k h = by_either (nat_eq j k) [] (sent_of js [] k) refl (sent_numbers js [] k refl)
sent_numbers (j ∷ js) (bags ∷ sent) k h =
    let parts = and_parts (are_of_numbers bags) (list_all are_of_numbers sent) h in
    by_either (nat_eq j k) bags (sent_of js sent k) parts.0 (sent_numbers js sent k parts.1)

-- deliveries of numbers
abbrev pub OfNumbers : List Delivery → Type 0
OfNumbers [] = Unit {0}
OfNumbers (d ∷ ds) = IsTrue (is_number d.value) × OfNumbers ds

pub numbers_append : (ds es : List Delivery) → OfNumbers ds → OfNumbers es → OfNumbers (ds ++ es)
numbers_append [] es h k = k
numbers_append (d ∷ ds) es h k = (h.0, numbers_append ds es h.1 k)

numbers_by : (l : Link) (b : Counts) → IsTrue (is_of_numbers b) → OfNumbers (carried_by l b)
numbers_by l [] h = tt
numbers_by l (p ∷ ps) h = let parts = and_parts (is_number p.0) (is_of_numbers ps) h in (parts.0, numbers_by l ps parts.1)

pub numbers_carried : (links : List Link) (sent : ℕ → List Counts) → ((k : ℕ) → IsTrue (are_of_numbers (sent k))) →
    OfNumbers (carried links sent)
numbers_carried [] sent h = tt
numbers_carried (l ∷ ls) sent h =
    numbers_append (carried_by l (bag_at (sent l.from) l.from_port)) (carried ls sent)
    (numbers_by l (bag_at (sent l.from) l.from_port) (bag_of (sent l.from) l.from_port (h l.from))) (numbers_carried ls sent h)

numbers_some : (v : ℤ) (n : ℕ) (b : Counts) → IsTrue (is_number v) → IsTrue (is_of_numbers b) → IsTrue (is_of_numbers (with_some v n b))
numbers_some v n [] h k = both_true (is_number v) true h refl
numbers_some v n (p ∷ ps) h k =
    let parts = and_parts (is_number p.0) (is_of_numbers ps) k in
    by_order (numbers_some v n ps h parts.1) (int_cmp v p.0) parts.0 parts.1
  where
    by_order : IsTrue (is_of_numbers (with_some v n ps)) → (o : Ordering) → IsTrue (is_number p.0) → IsTrue (is_of_numbers ps) →
        IsTrue (is_of_numbers (match_ordering o ((v, capped n) ∷ p ∷ ps) ((p.0, capped (p.1 + n)) ∷ ps) (p ∷ with_some v n ps)))
    by_order rest Less first others = both_true (is_number v) (is_of_numbers (p ∷ ps)) h k
    by_order rest Equal first others = both_true (is_number p.0) (is_of_numbers ps) first others
    by_order rest Greater first others = both_true (is_number p.0) (is_of_numbers (with_some v n ps)) first rest

pub numbers_with : (v : ℤ) (n : ℕ) (b : Counts) → IsTrue (is_number v) → IsTrue (is_of_numbers b) →
    IsTrue (is_of_numbers (with_copies v n b))
numbers_with v zero b h k = k
numbers_with v (suc n) b h k = numbers_some v (suc n) b h k

numbers_delivered : (k port : ℕ) (ds : List Delivery) → OfNumbers ds → IsTrue (is_of_numbers (delivered k port ds []))
numbers_delivered k port [] h = refl
numbers_delivered k port (d ∷ ds) h = by_test (nat_eq d.component k && nat_eq d.port port) (numbers_delivered k port ds h.1)
  where
    by_test : (t : Bool) → IsTrue (is_of_numbers (delivered k port ds [])) →
        IsTrue (is_of_numbers (cond t (with_copies d.value d.copies (delivered k port ds [])) (delivered k port ds [])))
    by_test true rest = numbers_with d.value d.copies (delivered k port ds []) h.0 rest
    by_test false rest = rest

numbers_inbox : (k : ℕ) (ds : List Delivery) (port n : ℕ) → OfNumbers ds → IsTrue (are_of_numbers (inbox k ds port n))
numbers_inbox k ds port zero h = refl
numbers_inbox k ds port (suc n) h =
    both_true (is_of_numbers (delivered k port ds [])) (are_of_numbers (inbox k ds (port + 1) n)) (numbers_delivered k port ds h)
    (numbers_inbox k ds (port + 1) n h)

numbers_received : (ms : List Member) (ds : List Delivery) → OfNumbers ds → IsTrue (list_all are_of_numbers (received ms ds))
numbers_received [] ds h = refl
numbers_received (m ∷ ms) ds h =
    both_true (are_of_numbers (inbox m.number ds 0 m.ports)) (list_all are_of_numbers (received ms ds))
    (numbers_inbox m.number ds 0 m.ports h)
    (numbers_received ms ds h)

pub numbers_at : (limit : ℕ) (es : List Event) (n : ℕ) → AllNumbers es → OfNumbers (deliveries_at limit es n)
numbers_at limit [] n h = tt
numbers_at limit (e ∷ es) n h = by_test (same_time e.time (time_of limit n)) (numbers_at limit es n h.1)
  where
    by_test : (t : Bool) → OfNumbers (deliveries_at limit es n) →
        OfNumbers (cond t (delivery_of e ∷ deliveries_at limit es n) (deliveries_at limit es n))
    by_test true rest = (h.0, rest)
    by_test false rest = rest

with_number : (d : Delivery) (es : List Delivery) → IsTrue (is_number d.value) → OfNumbers es → OfNumbers (with_delivery d es)
with_number d [] h k = (h, tt)
with_number d (e ∷ es) h k = by_order (with_number d es h k.1) (delivery_cmp d e)
  where
    by_order : OfNumbers (with_delivery d es) → (o : Ordering) → OfNumbers (match_ordering o
        (record { component = d.component; port = d.port; value = d.value; copies = capped d.copies } ∷ e ∷ es)
        (record { component = e.component; port = e.port; value = e.value; copies = capped (d.copies + e.copies) } ∷ es)
        (e ∷ with_delivery d es))
    by_order rest Less = (h, k)
    by_order rest Equal = k
    by_order rest Greater = (k.0, rest)

pub numbers_in_order : (ds : List Delivery) → OfNumbers ds → OfNumbers (in_order ds)
numbers_in_order [] h = tt
numbers_in_order (d ∷ ds) h = by_test (numbers_in_order ds h.1) (nat_eq d.copies 0)
  where
    by_test : OfNumbers (in_order ds) → (t : Bool) → OfNumbers (cond t (in_order ds) (with_delivery d (in_order ds)))
    by_test rest true = rest
    by_test rest false = with_number d (in_order ds) h.0 rest

-- what arrives in a network where numbers are sent and come
pub numbers_arrive : (f : Flat) (sent : List (List Counts)) (outs : List Counts) (ds : List Delivery) → AllSent sent →
    IsTrue (are_of_numbers outs) → OfNumbers ds → IsTrue (list_all are_of_numbers ((network f).arrives sent (outs, ds)))
numbers_arrive f sent outs ds h o k =
    numbers_received f.members
    (carried f.entrances (λ k. outs) ++ (carried f.links (sent_of (numbers f.members) sent) ++ ds))
    (numbers_append (carried f.entrances (λ k. outs)) (carried f.links (sent_of (numbers f.members) sent) ++ ds)
    (numbers_carried f.entrances (λ k. outs) (λ k. o))
    (numbers_append (carried f.links (sent_of (numbers f.members) sent)) ds
    (numbers_carried f.links (sent_of (numbers f.members) sent) (λ k. sent_numbers (numbers f.members) sent k h)) k))

none_sent : (bs : List Behaviour) → AllSent (map (λ (b : Behaviour). []) bs)
none_sent [] = refl
none_sent (b ∷ bs) = none_sent bs

pub numbers_come : (f : Flat) (outs : List Counts) (ds : List Delivery) → IsTrue (are_of_numbers outs) → OfNumbers ds →
    BringsOnly are_of_numbers (network f) (outs, ds)
numbers_come f outs ds o k = numbers_arrive f (nothing_sent (network f)) outs ds (none_sent (behaviours f.members)) o k

-- indices and numbers of components
fit_up : (g : ℕ → State → Bool) (k : ℕ) (cs : List Component) → AllFit (λ i. g (suc i)) k cs → AllFit g (suc k) cs
fit_up g k [] h = tt
fit_up g k (c ∷ cs) h =
    let same : suc (k + 1) ≡ suc k + 1 = omega arith in
    (h.0, subst (λ (n : ℕ). AllFit g n cs) same (fit_up g (k + 1) cs h.1))

fit_down : (g : ℕ → State → Bool) (k : ℕ) (cs : List Component) → AllFit g (suc k) cs → AllFit (λ i. g (suc i)) k cs
fit_down g k [] h = tt
fit_down g k (c ∷ cs) h =
    let same : suc k + 1 ≡ suc (k + 1) = omega arith in
    (h.0, fit_down g (k + 1) cs (subst (λ (n : ℕ). AllFit g n cs) same h.1))

keep_up : (comes : List Counts → Bool) (g : ℕ → State → Bool) (k : ℕ) (bs : List Behaviour) → AllKeep (λ i. g (suc i)) comes k bs →
    AllKeep g comes (suc k) bs
keep_up comes g k [] h = tt
keep_up comes g k (b ∷ bs) h =
    let same : suc (k + 1) ≡ suc k + 1 = omega arith in
    (h.0, subst (λ (n : ℕ). AllKeep g comes n bs) same (keep_up comes g (k + 1) bs h.1))

respond_up : (comes : List Counts → Bool) (r : Option ℕ) (g : ℕ → State → Bool) (k : ℕ) (bs : List Behaviour) →
    AllRespond (λ i. g (suc i)) comes r k bs → AllRespond g comes r (suc k) bs
respond_up comes r g k [] h = tt
respond_up comes r g k (b ∷ bs) h =
    let same : suc (k + 1) ≡ suc k + 1 = omega arith in
    (h.0, subst (λ (n : ℕ). AllRespond g comes r n bs) same (respond_up comes r g (k + 1) bs h.1))

module _ (fits : ℕ → State → Bool) (r : ℕ → Option ℕ) where
  pub all_keep : (ms : List Member) → AllSound fits r ms → AllKeep (by_index fits ms) are_of_numbers 0 (behaviours ms)
  all_keep [] h = tt
  all_keep (m ∷ ms) h = let this = h.0 in (this.keeps, keep_up are_of_numbers (by_index fits (m ∷ ms)) 0 (behaviours ms) (all_keep ms h.1))

  pub all_start : (ms : List Member) → AllSound fits r ms → AllFit (by_index fits ms) 0 (map (λ (m : Member). m.start) ms)
  all_start [] h = tt
  all_start (m ∷ ms) h =
      let this = h.0 in
      (this.start, fit_up (by_index fits (m ∷ ms)) 0 (map (λ (m : Member). m.start) ms) (all_start ms h.1))

  all_quiet : (ms : List Member) → AllSound fits r ms → AllQuietForGood (map (λ (m : Member). m.start) ms)
  all_quiet [] h = tt
  all_quiet (m ∷ ms) h = let this = h.0 in (this.quiet, all_quiet ms h.1)

  pub is_ready : (f : Flat) → AllSound fits r f.members → IsReady (network f)
  is_ready f h = record {
    matched = length-map f.members (λ (m : Member). m.behaviour) ∙ sym (length-map f.members (λ (m : Member). m.start));
    numbered = length-map f.members (λ (m : Member). m.number) ∙ sym (length-map f.members (λ (m : Member). m.behaviour));
    quiet = all_quiet f.members h;
  }

  sends_numbers : (c : Component) (b : Behaviour) (now : ℕ) (imminent quiet : Bool) →
      IfOk (b.output c.state) (λ bags. IsTrue (are_of_numbers bags)) →
      c.quiet ≡ quiet → IsTrue (are_of_numbers (sent_by c (cond imminent (b.output c.state) (Ok []))))
  sends_numbers c b now true quiet h e = by_output (b.output c.state) h
    where
      by_output : (out : Result (List Counts) Fault) → IfOk out (λ bags. IsTrue (are_of_numbers bags)) →
          IsTrue (are_of_numbers (sent_by c out))
      by_output (Ok bags) h = by_either c.quiet [] bags refl h
      by_output (Err f) h = refl
  sends_numbers c b now false quiet h e = by_either c.quiet [] [] refl refl

  emissions_numbers : (ms : List Member) (now : ℕ) (cs : List Component) → AllSound fits r ms → AllFit (by_index fits ms) 0 cs →
      AllSent (emissions (behaviours ms) now cs)
  emissions_numbers [] now cs h fit = refl
  emissions_numbers (m ∷ ms) now [] h fit = refl
  emissions_numbers (m ∷ ms) now (c ∷ cs) h fit =
      let this = h.0 in
      both_true (are_of_numbers (sent_by c (emission m.behaviour now c))) (list_all are_of_numbers (emissions (behaviours ms) now cs))
      (sends_numbers c m.behaviour now (is_imminent now c) c.quiet (this.sends c.state fit.0) refl)
      (emissions_numbers ms now cs h.1 (fit_down (by_index fits (m ∷ ms)) 0 cs fit.1))

  -- in a run to which numbers come states stay fit and numbers are sent
  module _ (limit : ℕ) (f : Flat) (sound : AllSound fits r f.members) (inputs : ℕ → List Counts × List Delivery)
      (outs : (n : ℕ) → IsTrue (are_of_numbers (inputs n).0)) (ins : (n : ℕ) → OfNumbers (inputs n).1) where
    only : ℕ → Type 0
    only n = OnlyArrives are_of_numbers limit (network f) inputs n

    fits_and_comes : (n : ℕ) → AllFit (by_index fits f.members) 0 (components_at limit (network f) inputs n)
        × OnlyArrives are_of_numbers limit (network f) inputs n
    fits_and_comes zero = (all_start f.members sound, λ j lt. absurd (omega arith))
    fits_and_comes (suc n) =
        let before = fits_and_comes n in
        let sent = emissions_numbers f.members n (components_at limit (network f) inputs n) sound before.0 in
        let now : IsTrue (list_all are_of_numbers ((network f).arrives (emissions_at limit (network f) inputs n) (inputs n)))
        = numbers_arrive f (emissions_at limit (network f) inputs n) (inputs n).0 (inputs n).1 sent (outs n) (ins n) in
        let come : OnlyArrives are_of_numbers limit (network f) inputs (suc n) = λ j lt. elim (cases_lt j n) [
          | inl earlier ↦ before.1 j earlier
          | inr same ↦
              let e : n ≡ j = omega arith in
              subst (λ (i : ℕ). IsTrue
              (list_all are_of_numbers ((network f).arrives (emissions_at limit (network f) inputs i) (inputs i)))) e now
        ] in (
          states_fit (by_index fits f.members) are_of_numbers limit (network f) inputs (suc n) (all_keep f.members sound)
              (all_start f.members sound) come,
          come,
        )

    pub states_stay : (n : ℕ) → AllFit (by_index fits f.members) 0 (components_at limit (network f) inputs n)
    states_stay n = let both = fits_and_comes n in both.0

    pub sends_stay : (n : ℕ) → AllSent (emissions_at limit (network f) inputs n)
    sends_stay n = emissions_numbers f.members n (components_at limit (network f) inputs n) sound (states_stay n)

    pub carries_numbers : (links : List Link) (n : ℕ) →
        OfNumbers (carried links (sent_of (numbers f.members) (emissions_at limit (network f) inputs n)))
    carries_numbers links n =
        numbers_carried links (sent_of (numbers f.members) (emissions_at limit (network f) inputs n))
        (λ k. sent_numbers (numbers f.members) (emissions_at limit (network f) inputs n) k (sends_stay n))

pub all_respond : (fits : ℕ → State → Bool) (r : Option ℕ) (ms : List Member) → AllSound fits (λ k. r) ms →
    AllRespond (by_index fits ms) are_of_numbers r 0 (behaviours ms)
all_respond fits r [] h = tt
all_respond fits r (m ∷ ms) h =
    let this = h.0 in
    (this.responds, respond_up are_of_numbers r (by_index fits (m ∷ ms)) 0 (behaviours ms) (all_respond fits r ms h.1))

-- a whole model is a network to which no deliveries come
pub whole_is : (limit : ℕ) (f : Flat) (outside : ℕ → List Counts) (n : ℕ) →
    components_at limit (whole f) outside n ≡ components_at limit (network f) (fed outside (λ n. [])) n
whole_is limit f outside zero = refl
whole_is limit f outside (suc n) = ap (components_after limit (whole f) n (outside n)) (whole_is limit f outside n)
