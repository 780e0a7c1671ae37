-- What links in the order of their ports carry, port by port.
use Rattle.std.proofs.Common.{◌≡◌, inl, inr, ℕ, suc, ◌+◌, ◌<◌, ◌≤◌, Bool, true, false, nat_eq, nat_lt, List, [], ◌∷◌}
use Rattle.std.proofs.Common.{◌++◌, Option, Some, None, length, get_or, slice_get, filter, refl, sym, ap, ◌∙◌, arith}
use Rattle.std.specs.List.{AllWithin, slice_range}
use Rattle.std.specs.List.Sorted.{IsNonDecreasingBy}
use Rattle.std.specs.Option.{option_map}
use Rattle.std.proofs.lemmas.Bool.{cases_Bool, cases_lt, eq-eqb, eqb-true, ltb-false, ltb-true}
use Rattle.std.proofs.lemmas.List.{append_assoc}
use Rattle.std.proofs.lemmas.Option.{get_or_from_slice_get, slice_get-get_or, slice_get_past}
use Rattle.dv_bag.specs.Bag.{Counts, bag_at}
use Rattle.dv_bag.specs.Bags.{AreWithin, RiseFrom, bag_in, by_port}
use Rattle.dv_bag.specs.Sent.{pairs_at}
use Rattle.dv_bag.specs.declared.bags.PortBag.{PortBag}
use Rattle.dv_bag.specs.declared.sent.Sending.{Sending}
use Rattle.dv_bag.proofs.PortBags.{bag_of_port, ports_rise, standing_bag}
use Rattle.dv_conservative.specs.Links.{Delivery, Link, carried, carried_by}
use Rattle.dv_share.specs.Links.{RiseByPort, pairs_of}
use Rattle.dv_share.specs.Rows.{carried_each}
use Rattle.dv_share.proofs.Indices.{differ}
use Rattle.dv_share.proofs.Ranges.{part_is_filter}
use Rattle.dv_share.proofs.Rising.{Rise, rise_of}
use Rattle.dv_share.proofs.Sends.{pairs_are}

-- a port comes before the next one at which something stands, if there is one
abbrev pub is_below : Option ℕ → ℕ → Bool
is_below None port = true
is_below (Some next) port = nat_lt port next

below : (p q : ℕ) → p < q → nat_lt p q ≡ true
below p q lt = elim (cases_Bool (nat_lt p q)) [
  | inl less ↦ less
  | inr not ↦ absurd (omega (arith, lt, ltb-false p q not))
]

not_below : (p q : ℕ) → q ≤ p → nat_lt p q ≡ false
not_below p q le = elim (cases_Bool (nat_lt p q)) [
  | inl less ↦ absurd (omega (arith, le, ltb-true p q less))
  | inr not ↦ not
]

-- by what stands at the ports
module _ (bags : List Counts) where
  abbrev pub carried_below : Option ℕ → List Link → List Delivery
  carried_below next ls = carried (filter (λ l. is_below next l.from_port) ls) (λ k. bags)

  abbrev pub carried_at : ℕ → List Link → List Delivery
  carried_at p ls = carried (filter (λ l. nat_eq l.from_port p) ls) (λ k. bags)

  every_link : (ls : List Link) → filter (λ l. is_below None l.from_port) ls ≡ ls
  every_link [] = refl
  every_link (l ∷ ls) = ap (λ (rest : List Link). l ∷ rest) (every_link ls)

  pub all_below : (ls : List Link) → carried_below None ls ≡ carried ls (λ k. bags)
  all_below ls = ap (λ (links : List Link). carried links (λ k. bags)) (every_link ls)

  -- where nothing stands at the ports before the next one, nothing is carried
  pub none_below : (next : Option ℕ) (ls : List Link) → ((x : ℕ) → is_below next x ≡ true → bag_at bags x ≡ []) → carried_below next ls ≡ []
  none_below next [] silent = refl
  none_below next (l ∷ ls) silent = elim (cases_Bool (is_below next l.from_port)) [
    | inl early ↦ rw (early, silent l.from_port early) (none_below next ls silent)
    | inr late ↦ rw late (none_below next ls silent)
  ]

  none_before : (p low : ℕ) (ls : List Link) → Rise (λ (l : Link). l.from_port) low ls → p ≤ low → carried_below (Some p) ls ≡ []
  none_before p low [] rise le = refl
  none_before p low (l ∷ ls) rise le =
      rw (not_below l.from_port p (omega (arith, le, rise.0))) (none_before p l.from_port ls rise.1 (omega (arith, le, rise.0)))

  -- one port more, behind which nothing stands before the next one
  pub port_more : (p low : ℕ) (next : Option ℕ) (ls : List Link) → Rise (λ (l : Link). l.from_port) low ls →
      ((x : ℕ) → x ≤ p → is_below next x ≡ true) → ((x : ℕ) → p < x → is_below next x ≡ true → bag_at bags x ≡ []) →
      carried_below next ls ≡ carried_below (Some p) ls ++ carried_at p ls
  port_more p low next [] rise early silent = refl
  port_more p low next (l ∷ ls) rise early silent =
      let rest = port_more p l.from_port next ls rise.1 early silent in
      elim (cases_lt l.from_port p) [
        | inl lt ↦
            rw (early l.from_port (omega (arith, lt)), below l.from_port p lt, differ l.from_port p (λ e. absurd (omega (arith, e, lt))))
            (ap (λ (ds : List Delivery). carried_by l (bag_at bags l.from_port) ++ ds) rest
            ∙ sym (append_assoc (carried_by l (bag_at bags l.from_port)) (carried_below (Some p) ls) (carried_at p ls)))
        | inr ge ↦
            let only = rest ∙ ap (λ (ds : List Delivery). ds ++ carried_at p ls) (none_before p l.from_port ls rise.1 ge) in
            let none = none_before p l.from_port (l ∷ ls) (omega arith, rise.1) ge in
            behind ge only ∙ ap (λ (ds : List Delivery). ds ++ carried_at p (l ∷ ls)) (sym none)
      ]
    where
      behind : p ≤ l.from_port → carried_below next ls ≡ carried_at p ls → carried_below next (l ∷ ls) ≡ carried_at p (l ∷ ls)
      behind ge only = elim (cases_lt p l.from_port) [
        | inr le ↦
            let same : l.from_port ≡ p = omega (arith, ge, le) in
            rw (early l.from_port le, eq-eqb l.from_port p same)
            (ap (λ (ds : List Delivery). carried_by l (bag_at bags l.from_port) ++ ds) only)
        | inl gt ↦ elim (cases_Bool (is_below next l.from_port)) [
          | inl before ↦
              rw (before, silent l.from_port gt before, differ l.from_port p (λ e. absurd (omega (arith, e, gt)))) only
          | inr late ↦ rw (late, differ l.from_port p (λ e. absurd (omega (arith, e, gt)))) only
        ]
      ]

  -- links of one port carry its bag
  pub each_carries : (p : ℕ) (ls : List Link) →
      carried_each (filter (λ l. nat_eq l.from_port p) ls) (bag_at bags p) ≡ carried_at p ls
  each_carries p [] = refl
  each_carries p (l ∷ ls) = elim (cases_Bool (nat_eq l.from_port p)) [
    | inl here ↦
        rw here
        (ap (λ (b : Counts). carried_by l b ++ carried_each (filter (λ l. nat_eq l.from_port p) ls) (bag_at bags p))
        (sym (ap (bag_at bags) (eqb-true l.from_port p here)))
        ∙ ap (λ (ds : List Delivery). carried_by l (bag_at bags l.from_port) ++ ds) (each_carries p ls))
    | inr there ↦ rw there (each_carries p ls)
  ]

-- lists in the order of ports
module _ {X : Type 0} (port : X → ℕ) (xs : List X) where
  abbrev pub next_port : ℕ → Option ℕ
  next_port i = option_map port (slice_get xs i)

  abbrev pub NoneAt : ℕ → Type 0
  NoneAt x = (i : ℕ) (d : X) → i < length xs → port (get_or xs i d) ≡ x → ⊥

  -- all ports before an index are below the one there
  abbrev pub ArePartedAt : ℕ → Type 0
  ArePartedAt i = (k : ℕ) (d : X) → k < i → i < length xs → port (get_or xs k d) < port (get_or xs i d)

  pub parted_on : (p start end : ℕ) → ArePartedAt start → start < length xs → ((d : X) → port (get_or xs start d) ≡ p) →
      AllWithin (λ s. port s ≡ p) xs start end → AllWithin (λ s. p < port s) xs end (length xs) → ArePartedAt end
  parted_on p start end parted early at there behind k d lt within = elim (cases_lt k start) [
    | inl less ↦
        let low = parted k d less early in
        omega (arith, low, at d, behind end d (omega arith) within)
    | inr ge ↦ omega (arith, there k d ge lt, behind end d (omega arith) within)
  ]

  pub is_next : (i : ℕ) (d : X) → i < length xs → next_port i ≡ Some (port (get_or xs i d))
  is_next i d lt = ap (option_map port) (slice_get-get_or xs i d lt)

  before_next : (i x : ℕ) (d : X) → i < length xs → is_below (next_port i) x ≡ true → x < port (get_or xs i d)
  before_next i x d lt is = ltb-true x _ (sym (ap (λ (o : Option ℕ). is_below o x) (is_next i d lt)) ∙ is)

  pub no_next : (i : ℕ) → length xs ≤ i → next_port i ≡ None
  no_next i ge = ap (option_map port) (slice_get_past xs i ge)

  -- what comes before a port is before the next one
  pub reached : (p x end : ℕ) → AllWithin (λ s. p < port s) xs end (length xs) → x ≤ p → is_below (next_port end) x ≡ true
  reached p x end behind le = elim (cases_lt end (length xs)) [
    | inr ge ↦ ap (λ (o : Option ℕ). is_below o x) (no_next end ge)
    | inl lt ↦ at_end (slice_get xs end) refl lt
  ]
    where
      at_end : (o : Option X) → slice_get xs end ≡ o → end < length xs → is_below (next_port end) x ≡ true
      at_end None e lt = ap (λ (q : Option X). is_below (option_map port q) x) e
      at_end (Some s) e lt =
          let later = behind end s (omega arith) lt in
          ap (λ (o : Option ℕ). is_below o x) (is_next end s lt) ∙ below x (port (get_or xs end s)) (omega (arith, later, le))

  module _ (sorted : IsNonDecreasingBy port xs) where
    pub none_first : (x : ℕ) → is_below (next_port 0) x ≡ true → NoneAt x
    none_first x is i d lt same =
        let first = before_next 0 x d (omega (arith, lt)) is in
        let rises = sorted 0 i d (omega arith) lt in
        omega (arith, first, rises, same)

    pub none_between : (p start end x : ℕ) → start < length xs → ((d : X) → port (get_or xs start d) ≡ p) →
        AllWithin (λ s. port s ≡ p) xs start end → p < x → is_below (next_port end) x ≡ true → NoneAt x
    none_between p start end x within at there gt is i d lt same = elim (cases_lt i start) [
      | inl less ↦
          let rises = sorted i start d (omega (arith, less)) within in
          omega (arith, rises, at d, gt, same)
      | inr from ↦ elim (cases_lt i end) [
        | inl less ↦ omega (arith, there i d from less, gt, same)
        | inr behind ↦
            let first = before_next end x d (omega (arith, behind, lt)) is in
            let rises = sorted end i d behind lt in
            omega (arith, first, rises, same)
      ]
    ]

-- nothing is sent or stands at a port of which nothing is
pub no_pairs : (x : ℕ) (ss : List Sending) → NoneAt (λ (s : Sending). s.port) ss x → pairs_at x ss ≡ []
no_pairs x [] none = refl
no_pairs x (s ∷ ss) none =
    rw (differ s.port x (none 0 s (omega arith))) (no_pairs x ss (λ i d lt. none (suc i) d (omega (arith, lt))))

pub no_bag : (x : ℕ) (hs : List PortBag) → NoneAt (λ (h : PortBag). h.port) hs x → bag_in x hs ≡ []
no_bag x [] none = refl
no_bag x (h ∷ hs) none =
    rw (differ h.port x (none 0 h (omega arith))) (no_bag x hs (λ i d lt. none (suc i) d (omega (arith, lt))))

-- what links carry of what was sent at one port more
pub sent_step : (sent : List Counts) (ss : List Sending) (ls : List Link) (p start end : ℕ) (none : Sending) →
    RiseByPort ls → IsNonDecreasingBy (λ (s : Sending). s.port) ss → ArePartedAt (λ (s : Sending). s.port) ss start →
    ((port : ℕ) → pairs_at port ss ≡ bag_at sent port) →
    start < length ss → ((d : Sending) → (get_or ss start d).port ≡ p) → start ≤ end → end ≤ length ss →
    AllWithin (λ (s : Sending). s.port ≡ p) ss start end → AllWithin (λ (s : Sending). p < s.port) ss end (length ss) →
    carried_below sent (next_port (λ (s : Sending). s.port) ss end) ls
    ≡ carried_below sent (next_port (λ (s : Sending). s.port) ss start) ls
    ++ carried_each (filter (λ l. nat_eq l.from_port p) ls) (pairs_of (slice_range ss start end))
sent_step sent ss ls p start end none rise sorted parted bags within at order bound there behind =
    let port : Sending → ℕ = λ s. s.port in
    let next = next_port port ss in
    let run = part_is_filter (λ (s : Sending). nat_eq s.port p) start end ss order bound
    (λ i d le lt. differ (get_or ss i d).port p (λ e. let low = parted i d lt within in omega (arith, e, low, at d)))
    (λ i d le lt. eq-eqb (get_or ss i d).port p (there i d le lt))
    (λ i d le lt. differ (get_or ss i d).port p (λ e. absurd (omega (arith, e, behind i d le lt)))) in
    port_more sent p 0 (next end) ls (rise_of (λ (l : Link). l.from_port) ls rise)
    (λ x le. reached port ss p x end behind le)
    (λ x gt is. sym (bags x) ∙ no_pairs x ss (none_between port ss sorted p start end x within at there gt is))
    ∙ ap (λ (o : Option ℕ). carried_below sent o ls ++ carried_at sent p ls)
    (sym (is_next port ss start none within ∙ ap (λ (q : ℕ). Some q) (at none)))
    ∙ ap (λ (ds : List Delivery). carried_below sent (next start) ls ++ ds)
    (sym (each_carries sent p ls)
    ∙ ap (carried_each (filter (λ l. nat_eq l.from_port p) ls)) (sym (bags p) ∙ sym (pairs_are p ss) ∙ ap pairs_of (sym run)))

-- what links carry of what comes at one port more
module _ (outside : List Counts) (hs : List PortBag) (are : by_port (length outside) hs ≡ outside)
    (within : AreWithin (length outside) hs) (rise : RiseFrom 0 hs) where
  abbrev port : PortBag → ℕ
  port h = h.port

  held_sorted : IsNonDecreasingBy port hs
  held_sorted i j d le lt = elim (cases_lt i j) [
    | inl less ↦ let rises = ports_rise 0 i j hs d rise less lt in omega (arith, rises)
    | inr more ↦ let same : port (get_or hs i d) ≡ port (get_or hs j d) = ap (λ (k : ℕ). port (get_or hs k d)) (omega arith) in omega arith
  ]

  bag_held : (x : ℕ) → bag_at outside x ≡ bag_in x hs
  bag_held x = ap (λ (bags : List Counts). bag_at bags x) (sym are) ∙ bag_of_port (length outside) x hs within

  pub none_held : (ls : List Link) → carried_below outside (next_port port hs 0) ls ≡ []
  none_held ls = none_below outside (next_port port hs 0) ls
      (λ x is. bag_held x ∙ no_bag x hs (none_first port hs held_sorted x is))

  pub held_step : (ls : List Link) (i : ℕ) (h : PortBag) → RiseByPort ls → i < length hs → h ≡ get_or hs i h →
      carried_below outside (next_port port hs (i + 1)) ls
      ≡ carried_below outside (next_port port hs i) ls ++ carried_each (filter (λ l. nat_eq l.from_port h.port) ls) h.bag
  held_step ls i h rises early is =
      let here : (d : PortBag) → port (get_or hs i d) ≡ h.port
      = λ d. ap port (get_or_from_slice_get hs i (get_or hs i h) d (slice_get-get_or hs i h early) ∙ sym is) in
      let bag : bag_at outside h.port ≡ h.bag
      = bag_held h.port ∙ standing_bag 0 h.port i hs h rise (early, here) ∙ ap (λ (g : PortBag). g.bag) (sym is) in
      port_more outside h.port 0 (next_port port hs (i + 1)) ls (rise_of (λ (l : Link). l.from_port) ls rises)
      (λ x le. reached port hs h.port x (i + 1)
      (λ k d from lt. let up = ports_rise 0 i k hs d rise (omega (arith, from)) lt in omega (arith, up, here d)) le)
      (λ x gt below. bag_held x ∙ no_bag x hs (none_between port hs held_sorted h.port i (i + 1) x early here
      (λ k d from lt. ap (λ (j : ℕ). port (get_or hs j d)) (let same : k ≡ i = omega (arith, from, lt) in same) ∙ here d) gt below))
      ∙ ap (λ (o : Option ℕ). carried_below outside o ls ++ carried_at outside h.port ls)
      (sym (is_next port hs i h early ∙ ap (λ (q : ℕ). Some q) (here h)))
      ∙ ap (λ (ds : List Delivery). carried_below outside (next_port port hs i) ls ++ ds)
      (sym (each_carries outside h.port ls) ∙ ap (carried_each (filter (λ l. nat_eq l.from_port h.port) ls)) bag)
