-- What comes from outside and leads to no component of a share makes no difference to it.
use Rattle.std.proofs.Common.{◌≡◌, ◌⊎◌, ℕ, zero, suc, ◌+◌, ◌*◌, ◌<◌, ◌≤◌, Bool, true, false, ◌&&◌, ◌||◌, cond, nat_eq, nat_le}
use Rattle.std.proofs.Common.{nat_lt, List, [], ◌∷◌, ◌++◌, map, filter, inl, inr, refl, ap, sym, ◌∙◌, arith}
use Rattle.std.specs.List.{AllByRecursion}
use Rattle.std.proofs.Math.Nat.{mul-zero}
use Rattle.std.proofs.lemmas.Bool.{and_parts, cases_Bool, cases_lt, eq-eqb, eqb-true, false≢true}
use Rattle.std.proofs.lemmas.Bool.Decides.{nat_tests}
use Rattle.dv_time.specs.Time.{micro_of, tick_of, time_of}
use Rattle.dv_time.specs.declared.time.Time.{Time}
use Rattle.dv_bag.specs.Bag.{Counts, bag_at, capped, with_copies}
use Rattle.dv_bag.specs.Inputs.{bags_from, inputs_at, is_at, values_into}
use Rattle.dv_bag.specs.declared.inputs.Input.{Input}
use Rattle.dv_devs.specs.Behaviour.{Behaviour}
use Rattle.dv_devs.specs.Inputs.{ArriveAlike}
use Rattle.dv_conservative.proofs.Delivered.{delivered-append}
use Rattle.dv_conservative.specs.Flat.{Flat, Member, network, numbers, received}
use Rattle.dv_conservative.specs.Links.{Delivery, Link, carried, carried_by, delivered, inbox, sent_of}
use Rattle.dv_conservative.specs.Process.{is_port_of}
use Rattle.dv_share.specs.Share.{member_by}
use Rattle.dv_share.specs.declared.tables.Member.{Member as MemberOfCode}
use Rattle.dv_plan.specs.Steps.{comes_here, is_led, is_port, leads, led_inputs}
use Rattle.dv_plan.proofs.Lists.{all_weaken}

-- the ports of components, as the theory has them
pub same_port : {S : Type 0} (behaviour : S → Behaviour) (limit : ℕ) (models : List S) (ms : List MemberOfCode) (k port : ℕ) →
    is_port ms k port ≡ is_port_of (map (member_by behaviour limit models) ms) k port
same_port behaviour limit models [] k port = refl
same_port behaviour limit models (m ∷ ms) k port =
    ap (λ b. (nat_eq m.number k && nat_lt port m.inputs) || b) (same_port behaviour limit models ms k port)

or_true : (a b : Bool) → b ≡ true → (a || b) ≡ true
or_true true b h = refl
or_true false b h = h

and_false : (a b : Bool) → b ≡ false → (a && b) ≡ false
and_false true b h = h
and_false false b h = refl

-- the bag of a port at a time, of whose inputs then none is left out
module _ (t : Time) (test : Input → Bool) where
  values_kept : (port : ℕ) → ((i : Input) → is_at t i ≡ true → i.port ≡ port → test i ≡ true) → (inputs : List Input) (b : Counts) →
      values_into t port (filter test inputs) b ≡ values_into t port inputs b
  values_kept port passes [] b = refl
  values_kept port passes (i ∷ inputs) b = by_test (test i) refl (values_kept port passes inputs)
    where
      missed : test i ≡ false → (is_at t i && nat_eq i.port port) ≡ false
      missed e = elim (cases_Bool (is_at t i)) [
        | inr f ↦ ap (λ (a : Bool). a && nat_eq i.port port) f
        | inl here ↦ elim (cases_Bool (nat_eq i.port port)) [
          | inl u ↦ let same : i.port ≡ port = eqb-true i.port port u in absurd (false≢true (sym e ∙ passes i here same))
          | inr f ↦ and_false (is_at t i) (nat_eq i.port port) f
        ]
      ]

      by_test : (c : Bool) → test i ≡ c → ((d : Counts) → values_into t port (filter test inputs) d ≡ values_into t port inputs d) →
          values_into t port (cond c (i ∷ filter test inputs) (filter test inputs)) b ≡ values_into t port (i ∷ inputs) b
      by_test true e rest = rest (cond (is_at t i && nat_eq i.port port) (with_copies i.value 1 b) b)
      by_test false e rest =
          rest b ∙ ap (λ (c : Bool). values_into t port inputs (cond c (with_copies i.value 1 b) b)) (sym (missed e))

  same_bag : (first ports k : ℕ) (inputs : List Input) →
      (k < ports → (i : Input) → is_at t i ≡ true → i.port ≡ first + k → test i ≡ true) →
      bag_at (bags_from first ports (filter test inputs) t) k ≡ bag_at (bags_from first ports inputs t) k
  same_bag first zero k inputs h = refl
  same_bag first (suc ports) zero inputs h =
      let here : first + 0 ≡ first = omega arith in
      values_kept first (λ i a e. h (omega arith) i a (e ∙ sym here)) inputs []
  same_bag first (suc ports) (suc k) inputs h =
      let moved : first + 1 + k ≡ first + suc k = omega arith in
      same_bag (first + 1) ports k inputs (λ lt i a e. h (omega (arith, lt)) i a (e ∙ moved))

bag_of_rank : (test : Input → Bool) (limit ports k n : ℕ) (inputs : List Input) →
    (k < ports → (i : Input) → is_at (time_of limit n) i ≡ true → i.port ≡ k → test i ≡ true) →
    bag_at (inputs_at limit ports (filter test inputs) n) k ≡ bag_at (inputs_at limit ports inputs n) k
bag_of_rank test limit ports k n inputs h =
    let start : 0 + k ≡ k = omega arith in
    same_bag (time_of limit n) test 0 ports k inputs (λ lt i a e. h lt i a (e ∙ start))

-- an input at a rank is at a time of the run
within_limit : (limit n : ℕ) (i : Input) → is_at (time_of limit n) i ≡ true → nat_le i.time.micro limit ≡ true
within_limit limit n i e =
    let both = and_parts (nat_eq i.time.tick (tick_of limit n)) (nat_eq i.time.micro (micro_of limit n)) e in
    let same = eqb-true i.time.micro (micro_of limit n) both.1 in
    let within : i.time.micro ≤ limit = omega (arith, same) in
    grind (arith, nat_tests)

module _ (k port : ℕ) where
  -- a link to another port brings nothing
  passed : (l : Link) (bag b : Counts) → (nat_eq l.to k && nat_eq l.to_port port) ≡ false → delivered k port (carried_by l bag) b ≡ b
  passed l [] b e = refl
  passed l (p ∷ ps) b e = rw e (passed l ps b e)

  -- and neither does one without copies
  no_copies : (l : Link) (bag b : Counts) → l.copies ≡ 0 → delivered k port (carried_by l bag) b ≡ b
  no_copies l [] b e = refl
  no_copies l (p ∷ ps) b e =
      let times : p.1 * l.copies ≡ 0 = ap (λ n. p.1 * n) e ∙ mul-zero p.1 in
      let none : capped (p.1 * l.copies) ≡ 0 = omega (arith, times) in
      ap (λ n. cond (nat_eq l.to k && nat_eq l.to_port port) (with_copies p.0 n (delivered k port (carried_by l ps) b))
      (delivered k port (carried_by l ps) b)) none
      ∙ by_test (nat_eq l.to k && nat_eq l.to_port port)
      ∙ no_copies l ps b e
    where
      by_test : (t : Bool) → cond t (with_copies p.0 0 (delivered k port (carried_by l ps) b)) (delivered k port (carried_by l ps) b)
          ≡ delivered k port (carried_by l ps) b
      by_test true = refl
      by_test false = refl

  -- one that leads to none of the components brings none of them anything
  nowhere : (ms : List MemberOfCode) (l : Link) (bag b : Counts) → is_port ms k port ≡ true → leads ms l ≡ false
      → delivered k port (carried_by l bag) b ≡ b
  nowhere ms l bag b there idle = elim (cases_Bool (nat_eq l.to k && nat_eq l.to_port port)) [
    | inr f ↦ passed l bag b f
    | inl t ↦
        let both = both_true (nat_eq l.to k) (nat_eq l.to_port port) t in
        let to : l.to ≡ k = by_eqb l.to k both.0 in
        let at : l.to_port ≡ port = by_eqb l.to_port port both.1 in
        let led : is_port ms l.to l.to_port ≡ true = ap (λ j. is_port ms j l.to_port) to ∙ ap (is_port ms k) at ∙ there in
        no_copies l bag b (none l.copies (is_port ms l.to l.to_port) led idle)
  ]
    where
      both_true : (a c : Bool) → (a && c) ≡ true → (a ≡ true) × (c ≡ true)
      both_true true c h = (refl, h)
      both_true false c h = absurd (false≢true h)

      by_eqb : (i j : ℕ) → nat_eq i j ≡ true → i ≡ j
      by_eqb i j h = grind (arith, nat_tests)

      none : (n : ℕ) (c : Bool) → c ≡ true → (nat_lt 0 n && c) ≡ false → n ≡ 0
      none n c h e = elim (cases_lt 0 n) [
        | inl lt ↦ let some : nat_lt 0 n ≡ true = grind (arith, nat_tests) in absurd (false≢true (sym e ∙ ap (λ t. t && c) some ∙ h))
        | inr le ↦ omega (arith, le)
      ]

  -- bags that are the same wherever a link leads bring the same
  module _ (one other : List Counts) where
    abbrev pub Agrees : Link → Type 0
    Agrees l = (bag_at one l.from_port ≡ bag_at other l.from_port) ⊎ ((bag b : Counts) → delivered k port (carried_by l bag) b ≡ b)

    pub carried_same : (ls : List Link) → AllByRecursion Agrees ls → (b : Counts) →
        delivered k port (carried ls (λ j. one)) b ≡ delivered k port (carried ls (λ j. other)) b
    carried_same [] h b = refl
    carried_same (l ∷ ls) h b =
        delivered-append k port (carried_by l (bag_at one l.from_port)) (carried ls (λ j. one)) b
        ∙ by_link h.0 (carried_same ls h.1 b)
        ∙ sym (delivered-append k port (carried_by l (bag_at other l.from_port)) (carried ls (λ j. other)) b)
      where
        by_link : Agrees l → delivered k port (carried ls (λ j. one)) b ≡ delivered k port (carried ls (λ j. other)) b →
            delivered k port (carried_by l (bag_at one l.from_port)) (delivered k port (carried ls (λ j. one)) b)
            ≡ delivered k port (carried_by l (bag_at other l.from_port)) (delivered k port (carried ls (λ j. other)) b)
        by_link (inl e) rest =
            ap (λ (bag : Counts). delivered k port (carried_by l bag) (delivered k port (carried ls (λ j. one)) b)) e
            ∙ ap (delivered k port (carried_by l (bag_at other l.from_port))) rest
        by_link (inr f) rest =
            f (bag_at one l.from_port) (delivered k port (carried ls (λ j. one)) b) ∙ rest
            ∙ sym (f (bag_at other l.from_port) (delivered k port (carried ls (λ j. other)) b))

-- where a link leads to one of the components, its port is led
all_led : (ms : List MemberOfCode) (ls : List Link) → AllByRecursion (λ (l : Link). leads ms l ≡ true → is_led ms ls l.from_port ≡ true) ls
all_led ms [] = tt
all_led ms (l ∷ ls) = (
  λ e. rw (eq-eqb l.from_port l.from_port refl, e) refl,
  all_weaken (λ (x : Link). leads ms x ≡ true → is_led ms ls x.from_port ≡ true)
      (λ (x : Link). leads ms x ≡ true → is_led ms (l ∷ ls) x.from_port ≡ true)
      (λ x h e. or_true (nat_eq l.from_port x.from_port && leads ms l) (is_led ms ls x.from_port) (h e)) ls (all_led ms ls),
)

inbox_same : (k : ℕ) (ds es : List Delivery) (n port : ℕ) →
    ((q : ℕ) → port ≤ q → q < port + n → delivered k q ds [] ≡ delivered k q es []) → inbox k ds port n ≡ inbox k es port n
inbox_same k ds es zero port h = refl
inbox_same k ds es (suc n) port h =
    let here = h port (omega arith) (omega arith) in
    let rest = inbox_same k ds es n (port + 1) (λ q low high. h q (omega (arith, low)) (omega (arith, high))) in cc

received_same : (ms : List Member) (ds es : List Delivery) →
    ((k q : ℕ) → is_port_of ms k q ≡ true → delivered k q ds [] ≡ delivered k q es []) → received ms ds ≡ received ms es
received_same [] ds es h = refl
received_same (m ∷ ms) ds es h =
    let here = inbox_same m.number ds es m.ports 0 (λ q low high. h m.number q (own q (omega (arith, high)))) in
    let rest = received_same ms ds es (λ k q e. h k q (or_true (nat_eq m.number k && nat_lt q m.ports) (is_port_of ms k q) e)) in cc
  where
    own : (q : ℕ) → q < m.ports → is_port_of (m ∷ ms) m.number q ≡ true
    own q lt =
        let below : nat_lt q m.ports ≡ true = grind (arith, nat_tests) in
        rw (eq-eqb m.number m.number refl, below) refl

-- of the inputs, those that lead to a component bring a share what all bring
module _ (f : Flat) (ms : List MemberOfCode) (same : (k q : ℕ) → is_port ms k q ≡ is_port_of f.members k q)
    (limit ports : ℕ) (inputs : List Input) (n : ℕ) where
  abbrev few : List Counts
  few = inputs_at limit ports (led_inputs limit ports ms f.entrances inputs) n

  abbrev all : List Counts
  all = inputs_at limit ports inputs n

  led_port : (q : ℕ) → is_led ms f.entrances q ≡ true → bag_at few q ≡ bag_at all q
  led_port q led =
      bag_of_rank (comes_here limit ports ms f.entrances) limit ports q n inputs (λ lt i a e.
      let below : nat_lt i.port ports ≡ true = grind (arith, nat_tests) in
      rw (within_limit limit n i a, below) (ap (is_led ms f.entrances) e ∙ led))

  agree : (k q : ℕ) → is_port ms k q ≡ true → AllByRecursion (Agrees k q few all) f.entrances
  agree k q there =
      all_weaken (λ (l : Link). leads ms l ≡ true → is_led ms f.entrances l.from_port ≡ true) (Agrees k q few all)
      (λ l h. by_leads l h) f.entrances (all_led ms f.entrances)
    where
      by_leads : (l : Link) → (leads ms l ≡ true → is_led ms f.entrances l.from_port ≡ true) → Agrees k q few all l
      by_leads l h = elim (cases_Bool (leads ms l)) [
        | inl t ↦ inl (led_port l.from_port (h t))
        | inr e ↦ inr (λ bag b. nowhere k q ms l bag b there e)
      ]

  pub arrive_led : (ds : List Delivery) → ArriveAlike (network f) (few, ds) (all, ds)
  arrive_led ds sent =
      let rest = carried f.links (sent_of (numbers f.members) sent) ++ ds in
      received_same f.members (carried f.entrances (λ j. few) ++ rest) (carried f.entrances (λ j. all) ++ rest) (λ k q there.
      delivered-append k q (carried f.entrances (λ j. few)) rest []
      ∙ carried_same k q few all f.entrances (agree k q (same k q ∙ there)) (delivered k q rest [])
      ∙ sym (delivered-append k q (carried f.entrances (λ j. all)) rest []))
