-- What the output functions at the due indices give is what all components send.
use Rattle.std.proofs.Common.{◌≡◌, inl, inr, ℕ, zero, suc, ◌+◌, ◌<◌, true, false, List, [], ◌∷◌, length, get_or, map, take}
use Rattle.std.proofs.Common.{Option, Some, Result, Ok, Err, IsTrue, refl, sym, ap, ◌∙◌, subst, arith}
use Rattle.std.specs.List.{All, slice_get}
use Rattle.std.specs.Option.{unwrap_or}
use Rattle.dv_bag.specs.Bag.{Counts}
use Rattle.dv_bag.specs.declared.fault.Fault.{Fault}
use Rattle.dv_devs.specs.Behaviour.{Behaviour, Component, emission, is_imminent}
use Rattle.dv_devs.specs.Network.{emissions, sent_by}
use Rattle.dv_react.specs.Components.{component_of, components_of}
use Rattle.dv_react.specs.Outcomes.{sent_of}
use Rattle.dv_react.specs.declared.running.Running.{Running}
use Rattle.dv_react.specs.declared.wait.Wait.{Wait}
use Rattle.dv_react.specs.declared.wait.Wait.TheVariants.{Until, Forever, Quiet}
use Rattle.dv_conservative.specs.Flat.{behaviours}
use Rattle.dv_share.specs.Indices.{AreRising, RiseFrom, found, is_in, indices_of}
use Rattle.dv_share.specs.Share.{AreDue, AreEmitted, StandByIndex, behaviour_of, given_at, member_by, sents_by}
use Rattle.dv_share.specs.declared.index.Indexed.{Indexed}
use Rattle.dv_share.specs.declared.tables.Member.{Member}
use Rattle.dv_share.specs.declared.tables.Tables.{Tables}
use Rattle.dv_share.proofs.Indices.{all_first, all_rest, found_all, found_none, some_or_none, yes_or_no}

-- what a component's output function gave, at its index
abbrev pub IsGiven : {S : Type 0} → (S → Behaviour) → Tables S → ℕ → List Running → ℕ → Result (List Counts) Fault → Type 0
IsGiven behaviour t now rs p w =
    (m : Member) (r : Running) → slice_get t.members.items p ≡ Some m → slice_get rs p ≡ Some r
    → w ≡ emission (behaviour_of behaviour (slice_get t.models.items m.model)) now (component_of t.limit r)

-- one that is quiet is not imminent, so what is sent is what was given
loud_sends : (c : Component) (r : Result (List Counts) Fault) → c.quiet ≡ false → sent_by c r ≡ sent_of r
loud_sends c (Ok bags) e = rw e refl
loud_sends c (Err f) e = refl

sent_is : (limit now : ℕ) (b : Behaviour) (r : Running) → sent_by (component_of limit r) (emission b now (component_of limit r))
    ≡ sent_of (emission b now (component_of limit r))
sent_is limit now b r = by_wait r.wait
  where
    with_wait : Wait → Running
    with_wait w = record { state = r.state; last = r.last; wait = w }

    by_wait : (w : Wait) → sent_by (component_of limit (with_wait w)) (emission b now (component_of limit (with_wait w)))
        ≡ sent_of (emission b now (component_of limit (with_wait w)))
    by_wait (Until t) = loud_sends (component_of limit (with_wait (Until t))) (emission b now (component_of limit (with_wait (Until t))))
        refl
    by_wait Forever = refl
    by_wait Quiet = refl

-- what is so of each image
pub all_map : {X Y : Type 0} (f : X → Y) (P : Y → Type 0) (xs : List X) → All P (map f xs) → All (λ x. P (f x)) xs
all_map f P [] h = λ k d lt. absurd (omega (arith, lt))
all_map f P (x ∷ xs) h = λ k d lt. by_index (all_map f P xs (all_rest P (f x) (map f xs) h)) k d lt
  where
    by_index : All (λ x. P (f x)) xs → (k : ℕ) (d : _) → k < length (x ∷ xs) → P (f (get_or (x ∷ xs) k d))
    by_index rest zero d lt = all_first P (f x) (map f xs) h
    by_index rest (suc k) d lt = rest k d (omega (arith, lt))

pub map_all : {X Y : Type 0} (f : X → Y) (P : Y → Type 0) (xs : List X) → All (λ x. P (f x)) xs → All P (map f xs)
map_all f P [] h = λ k d lt. absurd (omega (arith, lt))
map_all {X} {Y} f P (x ∷ xs) h = λ k d lt. by_index (map_all f P xs (all_rest (λ x. P (f x)) x xs h)) k d lt
  where
    by_index : All P (map f xs) → (k : ℕ) (d : Y) → k < length (f x ∷ map f xs) → P (get_or (f x ∷ map f xs) k d)
    by_index rest zero d lt = all_first (λ x. P (f x)) x xs h
    by_index rest (suc k) d lt = rest k d (omega (arith, lt))

-- what a component's output function gives, at its index
abbrev pub IsOutput : {S : Type 0} → (S → Behaviour) → Tables S → List Running → ℕ → Result (List Counts) Fault → Type 0
IsOutput behaviour t rs p w =
    (m : Member) (r : Running) → slice_get t.members.items p ≡ Some m → slice_get rs p ≡ Some r
    → w ≡ (behaviour_of behaviour (slice_get t.models.items m.model)).output r.state

-- what the output functions of imminent components give is what the components emit
pub outputs_given : {S : Type 0} (behaviour : S → Behaviour) (t : Tables S) (now : ℕ) (rs : List Running)
    (es : List (Indexed (Result (List Counts) Fault))) (due : List ℕ) → AreDue t.limit now rs due → indices_of es ≡ due
    → All (λ (e : Indexed (Result (List Counts) Fault)). IsOutput behaviour t rs e.index e.what) es
    → All (λ (e : Indexed (Result (List Counts) Fault)). IsGiven behaviour t now rs e.index e.what) es
outputs_given {S} behaviour t now rs es due are_due same outputs = λ k d lt m r at-m at-r.
    let soon : is_imminent now (component_of t.limit r) ≡ true = imminent k d lt r at-r in
    outputs k d lt m r at-m at-r ∙ rw soon refl
  where
    IsImminent : ℕ → Type 0
    IsImminent p = (r : Running) → slice_get rs p ≡ Some r → is_imminent now (component_of t.limit r) ≡ true

    imminent : All (λ (e : Indexed (Result (List Counts) Fault)). IsImminent e.index) es
    imminent =
        all_map (λ (e : Indexed (Result (List Counts) Fault)). e.index) IsImminent es
        (subst (λ (ps : List ℕ). All IsImminent ps) (sym same) are_due.only)

module _ {S : Type 0} (behaviour : S → Behaviour) (limit now : ℕ) (models : List S) (es : List (Indexed (Result (List Counts) Fault))) where
  emissions_are : (q : ℕ) (ms : List Member) (rs : List Running) → length rs ≡ length ms →
      ((p : ℕ) (m : Member) (r : Running) → slice_get ms p ≡ Some m → slice_get rs p ≡ Some r →
      given_at (q + p) es ≡ emission (behaviour_of behaviour (slice_get models m.model)) now (component_of limit r)) →
      emissions (behaviours (map (member_by behaviour limit models) ms)) now (components_of limit rs) ≡ sents_by q ms es
  emissions_are q [] rs count h = refl
  emissions_are q (m ∷ ms) [] count h = absurd (omega (arith, count))
  emissions_are q (m ∷ ms) (r ∷ rs) count h =
      let here : given_at q es ≡ emission (behaviour_of behaviour (slice_get models m.model)) now (component_of limit r) =
      (let start : q ≡ q + 0 = omega arith in ap (λ (i : ℕ). given_at i es) start) ∙ h 0 m r refl refl in
      let rest = emissions_are (suc q) ms rs (omega (arith, count))
      (λ p n s at-m at-r.
      let next : suc q + p ≡ q + suc p = omega arith in ap (λ (i : ℕ). given_at i es) next ∙ h (suc p) n s at-m at-r) in
      ap (λ (x : List Counts). x ∷ emissions (behaviours (map (member_by behaviour limit models) ms)) now (components_of limit rs))
      (sent_is limit now (behaviour_of behaviour (slice_get models m.model)) r ∙ sym (ap sent_of here))
      ∙ ap (λ (xs : List (List Counts)). sent_of (given_at q es) ∷ xs) rest

module _ {S : Type 0} (behaviour : S → Behaviour) (t : Tables S) (now : ℕ) (rs : List Running)
    (es : List (Indexed (Result (List Counts) Fault))) (due : List ℕ) where
  pub emitted_all : length rs ≡ length t.members.items → AreDue t.limit now rs due → indices_of es ≡ due →
      All (λ (e : Indexed (Result (List Counts) Fault)). IsGiven behaviour t now rs e.index e.what) es → AreEmitted behaviour t now rs es
  emitted_all count are_due same given = record {
    indices = record {
      rise = subst AreRising (sym same) are_due.rise;
      within = all_map (λ (e : Indexed (Result (List Counts) Fault)). e.index) (λ p. p < length rs) es
          (subst (λ (ps : List ℕ). All (λ p. p < length rs) ps) (sym same) are_due.within);
    };
    imminent = λ p r at soon. subst (λ (ps : List ℕ). IsTrue (is_in p ps)) (sym same) (are_due.imminent p r at soon);
    given = at_index;
    sent =
        emissions_are behaviour t.limit now t.models.items es 0 t.members.items rs count
        (λ p m r at-m at-r. (let start : 0 + p ≡ p = omega arith in ap (λ (i : ℕ). given_at i es) start) ∙ at_index p m r at-m at-r);
  }
    where
      at_index : (p : ℕ) (m : Member) (r : Running) → slice_get t.members.items p ≡ Some m → slice_get rs p ≡ Some r →
          given_at p es ≡ emission (behaviour_of behaviour (slice_get t.models.items m.model)) now (component_of t.limit r)
      at_index p m r at-m at-r = elim (some_or_none (found p es)) [
        | inl w ↦
            ap (λ (o : Option (Result (List Counts) Fault)). unwrap_or o (Ok [])) w.1
            ∙ found_all (IsGiven behaviour t now rs) p w.0 es given w.1 m r at-m at-r
        | inr none ↦
            let out : is_in p due ≡ false = subst (λ (ps : List ℕ). is_in p ps ≡ false) same (found_none p es none) in
            let b = behaviour_of behaviour (slice_get t.models.items m.model) in
            ap (λ (o : Option (Result (List Counts) Fault)). unwrap_or o (Ok [])) none
            ∙ elim (yes_or_no (is_imminent now (component_of t.limit r))) [
              | inl soon ↦ absurd (false_true (sym out ∙ are_due.imminent p r at-r soon))
              | inr not_now ↦ rw not_now refl
            ]
      ]
        where
          false_true : false ≡ true → ⊥
          false_true h = cc

rise_take : (low i : ℕ) (ps : List ℕ) → RiseFrom low ps → RiseFrom low (take i ps)
rise_take low zero [] h = tt
rise_take low zero (p ∷ ps) h = tt
rise_take low (suc i) [] h = tt
rise_take low (suc i) (p ∷ ps) h = (h.0, rise_take (suc p) i ps h.1)

all_take : {X : Type 0} (P : X → Type 0) (i : ℕ) (xs : List X) → All P xs → All P (take i xs)
all_take P zero [] h = h
all_take P (suc i) [] h = h
all_take P zero (x ∷ xs) h = λ k d lt. absurd (omega (arith, lt))
all_take {X} P (suc i) (x ∷ xs) h = by_index (all_take P i xs (all_rest P x xs h))
  where
    by_index : All P (take i xs) → (k : ℕ) (d : X) → k < length (x ∷ take i xs) → P (get_or (x ∷ take i xs) k d)
    by_index rest zero d lt = all_first P x xs h
    by_index rest (suc k) d lt = rest k d (omega (arith, lt))

-- what stands at the first of the indices that are due stands by index
pub first_stand : {X : Type 0} (count i : ℕ) (due : List ℕ) (es : List (Indexed X)) → AreRising due → All (λ p. p < count) due →
    indices_of es ≡ take i due → StandByIndex count es
first_stand {X} count i due es rise within same = record {
  rise = subst AreRising (sym same) (rise_take 0 i due rise);
  within =
      all_map (λ (e : Indexed X). e.index) (λ p. p < count) es
      (subst (λ (ps : List ℕ). All (λ p. p < count) ps) (sym same) (all_take (λ p. p < count) i due within));
}
