-- The lines of a trace, time by time.
use Rattle.std.proofs.Common.{◌≡◌, ℕ, suc, zero, Bool, true, false, cond, List, [], ◌∷◌, ◌++◌}
use Rattle.std.proofs.Common.{refl, sym, ap, ◌∙◌, append_assoc, append-nil, arith}
use Rattle.std.specs.List.{All, AllByRecursion as AllOf, flat_map}
use Rattle.std.proofs.lemmas.List.Elements.{All-head, All-tail}
use Rattle.std.proofs.lemmas.List.Concat.{flat_map-append}
use Rattle.std.specs.Ordering.{is_eq, is_lt, nat_cmp, ordering_then}
use Rattle.std.specs.declared.cmp.Ordering.TheVariants.{Less}
use Rattle.std.proofs.lemmas.Bool.Decides.{nat_tests}
use Rattle.dv_time.specs.declared.time.Time.{Time}
use Rattle.dv_time.specs.Time.{is_before, time_cmp, time_of}
use Rattle.dv_bag.specs.Part.{PartOf, joined}
use Rattle.dv_bag.specs.declared.entry.Entry.{Entry}
use Rattle.dv_bag.specs.declared.entry.Outer.{Outer}
use Rattle.dv_devs.specs.Cuts.{IsAllAt, IsAllBefore}
use Rattle.dv_devs.specs.Network.{Network, components_at, part_of_instant, trace_at, trace_before}
use Rattle.dv_text.specs.Merging.{group_text, groups_before, groups_from, groups_of, lines_by_time, trace_text, with_text}
use Rattle.dv_text.specs.Texts.{ComponentNames, entry_text, instant_text, instants_text, names_at, outer_text, outers_text}

pub AllOf-from_All : {A : Type 0} (P : A → Type 0) (xs : List A) → All P xs → AllOf P xs
AllOf-from_All P [] h = tt
AllOf-from_All P (x ∷ xs) h = (All-head P x xs h, AllOf-from_All P xs (All-tail P x xs h))

pub AllOf-weaker : {A : Type 0} (P Q : A → Type 0) → ((x : A) → P x → Q x) → (xs : List A) → AllOf P xs → AllOf Q xs
AllOf-weaker P Q f [] p = tt
AllOf-weaker P Q f (x ∷ xs) p = (f x p.0, AllOf-weaker P Q f xs p.1)

-- a time before a third, and one that is not
sooner : (a b c : Time) → is_before a c ≡ true → is_before b c ≡ false → is_before a b ≡ true
sooner a b c h k = grind (arith, nat_tests)

not_sooner : (a b c : Time) → is_before a c ≡ true → is_before b c ≡ false → is_before b a ≡ false
not_sooner a b c h k = grind (arith, nat_tests)

apart : (a b c : Time) → is_before a c ≡ true → is_before b c ≡ false → is_eq (time_cmp a b) ≡ false
apart a b c h k = grind (arith, nat_tests)

not_before_itself : (t : Time) → is_before t t ≡ false
not_before_itself t = grind (arith, nat_tests)

equal_itself : (a b : ℕ) → is_eq (ordering_then (nat_cmp a a) (nat_cmp b b)) ≡ true
equal_itself a b = grind (arith, nat_tests)

-- a group is at a time, before it, or not before it
abbrev IsGroupAt : Time → (Time × List ℕ) → Type 0
IsGroupAt t g = g.0 ≡ t

abbrev IsGroupBefore : Time → (Time × List ℕ) → Type 0
IsGroupBefore t g = is_before g.0 t ≡ true

abbrev IsGroupFrom : Time → (Time × List ℕ) → Type 0
IsGroupFrom t g = is_before g.0 t ≡ false

-- what holds of the times of outputs holds of those of their groups
with_text-all : (P : Time → Type 0) (u : Time) (x : List ℕ) (gs : List (Time × List ℕ)) → P u →
    AllOf (λ (g : Time × List ℕ). P g.0) gs → AllOf (λ (g : Time × List ℕ). P g.0) (with_text u x gs)
with_text-all P u x [] h every = (h, tt)
with_text-all P u x (g ∷ gs) h every = one (is_eq (time_cmp u g.0))
  where
    one : (b : Bool) → AllOf (λ (k : Time × List ℕ). P k.0) (cond b ((u, x ++ g.1) ∷ gs) ((u, x) ∷ g ∷ gs))
    one true = (h, every.1)
    one false = (h, every)

groups_of-all : (outputs : List (List ℕ)) (P : Time → Type 0) (os : List Outer) → AllOf (λ (o : Outer). P o.time) os →
    AllOf (λ (g : Time × List ℕ). P g.0) (groups_of outputs os)
groups_of-all outputs P [] every = tt
groups_of-all outputs P (o ∷ os) every =
    with_text-all P o.time (outer_text outputs o) (groups_of outputs os) every.0 (groups_of-all outputs P os every.1)

-- the groups of two lists of outputs, where those of the second are later
with_text-append : (c u : Time) (x : List ℕ) (gs hs : List (Time × List ℕ)) → is_before u c ≡ true → AllOf (IsGroupFrom c) hs →
    with_text u x (gs ++ hs) ≡ with_text u x gs ++ hs
with_text-append c u x [] [] early late = refl
with_text-append c u x [] (k ∷ hs) early late = ap (λ b. cond b ((u, x ++ k.1) ∷ hs) ((u, x) ∷ k ∷ hs)) (apart u k.0 c early late.0)
with_text-append c u x (g ∷ gs) hs early late = one (is_eq (time_cmp u g.0))
  where
    one : (b : Bool) → cond b ((u, x ++ g.1) ∷ (gs ++ hs)) ((u, x) ∷ g ∷ (gs ++ hs)) ≡ cond b ((u, x ++ g.1) ∷ gs) ((u, x) ∷ g ∷ gs) ++ hs
    one true = refl
    one false = refl

groups_of-append : (outputs : List (List ℕ)) (c : Time) (os qs : List Outer) → AllOf (λ (o : Outer). is_before o.time c ≡ true) os →
    AllOf (λ (o : Outer). is_before o.time c ≡ false) qs → groups_of outputs (os ++ qs) ≡ groups_of outputs os ++ groups_of outputs qs
groups_of-append outputs c [] qs early late = refl
groups_of-append outputs c (o ∷ os) qs early late =
    ap (with_text o.time (outer_text outputs o)) (groups_of-append outputs c os qs early.1 late)
    ∙ with_text-append c o.time (outer_text outputs o) (groups_of outputs os) (groups_of outputs qs) early.0
    (groups_of-all outputs (λ t. is_before t c ≡ false) qs late)

-- the group of what leaves at one time
abbrev group_at : List (List ℕ) → Time → List Outer → List (Time × List ℕ)
group_at outputs t [] = []
group_at outputs t (o ∷ os) = (t, flat_map (outer_text outputs) (o ∷ os)) ∷ []

with_text-at : (t : Time) (x y : List ℕ) → with_text t x ((t, y) ∷ []) ≡ (t, x ++ y) ∷ []
with_text-at t x y = ap (λ b. cond b ((t, x ++ y) ∷ []) ((t, x) ∷ (t, y) ∷ [])) (equal_itself t.tick t.micro)

groups_of-at : (outputs : List (List ℕ)) (t : Time) (os : List Outer) → AllOf (λ (o : Outer). o.time ≡ t) os →
    groups_of outputs os ≡ group_at outputs t os
groups_of-at outputs t [] at = refl
groups_of-at outputs t (o ∷ []) at =
    ap (λ (u : Time). (u, outer_text outputs o) ∷ []) at.0 ∙ ap (λ (x : List ℕ). (t, x) ∷ []) (sym (append-nil (outer_text outputs o)))
groups_of-at outputs t (o ∷ p ∷ os) at =
    ap (with_text o.time (outer_text outputs o)) (groups_of-at outputs t (p ∷ os) at.1)
    ∙ ap (λ (u : Time). with_text u (outer_text outputs o) (group_at outputs t (p ∷ os))) at.0
    ∙ with_text-at t (outer_text outputs o) (flat_map (outer_text outputs) (p ∷ os))

group_at-at : (outputs : List (List ℕ)) (t : Time) (os : List Outer) → AllOf (IsGroupAt t) (group_at outputs t os)
group_at-at outputs t [] = tt
group_at-at outputs t (o ∷ os) = (refl, tt)

lines_of_group : (outputs : List (List ℕ)) (t : Time) (os : List Outer) →
    flat_map group_text (group_at outputs t os) ≡ outers_text outputs t os
lines_of_group outputs t [] = refl
lines_of_group outputs t (o ∷ os) = append-nil (outers_text outputs t (o ∷ os))

-- groups that are not before a time wait
groups_before-append : (u : Time) (gs hs : List (Time × List ℕ)) → AllOf (IsGroupFrom u) hs →
    groups_before u (gs ++ hs) ≡ groups_before u gs
groups_before-append u [] [] late = refl
groups_before-append u [] (k ∷ hs) late = ap (λ b. cond b (group_text k ++ groups_before u hs) []) late.0
groups_before-append u (g ∷ gs) hs late = ap (λ x. cond (is_before g.0 u) (group_text g ++ x) []) (groups_before-append u gs hs late)

groups_from-append : (u : Time) (gs hs : List (Time × List ℕ)) → AllOf (IsGroupFrom u) hs →
    groups_from u (gs ++ hs) ≡ groups_from u gs ++ hs
groups_from-append u [] [] late = refl
groups_from-append u [] (k ∷ hs) late = ap (λ b. cond b (groups_from u hs) (k ∷ hs)) late.0
groups_from-append u (g ∷ gs) hs late =
    ap (λ x. cond (is_before g.0 u) x (g ∷ (gs ++ hs))) (groups_from-append u gs hs late) ∙ one (is_before g.0 u)
  where
    one : (b : Bool) → cond b (groups_from u gs ++ hs) (g ∷ (gs ++ hs)) ≡ cond b (groups_from u gs) (g ∷ gs) ++ hs
    one true = refl
    one false = refl

-- those that are before it come first
groups_before-past : (u : Time) (gs hs : List (Time × List ℕ)) → AllOf (IsGroupBefore u) gs →
    groups_before u (gs ++ hs) ≡ flat_map group_text gs ++ groups_before u hs
groups_before-past u [] hs early = refl
groups_before-past u (g ∷ gs) hs early =
    ap (λ b. cond b (group_text g ++ groups_before u (gs ++ hs)) []) early.0
    ∙ ap (λ x. group_text g ++ x) (groups_before-past u gs hs early.1)
    ∙ sym (append_assoc (group_text g) (flat_map group_text gs) (groups_before u hs))

groups_from-past : (u : Time) (gs hs : List (Time × List ℕ)) → AllOf (IsGroupBefore u) gs → groups_from u (gs ++ hs) ≡ groups_from u hs
groups_from-past u [] hs early = refl
groups_from-past u (g ∷ gs) hs early =
    ap (λ b. cond b (groups_from u (gs ++ hs)) (g ∷ (gs ++ hs))) early.0 ∙ groups_from-past u gs hs early.1

groups_from-all : (P : (Time × List ℕ) → Type 0) (u : Time) (gs : List (Time × List ℕ)) → AllOf P gs → AllOf P (groups_from u gs)
groups_from-all P u [] every = tt
groups_from-all P u (g ∷ gs) every = one (groups_from-all P u gs every.1) (is_before g.0 u)
  where
    one : AllOf P (groups_from u gs) → (b : Bool) → AllOf P (cond b (groups_from u gs) (g ∷ gs))
    one behind true = behind
    one behind false = every

-- all of a part is before a time, not before it, or at it
abbrev pub IsEarly : Time → PartOf → Type 0
IsEarly c p =
    AllOf (λ (e : Entry). is_before e.time c ≡ true) p.entries
    × AllOf (λ (o : Outer). is_before o.time c ≡ true) p.outer

abbrev pub IsLate : Time → PartOf → Type 0
IsLate c p =
    AllOf (λ (e : Entry). is_before e.time c ≡ false) p.entries
    × AllOf (λ (o : Outer). is_before o.time c ≡ false) p.outer

abbrev pub IsOnlyAt : Time → PartOf → Type 0
IsOnlyAt t p = AllOf (λ (e : Entry). e.time ≡ t) p.entries × AllOf (λ (o : Outer). o.time ≡ t) p.outer

module _ (all : List ComponentNames) where
  abbrev entry_line : Entry → List ℕ
  entry_line e = entry_text (names_at all e.component) e

  -- the lines of one time
  lines_at : (t : Time) (es : List Entry) (hs : List (Time × List ℕ)) → AllOf (λ (e : Entry). e.time ≡ t) es → AllOf (IsGroupAt t) hs →
      lines_by_time all es hs ≡ flat_map entry_line es ++ flat_map group_text hs
  lines_at t [] hs es_at at = refl
  lines_at t (e ∷ es) hs es_at at =
      let late : AllOf (IsGroupFrom e.time) hs =
      AllOf-weaker (IsGroupAt t) (IsGroupFrom e.time)
      (λ g h. ap (λ (u : Time). is_before u e.time) (h ∙ sym es_at.0) ∙ not_before_itself e.time) hs at in
      ap (λ x. x ++ (entry_line e ++ lines_by_time all es (groups_from e.time hs))) (groups_before-append e.time [] hs late)
      ∙ ap (λ ks. entry_line e ++ lines_by_time all es ks) (groups_from-append e.time [] hs late)
      ∙ ap (λ x. entry_line e ++ x) (lines_at t es hs es_at.1 at)
      ∙ sym (append_assoc (entry_line e) (flat_map entry_line es) (flat_map group_text hs))

  -- after the lines before a time, those of what is later
  lines-append : (c : Time) (es fs : List Entry) (gs hs : List (Time × List ℕ)) →
      AllOf (λ (e : Entry). is_before e.time c ≡ true) es → AllOf (λ (e : Entry). is_before e.time c ≡ false) fs →
      AllOf (IsGroupBefore c) gs → AllOf (IsGroupFrom c) hs →
      lines_by_time all (es ++ fs) (gs ++ hs) ≡ lines_by_time all es gs ++ lines_by_time all fs hs
  lines-append c [] [] gs hs es_early fs_late early late = flat_map-append group_text gs hs
  lines-append c [] (f ∷ fs) gs hs es_early fs_late early late =
      let past : AllOf (IsGroupBefore f.time) gs =
      AllOf-weaker (IsGroupBefore c) (IsGroupBefore f.time) (λ g h. sooner g.0 f.time c h fs_late.0) gs early in
      ap (λ x. x ++ (entry_line f ++ lines_by_time all fs (groups_from f.time (gs ++ hs)))) (groups_before-past f.time gs hs past)
      ∙ ap (λ ks. (flat_map group_text gs ++ groups_before f.time hs) ++ (entry_line f ++ lines_by_time all fs ks))
      (groups_from-past f.time gs hs past)
      ∙ append_assoc (flat_map group_text gs) (groups_before f.time hs) (entry_line f ++ lines_by_time all fs (groups_from f.time hs))
  lines-append c (e ∷ es) fs gs hs es_early fs_late early late =
      let behind : AllOf (IsGroupFrom e.time) hs =
      AllOf-weaker (IsGroupFrom c) (IsGroupFrom e.time) (λ g h. not_sooner e.time g.0 c es_early.0 h) hs late in
      let left = groups_from e.time gs in
      ap (λ x. x ++ (entry_line e ++ lines_by_time all (es ++ fs) (groups_from e.time (gs ++ hs))))
      (groups_before-append e.time gs hs behind)
      ∙ ap (λ ks. groups_before e.time gs ++ (entry_line e ++ lines_by_time all (es ++ fs) ks)) (groups_from-append e.time gs hs behind)
      ∙ ap (λ x. groups_before e.time gs ++ (entry_line e ++ x))
      (lines-append c es fs left hs es_early.1 fs_late (groups_from-all (IsGroupBefore c) e.time gs early) late)
      ∙ ap (λ x. groups_before e.time gs ++ x) (sym (append_assoc (entry_line e) (lines_by_time all es left) (lines_by_time all fs hs)))
      ∙ sym (append_assoc (groups_before e.time gs) (entry_line e ++ lines_by_time all es left) (lines_by_time all fs hs))

  -- the lines of a part, and then those of a later one
  pub text-append : (outputs : List (List ℕ)) (c : Time) (past later : PartOf) → IsEarly c past → IsLate c later →
      trace_text all outputs (joined past later) ≡ trace_text all outputs past ++ trace_text all outputs later
  text-append outputs c past later early late =
      ap (lines_by_time all (past.entries ++ later.entries)) (groups_of-append outputs c past.outer later.outer early.1 late.1)
      ∙ lines-append c past.entries later.entries (groups_of outputs past.outer) (groups_of outputs later.outer) early.0 late.0
      (groups_of-all outputs (λ t. is_before t c ≡ true) past.outer early.1)
      (groups_of-all outputs (λ t. is_before t c ≡ false) later.outer late.1)

  -- the lines of a part that is at one time
  pub text-at : (outputs : List (List ℕ)) (t : Time) (p : PartOf) → IsOnlyAt t p →
      trace_text all outputs p ≡ instant_text all outputs t p
  text-at outputs t p at =
      ap (lines_by_time all p.entries) (groups_of-at outputs t p.outer at.1)
      ∙ lines_at t p.entries (group_at outputs t p.outer) at.0 (group_at-at outputs t p.outer)
      ∙ ap (λ x. flat_map entry_line p.entries ++ x) (lines_of_group outputs t p.outer)

module _ {I : Type 0} (limit : ℕ) (net : Network I) (inputs : ℕ → I) where
  module _ (all : List ComponentNames) (outputs : List (List ℕ))
      (instants : (n : ℕ) → IsAllAt (time_of limit n) (trace_at limit net inputs n))
      (traces : (n : ℕ) → IsAllBefore (time_of limit n) (trace_before limit net inputs n)) where
    past_is_early : (n : ℕ) → IsEarly (time_of limit n) (trace_before limit net inputs n)
    past_is_early n =
        let t = time_of limit n in
        let past = trace_before limit net inputs n in (
          AllOf-weaker (λ (e : Entry). time_cmp e.time t ≡ Less) (λ (e : Entry). is_before e.time t ≡ true) (λ e h. ap is_lt h)
              past.entries (AllOf-from_All (λ (e : Entry). time_cmp e.time t ≡ Less) past.entries (traces n).0),
          AllOf-weaker (λ (o : Outer). time_cmp o.time t ≡ Less) (λ (o : Outer). is_before o.time t ≡ true) (λ o h. ap is_lt h)
              past.outer (AllOf-from_All (λ (o : Outer). time_cmp o.time t ≡ Less) past.outer (traces n).1),
        )

    now_is_at : (n : ℕ) → IsOnlyAt (time_of limit n) (trace_at limit net inputs n)
    now_is_at n =
        let t = time_of limit n in
        let part = trace_at limit net inputs n in (
          AllOf-from_All (λ (e : Entry). e.time ≡ t) part.entries (instants n).0,
          AllOf-from_All (λ (o : Outer). o.time ≡ t) part.outer (instants n).1,
        )

    now_is_late : (n : ℕ) → IsLate (time_of limit n) (trace_at limit net inputs n)
    now_is_late n =
        let t = time_of limit n in
        let part = trace_at limit net inputs n in (
          AllOf-weaker (λ (e : Entry). e.time ≡ t) (λ (e : Entry). is_before e.time t ≡ false)
              (λ e h. ap (λ (u : Time). is_before u t) h ∙ not_before_itself t) part.entries (now_is_at n).0,
          AllOf-weaker (λ (o : Outer). o.time ≡ t) (λ (o : Outer). is_before o.time t ≡ false)
              (λ o h. ap (λ (u : Time). is_before u t) h ∙ not_before_itself t) part.outer (now_is_at n).1,
        )

    -- one more instant
    next_instant : (n : ℕ) →
        trace_text all outputs (trace_before limit net inputs (suc n)) ≡ trace_text all outputs
        (trace_before limit net inputs n) ++ instant_text all outputs (time_of limit n)
        (part_of_instant limit net n (inputs n) (components_at limit net inputs n))
    next_instant n =
        let t = time_of limit n in
        let past = trace_before limit net inputs n in
        let part = trace_at limit net inputs n in
        text-append all outputs t past part (past_is_early n) (now_is_late n)
        ∙ ap (λ x. trace_text all outputs past ++ x) (text-at all outputs t part (now_is_at n))

    pub trace-instants : (n : ℕ) → trace_text all outputs (trace_before limit net inputs n) ≡ instants_text all outputs limit net inputs n
    trace-instants zero = refl
    trace-instants (suc n) =
        next_instant n
        ∙ ap (λ x. x ++ instant_text all outputs (time_of limit n)
        (part_of_instant limit net n (inputs n) (components_at limit net inputs n))) (trace-instants n)
