-- The lines of a part with one more line at its end.
use Rattle.std.proofs.Common.{◌≡◌, ℕ, Bool, true, false, cond, List, [], ◌∷◌, ◌++◌}
use Rattle.std.proofs.Common.{refl, sym, ap, ◌∙◌, append_assoc, append-nil, arith}
use Rattle.std.specs.List.{All, AllByRecursion as AllOf, flat_map}
use Rattle.std.specs.Ordering.{is_eq}
use Rattle.std.proofs.lemmas.List.Concat.{flat_map-append}
use Rattle.std.proofs.lemmas.Bool.Decides.{nat_tests}
use Rattle.dv_time.specs.declared.time.Time.{Time}
use Rattle.dv_time.specs.Time.{is_before, time_cmp}
use Rattle.dv_bag.specs.Part.{IsByTime, PartOf}
use Rattle.dv_bag.specs.declared.entry.Entry.{Entry}
use Rattle.dv_bag.specs.declared.entry.Outer.{Outer}
use Rattle.dv_text.specs.Merging.{group_text, groups_before, groups_from, groups_of, lines_by_time, trace_text, with_text}
use Rattle.dv_text.specs.Texts.{ComponentNames, entry_text, names_at, outer_text, outers_text, part_text}
use Rattle.dv_text.proofs.Instants.{AllOf-from_All}
use Rattle.dv_text.proofs.Times.{part_text-merged}

abbrev Group : Type 0
Group = Time × List ℕ

abbrev AreBefore : Time → List Group → Type 0
AreBefore t gs = AllOf (λ (g : Group). is_before g.0 t ≡ true) gs

-- ---- One more entry, where no group is at its time or later

all_before : (t : Time) (gs : List Group) → AreBefore t gs → groups_before t gs ≡ flat_map group_text gs
all_before t [] h = refl
all_before t (g ∷ gs) h = rw h.0 (ap (λ x. group_text g ++ x) (all_before t gs h.1))

none_from : (t : Time) (gs : List Group) → AreBefore t gs → groups_from t gs ≡ []
none_from t [] h = refl
none_from t (g ∷ gs) h = rw h.0 (none_from t gs h.1)

from_before : (t u : Time) (gs : List Group) → AreBefore t gs → AreBefore t (groups_from u gs)
from_before t u [] h = tt
from_before t u (g ∷ gs) h = step (from_before t u gs h.1) (is_before g.0 u)
  where
    step : AreBefore t (groups_from u gs) → (b : Bool) → AreBefore t (cond b (groups_from u gs) (g ∷ gs))
    step rest true = rest
    step rest false = h

entry_more : (all : List ComponentNames) (es : List Entry) (e : Entry) (gs : List Group) → AreBefore e.time gs →
    lines_by_time all (es ++ e ∷ []) gs ≡ lines_by_time all es gs ++ entry_text (names_at all e.component) e
entry_more all [] e gs h =
    let line = entry_text (names_at all e.component) e in
    ap (λ x. x ++ (line ++ flat_map group_text (groups_from e.time gs))) (all_before e.time gs h)
    ∙ ap (λ x. flat_map group_text gs ++ (line ++ flat_map group_text x)) (none_from e.time gs h)
    ∙ ap (λ x. flat_map group_text gs ++ x) (append-nil line)
entry_more all (x ∷ es) e gs h =
    let line = entry_text (names_at all x.component) x in
    let last = entry_text (names_at all e.component) e in
    let front = groups_before x.time gs in
    let later = groups_from x.time gs in
    ap (λ t. front ++ (line ++ t)) (entry_more all es e later (from_before e.time x.time gs h))
    ∙ sym (ap (λ t. front ++ t) (append_assoc line (lines_by_time all es later) last))
    ∙ sym (append_assoc front (line ++ lines_by_time all es later) last)

with_before : (t u : Time) (text : List ℕ) (gs : List Group) → is_before u t ≡ true → AreBefore t gs → AreBefore t (with_text u text gs)
with_before t u text [] k h = (k, tt)
with_before t u text (g ∷ gs) k h = step (is_eq (time_cmp u g.0))
  where
    step : (b : Bool) → AreBefore t (cond b ((u, text ++ g.1) ∷ gs) ((u, text) ∷ g ∷ gs))
    step true = (k, h.1)
    step false = (k, h)

groups_are_before : (outputs : List (List ℕ)) (t : Time) (os : List Outer) → AllOf (λ (o : Outer). is_before o.time t ≡ true) os →
    AreBefore t (groups_of outputs os)
groups_are_before outputs t [] h = tt
groups_are_before outputs t (o ∷ os) h =
    with_before t o.time (outer_text outputs o) (groups_of outputs os) h.0 (groups_are_before outputs t os h.1)

-- ---- One more group, where no entry is later

before_more : (u : Time) (gs : List Group) (g : Group) → is_before g.0 u ≡ false → groups_before u (gs ++ g ∷ []) ≡ groups_before u gs
before_more u [] g h = rw h refl
before_more u (x ∷ gs) g h = step (before_more u gs g h) (is_before x.0 u)
  where
    step : groups_before u (gs ++ g ∷ []) ≡ groups_before u gs → (b : Bool) →
        cond b (group_text x ++ groups_before u (gs ++ g ∷ [])) [] ≡ cond b (group_text x ++ groups_before u gs) []
    step rest true = ap (λ t. group_text x ++ t) rest
    step rest false = refl

from_more : (u : Time) (gs : List Group) (g : Group) → is_before g.0 u ≡ false → groups_from u (gs ++ g ∷ []) ≡ groups_from u gs ++ g ∷ []
from_more u [] g h = rw h refl
from_more u (x ∷ gs) g h = step (from_more u gs g h) (is_before x.0 u)
  where
    step : groups_from u (gs ++ g ∷ []) ≡ groups_from u gs ++ g ∷ [] → (b : Bool) →
        cond b (groups_from u (gs ++ g ∷ [])) (x ∷ (gs ++ g ∷ [])) ≡ cond b (groups_from u gs) (x ∷ gs) ++ g ∷ []
    step rest true = rest
    step rest false = refl

group_more : (all : List ComponentNames) (es : List Entry) (gs : List Group) (g : Group) →
    AllOf (λ (e : Entry). is_before g.0 e.time ≡ false) es → lines_by_time all es (gs ++ g ∷ []) ≡ lines_by_time all es gs ++ group_text g
group_more all [] gs g h =
    flat_map-append group_text gs (g ∷ []) ∙ ap (λ t. flat_map group_text gs ++ t) (append-nil (group_text g))
group_more all (e ∷ es) gs g h =
    let line = entry_text (names_at all e.component) e in
    let front = groups_before e.time gs in
    let later = groups_from e.time gs in
    ap (λ x. x ++ (line ++ lines_by_time all es (groups_from e.time (gs ++ g ∷ [])))) (before_more e.time gs g h.0)
    ∙ ap (λ x. front ++ (line ++ lines_by_time all es x)) (from_more e.time gs g h.0)
    ∙ ap (λ x. front ++ (line ++ x)) (group_more all es later g h.1)
    ∙ sym (ap (λ t. front ++ t) (append_assoc line (lines_by_time all es later) (group_text g)))
    ∙ sym (append_assoc front (line ++ lines_by_time all es later) (group_text g))

apart : (t u : Time) → is_before t u ≡ true → is_eq (time_cmp t u) ≡ false
apart t u h = grind (arith, nat_tests)

itself : (t : Time) → is_eq (time_cmp t t) ≡ true
itself t = grind (arith, nat_tests)

with_more : (u : Time) (text : List ℕ) (gs : List Group) (g : Group) → is_before u g.0 ≡ true →
    with_text u text (gs ++ g ∷ []) ≡ with_text u text gs ++ g ∷ []
with_more u text [] g h = rw (apart u g.0 h) refl
with_more u text (x ∷ gs) g h = step (is_eq (time_cmp u x.0))
  where
    step : (b : Bool) → cond b ((u, text ++ x.1) ∷ (gs ++ g ∷ [])) ((u, text) ∷ x ∷ (gs ++ g ∷ [])) ≡
        cond b ((u, text ++ x.1) ∷ gs) ((u, text) ∷ x ∷ gs) ++ g ∷ []
    step true = refl
    step false = refl

-- what leaves at one time is one group
one_group : (outputs : List (List ℕ)) (t : Time) (o : Outer) (os : List Outer) → AllOf (λ (o : Outer). o.time ≡ t) (o ∷ os) →
    groups_of outputs (o ∷ os) ≡ (t, flat_map (outer_text outputs) (o ∷ os)) ∷ []
one_group outputs t o [] h =
    ap (λ (u : Time). (u, outer_text outputs o) ∷ []) h.0
    ∙ ap (λ (x : List ℕ). (t, x) ∷ []) (sym (append-nil (outer_text outputs o)))
one_group outputs t o (p ∷ os) h =
    let text = outer_text outputs o in
    let rest = flat_map (outer_text outputs) (p ∷ os) in
    ap (with_text o.time text) (one_group outputs t p os h.1)
    ∙ ap (λ (u : Time). with_text u text ((t, rest) ∷ [])) h.0
    ∙ ap (λ b. cond b ((t, text ++ rest) ∷ []) ((t, text) ∷ (t, rest) ∷ [])) (itself t)

groups_more : (outputs : List (List ℕ)) (t : Time) (os : List Outer) (g : Outer) (gs : List Outer) →
    AllOf (λ (o : Outer). is_before o.time t ≡ true) os → AllOf (λ (o : Outer). o.time ≡ t) (g ∷ gs) →
    groups_of outputs (os ++ (g ∷ gs)) ≡ groups_of outputs os ++ (t, flat_map (outer_text outputs) (g ∷ gs)) ∷ []
groups_more outputs t [] g gs h k = one_group outputs t g gs k
groups_more outputs t (o ∷ os) g gs h k =
    ap (with_text o.time (outer_text outputs o)) (groups_more outputs t os g gs h.1 k)
    ∙ with_more o.time (outer_text outputs o) (groups_of outputs os) (t, flat_map (outer_text outputs) (g ∷ gs)) h.0

-- ---- The text of a part with one more line

pub entry_appended : (all : List ComponentNames) (outputs : List (List ℕ)) (p : PartOf) (e : Entry) → IsByTime p →
    IsByTime (record p { entries = p.entries ++ e ∷ [] }) → All (λ (o : Outer). is_before o.time e.time ≡ true) p.outer →
    part_text all outputs (record p { entries = p.entries ++ e ∷ [] })
    ≡ part_text all outputs p ++ entry_text (names_at all e.component) e
entry_appended all outputs p e by by_more before =
    sym (part_text-merged all outputs (record p { entries = p.entries ++ e ∷ [] }) by_more)
    ∙ entry_more all p.entries e (groups_of outputs p.outer)
    (groups_are_before outputs e.time p.outer (AllOf-from_All (λ (o : Outer). is_before o.time e.time ≡ true) p.outer before))
    ∙ ap (λ t. t ++ entry_text (names_at all e.component) e) (part_text-merged all outputs p by)

merged : (all : List ComponentNames) (outputs : List (List ℕ)) (p : PartOf) (t : Time) (os : List Outer) →
    AllOf (λ (e : Entry). is_before t e.time ≡ false) p.entries → AllOf (λ (o : Outer). is_before o.time t ≡ true) p.outer →
    AllOf (λ (o : Outer). o.time ≡ t) os →
    trace_text all outputs (record p { outer = p.outer ++ os }) ≡ trace_text all outputs p ++ outers_text outputs t os
merged all outputs p t [] early before at =
    ap (λ xs. lines_by_time all p.entries (groups_of outputs xs)) (append-nil p.outer) ∙ sym (append-nil (trace_text all outputs p))
merged all outputs p t (o ∷ os) early before at =
    ap (lines_by_time all p.entries) (groups_more outputs t p.outer o os before at)
    ∙ group_more all p.entries (groups_of outputs p.outer) (t, flat_map (outer_text outputs) (o ∷ os)) early

pub outers_appended : (all : List ComponentNames) (outputs : List (List ℕ)) (p : PartOf) (t : Time) (os : List Outer) → IsByTime p →
    IsByTime (record p { outer = p.outer ++ os }) → All (λ (e : Entry). is_before t e.time ≡ false) p.entries →
    All (λ (o : Outer). is_before o.time t ≡ true) p.outer → All (λ (o : Outer). o.time ≡ t) os →
    part_text all outputs (record p { outer = p.outer ++ os }) ≡ part_text all outputs p ++ outers_text outputs t os
outers_appended all outputs p t os by by_more early before at =
    sym (part_text-merged all outputs (record p { outer = p.outer ++ os }) by_more)
    ∙ merged all outputs p t os (AllOf-from_All (λ (e : Entry). is_before t e.time ≡ false) p.entries early)
    (AllOf-from_All (λ (o : Outer). is_before o.time t ≡ true) p.outer before) (AllOf-from_All (λ (o : Outer). o.time ≡ t) os at)
    ∙ ap (λ x. x ++ outers_text outputs t os) (part_text-merged all outputs p by)
