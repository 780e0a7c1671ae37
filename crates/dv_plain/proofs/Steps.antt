-- One component after the other: what a loop over the components has of the definitions at each turn.
use Rattle.std.proofs.Common.{◌≡◌, ℕ, zero, suc, ◌+◌, ◌<◌, ◌≤◌, true, List, [], ◌∷◌, ◌++◌, map, length, drop, take, set, get_or}
use Rattle.std.proofs.Common.{Some, None, Result, refl, ap, sym, ◌∙◌, subst, arith, append_assoc, add-one}
use Rattle.std.specs.Prelude.{slice_get}
use Rattle.std.specs.List.{All}
use Rattle.std.proofs.lemmas.List.Elements.{All-get_or, All-set}
use Rattle.std.proofs.lemmas.List.{append-nil, drop-set-lt, drop_all, drop_more, map_push, take_all, take_more_set}
use Rattle.dv_syntax.specs.Trees.{AtomicTree}
use Rattle.dv_bag.specs.Bag.{Counts}
use Rattle.dv_devs.specs.Behaviour.{Behaviour, Component, Reaction, emission, reaction}
use Rattle.dv_devs.specs.Network.{entries_by, entry_of, other_bags, reactions}
use Rattle.dv_bag.specs.declared.fault.Fault.{Fault}
use Rattle.dv_bag.specs.declared.entry.Entry.{Entry}
use Rattle.dv_bag.specs.declared.entry.What.{What}
use Rattle.std.specs.List.{range_with_len}
use Rattle.dv_time.specs.Time.{IsOfRun, rank}
use Rattle.dv_time.specs.declared.time.Time.{Time}
use Rattle.dv_eval.specs.Scope.{Scope, scope_of}
use Rattle.dv_tree.specs.Instances.{Instance}
use Rattle.dv_react.specs.declared.running.Running.{Running}
use Rattle.dv_react.specs.declared.wait.Wait.{Wait}
use Rattle.dv_react.specs.declared.wait.Wait.TheVariants.{Until, Forever, Quiet}
use Rattle.dv_plain.specs.Outputs.{outputs}
use Rattle.dv_react.specs.Components.{IsWaitOfRun, component_of, is_quiet, next_of_wait}
use Rattle.dv_plain.specs.Source.{behaviour_of, start_of}
use Rattle.dv_react.proofs.Times.{time_of-rank}

-- the behaviours from a component on
abbrev pub behaviours_from : ℕ → List Instance → List Behaviour
behaviours_from k is = map (λ (i : Instance). behaviour_of i.model) (drop k is)

abbrev pub components_from : ℕ → ℕ → List Running → List Component
components_from limit k rs = map (component_of limit) (drop k rs)

model-suc : {Y : Type 0} (f : AtomicTree → Y) (is : List Instance) (k : ℕ) (m : AtomicTree) →
    slice_get (map (λ (i : Instance). i.model) is) k ≡ Some m →
    map (λ (i : Instance). f i.model) (drop k is) ≡ f m ∷ map (λ (i : Instance). f i.model) (drop (suc k) is)
model-suc f [] k m e = absurd (cc)
model-suc f (i ∷ is) zero m e = let same : i.model ≡ m = cc in ap (λ x. f x ∷ map (λ (j : Instance). f j.model) is) same
model-suc f (i ∷ is) (suc k) m e = model-suc f is k m e

-- the first of the models from one on
pub model-step : {Y : Type 0} (f : AtomicTree → Y) (is : List Instance) (k : ℕ) (m : AtomicTree) →
    slice_get (map (λ (i : Instance). i.model) is) k ≡ Some m →
    map (λ (i : Instance). f i.model) (drop k is) ≡ f m ∷ map (λ (i : Instance). f i.model) (drop (k + 1) is)
model-step f is k m e = model-suc f is k m e ∙ ap (λ n. f m ∷ map (λ (i : Instance). f i.model) (drop n is)) (sym (add-one k))

pub behaviour-step : (is : List Instance) (k : ℕ) (m : AtomicTree) → slice_get (map (λ (i : Instance). i.model) is) k ≡ Some m →
    behaviours_from k is ≡ behaviour_of m ∷ behaviours_from (k + 1) is
behaviour-step is k m e = model-step behaviour_of is k m e

-- the scope of a component is its model's
pub scope-at : (is : List Instance) (k : ℕ) (m : AtomicTree) (s : Scope) → slice_get (map (λ (i : Instance). i.model) is) k ≡ Some m →
    slice_get (map (λ (i : Instance). scope_of i.model) is) k ≡ Some s → s ≡ scope_of m
scope-at [] k m s e f = absurd (cc)
scope-at (i ∷ is) zero m s e f = let same : i.model ≡ m = cc in let there : scope_of i.model ≡ s = cc in sym there ∙ ap scope_of same
scope-at (i ∷ is) (suc k) m s e f = scope-at is k m s e f

pub component-step : (limit : ℕ) (rs : List Running) (k : ℕ) (r : Running) → k < length rs → r ≡ get_or rs k r →
    components_from limit k rs ≡ component_of limit r ∷ components_from limit (k + 1) rs
component-step limit rs k r h e =
    ap (map (component_of limit)) (drop_more rs k r h) ∙ ap (λ x. component_of limit x ∷ components_from limit (k + 1) rs) (sym e)

-- a component of the code that is quiet has no next time
pub quiet-none : (limit : ℕ) (w : Wait) → is_quiet w ≡ true → next_of_wait limit w ≡ None
quiet-none limit (Until t) e = absurd (cc)
quiet-none limit Forever e = refl
quiet-none limit Quiet e = refl

-- an entry, with the time itself
pub entry-of_event : (limit : ℕ) (t : Time) (number : ℕ) (event : What × List Counts) → IsOfRun limit t →
    (record { time = t; component = number; what = event.0; sent = event.1 } ∷ []) ≡ entry_of limit (rank limit t) number (Some event)
entry-of_event limit t number event h =
    ap (λ (u : Time). let e : Entry = record { time = u; component = number; what = event.0; sent = event.1 } in e ∷ [])
    (sym (time_of-rank limit t h))

pub outputs-step : (now : ℕ) (bs bs' : List Behaviour) (cs cs' : List Component) (b : Behaviour) (c : Component) → bs ≡ b ∷ bs' →
    cs ≡ c ∷ cs' → outputs bs now cs ≡ emission b now c ∷ outputs bs' now cs'
outputs-step now bs bs' cs cs' b c e f = ap (λ xs. outputs xs now cs) e ∙ ap (outputs (b ∷ bs') now) f

pub reactions-step :
    (limit now : ℕ) (bs bs' : List Behaviour) (cs cs' : List Component) (received received' : List (List Counts)) (b : Behaviour)
    (c : Component) (bags : List Counts) →
    bs ≡ b ∷ bs' → cs ≡ c ∷ cs' → received ≡ bags ∷ received' →
    reactions limit bs now cs received ≡ reaction limit b now c bags ∷ reactions limit bs' now cs' received'
reactions-step limit now bs bs' cs cs' received received' b c bags e f g =
    ap (λ xs. reactions limit xs now cs received) e ∙ ap (λ ys. reactions limit (b ∷ bs') now ys received) f
    ∙ ap (reactions limit (b ∷ bs') now (c ∷ cs')) g

-- one more of a list that is made element by element
pub one_more : {X Y : Type 0} (f : X → Y) (done whole : List Y) (rest rest' : List X) (x : X) → rest ≡ x ∷ rest' →
    done ++ map f rest ≡ whole → (done ++ f x ∷ []) ++ map f rest' ≡ whole
one_more f done whole rest rest' x e h = append_assoc done (f x ∷ []) (map f rest') ∙ ap (λ xs. done ++ map f xs) (sym e) ∙ h

-- the wait of a component among those of a run
pub wait-at : (limit : ℕ) (rs : List Running) (k : ℕ) (r : Running) → k < length rs → r ≡ get_or rs k r →
    All (λ (x : Running). IsWaitOfRun limit x.wait) rs → IsWaitOfRun limit r.wait
wait-at limit rs k r h e waits =
    subst (λ (x : Running). IsWaitOfRun limit x.wait) (sym e) (All-get_or (λ (x : Running). IsWaitOfRun limit x.wait) rs k r h waits)

-- what the output functions of the components from one on give
abbrev pub outputs_from : ℕ → List Instance → ℕ → List Running → ℕ → List (Result (List Counts) Fault)
outputs_from limit is now rs k = outputs (behaviours_from k is) now (components_from limit k rs)

pub outputs_from-step :
    (limit : ℕ) (is : List Instance) (now : ℕ) (rs : List Running) (k : ℕ) (m : AtomicTree) (r : Running)
    (emitted : Result (List Counts) Fault) →
    slice_get (map (λ (i : Instance). i.model) is) k ≡ Some m → k < length rs → r ≡ get_or rs k r → emission (behaviour_of m) now
    (component_of limit r) ≡ emitted →
    outputs_from limit is now rs k ≡ emitted ∷ outputs_from limit is now rs (k + 1)
outputs_from-step limit is now rs k m r emitted e h f gave =
    outputs-step now (behaviours_from k is) (behaviours_from (k + 1) is) (components_from limit k rs) (components_from limit (k + 1) rs)
    (behaviour_of m) (component_of limit r) (behaviour-step is k m e) (component-step limit rs k r h f)
    ∙ ap (λ x. x ∷ outputs_from limit is now rs (k + 1)) gave

-- what happens to the components from one on
abbrev pub reactions_from : ℕ → List Instance → ℕ → List Running → List (List Counts) → ℕ → List Reaction
reactions_from limit is now rs received k = reactions limit (behaviours_from k is) now (components_from limit k rs) (drop k received)

pub reactions_from-step :
    (limit : ℕ) (is : List Instance) (now : ℕ) (rs : List Running) (received : List (List Counts)) (k : ℕ) (m : AtomicTree) (r : Running)
    (bags : List Counts) →
    slice_get (map (λ (i : Instance). i.model) is) k ≡ Some m → k < length rs → r ≡ get_or rs k r → k < length received → bags ≡ get_or
    received k bags →
    reactions_from limit is now rs received k ≡ reaction limit (behaviour_of m) now (component_of limit r) bags ∷ reactions_from limit is
    now rs received (k + 1)
reactions_from-step limit is now rs received k m r bags e h f g is-there =
    reactions-step limit now (behaviours_from k is) (behaviours_from (k + 1) is) (components_from limit k rs)
    (components_from limit (k + 1) rs) (drop k received) (drop (k + 1) received) (behaviour_of m) (component_of limit r) bags
    (behaviour-step is k m e) (component-step limit rs k r h f)
    (drop_more received k bags g ∙ ap (λ (b : List Counts). b ∷ drop (k + 1) received) (sym is-there))

-- lists that are the same from an index on are so at it
pub same_at : {X : Type 0} (xs ys : List X) (k : ℕ) (d : X) → k < length xs → k < length ys → drop k xs ≡ drop k ys →
    get_or xs k d ≡ get_or ys k d
same_at xs ys k d h g same =
    let left : drop k xs ≡ get_or xs k d ∷ drop (k + 1) xs = drop_more xs k d h in
    let right : drop k ys ≡ get_or ys k d ∷ drop (k + 1) ys = drop_more ys k d g in
    cc

-- and behind it, where it is replaced
pub same_behind : {X : Type 0} (xs ys : List X) (k : ℕ) (d : X) → k < length xs → k < length ys → drop k xs ≡ drop k ys → (x : X) →
    drop (k + 1) (set xs k x) ≡ drop (k + 1) ys
same_behind xs ys k d h g same x =
    let left : drop k xs ≡ get_or xs k d ∷ drop (k + 1) xs = drop_more xs k d h in
    let right : drop k ys ≡ get_or ys k d ∷ drop (k + 1) ys = drop_more ys k d g in
    let behind : drop (k + 1) xs ≡ drop (k + 1) ys = cc in
    drop-set-lt (k + 1) xs k x (omega arith) ∙ behind

-- lists that are the same from an index on are so at it and behind it
pub same_from_drop : (xs ys : List Running) (k : ℕ) (r : Running) → k < length xs → k < length ys → drop k xs ≡ drop k ys →
    r ≡ get_or xs k r → (r ≡ get_or ys k r) × (drop (k + 1) xs ≡ drop (k + 1) ys)
same_from_drop xs ys k r h g same e =
    let left : drop k xs ≡ get_or xs k r ∷ drop (k + 1) xs = drop_more xs k r h in
    let right : drop k ys ≡ get_or ys k r ∷ drop (k + 1) ys = drop_more ys k r g in
    (cc, cc)

-- the components so far, one more of them changed
pub components-turn :
    (limit : ℕ) (xs : List Running) (k : ℕ) (new : Running) (q : Reaction) (rest rest' : List Reaction) (whole : List Component) →
    k < length xs → component_of limit new ≡ q.component → rest ≡ q ∷ rest' →
    map (component_of limit) (take k xs) ++ map (λ (r : Reaction). r.component) rest ≡ whole → map (component_of limit)
    (take (k + 1) (set xs k new)) ++ map (λ (r : Reaction). r.component) rest' ≡ whole
components-turn limit xs k new q rest rest' whole h is e kept =
    ap (λ (ys : List Running). map (component_of limit) ys ++ map (λ (r : Reaction). r.component) rest') (take_more_set xs k new h)
    ∙ ap (λ (cs : List Component). cs ++ map (λ (r : Reaction). r.component) rest')
    (map_push (component_of limit) (take k xs) new ∙ ap (λ (c : Component). map (component_of limit) (take k xs) ++ c ∷ []) is)
    ∙ one_more (λ (r : Reaction). r.component) (map (component_of limit) (take k xs)) whole rest rest' q e kept

-- the entries of components that are counted from k on
abbrev pub entries_from : ℕ → ℕ → ℕ → List Reaction → List Entry
entries_from limit now k [] = []
entries_from limit now k (r ∷ rs) = entry_of limit now k r.event ++ entries_from limit now (k + 1) rs

pub entries-counted : (limit now k count : ℕ) (rs : List Reaction) → length rs ≤ count →
    entries_by limit now (range_with_len k count) rs ≡ entries_from limit now k rs
entries-counted limit now k zero [] le = refl
entries-counted limit now k (suc count) [] le = refl
entries-counted limit now k zero (r ∷ rs) le = absurd (omega arith)
entries-counted limit now k (suc count) (r ∷ rs) le =
    ap (λ (es : List Entry). entry_of limit now k r.event ++ es) (entries-counted limit now (k + 1) count rs (omega arith))

pub reactions-short : (limit : ℕ) (bs : List Behaviour) (now : ℕ) (cs : List Component) (received : List (List Counts)) →
    length (reactions limit bs now cs received) ≤ length bs
reactions-short limit [] now cs received = omega arith
reactions-short limit (b ∷ bs) now [] received = omega arith
reactions-short limit (b ∷ bs) now (c ∷ cs) received = let rest = reactions-short limit bs now cs (other_bags received) in omega arith

-- the entries so far, and one more
pub entries-turn : (limit now k : ℕ) (old new whole : List Entry) (q : Reaction) (rest rest' : List Reaction) →
    new ≡ old ++ entry_of limit now k q.event → rest ≡ q ∷ rest' →
    old ++ entries_from limit now k rest ≡ whole → new ++ entries_from limit now (k + 1) rest' ≡ whole
entries-turn limit now k old new whole q rest rest' is e kept =
    ap (λ (es : List Entry). es ++ entries_from limit now (k + 1) rest') is
    ∙ append_assoc old (entry_of limit now k q.event) (entries_from limit now (k + 1) rest')
    ∙ ap (λ (rs : List Reaction). old ++ entries_from limit now k rs) (sym e)
    ∙ kept

pub rest-turn : (xs ys : List Running) (k : ℕ) (new : Running) → drop (k + 1) xs ≡ drop (k + 1) ys →
    drop (k + 1) (set xs k new) ≡ drop (k + 1) ys
rest-turn xs ys k new same = drop-set-lt (k + 1) xs k new (omega arith) ∙ same

no_reactions : (limit now : ℕ) (is : List Instance) (rs : List Running) (received : List (List Counts)) (k : ℕ) → length is ≤ k →
    reactions_from limit is now rs received k ≡ []
no_reactions limit now is rs received k h =
    ap (λ (js : List Instance). reactions limit (map (λ (i : Instance). behaviour_of i.model) js) now (components_from limit k rs)
    (drop k received)) (drop_all k is h)

pub components-end : (limit now : ℕ) (is : List Instance) (rs xs : List Running) (received : List (List Counts)) (k : ℕ)
    (whole : List Component)
    → length xs ≤ k →
    length is ≤ k →
    map (component_of limit) (take k xs) ++ map (λ (r : Reaction). r.component) (reactions_from limit is now rs received k) ≡ whole → map
    (component_of limit) xs ≡ whole
components-end limit now is rs xs received k whole h g kept =
    sym (append-nil (map (component_of limit) xs))
    ∙ ap (λ (ys : List Running). map (component_of limit) ys ++ []) (sym (take_all k xs h))
    ∙ ap (λ (qs : List Reaction). map (component_of limit) (take k xs) ++ map (λ (r : Reaction). r.component) qs)
    (sym (no_reactions limit now is rs received k g))
    ∙ kept

pub entries-end : (limit now : ℕ) (is : List Instance) (rs : List Running) (received : List (List Counts)) (k : ℕ)
    (entries whole : List Entry)
    → length is ≤ k →
    entries ++ entries_from limit now k (reactions_from limit is now rs received k) ≡ whole → entries ≡ whole
entries-end limit now is rs received k entries whole g kept =
    sym (append-nil entries)
    ∙ ap (λ (qs : List Reaction). entries ++ entries_from limit now k qs) (sym (no_reactions limit now is rs received k g))
    ∙ kept

get_or-first : {X Y : Type 0} (f : X → Y) (xs : List X) (k : ℕ) (x : X) (rest : List X) (d : Y) → drop k xs ≡ x ∷ rest →
    get_or (map f xs) k d ≡ f x
get_or-first f [] zero x rest d e = absurd (cc)
get_or-first f [] (suc k) x rest d e = absurd (cc)
get_or-first f (y ∷ ys) zero x rest d e = let same : y ≡ x = cc in ap f same
get_or-first f (y ∷ ys) (suc k) x rest d e = get_or-first f ys k x rest d e

outputs-none : (bs : List Behaviour) (now : ℕ) → outputs bs now [] ≡ []
outputs-none [] now = refl
outputs-none (b ∷ bs) now = refl

outputs_from-drop : (limit : ℕ) (is : List Instance) (now : ℕ) (rs : List Running) (k : ℕ) →
    drop k (outputs_from limit is now rs 0) ≡ outputs_from limit is now rs k
outputs_from-drop limit is now rs zero = refl
outputs_from-drop limit [] now rs (suc k) = refl
outputs_from-drop limit (i ∷ is) now [] (suc k) = sym (outputs-none (behaviours_from k is) now)
outputs_from-drop limit (i ∷ is) now (r ∷ rs) (suc k) = outputs_from-drop limit is now rs k

-- what is so of the output of one component, in the list of what is so of all
pub given-at :
    {Y : Type 0} (f : Result (List Counts) Fault → Y) (limit : ℕ) (is : List Instance) (now : ℕ) (rs : List Running) (k : ℕ)
    (m : AtomicTree)
    (r : Running) (all : List Y) (d : Y) →
    slice_get (map (λ (i : Instance). i.model) is) k ≡ Some m → k < length rs → r ≡ get_or rs k r →
    all ≡ map f (outputs_from limit is now rs 0) →
    f (emission (behaviour_of m) now (component_of limit r)) ≡ get_or all k d
given-at f limit is now rs k m r all d e h g these =
    let here = emission (behaviour_of m) now (component_of limit r) in
    let first = outputs_from-drop limit is now rs k ∙ outputs_from-step limit is now rs k m r here e h g refl in
    sym (ap (λ ys. get_or ys k d) these
    ∙ get_or-first f (outputs_from limit is now rs 0) k here (outputs_from limit is now rs (k + 1)) d first)

-- as many as there are components
pub length-outputs : (limit : ℕ) (is : List Instance) (now : ℕ) (rs : List Running) → length rs ≡ length is →
    length (outputs_from limit is now rs 0) ≡ length is
length-outputs limit [] now rs e = refl
length-outputs limit (i ∷ is) now [] e = e
length-outputs limit (i ∷ is) now (r ∷ rs) e = ap suc (length-outputs limit is now rs (omega (arith, e)))

-- a component more that waits for a time of the run
pub waits-turn : (limit : ℕ) (xs : List Running) (k : ℕ) (new : Running) → All (λ (r : Running). IsWaitOfRun limit r.wait) xs →
    IsWaitOfRun limit new.wait → All (λ (r : Running). IsWaitOfRun limit r.wait) (set xs k new)
waits-turn limit xs k new waits wait = All-set (λ (r : Running). IsWaitOfRun limit r.wait) xs k new wait waits

-- the components at the start so far, and one more
pub starts-turn : (limit : ℕ) (is : List Instance) (xs : List Running) (k : ℕ) (m : AtomicTree) (r : Running) (whole : List Component) →
    slice_get (map (λ (i : Instance). i.model) is) k ≡ Some m → component_of limit r ≡ start_of limit m →
    map (component_of limit) xs ++ map (λ (i : Instance). start_of limit i.model) (drop k is) ≡ whole →
    map (component_of limit) (xs ++ r ∷ []) ++ map (λ (i : Instance). start_of limit i.model) (drop (k + 1) is) ≡ whole
starts-turn limit is xs k m r whole e start kept =
    let rest = map (λ (i : Instance). start_of limit i.model) (drop (k + 1) is) in
    ap (λ cs. cs ++ rest) (map_push (component_of limit) xs r ∙ ap (λ (c : Component). map (component_of limit) xs ++ c ∷ []) start)
    ∙ append_assoc (map (component_of limit) xs) (start_of limit m ∷ []) rest
    ∙ ap (λ cs. map (component_of limit) xs ++ cs) (sym (model-step (start_of limit) is k m e))
    ∙ kept

pub starts-end : (limit : ℕ) (is : List Instance) (cs whole : List Component) (k : ℕ) → length is ≤ k →
    cs ++ map (λ (i : Instance). start_of limit i.model) (drop k is) ≡ whole → cs ≡ whole
starts-end limit is cs whole k h kept =
    sym (append-nil cs) ∙ ap (λ (js : List Instance). cs ++ map (λ (i : Instance). start_of limit i.model) js) (sym (drop_all k is h))
    ∙ kept
