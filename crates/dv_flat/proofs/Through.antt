-- What passes the couplings of a coupled model, counted: what comes to its parts, and what leaves it.
use Rattle.std.proofs.Common.{◌≡◌, ℕ, ◌+◌, ◌*◌, ◌≤◌, List, [], ◌∷◌, length, map, get_or, replicate, refl, ap}
use Rattle.std.proofs.Common.{sym, ◌∙◌, subst, arith}
use Rattle.std.specs.List.{fold, sum_by}
use Rattle.std.proofs.Math.ListN.{get_or-map, set}
use Rattle.std.proofs.Math.Nat.{mul_comm}
use Rattle.std.proofs.lemmas.List.{length-replicate, map-set}
use Rattle.std.proofs.lemmas.List.Sums.{sum_by-cons}
use Rattle.dv_bag.specs.Bag.{Counts, bag_at, capped, union}
use Rattle.dv_tree.specs.Routing.{Arrived, along, along_all, joined_at, with_coupling, with_values}
use Rattle.dv_tree.specs.declared.couplings.Target.{Target}
use Rattle.dv_tree.specs.declared.couplings.Target.TheVariants.{Own, OfPart}
use Rattle.dv_tree.specs.declared.couplings.Coupling.{Coupling}
use Rattle.dv_flat.specs.Ways.{WayCounts, at_port, crossing_ways, input_ways, joined_ways, more_at, more_out, no_ways, output_ways}
use Rattle.dv_flat.specs.Ways.{ways_from, with_input, with_output}
use Rattle.dv_flat.proofs.Alike.{Alike}
use Rattle.dv_flat.proofs.Copies.{copies, copies_union}
use Rattle.dv_flat.proofs.Products.{Covers, covers_more, length-more_at, more_in, product, product_flip}
use Rattle.dv_flat.proofs.Products.{product_more, product_zeros, products, products_more}

-- the copies at each port, and at each port of each part
abbrev pub counts_of : List Counts → List ℕ
counts_of bags = map copies bags

abbrev pub counts_in : List (List Counts) → List (List ℕ)
counts_in all = map counts_of all

abbrev pub inputs_of : List WayCounts → List (List ℕ)
inputs_of parts = map (λ (p : WayCounts). p.inputs) parts

abbrev pub outputs_of : List WayCounts → List (List ℕ)
outputs_of parts = map (λ (p : WayCounts). p.outputs) parts

pub count_at : (bags : List Counts) (port : ℕ) → at_port (counts_of bags) port ≡ copies (bag_at bags port)
count_at bags port = get_or-map copies bags port []

counts_joined : (port : ℕ) (more : Counts) (bags : List Counts) →
    counts_of (joined_at port more bags) ≡ more_at port (copies more) (counts_of bags)
counts_joined port more bags =
    map-set copies bags port (union (bag_at bags port) more)
    ∙ ap (set (counts_of bags) port)
    (copies_union (bag_at bags port) more ∙ ap (λ n. capped (n + copies more)) (sym (count_at bags port)))

-- ---- What leaves

counts_out : (t : Target) (more : Counts) (a : Arrived) →
    counts_of (with_values t more a).own ≡ more_out t (copies more) (counts_of a.own)
counts_out (Own port) more a = counts_joined port more a.own
counts_out (OfPart part port) more a = refl

counts_along : (cs : List Coupling) (bags : List Counts) (a : Arrived) →
    counts_of (along cs bags a).own ≡ fold (with_output (counts_of bags)) (counts_of a.own) cs
counts_along [] bags a = refl
counts_along (c ∷ cs) bags a =
    counts_along cs bags (with_coupling bags a c)
    ∙ ap (λ ws. fold (with_output (counts_of bags)) ws cs)
    (counts_out c.target (bag_at bags c.port) a
    ∙ ap (λ n. more_out c.target n (counts_of a.own)) (sym (count_at bags c.port)))

pub counts_all : (couplings : List (List Coupling)) (leaving : List (List Counts)) (parts : List WayCounts) (a : Arrived) →
    counts_in leaving ≡ outputs_of parts →
    counts_of (along_all couplings leaving a).own ≡ output_ways couplings parts (counts_of a.own)
counts_all [] leaving parts a e = refl
counts_all (cs ∷ couplings) [] [] a e = refl
counts_all (cs ∷ couplings) [] (p ∷ parts) a e = absurd (cc)
counts_all (cs ∷ couplings) (bags ∷ leaving) [] a e = absurd (cc)
counts_all (cs ∷ couplings) (bags ∷ leaving) (p ∷ parts) a e =
    let first : counts_of bags ≡ p.outputs = cc in
    counts_all couplings leaving parts (along cs bags a) (cc)
    ∙ ap (output_ways couplings parts)
    (counts_along cs bags a ∙ ap (λ ws. fold (with_output ws) (counts_of a.own) cs) first)

length-more_out : (t : Target) (more : ℕ) (ways : List ℕ) → length (more_out t more ways) ≡ length ways
length-more_out (Own port) more ways = length-more_at port more ways
length-more_out (OfPart part port) more ways = refl

length-with_outputs : (outputs : List ℕ) (cs : List Coupling) (ways : List ℕ) →
    length (fold (with_output outputs) ways cs) ≡ length ways
length-with_outputs outputs [] ways = refl
length-with_outputs outputs (c ∷ cs) ways =
    length-with_outputs outputs cs (with_output outputs ways c) ∙ length-more_out c.target (at_port outputs c.port) ways

pub length-output_ways : (couplings : List (List Coupling)) (parts : List WayCounts) (ways : List ℕ) →
    length (output_ways couplings parts ways) ≡ length ways
length-output_ways [] parts ways = refl
length-output_ways (cs ∷ couplings) [] ways = refl
length-output_ways (cs ∷ couplings) (p ∷ parts) ways =
    length-output_ways couplings parts (fold (with_output p.outputs) ways cs) ∙ length-with_outputs p.outputs cs ways

-- ---- What comes to parts

counts_came : (part port : ℕ) (more : Counts) (a : Arrived) →
    counts_in (with_values (OfPart part port) more a).parts ≡ more_in part port (copies more) (counts_in a.parts)
counts_came part port more a =
    map-set counts_of a.parts part (joined_at port more (get_or a.parts part []))
    ∙ ap (set (counts_in a.parts) part)
    (counts_joined port more (get_or a.parts part [])
    ∙ ap (more_at port (copies more)) (sym (get_or-map counts_of a.parts part [])))

covers_with : (t : Target) (more : Counts) (a : Arrived) (ways : List (List ℕ)) → Covers (counts_in a.parts) ways →
    Covers (counts_in (with_values t more a).parts) ways
covers_with (Own port) more a ways h = h
covers_with (OfPart part port) more a ways h =
    let There : List (List ℕ) → Type 0 = λ xs. Covers xs ways in
    subst There (sym (counts_came part port more a)) (covers_more part port (copies more) h)

pub covers_along : (cs : List Coupling) (bags : List Counts) (a : Arrived) (ways : List (List ℕ)) → Covers (counts_in a.parts) ways →
    Covers (counts_in (along cs bags a).parts) ways
covers_along [] bags a ways h = h
covers_along (c ∷ cs) bags a ways h =
    covers_along cs bags (with_coupling bags a c) ways (covers_with c.target (bag_at bags c.port) a ways h)

pub covers_all : (couplings : List (List Coupling)) (leaving : List (List Counts)) (a : Arrived) (ways : List (List ℕ)) →
    Covers (counts_in a.parts) ways → Covers (counts_in (along_all couplings leaving a).parts) ways
covers_all [] leaving a ways h = h
covers_all (cs ∷ couplings) [] a ways h = h
covers_all (cs ∷ couplings) (bags ∷ leaving) a ways h =
    covers_all couplings leaving (along cs bags a) ways (covers_along cs bags a ways h)

-- the copies that go on from what has come to parts
abbrev pub onward : Arrived → List WayCounts → ℕ
onward a parts = products (counts_in a.parts) (inputs_of parts)

with_more : (t : Target) (more : Counts) (a : Arrived) (parts : List WayCounts) → Covers (counts_in a.parts) (inputs_of parts) →
    Alike (onward (with_values t more a) parts) (onward a parts + copies more * ways_from parts t)
with_more (Own port) more a parts h = omega arith
with_more (OfPart part port) more a parts h =
    let ways = ap (λ ws. copies more * at_port ws port) (get_or-map (λ (p : WayCounts). p.inputs) parts part no_ways) in
    let came = ap (λ xs. products xs (inputs_of parts)) (counts_came part port more a) in
    let sum = products_more part port (copies more) h in
    omega (arith, ways, came, sum)

pub on_along : (cs : List Coupling) (bags : List Counts) (a : Arrived) (parts : List WayCounts) →
    Covers (counts_in a.parts) (inputs_of parts) →
    Alike (onward (along cs bags a) parts) (onward a parts + sum_by (joined_ways parts (counts_of bags)) cs)
on_along [] bags a parts h = omega arith
on_along (c ∷ cs) bags a parts h =
    let first = with_more c.target (bag_at bags c.port) a parts h in
    let rest = on_along cs bags (with_coupling bags a c) parts (covers_with c.target (bag_at bags c.port) a (inputs_of parts) h) in
    let sum = sum_by-cons (joined_ways parts (counts_of bags)) c cs in
    let count = ap (λ n. n * ways_from parts c.target) (count_at bags c.port) in
    omega (arith, first, rest, sum, count)

pub on_all : (couplings : List (List Coupling)) (leaving : List (List Counts)) (each : List WayCounts) (a : Arrived)
    (parts : List WayCounts) → counts_in leaving ≡ outputs_of each → Covers (counts_in a.parts) (inputs_of parts) →
    Alike (onward (along_all couplings leaving a) parts) (onward a parts + crossing_ways parts couplings each)
on_all [] leaving each a parts e h = omega arith
on_all (cs ∷ couplings) [] [] a parts e h = omega arith
on_all (cs ∷ couplings) [] (p ∷ each) a parts e h = absurd (cc)
on_all (cs ∷ couplings) (bags ∷ leaving) [] a parts e h = absurd (cc)
on_all (cs ∷ couplings) (bags ∷ leaving) (p ∷ each) a parts e h =
    let first = on_along cs bags a parts h in
    let outputs : counts_of bags ≡ p.outputs = cc in
    let same = ap (λ ws. sum_by (joined_ways parts ws) cs) outputs in
    let behind : counts_in leaving ≡ outputs_of each = cc in
    let rest = on_all couplings leaving each (along cs bags a) parts behind (covers_along cs bags a (inputs_of parts) h) in
    omega (arith, first, same, rest)

-- ---- What comes to the inputs of the model itself

length-inputs : (parts : List WayCounts) (cs : List Coupling) (ways : List ℕ) → length (fold (with_input parts) ways cs) ≡ length ways
length-inputs parts [] ways = refl
length-inputs parts (c ∷ cs) ways =
    length-inputs parts cs (with_input parts ways c) ∙ length-more_at c.port (ways_from parts c.target) ways

pub length-input_ways : (count : ℕ) (parts : List WayCounts) (cs : List Coupling) → length (input_ways count parts cs) ≡ count
length-input_ways count parts cs = length-inputs parts cs (replicate count 0) ∙ length-replicate count 0

inputs_from : (parts : List WayCounts) (xs : List ℕ) (cs : List Coupling) (ways : List ℕ) → length xs ≤ length ways →
    Alike (product xs (fold (with_input parts) ways cs)) (product xs ways + sum_by (joined_ways parts xs) cs)
inputs_from parts xs [] ways short = omega arith
inputs_from parts xs (c ∷ cs) ways short =
    let more = ways_from parts c.target in
    let next = more_at c.port more ways in
    let rest = inputs_from parts xs cs next (omega (arith, short, length-more_at c.port more ways)) in
    let first = product_more ways xs c.port more short in
    let turned = product_flip xs next in
    let back = product_flip ways xs in
    let swapped = mul_comm more (at_port xs c.port) in
    let sum = sum_by-cons (joined_ways parts xs) c cs in
    omega (arith, rest, first, turned, back, swapped, sum)

pub on_from_inputs : (count : ℕ) (parts : List WayCounts) (xs : List ℕ) (cs : List Coupling) → length xs ≤ count →
    Alike (product xs (input_ways count parts cs)) (sum_by (joined_ways parts xs) cs)
on_from_inputs count parts xs cs short =
    let all = inputs_from parts xs cs (replicate count 0) (omega (arith, short, length-replicate {A = ℕ} count 0)) in
    let none = product_flip xs (replicate count 0) ∙ product_zeros count xs in
    omega (arith, all, none)
