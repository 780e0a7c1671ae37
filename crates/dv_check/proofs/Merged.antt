-- The ports of a coupled model by offset: none is lost, and none is added.
use Rattle.std.proofs.Common.{◌≡◌, ℕ, ◌+◌, ◌==◌, Bool, true, false, ◌||◌, nat_lt, if◌then◌else◌, List, [], ◌∷◌, ◌++◌, length, map}
use Rattle.std.proofs.Common.{refl, ap, Option, Some, arith}
use Rattle.std.proofs.lemmas.List.{length-append, length-map}
use Rattle.dv_syntax.specs.declared.tree.Name.{Name}
use Rattle.dv_syntax.specs.declared.tree.Declaration.{Declaration}
use Rattle.dv_syntax.specs.declared.tree.Declaration.TheVariants.{In, Out}
use Rattle.dv_check.specs.declared.declarations.NameSort.{NameSort}
use Rattle.dv_check.specs.declared.declarations.NameSort.TheVariants.{Input, Output}
use Rattle.dv_check.specs.Names.{among, first_of}
use Rattle.dv_check.specs.Rules.{sort_in}
use Rattle.dv_check.specs.Couplings.{is_input, is_output}
use Rattle.dv_check.specs.Ports.{names_before, names_from, ports_by_offset}

-- a list is what stands before an offset and what stands from there on
halves_if : (b : Bool) (n : Name) (front back names : List Name) → front ++ back ≡ names
    → (if b then n ∷ front else []) ++ (if b then back else n ∷ names) ≡ n ∷ names
halves_if true n front back names e = ap (λ ns. n ∷ ns) e
halves_if false n front back names e = refl

halves : (offset : ℕ) (names : List Name) → names_before offset names ++ names_from offset names ≡ names
halves offset [] = refl
halves offset (n ∷ names) = halves_if (nat_lt n.offset offset) n (names_before offset names) (names_from offset names) names (halves offset names)

-- ---- Inputs

input_behind_if : (b : Bool) (o : Option NameSort) → is_input (if b then Some Output else o) ≡ true → is_input o ≡ true
input_behind_if true o e = absurd (cc)
input_behind_if false o e = e

input_behind : (q : ℕ) (names : List Name) (ds : List Declaration) → is_input (sort_in (map Out names ++ ds) q) ≡ true
    → is_input (sort_in ds q) ≡ true
unfolding first_of
input_behind q [] ds e = e
input_behind q (n ∷ names) ds e = input_behind q names ds (input_behind_if (n.number == q) (sort_in (map Out names ++ ds) q) e)

no_input : (q : ℕ) (names : List Name) → is_input (sort_in (map Out names) q) ≡ true → ⊥
unfolding first_of
no_input q [] e = cc
no_input q (n ∷ names) e = no_input q names (input_behind_if (n.number == q) (sort_in (map Out names) q) e)

input_among_if : (b c : Bool) (o : Option NameSort) → (is_input o ≡ true → c ≡ true) → is_input (if b then Some Input else o) ≡ true
    → (b || c) ≡ true
input_among_if true c o later e = refl
input_among_if false c o later e = later e

input_first : (q : ℕ) (i : Name) (inputs : List Name) (ds : List Declaration) → (is_input (sort_in ds q) ≡ true → among inputs q ≡ true)
    → is_input (sort_in (In i ∷ ds) q) ≡ true → among (i ∷ inputs) q ≡ true
unfolding first_of among
input_first q i inputs ds later e = input_among_if (i.number == q) (among inputs q) (sort_in ds q) later e

pub input_among : (q : ℕ) (inputs outputs : List Name) → is_input (sort_in (ports_by_offset inputs outputs) q) ≡ true → among inputs q ≡ true
input_among q [] outputs e = absurd (no_input q outputs e)
input_among q (i ∷ inputs) outputs e =
    let rest = names_from i.offset outputs in
    input_first q i inputs (ports_by_offset inputs rest) (input_among q inputs rest)
    (input_behind q (names_before i.offset outputs) (In i ∷ ports_by_offset inputs rest) e)

-- ---- Outputs

output_among_if : (b c : Bool) (o : Option NameSort) → (is_output o ≡ true → c ≡ true) → is_output (if b then Some Output else o) ≡ true
    → (b || c) ≡ true
output_among_if true c o later e = refl
output_among_if false c o later e = later e

output_in_front : (q : ℕ) (names more : List Name) (ds : List Declaration) → (is_output (sort_in ds q) ≡ true → among more q ≡ true)
    → is_output (sort_in (map Out names ++ ds) q) ≡ true → among (names ++ more) q ≡ true
unfolding first_of among
output_in_front q [] more ds later e = later e
output_in_front q (n ∷ names) more ds later e =
    output_among_if (n.number == q) (among (names ++ more) q) (sort_in (map Out names ++ ds) q) (output_in_front q names more ds later) e

output_alone : (q : ℕ) (names : List Name) → is_output (sort_in (map Out names) q) ≡ true → among names q ≡ true
unfolding first_of among
output_alone q [] e = absurd (cc)
output_alone q (n ∷ names) e = output_among_if (n.number == q) (among names q) (sort_in (map Out names) q) (output_alone q names) e

output_behind_if : (b : Bool) (o : Option NameSort) → is_output (if b then Some Input else o) ≡ true → is_output o ≡ true
output_behind_if true o e = absurd (cc)
output_behind_if false o e = e

output_behind : (q : ℕ) (i : Name) (ds : List Declaration) → is_output (sort_in (In i ∷ ds) q) ≡ true → is_output (sort_in ds q) ≡ true
unfolding first_of
output_behind q i ds e = output_behind_if (i.number == q) (sort_in ds q) e

pub output_among : (q : ℕ) (inputs outputs : List Name) → is_output (sort_in (ports_by_offset inputs outputs) q) ≡ true
    → among outputs q ≡ true
output_among q [] outputs e = output_alone q outputs e
output_among q (i ∷ inputs) outputs e =
    let front = names_before i.offset outputs in
    let rest = names_from i.offset outputs in
    let ds = ports_by_offset inputs rest in
    let there = output_in_front q front rest (In i ∷ ds) (λ h. output_among q inputs rest (output_behind q i ds h)) e in
    rw (halves i.offset outputs) at there

-- ---- Their number

pub ports_counted : (inputs outputs : List Name) → length (ports_by_offset inputs outputs) ≡ length inputs + length outputs
ports_counted [] outputs = omega (arith, length-map outputs Out)
ports_counted (i ∷ inputs) outputs =
    let front = names_before i.offset outputs in
    let rest = names_from i.offset outputs in
    let both : length front + length rest ≡ length outputs = omega (arith, length-append front rest, ap length (halves i.offset outputs)) in
    omega (arith, both, length-append (map Out front) (In i ∷ ports_by_offset inputs rest), length-map front Out, ports_counted inputs rest)
