-- What stands at the targets of couplings, and what more values at one of them change.
use Rattle.std.proofs.Common.{◌≡◌, ℕ, zero, suc, ◌<◌, ◌≤◌, Bool, true, false, cond, eqb, ltb, List, [], ◌∷◌, length, map, get_or}
use Rattle.std.proofs.Common.{replicate, refl, ap, sym, ◌∙◌, arith, ⊎_elim}
use Rattle.std.specs.Prelude.{◌&&◌}
use Rattle.std.proofs.Math.ListN.{set}
use Rattle.std.proofs.lemmas.Bool.{cases_lt, eqb-true, eqb-false}
use Rattle.std.proofs.lemmas.List.{get_or_past, get_or-set_same, get_or-set_other, length-set, set_past}
use Rattle.dv_syntax.specs.Trees.{ModelTree, CoupledTree}
use Rattle.dv_bag.specs.Bag.{Counts, bag_at, union}
use Rattle.dv_tree.specs.Couplings.{Shown, shown_parts}
use Rattle.dv_tree.specs.Routing.{Arrived, joined_at, with_values, nothing_at}
use Rattle.dv_tree.specs.declared.couplings.Target.{Target}
use Rattle.dv_tree.specs.declared.couplings.Target.TheVariants.{Own, OfPart}

-- what stands at a target, and whether there is such a port
abbrev pub value_at : Arrived → Target → Counts
value_at a (Own port) = bag_at a.own port
value_at a (OfPart part port) = bag_at (get_or a.parts part []) port

abbrev pub has_port : Arrived → Target → Bool
has_port a (Own port) = ltb port (length a.own)
has_port a (OfPart part port) = ltb port (length (get_or a.parts part []))

abbrev pub same_target : Target → Target → Bool
same_target (Own port) (Own other) = eqb port other
same_target (Own port) (OfPart part other) = false
same_target (OfPart part port) (Own other) = false
same_target (OfPart part port) (OfPart other_part other) = eqb part other_part && eqb port other

-- the bag of a port, where more values are joined at one
joined_bag : (port other : ℕ) (more : Counts) (bags : List Counts) (b h : Bool) → eqb port other ≡ b → ltb port (length bags) ≡ h →
    bag_at (joined_at port more bags) other ≡ cond (b && h) (union (bag_at bags other) more) (bag_at bags other)
joined_bag port other more bags true true e within =
    let same : port ≡ other = eqb-true port other e in
    let inside : port < length bags = grind (arith, within) in
    ap (λ n. bag_at (joined_at port more bags) n) (sym same)
    ∙ (get_or-set_same bags port (union (bag_at bags port) more) [] inside ∙ ap (λ n. union (bag_at bags n) more) same)
joined_bag port other more bags true false e past =
    let outside : length bags ≤ port = grind (arith, past) in
    ap (λ xs. bag_at xs other) (set_past bags port (union (bag_at bags port) more) outside)
joined_bag port other more bags false h e within =
    get_or-set_other bags port other (union (bag_at bags port) more) [] (λ same. eqb-false port other e (sym same))

length-joined_at : (port : ℕ) (more : Counts) (bags : List Counts) → length (joined_at port more bags) ≡ length bags
length-joined_at port more bags = length-set bags port (union (bag_at bags port) more)

-- the bags of a part, where more values are joined at a port of one
part_joined : (parts : List (List Counts)) (part other port : ℕ) (more : Counts) (b : Bool) → eqb part other ≡ b →
    get_or (set parts part (joined_at port more (get_or parts part []))) other []
    ≡ cond b (joined_at port more (get_or parts other [])) (get_or parts other [])
part_joined parts part other port more true e =
    let same : part ≡ other = eqb-true part other e in
    ⊎_elim
    (λ (within : part < length parts).
    ap (λ n. get_or (set parts part (joined_at port more (get_or parts part []))) n []) (sym same)
    ∙ (get_or-set_same parts part (joined_at port more (get_or parts part [])) [] within
    ∙ ap (λ n. joined_at port more (get_or parts n [])) same))
    (λ (past : length parts ≤ part).
    let none = get_or_past parts other [] (omega (arith, past, same)) in
    ap (λ xs. get_or xs other []) (set_past parts part (joined_at port more (get_or parts part [])) past)
    ∙ (none ∙ ap (joined_at port more) (sym none))) (cases_lt part (length parts))
part_joined parts part other port more false e =
    get_or-set_other parts part other (joined_at port more (get_or parts part [])) [] (λ same. eqb-false part other e (sym same))

-- a target after more values came to one
value_of_part : (a : Arrived) (part other_part port other : ℕ) (more : Counts) (x y h : Bool) → eqb part other_part ≡ x →
    eqb port other ≡ y →
    ltb port (length (get_or a.parts part [])) ≡ h →
    value_at (with_values (OfPart part port) more a) (OfPart other_part other)
    ≡ cond ((x && y) && h) (union (value_at a (OfPart other_part other)) more) (value_at a (OfPart other_part other))
value_of_part a part other_part port other more true y h e f within =
    ap (λ xs. bag_at xs other) (part_joined a.parts part other_part port more true e)
    ∙ joined_bag port other more (get_or a.parts other_part []) y h f
    (ap (λ n. ltb port (length (get_or a.parts n []))) (sym (eqb-true part other_part e)) ∙ within)
value_of_part a part other_part port other more false y h e f within =
    ap (λ xs. bag_at xs other) (part_joined a.parts part other_part port more false e)

pub value_with : (t : Target) (more : Counts) (a : Arrived) (u : Target) →
    value_at (with_values t more a) u ≡ cond (same_target t u && has_port a t) (union (value_at a u) more) (value_at a u)
value_with (Own port) more a (Own other) = joined_bag port other more a.own (eqb port other) (ltb port (length a.own)) refl refl
value_with (Own port) more a (OfPart part other) = refl
value_with (OfPart part port) more a (Own other) = refl
value_with (OfPart part port) more a (OfPart other_part other) =
    value_of_part a part other_part port other more (eqb part other_part) (eqb port other)
    (ltb port (length (get_or a.parts part []))) refl refl refl

part_length : (parts : List (List Counts)) (part other port : ℕ) (more : Counts) (b : Bool) → eqb part other ≡ b →
    length (get_or (set parts part (joined_at port more (get_or parts part []))) other []) ≡ length (get_or parts other [])
part_length parts part other port more true e =
    ap length (part_joined parts part other port more true e) ∙ length-joined_at port more (get_or parts other [])
part_length parts part other port more false e = ap length (part_joined parts part other port more false e)

pub has_with : (t : Target) (more : Counts) (a : Arrived) (u : Target) → has_port (with_values t more a) u ≡ has_port a u
has_with (Own port) more a (Own other) = ap (ltb other) (length-joined_at port more a.own)
has_with (Own port) more a (OfPart part other) = refl
has_with (OfPart part port) more a (Own other) = refl
has_with (OfPart part port) more a (OfPart other_part other) =
    ap (ltb other) (part_length a.parts part other_part port more (eqb part other_part) refl)

pub none_in : (ports n : ℕ) → bag_at (replicate ports []) n ≡ []
none_in zero n = refl
none_in (suc ports) zero = refl
none_in (suc ports) (suc n) = none_in ports n

none_in_part : (shown : List Shown) (part port : ℕ) →
    bag_at (get_or (map (λ (s : Shown). replicate {A = Counts} (length s.inputs) []) shown) part []) port ≡ []
none_in_part [] part port = refl
none_in_part (s ∷ shown) zero port = none_in (length s.inputs) port
none_in_part (s ∷ shown) (suc part) port = none_in_part shown part port

-- no values stand where nothing has come
pub none_standing : (models : List ModelTree) (m : CoupledTree) (u : Target) → value_at (nothing_at models m) u ≡ []
none_standing models m (Own port) = none_in (length m.outputs) port
none_standing models m (OfPart part port) = none_in_part (shown_parts models m) part port
