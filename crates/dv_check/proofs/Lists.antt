-- Lists of names, one more at a time.
use Rattle.std.proofs.Common.{◌≡◌, ℕ, suc, ◌+◌, ◌<◌, ◌≤◌, ◌==◌, Bool, true, false, ◌||◌, if◌then◌else◌, List, [], length, get_or, take, map}
use Rattle.std.proofs.Common.{arith, refl, ap, ◌∙◌, ◌∷◌, Option, None, Some}
use Rattle.std.specs.List.{filter_map, cons_option}
use Rattle.std.proofs.Math.Path.{fun_ext}
use Rattle.std.proofs.lemmas.List.{length-map}
use Rattle.std.proofs.lemmas.List.Folds.{list_any_more}
use Rattle.std.proofs.lemmas.Option.{slice_get_past}
use Rattle.dv_syntax.specs.Trees.{rule_of}
use Rattle.dv_syntax.specs.declared.tree.Declaration.{Declaration}
use Rattle.dv_syntax.specs.declared.tree.Name.{Name}
use Rattle.dv_syntax.specs.declared.tree.Rule.{Rule}
use Rattle.dv_syntax.specs.declared.tree.RuleSort.{RuleSort}
use Rattle.dv_lex.specs.declared.error.RefusalNumber.{RefusalNumber}
use Rattle.dv_eval.specs.Scope.{state_variable_of, state_variables_in}
use Rattle.dv_check.specs.Limits.{greatest_names}
use Rattle.dv_check.specs.Names.{among, excess, excess_of, excess_past, no_number, repeats, with_number}
use Rattle.dv_check.specs.Rules.{name_of_state_variable, port_of, ports_in, ruled_phase, ruled_phases}

or_if : (a b : Bool) → (a || b) ≡ (if b then true else a)
or_if true true = refl
or_if true false = refl
or_if false true = refl
or_if false false = refl

-- no name has no number, and one name more has one number more
pub among_none : among [] ≡ no_number
unfolding among no_number
among_none = refl

pub among_more : (names : List Name) (i : ℕ) (d : Name) → i < length names
    → among (take (i + 1) names) ≡ with_number (among (take i names)) (get_or names i d).number
unfolding among with_number
among_more names i d h =
    fun_ext
    (λ q.
    list_any_more (λ (n : Name). n.number == q) names i d h
    ∙ or_if (among (take i names) q) ((get_or names i d).number == q))

-- a name alone stands behind no other
pub no_repeats : (number : RefusalNumber) (names : List Name) → length names < 2 → repeats number names ≡ []
unfolding no_number
no_repeats number [] h = refl
no_repeats number (n ∷ []) h = refl
no_repeats number (n ∷ (m ∷ names)) h = grind (arith, h)

-- a filter of a list that was made from another
pub filter_map_of_map : {A B C : Type 0} (f : B → Option C) (g : A → B) (xs : List A)
    → filter_map f (map g xs) ≡ filter_map (λ x. f (g x)) xs
filter_map_of_map f g [] = refl
filter_map_of_map f g (x ∷ xs) = ap (cons_option (f (g x))) (filter_map_of_map f g xs)

-- a map of a list that was made from another
pub map_of_map : {A B C : Type 0} (f : B → C) (g : A → B) (xs : List A) → map f (map g xs) ≡ map (λ x. f (g x)) xs
map_of_map f g [] = refl
map_of_map f g (x ∷ xs) = ap (λ ys. f (g x) ∷ ys) (map_of_map f g xs)

longer : {B : Type 0} (picked : Option B) (ys : List B) (n : ℕ) → length ys ≤ n → length (cons_option picked ys) ≤ suc n
longer None ys n few = omega (arith, few)
longer (Some y) ys n few = omega (arith, few)

-- what is picked of a list, and made of that, is no longer than the list
length-filter_map-le : {A B : Type 0} (f : A → Option B) (xs : List A) → length (filter_map f xs) ≤ length xs
length-filter_map-le f [] = grind arith
length-filter_map-le f (x ∷ xs) = longer (f x) (filter_map f xs) (length xs) (length-filter_map-le f xs)

-- a list within the limit has no name past it
no_excess : (names : List Name) → length names ≤ greatest_names → excess names ≡ []
unfolding excess_past
no_excess names few = ap excess_of (slice_get_past names greatest_names few)

pub few_ports : (declarations : List Declaration) → length declarations ≤ greatest_names → excess (ports_in declarations) ≡ []
few_ports declarations few =
    no_excess (ports_in declarations) (let picked = length-filter_map-le port_of declarations in omega (arith, picked, few))

pub few_variables : (declarations : List Declaration) → length declarations ≤ greatest_names →
    excess (map name_of_state_variable (state_variables_in declarations)) ≡ []
few_variables declarations few =
    no_excess (map name_of_state_variable (state_variables_in declarations))
    (let picked = length-filter_map-le state_variable_of declarations in
    let same = length-map (state_variables_in declarations) name_of_state_variable in
    omega (arith, picked, same, few))

-- a rule alone is no second one
pub no_ruled_repeats : (number : RefusalNumber) (sort : RuleSort) (rules : List Rule) → length rules < 2 →
    repeats number (ruled_phases sort (map rule_of rules)) ≡ []
no_ruled_repeats number sort rules few =
    no_repeats number (ruled_phases sort (map rule_of rules))
    (let picked = length-filter_map-le (ruled_phase sort) (map rule_of rules) in
    let same = length-map rules rule_of in
    omega (arith, picked, same, few))
