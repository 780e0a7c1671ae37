-- The loops over the parts of a coupled model, part by part.
use Rattle.std.proofs.Common.{◌≡◌, ℕ, zero, suc, ◌+◌, ◌-◌, ◌^◌, ◌<◌, ◌≤◌, min, List, [], ◌∷◌, ◌++◌}
use Rattle.std.proofs.Common.{length, map, get_or, drop, refl, ap, sym, ◌∙◌, add-one, arith}
use Rattle.std.specs.List.{fold, sum_by}
use Rattle.std.specs.Prelude.{Option, None}
use Rattle.std.proofs.lemmas.List.{append_assoc, at_drop_more, drop_all, get_or-map, length-map}
use Rattle.std.proofs.lemmas.List.Sums.{sum_by-cons}
use Rattle.dv_syntax.specs.Trees.{ModelTree, model_of}
use Rattle.dv_syntax.specs.declared.tree.Model.{Model}
use Rattle.dv_eval.specs.Scope.{Scope}
use Rattle.std.specs.Borrow.{Bor}
use Rattle.dv_tree.specs.Reached.{borrowed, borrowed_models}
use Rattle.dv_bag.specs.Bag.{capped}
use Rattle.dv_flat.specs.Ways.{WayCounts, crossing_ways, joined_ways, model_ways, no_ways, output_ways}
use Rattle.dv_flat.specs.Ways.{own_inputs, part_ways, ways_by, with_output}
use Rattle.dv_tree.specs.declared.couplings.Coupling.{Coupling}
use Rattle.dv_tree.specs.declared.resolved_parts.ResolvedPart.{ResolvedPart}
use Rattle.dv_tree.specs.Nodes.{level_at}
use Rattle.dv_tree.specs.Tables.{LevelTable, level_of_model, levels_of, scope_of_model}
use Rattle.dv_tree.proofs.Below.{scope_read}
use Rattle.dv_tree.proofs.Gathered.{Gathers}

-- the ways inside parts, and those that their couplings join to ways of all parts
abbrev pub inside_from : List WayCounts → List (List Coupling) → List WayCounts → ℕ
inside_from all couplings parts = sum_by (λ (p : WayCounts). p.inside) parts + crossing_ways all couplings parts

-- one part, by the couplings that stand at its index
pub output_ways-part : (couplings : List (List Coupling)) (index : ℕ) (p : WayCounts) (parts : List WayCounts) (ways : List ℕ) →
    output_ways (drop index couplings) (p ∷ parts) ways
    ≡ output_ways (drop (suc index) couplings) parts (fold (with_output p.outputs) ways (get_or couplings index []))
output_ways-part [] zero p parts ways = refl
output_ways-part [] (suc index) p parts ways = refl
output_ways-part (cs ∷ couplings) zero p parts ways = refl
output_ways-part (cs ∷ couplings) (suc index) p parts ways = output_ways-part couplings index p parts ways

pub crossing_ways-part : (all : List WayCounts) (couplings : List (List Coupling)) (index : ℕ) (p : WayCounts)
    (parts : List WayCounts) →
    crossing_ways all (drop index couplings) (p ∷ parts)
    ≡ sum_by (joined_ways all p.outputs) (get_or couplings index []) + crossing_ways all (drop (suc index) couplings) parts
crossing_ways-part all [] zero p parts = refl
crossing_ways-part all [] (suc index) p parts = refl
crossing_ways-part all (cs ∷ couplings) zero p parts = refl
crossing_ways-part all (cs ∷ couplings) (suc index) p parts = crossing_ways-part all couplings index p parts

-- a sum that is kept, at the end of its loop
pub summed_up : {X : Type 0} (f : X → ℕ) (xs : List X) (i total : ℕ) → total < 2 ^ 64 →
    capped (total + sum_by f (drop i xs)) ≡ capped (sum_by f xs) → length xs ≤ i → total ≡ capped (sum_by f xs)
summed_up f xs i total kept summed past =
    let none = ap (λ ys. capped (total + sum_by f ys)) (drop_all i xs past) in
    omega (arith, none, summed)

inside_from-part : (all : List WayCounts) (couplings : List (List Coupling)) (index : ℕ) (p : WayCounts) (parts : List WayCounts) →
    inside_from all (drop index couplings) (p ∷ parts)
    ≡ (p.inside + sum_by (joined_ways all p.outputs) (get_or couplings index [])) + inside_from all (drop (index + 1) couplings) parts
inside_from-part all couplings index p parts =
    let part = crossing_ways-part all couplings index p parts in
    let next = ap (λ n. crossing_ways all (drop n couplings) parts) (add-one index) in
    let first = sum_by-cons (λ (q : WayCounts). q.inside) p parts in
    omega (arith, first, part, next)

kept_step : (ways inside joined i j whole rest : ℕ) → inside ≡ i → joined ≡ capped j → whole ≡ (i + j) + rest →
    capped (min (min (ways + inside) (2 ^ 64 - 1) + joined) (2 ^ 64 - 1) + rest) ≡ capped (ways + whole)
kept_step ways inside joined i j whole rest inside_is joined_is whole_is = omega arith

-- the sum over parts, one part further and at its end
pub inside_more : (below all : List WayCounts) (couplings : List (List Coupling)) (resolved : List ResolvedPart) (d : ResolvedPart) (index : ℕ)
    (ways inside joined : ℕ) → index < length resolved →
    inside ≡ (get_or below (get_or resolved index d).model no_ways).inside →
    joined
    ≡ capped (sum_by (joined_ways all (get_or below (get_or resolved index d).model no_ways).outputs) (get_or couplings index [])) →
    capped (min (min (ways + inside) (2 ^ 64 - 1) + joined) (2 ^ 64 - 1)
    + inside_from all (drop (index + 1) couplings) (part_ways below (drop (index + 1) resolved)))
    ≡ capped (ways + inside_from all (drop index couplings) (part_ways below (drop index resolved)))
inside_more below all couplings resolved d index ways inside joined within inside_is joined_is =
    let p = get_or below (get_or resolved index d).model no_ways in
    let rest = drop (index + 1) resolved in
    let left : List ResolvedPart → ℕ = λ es. inside_from all (drop index couplings) (part_ways below es) in
    kept_step ways inside joined p.inside _ _ _ inside_is joined_is
    (at_drop_more left resolved index d within ∙ inside_from-part all couplings index p (part_ways below rest))

pub output_ways-end : (couplings : List (List Coupling)) (ways : List ℕ) → output_ways couplings [] ways ≡ ways
output_ways-end [] ways = refl
output_ways-end (cs ∷ couplings) ways = refl

pub inside_end : (all : List WayCounts) (couplings : List (List Coupling)) → inside_from all couplings [] ≡ 0
inside_end all [] = refl
inside_end all (cs ∷ couplings) = refl

-- the ways of one model more
pub over_more : (below : List WayCounts) (models : List ModelTree) (lent : List (Bor Model)) (l : Bor Model) (index : ℕ)
    (scopes : List Scope) (levels : List (Option LevelTable)) (scope : Scope) (level : Option LevelTable) (over pushed : List WayCounts)
    (ways : WayCounts) →
    models ≡ borrowed_models lent → scopes ≡ map scope_of_model models → levels ≡ levels_of models → index < length lent →
    l ≡ get_or lent index l → scope ≡ get_or scopes index scope → level ≡ level_at levels index →
    ways ≡ ways_by (own_inputs (model_of l.now)) scope level below → pushed ≡ over ++ ways ∷ [] →
    Gathers (λ xs. map (model_ways below models) (map model_of xs)) over index (borrowed lent) →
    Gathers (λ xs. map (model_ways below models) (map model_of xs)) pushed (index + 1) (borrowed lent)
over_more below models lent l index scopes levels scope level over pushed ways are scopes_are levels_are within_lent read_lent scope_is
    level_is ways_are pushed_is gathered =
    let items = borrowed lent in
    let m = l.now in
    let within : index < length items = omega (arith, within_lent, length-map lent (λ (x : Bor Model). x.now)) in
    let read : m ≡ get_or items index m =
    sym (get_or-map (λ (x : Bor Model). x.now) lent index l m within_lent ∙ ap (λ (x : Bor Model). x.now) (sym read_lent)) in
    let made : List Model → List WayCounts = λ xs. map (model_ways below models) (map model_of xs) in
    let rest = drop (index + 1) items in
    let one : made (drop index items) ≡ made (m ∷ rest) =
    at_drop_more made items index m within ∙ ap (λ x. made (x ∷ rest)) (sym read) in
    let by_scope : scope ≡ scope_of_model (model_of m) =
    scope_read items scopes index m scope (scopes_are ∙ ap (map scope_of_model) are) within read scope_is in
    let by_level : level ≡ level_of_model models (model_of m) =
    level_is
    ∙ (ap (λ ls. level_at ls index) (levels_are ∙ ap (map (level_of_model models)) are)
    ∙ (get_or-map (level_of_model models) (map model_of items) index (model_of m) None (omega (arith, within, length-map items model_of))
    ∙ ap (level_of_model models) (get_or-map model_of items index m (model_of m) within ∙ ap model_of (sym read)))) in
    let is : ways ≡ model_ways below models (model_of m) =
    ways_are
    ∙ (ap (λ s. ways_by (own_inputs (model_of m)) s level below) by_scope
    ∙ ap (λ l. ways_by (own_inputs (model_of m)) (scope_of_model (model_of m)) l below) by_level) in
    ap (λ xs. xs ++ made rest) (pushed_is ∙ ap (λ w. over ++ w ∷ []) is)
    ∙ (append_assoc over (model_ways below models (model_of m) ∷ []) (made rest)
    ∙ (ap (λ xs. over ++ xs) (sym one) ∙ gathered))
