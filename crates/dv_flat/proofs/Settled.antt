-- Levels past one at which the ways no longer change.
use Rattle.std.proofs.Common.{◌≡◌, ℕ, zero, suc, ◌+◌, ◌-◌, ◌<◌, List, ap, sym, ◌∙◌, arith}
use Rattle.dv_syntax.specs.Trees.{ModelTree}
use Rattle.dv_flat.specs.Ways.{WayCounts, ways_below, ways_over}

-- where one more level has the same ways, so has each deeper one
settled_more : (more level : ℕ) (models : List ModelTree) → ways_below (suc level) models ≡ ways_below level models →
    ways_below (more + level) models ≡ ways_below level models
settled_more zero level models same =
    let none : 0 + level ≡ level = omega arith in
    ap (λ n. ways_below n models) none
settled_more (suc more) level models same =
    let next : suc more + level ≡ suc (more + level) = omega arith in
    ap (λ n. ways_below n models) next ∙ ap (λ below. ways_over below models) (settled_more more level models same) ∙ same

-- the ways over those of a level, where they are the same, are those of each deeper level
pub settled : (levels level : ℕ) (models : List ModelTree) (below over : List WayCounts) → level < levels →
    below ≡ ways_below level models → over ≡ ways_over below models → over ≡ below → over ≡ ways_below levels models
settled levels level models below over within at is same =
    let next : ways_below (suc level) models ≡ ways_below level models = ap (λ b. ways_over b models) (sym at) ∙ sym is ∙ same ∙ at in
    let count : (levels - level) + level ≡ levels = omega (arith, within) in
    same ∙ at ∙ sym (settled_more (levels - level) level models next) ∙ ap (λ n. ways_below n models) count
