-- Levels past one at which the sizes no longer change.
use Rattle.std.proofs.Common.{◌≡◌, ℕ, zero, suc, ◌+◌, ◌-◌, ◌<◌, List, Option, map, ap, sym, ◌∙◌, arith}
use Rattle.dv_check.specs.Sizes.{size_by, sizes_below}
use Rattle.dv_check.specs.declared.sizes.Size.{Size}

-- where one more level has the same sizes, so has each deeper one
settled_more : (more level : ℕ) (contents : List (Option (List ℕ))) → sizes_below (suc level) contents ≡ sizes_below level contents →
    sizes_below (more + level) contents ≡ sizes_below level contents
settled_more zero level contents same =
    let none : 0 + level ≡ level = omega arith in
    ap (λ n. sizes_below n contents) none
settled_more (suc more) level contents same =
    let next : suc more + level ≡ suc (more + level) = omega arith in
    ap (λ n. sizes_below n contents) next ∙ ap (λ below. map (size_by below) contents) (settled_more more level contents same) ∙ same

-- the sizes over those of a level, where they are the same, are those of each deeper level
pub settled : (levels level : ℕ) (contents : List (Option (List ℕ))) (below over : List Size) → level < levels →
    below ≡ sizes_below level contents → over ≡ map (size_by below) contents → over ≡ below → over ≡ sizes_below levels contents
settled levels level contents below over within at is same =
    let next : sizes_below (suc level) contents ≡ sizes_below level contents =
    ap (λ b. map (size_by b) contents) (sym at) ∙ sym is ∙ same ∙ at in
    let count : (levels - level) + level ≡ levels = omega (arith, within) in
    same ∙ at ∙ sym (settled_more (levels - level) level contents next) ∙ ap (λ n. sizes_below n contents) count
