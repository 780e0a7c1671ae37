-- Parts of processes.
use Rattle.std.proofs.Common.{◌≡◌, ℕ, List, [], ◌∷◌, map, refl, ap, ◌∙◌}
use Rattle.dv_bag.specs.Part.{PartOf}
use Rattle.dv_merge.specs.Whole.{ArePartsOf}
use Rattle.dv_merge.proofs.Merging.{one_process}
use Rattle.dv_merge.proofs.Uniting.{one_list}
use Rattle.dv_merge.proofs.Wholes.{are_lines, whole_again}

-- a whole of one part is that part
pub alone_is_whole : (owner : ℕ → ℕ) (all part : PartOf) → ArePartsOf owner all (part ∷ []) → part ≡ all
alone_is_whole owner all part are =
    whole_again owner all (part ∷ []) part.entries part.outer are
    (are.entries 0 part refl ∙ one_process owner 0 1 all.entries refl)
    (one_list (part.outer ∷ []) part.outer (are_lines (part ∷ []) are.lines) refl)

pub map_twice : {X Y Z : Type 0} (f : X → Y) (g : Y → Z) (xs : List X) → map g (map f xs) ≡ map (λ x. g (f x)) xs
map_twice f g [] = refl
map_twice {X} {Y} {Z} f g (x ∷ xs) = ap (λ (zs : List Z). g (f x) ∷ zs) (map_twice f g xs)
