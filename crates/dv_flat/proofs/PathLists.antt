-- Lists of paths.
use Rattle.std.proofs.Common.{◌≡◌, ℕ, ◌+◌, ◌<◌, List, [], ◌∷◌, ◌++◌, get_or, length, map, take, Some, ap, sym, ◌∙◌}
use Rattle.std.specs.Prelude.{slice_get}
use Rattle.std.proofs.lemmas.List.{map_push, take_more}
use Rattle.std.proofs.lemmas.Option.{same_Some, slice_get-get_or}

-- one path more
pub path_more : {T : Type 0} (bytes : T → List ℕ) (texts : List T) (text : T) (paths : List (List ℕ)) (k : ℕ)
    → map bytes texts ≡ take k paths → k < length paths → slice_get paths k ≡ Some (bytes text)
    → map bytes (texts ++ text ∷ []) ≡ take (k + 1) paths
path_more bytes texts text paths k so_far within there =
    let found = sym (slice_get-get_or paths k [] within) ∙ there in
    let same : get_or paths k [] ≡ bytes text = same_Some (get_or paths k []) (bytes text) found in
    map_push bytes texts text ∙ ap (λ ps. ps ++ bytes text ∷ []) so_far
    ∙ ap (λ p. take k paths ++ p ∷ []) (sym same) ∙ sym (take_more paths k [] within)
