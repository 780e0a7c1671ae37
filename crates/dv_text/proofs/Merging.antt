-- The lines of a part, entry by entry.
use Rattle.std.proofs.Common.{◌≡◌, ℕ, ◌+◌, ◌<◌, ◌≤◌, List, ◌∷◌, ◌++◌, length, get_or, drop, sym, ap, ◌∙◌}
use Rattle.std.specs.List.{flat_map}
use Rattle.std.proofs.lemmas.List.{at_drop_more, at_drop_all}
use Rattle.dv_time.specs.declared.time.Time.{Time}
use Rattle.dv_bag.specs.declared.entry.Entry.{Entry}
use Rattle.dv_text.specs.Merging.{group_text, groups_before, groups_from, lines_by_time}
use Rattle.dv_text.specs.Texts.{ComponentNames, entry_text, names_at}

-- the groups before the next entry, its line, and what is left
pub next_entry : (all : List ComponentNames) (items : List Entry) (i : ℕ) (e : Entry) (gs left : List (Time × List ℕ)) →
    i < length items → e ≡ get_or items i e → left ≡ groups_from e.time gs →
    lines_by_time all (drop i items) gs ≡
    groups_before e.time gs ++ (entry_text (names_at all e.component) e ++ lines_by_time all (drop (i + 1) items) left)
next_entry all items i e gs left h is from =
    let after = drop (i + 1) items in
    let text = entry_text (names_at all e.component) e in
    at_drop_more (λ es. lines_by_time all es gs) items i e h
    ∙ ap (λ (x : Entry). lines_by_time all (x ∷ after) gs) (sym is)
    ∙ ap (λ hs. groups_before e.time gs ++ (text ++ lines_by_time all after hs)) (sym from)

-- after the last entry the groups are left
pub last_groups : (all : List ComponentNames) (items : List Entry) (i : ℕ) (gs : List (Time × List ℕ)) →
    length items ≤ i → lines_by_time all (drop i items) gs ≡ flat_map group_text gs
last_groups all items i gs h = at_drop_all (λ es. lines_by_time all es gs) items i h
