-- Serves proofs: the text of a part, made by merging its lines by time. For a part that is sorted by time it is `part_text`.
use Rattle.std.specs.Prelude.{ℕ, if◌then◌else◌, List, [], ◌∷◌, ◌++◌, codes}
use Rattle.std.specs.List.{flat_map}
use Rattle.std.specs.Ordering.{is_eq}
use Rattle.dv_time.specs.declared.time.Time.{Time}
use Rattle.dv_time.specs.Time.{time_cmp, time_text}
use Rattle.dv_bag.specs.Part.{PartOf}
use Rattle.dv_time.specs.Time.{is_before}
use Rattle.dv_bag.specs.declared.entry.Entry.{Entry}
use Rattle.dv_bag.specs.declared.entry.Outer.{Outer}
use Rattle.dv_text.specs.Texts.{ComponentNames, entry_text, names_at, outer_text}

-- groups, with a text put before the others of its time
abbrev pub with_text : Time → List ℕ → List (Time × List ℕ) → List (Time × List ℕ)
with_text t text [] = (t, text) ∷ []
with_text t text (g ∷ gs) = if is_eq (time_cmp t g.0) then (t, text ++ g.1) ∷ gs else (t, text) ∷ g ∷ gs

-- what left at one time, port after port
abbrev pub groups_of : List (List ℕ) → List Outer → List (Time × List ℕ)
groups_of outputs [] = []
groups_of outputs (o ∷ os) = with_text o.time (outer_text outputs o) (groups_of outputs os)

-- the line of what left at one time
abbrev pub group_text : Time × List ℕ → List ℕ
group_text g = time_text g.0 ++ (codes " out" ++ (g.1 ++ (10 ∷ [])))

-- the groups from the first that is not before a time
abbrev pub groups_from : Time → List (Time × List ℕ) → List (Time × List ℕ)
groups_from t [] = []
groups_from t (g ∷ gs) = if is_before g.0 t then groups_from t gs else g ∷ gs

-- the lines of the groups before that
abbrev pub groups_before : Time → List (Time × List ℕ) → List ℕ
groups_before t [] = []
groups_before t (g ∷ gs) = if is_before g.0 t then group_text g ++ groups_before t gs else []

-- the line of the first group, and the groups after it
abbrev pub first_text : List (Time × List ℕ) → List ℕ
first_text [] = []
first_text (g ∷ gs) = group_text g

abbrev pub other_groups : List (Time × List ℕ) → List (Time × List ℕ)
other_groups [] = []
other_groups (g ∷ gs) = gs

-- the lines by time: those of the entries, and then the one of what left at that time
abbrev pub lines_by_time : List ComponentNames → List Entry → List (Time × List ℕ) → List ℕ
lines_by_time all [] gs = flat_map group_text gs
lines_by_time all (e ∷ es) gs =
    groups_before e.time gs ++ (entry_text (names_at all e.component) e ++ lines_by_time all es (groups_from e.time gs))

-- the lines of a part
abbrev pub trace_text : List ComponentNames → List (List ℕ) → PartOf → List ℕ
trace_text all outputs p = lines_by_time all p.entries (groups_of outputs p.outer)
