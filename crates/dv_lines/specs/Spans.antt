-- The lines of spans of entries, merged by time with output lines.
use Rattle.std.specs.Prelude.{ℕ, Bool, false, List, [], ◌∷◌, ◌++◌, Option}
use Rattle.dv_time.specs.declared.time.Time.{Time}
use Rattle.dv_time.specs.Time.{is_before}
use Rattle.dv_bag.specs.declared.entry.Entry.{Entry}
use Rattle.dv_bag.specs.declared.entry.Outer.{Outer}
use Rattle.dv_tree.specs.Tables.{Source}
use Rattle.dv_text.specs.Merging.{groups_of, lines_by_time}
use Rattle.dv_text.specs.Names.{tree_names, tree_ports}
use Rattle.dv_text.specs.Writing.{AppendsBeginning, TakesFront}

-- the lines of entries and of what left, by the names of a tree
abbrev pub merged_lines : Source → List Entry → List Outer → List ℕ
merged_lines tree es os = lines_by_time (tree_names tree) es (groups_of (tree_ports tree) os)

-- whether the first output line is before a time
abbrev pub is_first_before : List Outer → Time → Bool
is_first_before [] t = false
is_first_before (o ∷ os) t = is_before o.time t

-- The lines of a span, and the output lines before them, went through a buffer to a writer. Whatever entries follow, what is left
-- to be written are their lines, with the output lines that are left.
abbrev pub SpanPasses : Source → List Entry → (old new : Option (List ℕ)) → (before after : List ℕ) → (outer left : List Outer) → Type 0
SpanPasses tree span old new before after outer left =
    (more : List Entry) → TakesFront old new (before ++ merged_lines tree (span ++ more) outer) (after ++ merged_lines tree more left)

-- The writer took a beginning of them.
abbrev pub SpanBegins : Source → List Entry → (old new : Option (List ℕ)) → (before : List ℕ) → (outer : List Outer) → Type 0
SpanBegins tree span old new before outer =
    (more : List Entry) → AppendsBeginning old new (before ++ merged_lines tree (span ++ more) outer)
