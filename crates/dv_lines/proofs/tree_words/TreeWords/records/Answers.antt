use Rattle.std.proofs.Common.{List, ap, ◌∙◌}
use Rattle.dv_tree.specs.Tables.{Source}
use Rattle.dv_text.specs.Names.{tree_names}
use Rattle.dv_lines.specs.Entries.{line_by, line_of}
use Rattle.dv_lines.specs.Words.{WordTexts}
use Rattle.dv_lines.proofs.tree_words.TreeWords.records.Goals as goal

pub new-requires : goal.new-requires
new-requires g c = λ e.
    ap (λ (rows : List WordTexts). line_by rows e) c.self.invariant.0
    ∙ c.words_say_the_names.ensures.entry (tree_names c.self.inside.tree.now) e
    ∙ ap (λ (s : Source). line_of (tree_names s) e) c.self.view_is
    ∙ c.requires e
