use Rattle.std.proofs.Common.{◌≡◌, ℕ, List, ap, subst, ◌∙◌}
use Rattle.std.specs.Prelude.{OnErr, OnOk}
use Rattle.std.specs.Io.KnownBytes.{Appends}
use Rattle.dv_bag.specs.Part.{IsByTime, PartOf}
use Rattle.dv_tree.specs.Tables.{Source}
use Rattle.dv_text.specs.Merging.{trace_text}
use Rattle.dv_text.specs.Names.{tree_names, tree_ports}
use Rattle.dv_text.specs.Texts.{part_text}
use Rattle.dv_text.specs.Writing.{AppendsBeginning}
use Rattle.dv_text.proofs.Times.{part_text-merged}
use Rattle.dv_lines.proofs.trace_writer.TraceWriter.part.Goals as goal

merged : (s t : Source) → s ≡ t → (p : PartOf) → IsByTime p →
    trace_text (tree_names s) (tree_ports s) p ≡ part_text (tree_names t) (tree_ports t) p
merged s t same p by =
    ap (λ (x : Source). trace_text (tree_names x) (tree_ports x) p) same ∙ part_text-merged (tree_names t) (tree_ports t) p by

pub returns-clause-ok : goal.returns-clause-ok
returns-clause-ok g c = λ by.
    subst
    (λ (t : List ℕ). OnOk c.write_merged.result
    (Appends (g.W.Write.contents c.args.writer.now) (g.W.Write.contents c.write_merged.new.writer) t))
    (merged c.self.inside.words c.args.self.now c.self.view_is c.args.part.now by) c.write_merged.ensures.ok

pub returns-clause-err : goal.returns-clause-err
returns-clause-err g c = λ by.
    subst
    (λ (t : List ℕ). OnErr c.write_merged.result
    (AppendsBeginning (g.W.Write.contents c.args.writer.now) (g.W.Write.contents c.write_merged.new.writer) t))
    (merged c.self.inside.words c.args.self.now c.self.view_is c.args.part.now by) c.write_merged.ensures.err
