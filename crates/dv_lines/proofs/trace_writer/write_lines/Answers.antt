use Rattle.std.proofs.Common.{◌≡◌, ℕ, List, ap, subst, ◌∙◌}
use Rattle.std.specs.Prelude.{OnErr, OnOk}
use Rattle.std.specs.Io.KnownBytes.{Appends}
use Rattle.dv_bag.specs.Part.{IsByTime, PartOf}
use Rattle.dv_tree.specs.Tables.{Source}
use Rattle.dv_text.specs.Merging.{trace_text}
use Rattle.dv_text.specs.Names.{tree_names, tree_ports}
use Rattle.dv_text.specs.Texts.{part_text}
use Rattle.dv_text.specs.Writing.{AppendsBeginning}
use Rattle.dv_text.proofs.Taking.{AppendsBeginning-nothing, OnErr-always}
use Rattle.dv_text.proofs.Times.{part_text-merged}
use Rattle.dv_lines.proofs.trace_writer.write_lines.Goals as goal

abbrev lines : PartOf → Source → List ℕ
lines p s = part_text (tree_names s) (tree_ports s) p

merged : (s : Source) (p q : PartOf) → p ≡ q → IsByTime q → trace_text (tree_names s) (tree_ports s) p ≡ lines q s
merged s p q same by =
    ap (trace_text (tree_names s) (tree_ports s)) same ∙ part_text-merged (tree_names s) (tree_ports s) q by

pub returns-in_err-written-clause-err : goal.returns-in_err-written-clause-err
returns-in_err-written-clause-err g c = λ by.
    OnErr-always _ (AppendsBeginning-nothing (g.W.Write.contents c.args.writer.now) (lines c.args.trace.now c.args.words.now))

pub returns-in_err-part-clause-err : goal.returns-in_err-part-clause-err
returns-in_err-part-clause-err g c = λ by.
    OnErr-always _ (AppendsBeginning-nothing (g.W.Write.contents c.args.writer.now) (lines c.args.trace.now c.args.words.now))

pub returns-clause-ok : goal.returns-clause-ok
returns-clause-ok g c = λ by.
    let same = c.in_ok-part.ensures ∙ c.in_ok-written.ensures in
    subst
    (λ (t : List ℕ). OnOk c.write_merged.result
    (Appends (g.W.Write.contents c.args.writer.now) (g.W.Write.contents c.write_merged.new.writer) t))
    (merged c.args.words.now _ _ same by) c.write_merged.ensures.ok

pub returns-clause-err : goal.returns-clause-err
returns-clause-err g c = λ by.
    let same = c.in_ok-part.ensures ∙ c.in_ok-written.ensures in
    subst
    (λ (t : List ℕ). OnErr c.write_merged.result
    (AppendsBeginning (g.W.Write.contents c.args.writer.now) (g.W.Write.contents c.write_merged.new.writer) t))
    (merged c.args.words.now _ _ same by) c.write_merged.ensures.err
