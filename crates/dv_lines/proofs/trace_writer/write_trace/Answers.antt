use Rattle.std.proofs.Common.{ℕ, List, ap, refl, subst}
use Rattle.std.proofs.lemmas.Result.{on_err_weaker, on_ok_weaker}
use Rattle.std.specs.Io.KnownBytes.{Appends}
use Rattle.dv_bag.specs.Part.{PartOf}
use Rattle.dv_tree.specs.Tables.{Source}
use Rattle.dv_text.specs.Names.{tree_names, tree_ports}
use Rattle.dv_text.specs.Texts.{ending_text, part_text}
use Rattle.dv_text.specs.Writing.{StopsShort}
use Rattle.dv_text.specs.declared.writing.Ending.TheVariants.{Whole}
use Rattle.dv_text.proofs.Endings.{ending-some}
use Rattle.dv_text.proofs.Taking.{Appends-append, AppendsBeginning-nothing, AppendsBeginning-text, OnErr-always, StopsShort-behind, StopsShort-longer}
use Rattle.dv_lines.proofs.trace_writer.write_trace.Goals as goal

abbrev lines : PartOf → Source → List ℕ
lines p s = part_text (tree_names s) (tree_ports s) p

pub returns-in_err-words-clause-err : goal.returns-in_err-words-clause-err
returns-in_err-words-clause-err g c = λ by.
    OnErr-always _
    (StopsShort-longer (ending_text (Whole c.args.horizon)) (ending-some (Whole c.args.horizon))
    (AppendsBeginning-nothing (g.W.Write.contents c.args.writer.now) (lines c.args.trace.now c.args.tree.now)))

pub write_lines-requires : goal.write_lines-requires
write_lines-requires g c = λ e. refl

pub returns-in_err-write_lines-clause-err : goal.returns-in_err-write_lines-clause-err
returns-in_err-write_lines-clause-err g c = λ by.
    OnErr-always _
    (StopsShort-longer (ending_text (Whole c.args.horizon)) (ending-some (Whole c.args.horizon))
    (AppendsBeginning-text (ap (lines c.args.trace.now) c.in_ok-words.ensures) (c.in_err-write_lines.ensures.err by)))

pub returns-clause-ok : goal.returns-clause-ok
returns-clause-ok g c = λ by.
    let before = g.W.Write.contents c.args.writer.now in
    let between = g.W.Write.contents c.write_lines.new.writer in
    let after = g.W.Write.contents c.write_ending.new.writer in
    let first =
    subst (λ (t : List ℕ). Appends before between t) (ap (lines c.args.trace.now) c.in_ok-words.ensures)
    (c.in_ok-write_lines.ensures.ok by) in
    on_ok_weaker c.write_ending.result
    (λ (p : Appends between after (ending_text (Whole c.args.horizon))). Appends-append before between after
    (lines c.args.trace.now c.args.tree.now) (ending_text (Whole c.args.horizon)) first p) c.write_ending.ensures.ok

pub returns-clause-err : goal.returns-clause-err
returns-clause-err g c = λ by.
    let before = g.W.Write.contents c.args.writer.now in
    let between = g.W.Write.contents c.write_lines.new.writer in
    let after = g.W.Write.contents c.write_ending.new.writer in
    let first =
    subst (λ (t : List ℕ). Appends before between t) (ap (lines c.args.trace.now) c.in_ok-words.ensures)
    (c.in_ok-write_lines.ensures.ok by) in
    on_err_weaker c.write_ending.result
    (λ (p : StopsShort between after (ending_text (Whole c.args.horizon))). StopsShort-behind
    (lines c.args.trace.now c.args.tree.now) (ending_text (Whole c.args.horizon)) first p) c.write_ending.ensures.err
