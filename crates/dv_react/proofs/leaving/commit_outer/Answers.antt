use Rattle.std.proofs.Common.{◌++◌, List, sym, ap, ◌∙◌}
use Rattle.std.proofs.lemmas.Result.{on_ok_weaker}
use Rattle.dv_bag.specs.Part.{PartOf}
use Rattle.dv_bag.specs.declared.entry.Outer.{Outer}
use Rattle.dv_record.proofs.Lines.{lines_at_rank}
use Rattle.dv_react.proofs.leaving.commit_outer.Goals as goal

pub returns-clause-outer : goal.returns-clause-outer
returns-clause-outer c =
    let instant = c.args.instant.now in
    on_ok_weaker c.push_lines.result
    (λ h. ap (λ (p : PartOf). p.outer) h
    ∙ ap (λ (os : List Outer). c.args.committed.now.outer ++ os)
    (sym (lines_at_rank instant.limit instant.time 0 c.args.leaving.now instant.of_run))) c.push_lines.ensures.lines

pub returns-clause-grown : goal.returns-clause-grown
returns-clause-grown c =
    let grown = c.push_lines.ensures.grown in
    (grown.0, ap (λ (p : PartOf). p.outer) grown.1)

pub returns-clause-entries : goal.returns-clause-entries
returns-clause-entries c = ap (λ (p : PartOf). p.entries) c.push_lines.ensures.grown.1
