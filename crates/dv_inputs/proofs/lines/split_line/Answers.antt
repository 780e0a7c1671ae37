use Rattle.std.proofs.Common.{◌+◌, ℕ, ◌∷◌, take, drop, ap, sym, ◌∙◌}
use Rattle.dv_inputs.specs.Lines.{lines_of}
use Rattle.dv_inputs.proofs.Cuts.{first_line, found, is_feed, missed, only_line}
use Rattle.dv_inputs.proofs.lines.split_line.Goals as goal

pub returns-in-Some-clause-lines : goal.returns-in-Some-clause-lines
returns-in-Some-clause-lines c =
    let at = found is_feed c.args.text.now c.in-Some.end c.in-Some.ensures in
    first_line c.args.text.now at.1
    ∙ ap (λ (n : ℕ). take n c.args.text.now ∷ lines_of (drop (n + 1) c.args.text.now)) (sym at.0)
    ∙ ap (λ rest. take c.in-Some.end c.args.text.now ∷ lines_of rest) (sym c.bytes_from.ensures)

pub returns-in-None-clause-lines : goal.returns-in-None-clause-lines
returns-in-None-clause-lines c = only_line c.args.text.now (missed is_feed c.args.text.now c.in-None.ensures) c.requires
