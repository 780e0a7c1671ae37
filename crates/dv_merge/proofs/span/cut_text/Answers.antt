use Rattle.std.proofs.Common.{ℕ, List, ap, ap₂, ◌∙◌, arith, drop, length, take}
use Rattle.dv_merge.proofs.Spans.{text_behind, text_front, text_shorter}
use Rattle.dv_merge.proofs.span.cut_text.Goals as goal

pub text_length-requires : goal.text_length-requires
text_length-requires g c =
    let shorter = text_shorter g.N.OfJob.line c.args.entries.now c.args.count in
    let all = ap length c.requires.lines in
    omega (arith, shorter, all)

pub split_at-requires-2 : goal.split_at-requires-2
split_at-requires-2 g c =
    let shorter = text_shorter g.N.OfJob.line c.args.entries.now c.args.count in
    let all = ap length c.requires.lines in
    omega (arith, shorter, all, c.text_length.ensures)

pub returns-clause-front : goal.returns-clause-front
returns-clause-front g c =
    c.split_at-2.ensures.front
    ∙ (ap₂ (λ (n : ℕ) (t : List ℕ). take n t) c.text_length.ensures c.requires.lines
    ∙ text_front g.N.OfJob.line c.args.entries.now c.args.count)

pub returns-clause-behind : goal.returns-clause-behind
returns-clause-behind g c =
    c.split_at-2.ensures.back
    ∙ (ap₂ (λ (n : ℕ) (t : List ℕ). drop n t) c.text_length.ensures c.requires.lines
    ∙ text_behind g.N.OfJob.line c.args.entries.now c.args.count)
