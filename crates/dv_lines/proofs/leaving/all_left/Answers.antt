use Rattle.std.proofs.Common.{◌++◌, List, ℕ, ap, append-nil, length, sym, take, ◌∙◌}
use Rattle.dv_lines.specs.Words.{leaving_words}
use Rattle.dv_lines.proofs.LeftLines.{nothing_left, some_left}
use Rattle.dv_lines.proofs.leaving.all_left.Goals as goal

pub returns-then-is_empty-clause-ok : goal.returns-then-is_empty-clause-ok
returns-then-is_empty-clause-ok c = λ outputs named.
    let old = c.args.lines.now in
    let held = c.held-held.ensures in
    sym (ap (λ (x : List ℕ). old ++ x)
    (nothing_left c.args.now outputs (length c.args.values.now) c.args.values.now c.held-held.result.now
    (sym c.is_empty.ensures ∙ c.if-is_empty.true) held.all held.within held.order)
    ∙ append-nil old)

pub returns-in-Ok-clause-ok : goal.returns-in-Ok-clause-ok
returns-in-Ok-clause-ok c = λ outputs named.
    let old = c.args.lines.now in
    let held = c.held-held.ensures in
    c.in-Ok.ensures.ok
    ∙ ap (λ (ports : List (List ℕ)). old ++ leaving_words ports c.args.now c.held-held.result.now) named
    ∙ ap (λ (x : List ℕ). old ++ x)
    (some_left c.args.now outputs (length c.args.values.now) c.args.values.now c.held-held.result.now
    (sym c.is_empty.ensures ∙ c.if-is_empty.false) held.all held.within held.order)

pub returns-in-Err-clause-err : goal.returns-in-Err-clause-err
returns-in-Err-clause-err c =
    c.cut.ensures ∙ ap (λ (n : ℕ). take n c.line_left.new.lines) c.len-mark.ensures ∙ c.line_left.ensures.more
