use Rattle.std.proofs.Common.{◌≡◌, length, not, ◌==◌}
use Rattle.std.specs.List.{take_while}
use Rattle.dv_lex.proofs.Runs.{SplitsRun-cut}
use Rattle.dv_lex.proofs.Characters.{IsCharBoundary-run, IsUtf8-behind_line}
use Rattle.dv_lex.proofs.lexer.split_line.Goals as goal

pub split_at-requires : goal.split_at-requires
split_at-requires c =
    let size : c.line_len.result ≡ length (take_while (λ b. not (b == 10)) c.args.text.now) =
    rw c.as_bytes.ensures.value at c.line_len.ensures in
    let split = SplitsRun-cut (λ b. not (b == 10)) c.args.text.now c.line_len.result size in
    IsCharBoundary-run (λ b. not (b == 10)) c.args.text.now c.line_len.result size
    (IsUtf8-behind_line c.args.text.now _ _ c.utf8.text split)

pub returns : goal.returns
returns c =
    rw (c.split_at.ensures.front, c.split_at.ensures.back)
    (SplitsRun-cut (λ b. not (b == 10)) c.args.text.now c.line_len.result (rw c.as_bytes.ensures.value at c.line_len.ensures))
