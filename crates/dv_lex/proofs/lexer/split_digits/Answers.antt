use Rattle.std.proofs.Common.{◌≡◌, length}
use Rattle.std.specs.List.{take_while}
use Rattle.std.specs.Char.{is_ascii_digit}
use Rattle.dv_lex.proofs.Runs.{SplitsRun-cut}
use Rattle.dv_lex.proofs.Characters.{IsCharBoundary-run, IsUtf8-behind_digits}
use Rattle.dv_lex.proofs.lexer.split_digits.Goals as goal

pub split_at-requires : goal.split_at-requires
split_at-requires c =
    let size : c.digits_len.result ≡ length (take_while is_ascii_digit c.args.text.now) =
    rw c.as_bytes.ensures.value at c.digits_len.ensures in
    let split = SplitsRun-cut is_ascii_digit c.args.text.now c.digits_len.result size in
    IsCharBoundary-run is_ascii_digit c.args.text.now c.digits_len.result size (IsUtf8-behind_digits c.args.text.now _ _ c.utf8.text split)

pub returns : goal.returns
returns c =
    rw (c.split_at.ensures.front, c.split_at.ensures.back)
    (SplitsRun-cut is_ascii_digit c.args.text.now c.digits_len.result (rw c.as_bytes.ensures.value at c.digits_len.ensures))
