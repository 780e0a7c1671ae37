use Rattle.std.proofs.Common.{◌≡◌, length}
use Rattle.std.specs.List.{take_while}
use Rattle.dv_lex.specs.Lexemes.{is_name_byte}
use Rattle.dv_lex.proofs.Runs.{SplitsRun-cut}
use Rattle.dv_lex.proofs.Characters.{IsCharBoundary-run, IsUtf8-behind_name_bytes}
use Rattle.dv_lex.proofs.lexer.split_name_bytes.Goals as goal

pub split_at-requires : goal.split_at-requires
split_at-requires c =
    let size : c.name_bytes_len.result ≡ length (take_while is_name_byte c.args.text.now) =
    rw c.as_bytes.ensures.value at c.name_bytes_len.ensures in
    let split = SplitsRun-cut is_name_byte c.args.text.now c.name_bytes_len.result size in
    IsCharBoundary-run is_name_byte c.args.text.now c.name_bytes_len.result size (IsUtf8-behind_name_bytes c.args.text.now _ _ c.utf8.text split)

pub returns : goal.returns
returns c =
    rw (c.split_at.ensures.front, c.split_at.ensures.back)
    (SplitsRun-cut is_name_byte c.args.text.now c.name_bytes_len.result (rw c.as_bytes.ensures.value at c.name_bytes_len.ensures))
