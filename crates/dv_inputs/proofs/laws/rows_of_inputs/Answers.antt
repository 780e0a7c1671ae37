use Rattle.std.proofs.Common.{refl}
use Rattle.std.specs.Prelude.{codes}
use Rattle.dv_inputs.proofs.Digits.{ascii_utf8}
use Rattle.dv_inputs.proofs.laws.rows_of_inputs.Goals as goal

pub returns-clause-once : goal.returns-clause-once
returns-clause-once c = rw (ascii_utf8 (codes "5 x 10") refl) refl

pub returns-clause-copies : goal.returns-clause-copies
returns-clause-copies c = rw (ascii_utf8 (codes "5 y 10") refl) refl

pub returns-clause-carriage_return : goal.returns-clause-carriage_return
returns-clause-carriage_return c = rw (ascii_utf8 (codes "5 x 10") refl, ascii_utf8 (codes "6 y 11") refl) refl

pub returns-clause-comment : goal.returns-clause-comment
returns-clause-comment c = rw (ascii_utf8 (codes "5 x 10") refl) refl

pub returns-clause-leading_zeros : goal.returns-clause-leading_zeros
returns-clause-leading_zeros c = rw (ascii_utf8 (codes "005 x -0010") refl) refl

pub returns-clause-leading_zeros_of_a_microstep : goal.returns-clause-leading_zeros_of_a_microstep
returns-clause-leading_zeros_of_a_microstep c = rw (ascii_utf8 (codes "005.007 x -0010") refl) refl

pub returns-clause-blanks : goal.returns-clause-blanks
returns-clause-blanks c = rw (ascii_utf8 (codes "  5  x 10 ") refl) refl

pub returns-clause-limits : goal.returns-clause-limits
returns-clause-limits c = rw (ascii_utf8 (codes "1000000000000000 x -9223372036854775808") refl) refl

pub returns-clause-limit_of_microsteps : goal.returns-clause-limit_of_microsteps
returns-clause-limit_of_microsteps c = rw (ascii_utf8 (codes "5.1000 x 9223372036854775807") refl) refl

pub returns-clause-comment_of_any_bytes : goal.returns-clause-comment_of_any_bytes
returns-clause-comment_of_any_bytes c = rw (ascii_utf8 (codes "5 x 10") refl) refl

pub returns-clause-microsteps : goal.returns-clause-microsteps
returns-clause-microsteps c = rw (ascii_utf8 (codes "1 x 7") refl, ascii_utf8 (codes "1.2 x 5") refl) refl

pub returns-clause-written_start : goal.returns-clause-written_start
returns-clause-written_start c = rw (ascii_utf8 (codes "5 x 1") refl, ascii_utf8 (codes "5.0 y 2") refl) refl
