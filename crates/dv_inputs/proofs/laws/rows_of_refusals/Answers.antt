use Rattle.std.proofs.Common.{◌≡◌, ◌++◌, ◌∷◌, [], false, refl}
use Rattle.std.specs.Str.{is_utf8, chars}
use Rattle.std.specs.Prelude.{codes}
use Rattle.dv_inputs.proofs.Digits.{ascii_utf8}
use Rattle.dv_inputs.proofs.laws.rows_of_refusals.Goals as goal

pub returns-clause-unknown_port : goal.returns-clause-unknown_port
returns-clause-unknown_port c = rw (ascii_utf8 (codes "5 z 10") refl) refl

pub returns-clause-falling_tick : goal.returns-clause-falling_tick
returns-clause-falling_tick c = rw (ascii_utf8 (codes "5 x 1") refl, ascii_utf8 (codes "4 x 1") refl) refl

pub returns-clause-falling_tick_of_a_later_microstep : goal.returns-clause-falling_tick_of_a_later_microstep
returns-clause-falling_tick_of_a_later_microstep c = rw (ascii_utf8 (codes "5 x 1") refl, ascii_utf8 (codes "4.7 x 1") refl) refl

pub returns-clause-falling_microstep : goal.returns-clause-falling_microstep
returns-clause-falling_microstep c = rw (ascii_utf8 (codes "5.2 x 1") refl, ascii_utf8 (codes "5.1 x 1") refl) refl

pub returns-clause-back_to_the_start : goal.returns-clause-back_to_the_start
returns-clause-back_to_the_start c = rw (ascii_utf8 (codes "5.1 x 1") refl, ascii_utf8 (codes "5 x 1") refl) refl

pub returns-clause-past_the_limit : goal.returns-clause-past_the_limit
returns-clause-past_the_limit c =
    rw (ascii_utf8 (codes "1 x 7") refl, ascii_utf8 (codes "1.1 x 5") refl, ascii_utf8 (codes "1.2 x 1") refl) refl

pub returns-clause-last_number : goal.returns-clause-last_number
returns-clause-last_number c = rw (ascii_utf8 (codes "5.2 x q") refl) refl

pub returns-clause-plus : goal.returns-clause-plus
returns-clause-plus c = rw (ascii_utf8 (codes "5 x +1") refl) refl

pub returns-clause-least_number : goal.returns-clause-least_number
returns-clause-least_number c = rw (ascii_utf8 (codes "5 x 1") refl, ascii_utf8 (codes "4 z q") refl) refl

pub returns-clause-value_past_the_greatest : goal.returns-clause-value_past_the_greatest
returns-clause-value_past_the_greatest c = rw (ascii_utf8 (codes "5 x 9223372036854775808") refl) refl

pub returns-clause-second_return : goal.returns-clause-second_return
returns-clause-second_return c = rw (ascii_utf8 (codes "5 x 1" ++ 13 ∷ []) refl) refl

bad_line : is_utf8 (codes "5 x 1" ++ 255 ∷ []) ≡ false
unfolding is_utf8 chars lib.Utf8.encode
bad_line = refl

pub returns-clause-any_bytes : goal.returns-clause-any_bytes
returns-clause-any_bytes c = rw bad_line refl
