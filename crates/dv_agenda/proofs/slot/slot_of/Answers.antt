use Rattle.std.proofs.Common.{◌<◌, ◌^◌, refl, sym, arith}
use Rattle.std.proofs.lemmas.Nat.{xor_lt}
use Rattle.std.specs.Int.RustNames.{bit_xor}
use lib.Count.{count_leading_zeros}
use Rattle.dv_agenda.proofs.Slots.{lead_below, slot_beyond, slot_level, slot_near}
use Rattle.dv_agenda.proofs.slot.slot_of.Goals as goal

pub overflow_sub-level : goal.overflow_sub-level
overflow_sub-level c =
    let small : bit_xor c.args.tick c.args.now < 2 ^ 64 = xor_lt 64 c.args.tick c.args.now (omega arith) (omega arith) in
    lead_below (bit_xor c.args.tick c.args.now) (omega arith) small

pub returns-then-apart-lt64-clause-slot : goal.returns-then-apart-lt64-clause-slot
returns-then-apart-lt64-clause-slot c = sym (slot_near c.args.tick c.args.now c.if-apart-lt64.true)

pub returns-then-level-gt9-clause-slot : goal.returns-then-level-gt9-clause-slot
returns-then-level-gt9-clause-slot c =
    let small : bit_xor c.args.tick c.args.now < 2 ^ 64 = xor_lt 64 c.args.tick c.args.now (omega arith) (omega arith) in
    sym (slot_beyond c.args.tick c.args.now (count_leading_zeros 64 (bit_xor c.args.tick c.args.now)) refl (omega arith) small
    c.if-level-gt9.true)

pub returns-clause-slot : goal.returns-clause-slot
returns-clause-slot c =
    let small : bit_xor c.args.tick c.args.now < 2 ^ 64 = xor_lt 64 c.args.tick c.args.now (omega arith) (omega arith) in
    sym (slot_level c.args.tick c.args.now (count_leading_zeros 64 (bit_xor c.args.tick c.args.now)) refl (omega arith) small
    c.if-level-gt9.false)
