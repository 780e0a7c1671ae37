use Rattle.std.proofs.Common.{arith, w64}
use Rattle.std.proofs.lemmas.Nat.Bits.{bit_at-trailing_zeros}
use Rattle.dv_agenda.proofs.bits.take_least.Goals as goal

pub without-requires : goal.without-requires
without-requires c = (bit_at-trailing_zeros w64 c.args.word.now (omega arith) (omega arith)).0

pub returns-clause-less : goal.returns-clause-less
returns-clause-less c = c.without.ensures.less (bit_at-trailing_zeros w64 c.args.word.now (omega arith) (omega arith)).1
