use Rattle.std.proofs.Common.{take}
use Rattle.law_sound.specs.Jobs.{AllInputNumbers}
use Rattle.dv_run.proofs.numbers.are_numbers.Given as goal

abbrev pub invariant-loop-input : goal.invariant-loop-input
invariant-loop-input l = AllInputNumbers (take l.input-index l.input-items)
