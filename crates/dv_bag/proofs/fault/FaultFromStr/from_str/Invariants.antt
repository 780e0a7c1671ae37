use Rattle.std.proofs.Common.{take}
use Rattle.dv_bag.specs.Words.{fault_word}
use Rattle.dv_bag.proofs.Words.{AreOthers}
use Rattle.dv_bag.proofs.fault.FaultFromStr.from_str.Given as goal

abbrev pub invariant-loop-fault : goal.invariant-loop-fault
invariant-loop-fault l = AreOthers fault_word l.word (take l.fault-index l.fault-items)
