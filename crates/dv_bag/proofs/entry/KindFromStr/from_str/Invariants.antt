use Rattle.std.proofs.Common.{take}
use Rattle.dv_bag.specs.Words.{kind_word}
use Rattle.dv_bag.proofs.Words.{AreOthers}
use Rattle.dv_bag.proofs.entry.KindFromStr.from_str.Given as goal

abbrev pub invariant-loop-kind : goal.invariant-loop-kind
invariant-loop-kind l = AreOthers kind_word l.word (take l.kind-index l.kind-items)
