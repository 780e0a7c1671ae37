use Rattle.std.proofs.Common.{take}
use Rattle.std.specs.List.{AllByRecursion}
use Rattle.dv_local.specs.declared.share.Share.{Share}
use Rattle.law_sound.specs.Jobs.{AllInputNumbers}
use Rattle.dv_run.proofs.numbers.shares_have_numbers.Given as goal

abbrev pub invariant-loop-share : goal.invariant-loop-share
invariant-loop-share g l = AllByRecursion (λ (s : Share g.row.A.Denot). AllInputNumbers s.inputs) (take l.share-index l.shares)
