use Rattle.std.proofs.Common.{◌≡◌, map, take}
use Rattle.dv_coded.specs.declared.lent.Lent.{Lent}
use Rattle.dv_coded.proofs.lent.lend.Given as goal

abbrev pub invariant-loop-programs : goal.invariant-loop-programs
invariant-loop-programs l = map (λ (x : Lent). x.programs.now) l.lent.items ≡ take l.programs-index l.all
