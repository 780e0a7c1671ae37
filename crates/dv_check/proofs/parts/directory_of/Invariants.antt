use Rattle.std.proofs.Common.{◌≡◌, take}
use Rattle.dv_check.specs.Tables.{value_for}
use Rattle.dv_check.specs.Couplings.{parts_in}
use Rattle.dv_check.proofs.parts.directory_of.Given as goal

abbrev pub invariant-loop-part : goal.invariant-loop-part
invariant-loop-part l = value_for l.directory ≡ parts_in (take l.part-index l.parts)
