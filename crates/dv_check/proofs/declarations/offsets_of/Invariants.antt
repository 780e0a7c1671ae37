use Rattle.std.proofs.Common.{◌≡◌, take}
use Rattle.dv_check.specs.Tables.{value_for}
use Rattle.dv_check.specs.Rules.{offset_in}
use Rattle.dv_check.proofs.declarations.offsets_of.Given as goal

abbrev pub invariant-loop-declaration : goal.invariant-loop-declaration
invariant-loop-declaration l = value_for l.offsets ≡ offset_in (take l.declaration-index l.declarations)
