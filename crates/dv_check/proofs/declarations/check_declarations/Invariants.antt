use Rattle.std.proofs.Common.{◌≡◌, drop}
use Rattle.std.specs.List.{flat_map}
use Rattle.dv_check.specs.Findings.{with_refusals}
use Rattle.dv_check.specs.Rules.{declaration_refusals}
use Rattle.dv_check.proofs.declarations.check_declarations.Given as goal

abbrev pub invariant-loop-declaration : goal.invariant-loop-declaration
invariant-loop-declaration l =
    with_refusals l.found (flat_map declaration_refusals (drop l.declaration-index l.declarations))
    ≡ with_refusals l.initial.found (flat_map declaration_refusals l.declarations)
