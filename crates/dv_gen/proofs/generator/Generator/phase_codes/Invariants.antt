use Rattle.std.proofs.Common.{◌≡◌, take, map}
use Rattle.dv_gen.specs.Generators.{code_of_phase}
use Rattle.dv_gen.proofs.generator.Generator.phase_codes.Given as goal

abbrev pub invariant-loop-phase : goal.invariant-loop-phase
invariant-loop-phase l = l.codes.items ≡ map (code_of_phase l.self) (take l.phase-index l.phases)
