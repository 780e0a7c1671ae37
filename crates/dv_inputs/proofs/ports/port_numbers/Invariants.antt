use Rattle.std.proofs.Common.{◌≡◌, ℕ, List, map, take, string_bytes}
use Rattle.dv_inputs.specs.Numbers.{port_in}
use Rattle.dv_inputs.specs.Steps.{number_in}
use Rattle.dv_inputs.proofs.ports.port_numbers.Given as goal

abbrev pub invariant-loop-number : goal.invariant-loop-number
invariant-loop-number l = (name : List ℕ) → number_in l.numbers name ≡ port_in (take l.number (map string_bytes l.ports)) name
