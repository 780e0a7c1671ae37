use Rattle.std.proofs.Common.{◌≡◌, ◌<◌, length}
use Rattle.std.specs.List.{AllByRecursion}
use Rattle.test_packets.proofs.process.owners_of.Given as goal

-- so far each component has one of the two processes
abbrev pub invariant-loop-component : goal.invariant-loop-component
invariant-loop-component l = record {
  owned : AllByRecursion (λ p. p < 2) l.owners.items;
  count : length l.owners.items ≡ l.component;
}
