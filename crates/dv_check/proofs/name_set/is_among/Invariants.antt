use Rattle.std.proofs.Common.{◌≡◌, ◌==◌, drop}
use Rattle.std.specs.List.{list_any}
use Rattle.dv_syntax.specs.declared.tree.Name.{Name}
use Rattle.dv_check.proofs.name_set.is_among.Given as goal

abbrev pub invariant-loop-name : goal.invariant-loop-name
invariant-loop-name l =
    list_any (λ (n : Name). n.number == l.number) (drop l.name-index l.names) ≡ list_any (λ (n : Name). n.number == l.number) l.names
