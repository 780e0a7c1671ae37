use Rattle.std.proofs.Common.{◌≡◌, ◌≤◌, ◌-◌, length}
use Rattle.std.specs.List.{AllWithin}
use Rattle.dv_share.proofs.run.run_end.Given as goal

-- so far all items are of the number
abbrev pub invariant-loop-end : goal.invariant-loop-end
invariant-loop-end g l = record {
  onward : l.start ≤ l.end;
  within : l.end ≤ length l.items;
  there : AllWithin (λ x. g.T.Numbered.number x ≡ l.number) l.items l.start l.end;
}

abbrev pub decreases-loop-end : goal.decreases-loop-end
decreases-loop-end g l = length l.items - l.end
