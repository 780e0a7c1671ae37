use Rattle.std.proofs.Common.{get_or, pos, rules}
use Rattle.std.proofs.lemmas.Int.{to_z-of_z}
use mir.Syntax.{w64}
use mir.Val.{SFits}
use Rattle.dv_bag.proofs.Merging.{alone_at, less_at, equal_at, greater_at}
use Rattle.dv_bag.proofs.merge.next_pair.Goals as goal
use Rattle.dv_bag.proofs.merge.next_pair.Goals.{in-Less, in-Equal, in-Greater}

pub returns-in-empty-len1-up-clause-next : goal.returns-in-empty-len1-up-clause-next
returns-in-empty-len1-up-clause-next c = alone_at c.args.first.now c.args.second.now (search rules) (search rules) c.requires.second

pub returns-after-cmp-clause-next : goal.returns-after-cmp-clause-next
returns-after-cmp-clause-next c =
    elim c.match-cmp.branch [
      | in-Less w ↦ rw w.result-is
          (less_at c.args.first.now c.args.second.now (search rules) (search rules) c.requires.second (search rules))
      | in-Equal w ↦ rw w.result-is
          (let fits : SFits w64 (get_or c.args.first.now 0 (pos 0, 0)).0 = search rules in
          equal_at c.args.first.now c.args.second.now _ _ (search rules) (search rules) c.requires.second (search rules)
          (to_z-of_z _ _ fits) w.saturating_add.ensures)
      | in-Greater w ↦ rw w.result-is
          (greater_at c.args.first.now c.args.second.now (search rules) (search rules) c.requires.second (search rules))
    ]
