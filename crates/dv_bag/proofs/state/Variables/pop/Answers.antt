use Rattle.dv_bag.specs.Collections.{without_first}
use Rattle.dv_bag.proofs.HeldOnes.{edited_at, no_other}
use Rattle.dv_bag.proofs.state.Variables.pop.Goals as goal
use Rattle.dv_bag.proofs.state.Variables.pop.Goals.{in-Held, in_default}

pub returns : goal.returns
returns c =
    elim c.match-index_mut.branch [
      | in-Held w ↦
          rw w.self-inside-is
          (edited_at _ _ _ c.index_mut.result.now _ c.self.view_is c.index_mut.ensures.value c.requires
          without_first w.in-Held.held w.pop.new.self w.in-Held.is w.pop.ensures)
      | in_default w ↦
          absurd
          (no_other _ _ _ c.index_mut.result.now _ c.self.view_is c.index_mut.ensures.value c.requires
          w.in_default.not-Held)
    ]
