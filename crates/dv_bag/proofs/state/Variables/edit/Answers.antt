use Rattle.std.proofs.Common.{ℤ, ap, ◌∙◌}
use Rattle.std.proofs.lemmas.Int.{to_z-of_z}
use Rattle.std.proofs.lemmas.Result.{on_ok_weaker}
use Rattle.dv_bag.specs.Collections.{edited}
use Rattle.dv_bag.proofs.HeldOnes.{edited_at, no_other}
use Rattle.dv_bag.proofs.state.Variables.edit.Goals as goal
use Rattle.dv_bag.proofs.state.Variables.edit.Goals.{in-Held, in_default}

pub returns-clause-ok : goal.returns-clause-ok
returns-clause-ok c =
    let number = to_z-of_z _ _ c.ranges.value in
    elim c.match-index_mut.branch [
      | in-Held w ↦
          rw (w.result-is, w.self-inside-is)
          (on_ok_weaker w.edit.result
          (λ by.
          edited_at _ _ _ c.index_mut.result.now _ c.self.view_is c.index_mut.ensures.value c.requires.there
          (edited c.args.change c.args.value) w.in-Held.held w.edit.new.self w.in-Held.is
          (by ∙ ap (λ (v : ℤ). edited c.args.change v w.in-Held.held) number))
          w.edit.ensures.ok)
      | in_default w ↦
          absurd
          (no_other _ _ _ c.index_mut.result.now _ c.self.view_is c.index_mut.ensures.value c.requires.there
          w.in_default.not-Held)
    ]
