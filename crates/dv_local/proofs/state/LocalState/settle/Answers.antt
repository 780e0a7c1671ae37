use Rattle.std.proofs.Common.{◌<◌, List, length, sym, subst}
use Rattle.dv_react.specs.declared.running.Running.{Running}
use Rattle.dv_share.specs.Share.{AreComponents}
use Rattle.dv_share.specs.declared.index.Indexed.{Indexed}
use Rattle.dv_local.specs.Undoing.{AreWithin, undone}
use Rattle.dv_local.proofs.Inboxes.{still_arrive}
use Rattle.dv_local.proofs.Undoing.{all_none}
use Rattle.dv_local.proofs.state.LocalState.settle.Goals as goal

pub returns-clause-kept : goal.returns-clause-kept
returns-clause-kept g c =
    let x = c.args.self.now in
    let t = x.share.tables in
    let rs = x.components.running in
    record {
      share = c.requires.share;
      all_come = c.requires.all_come;
      components = c.requires.components;
      agenda = c.requires.agenda;
      arrive = still_arrive t.limit t.members.items x.undo.taken x.inbox c.let_go.new.inbox c.let_go.ensures c.requires.arrive;
      within =
          subst (λ (xs : List (Indexed Running)). AreWithin (length rs) xs) (sym c.clear.ensures)
          (all_none (λ (p : Indexed Running). p.index < length rs));
      before =
          subst (λ (xs : List (Indexed Running)). AreComponents g.A.Atomic.fits t (undone xs rs)) (sym c.clear.ensures)
          c.requires.components;
      emitted = c.requires.emitted;
      still = c.requires.still;
    }
