use Rattle.std.proofs.Common.{List, map, sym, ap, subst, ◌∙◌}
use Rattle.dv_board.specs.Stretches.{HeldOf}
use Rattle.dv_board.specs.Backlogs.{AreHeld, BacklogOf}
use Rattle.dv_board.specs.Clocks.{IsLeast}
use Rattle.dv_board.proofs.Drained.{rest_are_held}
use Rattle.dv_board.proofs.Indices.{clocks_stay}
use Rattle.dv_board.proofs.backlog.Backlog.let_go.Goals as goal

pub invariant_of-self : goal.invariant_of-self
invariant_of-self g c =
    let job = g.N.OfJob.job in
    let s = c.self.inside in
    let is = subst (λ (b : BacklogOf). IsLeast c.args.least b.clocks) (sym c.self.view_is) c.requires in
    subst (AreHeld job c.args.least) (sym {A = List (HeldOf g.row.N.Denot)} c.let_go_all.ensures)
    (rest_are_held job s.mark s.held.items c.self.invariant c.args.least is)

pub returns-clause-clocks : goal.returns-clause-clocks
returns-clause-clocks g c =
    ap (map (λ (h : HeldOf g.row.N.Denot). h.clock)) c.let_go_all.ensures
    ∙ (clocks_stay c.args.least c.self.inside.held.items ∙ ap (λ (b : BacklogOf). b.clocks) c.self.view_is)
