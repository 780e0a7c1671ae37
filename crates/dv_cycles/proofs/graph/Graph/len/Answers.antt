use Rattle.std.proofs.Common.{length, sym, ap, ◌∙◌}
use Rattle.dv_cycles.proofs.Cuts.{length-cut}
use Rattle.dv_cycles.proofs.graph.Graph.len.Goals as goal

pub returns : goal.returns
returns c =
    let g = c.self.inside in
    c.len.ensures ∙ g.starts.ok.0 ∙ sym (length-cut g.starts.items g.targets.items) ∙ ap length c.self.view_is
