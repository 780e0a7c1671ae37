use Rattle.std.proofs.Common.{◌≡◌, ◌++◌, ◌∷◌, [], ap, length, ◌∙◌}
use Rattle.dv_cycles.specs.Cuts.{cut}
use Rattle.dv_cycles.proofs.Cuts.{cut_push}
use Rattle.dv_cycles.proofs.graph.Graph.push_node.Goals as goal

pub returns-clause-ok : goal.returns-clause-ok
returns-clause-ok c =
    let g = c.self.inside in
    let starts : c.push.new.self.items ≡ g.starts.items ++ length g.targets.items ∷ [] =
    c.in_ok-push.ensures.items ∙ ap (λ n. g.starts.items ++ n ∷ []) (c.len.ensures ∙ g.targets.ok.0) in
    ap (λ xs. cut xs c.extend_from_slice.new.self.items) starts
    ∙ ap (λ xs. cut (g.starts.items ++ length g.targets.items ∷ []) xs) c.in_default.ensures.items
    ∙ cut_push g.starts.items g.targets.items c.args.targets.now c.self.invariant.within
    ∙ ap (λ xs. xs ++ c.args.targets.now ∷ []) c.self.view_is
