use Rattle.std.proofs.Common.{◌≡◌, ◌+◌, [], length, get_or, sym, ap, arith, ◌∙◌}
use Rattle.std.specs.Prelude.{slice_range}
use Rattle.dv_cycles.proofs.Cuts.{cut_at, length-cut}
use Rattle.dv_cycles.proofs.graph.Graph.targets.Goals as goal

pub part-requires-clause-index : goal.part-requires-clause-index
part-requires-clause-index c =
    let g = c.self.inside in
    let nodes : length g.starts.items ≡ length c.args.self.now =
    sym (length-cut g.starts.items g.targets.items) ∙ ap length c.self.view_is in
    let starts : length c.deref.result.now ≡ length g.starts.items = ap length c.deref.ensures.value in
    omega (arith, c.requires)

pub returns : goal.returns
returns c =
    let g = c.self.inside in
    let n = c.args.node in
    let nodes : length g.starts.items ≡ length c.args.self.now =
    sym (length-cut g.starts.items g.targets.items) ∙ ap length c.self.view_is in
    c.part.ensures
    ∙ ap (λ xs. slice_range xs (get_or c.deref.result.now n 0) (get_or c.deref.result.now (n + 1) (length xs))) c.deref-2.ensures.value
    ∙ ap (λ xs. slice_range g.targets.items (get_or xs n 0) (get_or xs (n + 1) (length g.targets.items))) c.deref.ensures.value
    ∙ cut_at g.starts.items g.targets.items n (omega (arith, c.requires))
    ∙ ap (λ xs. get_or xs n []) c.self.view_is
