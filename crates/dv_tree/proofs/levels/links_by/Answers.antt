use Rattle.std.proofs.Common.{◌≡◌, List, ap, ◌∙◌, subst}
use Rattle.std.specs.Prelude.{IfOk}
use Rattle.dv_syntax.specs.Trees.{coupled_of}
use Rattle.dv_check.specs.Names.{numbers_of}
use Rattle.dv_tree.specs.declared.couplings.ResolvedLink.{ResolvedLink}
use Rattle.dv_tree.proofs.Resolved.{links_from}
use Rattle.dv_tree.proofs.levels.links_by.Goals as goal

pub returns : goal.returns
returns c =
    let Made : List ResolvedLink → Type 0 = λ links. IfOk c.resolved_links.result (λ resolved. resolved.items ≡ links) in
    subst Made
    (links_from c.args.inputs.now c.args.outputs.now c.args.parts.now
    (coupled_of c.args.coupled.now) c.in_ok-own_inputs.own_inputs c.in_ok-own_outputs.own_outputs c.in_ok-names.names c.deref-3.result.now
    (c.in_ok-own_inputs.ensures ∙ ap numbers_of c.deref.ensures.value)
    (c.in_ok-own_outputs.ensures ∙ ap numbers_of c.deref-2.ensures.value)
    c.in_ok-names.ensures c.deref-3.ensures.value) c.resolved_links.ensures
