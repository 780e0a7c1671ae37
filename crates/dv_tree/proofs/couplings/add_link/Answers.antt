use Rattle.std.proofs.Common.{◌∷◌, [], ◌++◌, ap, sym, ◌∙◌, map, get_or}
use Rattle.std.proofs.Math.ListN.{set}
use Rattle.std.proofs.lemmas.List.{map-set, get_or-map}
use Rattle.dv_tree.specs.Tables.{with_coupling_at}
use Rattle.dv_tree.specs.declared.couplings.Coupling.{Coupling}
use Rattle.dv_tree.proofs.couplings.add_link.Goals as goal

pub returns-in_ok-push : goal.returns-in_ok-push
returns-in_ok-push c =
    let lists = c.args.lists.now.items in
    let part = c.in-OfPart.part in
    let coupling : Coupling = record { port = c.in-OfPart.port; target = c.args.link.now.to } in
    let list = c.index_mut.result.now in
    map-set (λ l. l.items) lists part c.push.new.self
    ∙ (ap (set (map (λ l. l.items) lists) part) (c.in_ok-push.ensures.items
    ∙ ap (λ xs. xs ++ coupling ∷ []) (ap (λ l. l.items) c.index_mut.ensures.value
    ∙ sym (get_or-map (λ l. l.items) lists part list [] (omega (Rattle.std.proofs.Common.arith, c.if-part-len.true)))))
    ∙ ap (λ t. with_coupling_at t c.args.link.now.to (map (λ l. l.items) lists)) (sym c.in-OfPart.is))
