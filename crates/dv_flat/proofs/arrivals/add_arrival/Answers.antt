use Rattle.std.proofs.Common.{◌≡◌, ◌∙◌, ◌∷◌, ◌++◌, [], ap, arith, map, pos, sym, rules}
use Rattle.std.proofs.Math.ListN.{set}
use Rattle.std.proofs.lemmas.List.{get_or-map, map-set}
use Rattle.dv_flat.specs.Probes.{with_arrival}
use Rattle.dv_flat.proofs.arrivals.add_arrival.Goals as goal

pub returns-in_ok-push : goal.returns-in_ok-push
returns-in_ok-push g c =
    let lists = c.args.lists.now.items in
    let index = c.in-Ok.index in
    let list = c.index_mut.result.now in
    let at : c.args.probe ≡ pos index = search rules in
    map-set (λ l. l.items) lists index c.push.new.self
    ∙ (ap (set (map (λ l. l.items) lists) index) (c.in_ok-push.ensures.items
    ∙ ap (λ xs. xs ++ c.args.arrival ∷ []) (ap (λ l. l.items) c.index_mut.ensures.value
    ∙ sym (get_or-map (λ l. l.items) lists index list [] (omega (arith, c.if-index-len.true)))))
    ∙ ap (λ t. with_arrival t c.args.arrival (map (λ l. l.items) lists)) (sym at))
