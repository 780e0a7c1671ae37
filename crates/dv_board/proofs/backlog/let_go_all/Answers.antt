use Rattle.std.proofs.Common.{List, ◌++◌, append-nil, drop, length, map, set, sym, ap, ap₂, ◌∙◌}
use Rattle.std.proofs.lemmas.List.{drop_all, take_all, take_at}
use Rattle.std.proofs.lemmas.List.Edits.{map_over_more}
use Rattle.dv_board.specs.Stretches.{HeldOf, rest_of}
use Rattle.dv_board.proofs.backlog.let_go_all.Goals as goal

pub loop-kept-preserved : goal.loop-kept-preserved
loop-kept-preserved g c =
    let old = c.deref_mut-kept-items.result.now in
    let now = c.loop-kept.kept-items in
    let k = c.loop-kept.kept-index in
    ap (set now k) (c.let_go.ensures ∙ ap (rest_of c.args.time) (sym c.kept-item.is))
    ∙ map_over_more (rest_of c.args.time) old now k c.kept-item.result c.loop-kept-test.true c.loop-kept.invariant c.kept-item.is

pub returns : goal.returns
returns g c =
    let old = c.deref_mut-kept-items.result.now in
    let now = c.loop-kept.kept-items in
    let k = c.loop-kept.kept-index in
    let past = c.loop-kept-test.false in
    take_at now (drop (length now) c.args.held.now.items) c.args.held.now.len
    (c.loop-kept.auto.kept-items ∙ c.deref_mut-kept-items.ensures.len)
    ∙ (c.loop-kept.invariant
    ∙ (ap₂ (λ (a b : List (HeldOf g.row.N.Denot)). map (rest_of c.args.time) a ++ b) (take_all k old past) (drop_all k old past)
    ∙ (append-nil (map (rest_of c.args.time) old) ∙ ap (map (rest_of c.args.time)) c.deref_mut-kept-items.ensures.value)))
