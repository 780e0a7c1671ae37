use Rattle.std.proofs.Common.{List, ◌++◌, append-nil, drop, length, map, set, sym, ap, ap₂, ◌∙◌}
use Rattle.std.proofs.lemmas.List.{drop_all, take_all, take_at}
use Rattle.std.proofs.lemmas.List.Edits.{map_over_more}
use Rattle.dv_board.specs.Posts.{without_gap}
use Rattle.dv_board.specs.declared.posts.Piece.{Piece}
use Rattle.dv_board.proofs.posts.close_gaps.Goals as goal

pub loop-piece-preserved : goal.loop-piece-preserved
loop-piece-preserved g c =
    let f = without_gap c.args.ends.now in
    let old = c.deref_mut-piece-items.result.now in
    let now = c.loop-piece.piece-items in
    let k = c.loop-piece.piece-index in
    ap (set now k) (c.close_gap.ensures ∙ ap f (sym c.piece-item.is))
    ∙ map_over_more f old now k c.piece-item.result c.loop-piece-test.true c.loop-piece.invariant c.piece-item.is

pub returns : goal.returns
returns g c =
    let f = without_gap c.args.ends.now in
    let old = c.deref_mut-piece-items.result.now in
    let now = c.loop-piece.piece-items in
    let k = c.loop-piece.piece-index in
    let past = c.loop-piece-test.false in
    take_at now (drop (length now) c.args.pieces.now.items) c.args.pieces.now.len
    (c.loop-piece.auto.piece-items ∙ c.deref_mut-piece-items.ensures.len)
    ∙ (c.loop-piece.invariant
    ∙ (ap₂ (λ (a b : List (Piece g.row.N.Denot)). map f a ++ b) (take_all k old past) (drop_all k old past)
    ∙ (append-nil (map f old) ∙ ap (map f) c.deref_mut-piece-items.ensures.value)))
