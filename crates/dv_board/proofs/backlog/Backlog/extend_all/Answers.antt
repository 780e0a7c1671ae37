use Rattle.std.proofs.Common.{length, refl, sym, ap, subst, ◌∙◌}
use Rattle.std.proofs.lemmas.List.{map-id}
use Rattle.std.proofs.lemmas.Iterator.Adapters.{YieldsList-from_vec}
use Rattle.std.proofs.lemmas.Iterator.Consumers.{YieldsList-end, YieldsList-so_far, YieldsList-turn}
use Rattle.std.proofs.lemmas.List.Elements.{All-head, All-rest, All-same}
use Rattle.std.proofs.lemmas.Option.{slice_get_read}
use Rattle.std.proofs.lemmas.Result.{err_from_is_err_and}
use Rattle.std.specs.Vec.Iter.{into_iter_items}
use Rattle.dv_board.specs.Answers.{IsRefused}
use Rattle.dv_board.specs.Backlogs.{BacklogOf, clocks_with}
use Rattle.dv_board.specs.Posts.{IsPiece}
use Rattle.dv_board.proofs.Turns.{clocks_with_one}
use Rattle.dv_board.proofs.backlog.Backlog.extend_all.Goals as goal

pub loop-piece-init : goal.loop-piece-init
loop-piece-init g c = (
  All-same (IsPiece g.N.OfJob.job) (into_iter_items c.into_iter-piece-iterator.result) c.args.pieces.items
      c.into_iter-piece-iterator.ensures.into_iter_gives.0 c.requires,
  refl,
  refl,
)

pub loop-piece-preserved : goal.loop-piece-preserved
loop-piece-preserved g c = (
  All-rest (IsPiece g.N.OfJob.job) c.in-Some.piece (into_iter_items c.next.new.self) (into_iter_items c.loop-piece.piece-iterator)
      c.in-Some.ensures.steps.0 c.loop-piece.invariant.0,
  c.extend.ensures.mark ∙ c.loop-piece.invariant.1,
  c.in_ok-extend.ensures.clocks
      ∙ clocks_with_one c.args.self.now.clocks c.loop-piece.self.clocks c.loop-piece.yielded c.in-Some.piece c.loop-piece.invariant.2,
)

pub extend-requires : goal.extend-requires
extend-requires g c =
    All-head (IsPiece g.N.OfJob.job) c.in-Some.piece (into_iter_items c.next.new.self)
    (All-same (IsPiece g.N.OfJob.job) _ (into_iter_items c.loop-piece.piece-iterator) (sym c.in-Some.ensures.steps.0)
    c.loop-piece.invariant.0)

pub returns-in_err-extend-clause-refused : goal.returns-in_err-extend-clause-refused
returns-in_err-extend-clause-refused g c =
    let pieces = c.args.pieces.items in
    let done = c.loop-piece.yielded in
    let gives = c.into_iter-piece-iterator.ensures.into_iter_gives in
    let all = YieldsList-from_vec pieces gives.0 (gives.1 ∙ c.args.pieces.ok.0) in
    let so_far = YieldsList-so_far all done c.loop-piece.piece-iterator c.loop-piece.yielded_by in
    let turn = YieldsList-turn all done c.loop-piece.piece-iterator c.loop-piece.yielded_by c.next.result c.next.new.self c.in-Some.piece
    c.in-Some.is c.next.ensures.steps in
    let same = c.in_err-extend.ensures.err in
    let why = err_from_is_err_and c.from_residual.result c.from_residual.ensures.1 in
    rw (why.1, why.2) (record {
      index = length done;
      piece = c.in-Some.piece;
      there = slice_get_read pieces (length pieces) (length done) c.in-Some.piece refl turn.0 turn.1;
      clocks = ap (λ (b : BacklogOf). b.clocks) same
          ∙ (c.loop-piece.invariant.2 ∙ ap (clocks_with c.args.self.now.clocks) (sym (map-id done) ∙ so_far));
      refused = subst (λ (b : BacklogOf). IsRefused g.N.OfJob.job b c.in-Some.piece c.in_err-extend.field-0.0) (sym same)
          c.in_err-extend.ensures.refused;
    })

pub returns-clause-clocks : goal.returns-clause-clocks
returns-clause-clocks g c =
    let gives = c.into_iter-piece-iterator.ensures.into_iter_gives in
    let all = YieldsList-from_vec c.args.pieces.items gives.0 (gives.1 ∙ c.args.pieces.ok.0) in
    let end = YieldsList-end all c.loop-piece.yielded c.loop-piece.piece-iterator c.loop-piece.yielded_by c.next.result c.next.new.self
    c.in-None.is c.next.ensures.steps in
    c.loop-piece.invariant.2 ∙ ap (clocks_with c.args.self.now.clocks) (sym (map-id c.loop-piece.yielded) ∙ end.0)
