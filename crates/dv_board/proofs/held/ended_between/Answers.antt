use Rattle.std.proofs.Common.{◌<◌, length, sym, ◌∙◌, arith}
use Rattle.dv_board.proofs.Stretches.{cut_enough, cut_more, turn_at}
use Rattle.dv_board.proofs.held.ended_between.Goals as goal

pub append_between-requires : goal.append_between-requires
append_between-requires g c =
    let ended = c.args.ended.now in
    let within : c.loop-index.index < length ended.items = omega (arith, ended.ok.0, c.loop-index-test.true, c.len-index-end.ensures) in
    (turn_at c.loop-index.start ended.items c.loop-index.index c.index.result.now within c.index.ensures c.loop-index.invariant.1).0

pub returns-then-not-is_before : goal.returns-then-not-is_before
returns-then-not-is_before g c =
    c.loop-index.invariant.0
    ∙ cut_enough c.args.from c.args.upto c.loop-index.start c.args.ended.now.items c.loop-index.index
    (sym c.is_before.ensures.order ∙ c.if-not-is_before.true) c.loop-index.invariant.1

pub loop-index-preserved : goal.loop-index-preserved
loop-index-preserved g c =
    let ended = c.args.ended.now in
    let within : c.loop-index.index < length ended.items = omega (arith, ended.ok.0, c.loop-index-test.true, c.len-index-end.ensures) in (
      c.in_ok-append_between.ensures
          ∙ cut_more c.args.from c.args.upto ended.items c.loop-index.index c.index.result.now c.loop-index.part within c.index.ensures
          c.loop-index.invariant.0,
      (turn_at c.loop-index.start ended.items c.loop-index.index c.index-in-loop-index.result.now within c.index-in-loop-index.ensures
          c.loop-index.invariant.1).1,
    )
