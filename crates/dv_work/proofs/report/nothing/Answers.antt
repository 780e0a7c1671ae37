use Rattle.std.proofs.Common.{◌≡◌, ◌<◌, [], ◌∷◌, length, sym, ap, arith, length-append}
use Rattle.dv_board.specs.Posts.{IsPiece}
use Rattle.dv_board.specs.declared.posts.Piece.{Piece}
use Rattle.dv_conservative.specs.Process.{first_time}
use Rattle.dv_work.proofs.Making.{snoc_each}
use Rattle.dv_work.proofs.Reporting.{none_is_piece}
use Rattle.dv_work.proofs.report.nothing.Goals as goal

pub returns : goal.returns
returns g c =
    let is = c.loop-process.invariant in
    record {
      count = (let e = is.count in omega (arith, e, c.requires.count, c.loop-process-test.false, c.loop-process.auto.process-end));
      numbers = is.numbers;
      each = is.each;
    }

pub loop-process-preserved : goal.loop-process-preserved
loop-process-preserved g c =
    let is = c.loop-process.invariant in
    let job = g.N.OfJob.job in
    let old = c.loop-process.rest.items in
    let items = c.in_ok-push.ensures.items in
    let n = c.loop-process.process in
    let made : Piece g.row.N.Denot = record { process = n; from = first_time; clock = first_time; part = c.new.result } in
    let index : n < job.processes = omega (arith, c.requires.count, c.loop-process-test.true, c.loop-process.auto.process-end) in
    record {
      count = (let e = is.count in let l = ap length items in let k = length-append old (made ∷ []) in omega arith);
      numbers = snoc_each (λ p (x : Piece g.row.N.Denot). x.process ≡ p) old c.push.new.self.items made items is.numbers (sym is.count);
      each = snoc_each (λ p (x : Piece g.row.N.Denot). IsPiece job x) old c.push.new.self.items made items is.each
          (none_is_piece job n index c.new.result c.new.ensures);
    }
