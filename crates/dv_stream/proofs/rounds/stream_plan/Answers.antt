use Rattle.std.proofs.Common.{subst, arith}
use Rattle.std.specs.Prelude.{IfOk, OnErr}
use Rattle.dv_text.proofs.Taking.{AppendsBeginning-nothing, OnErr-always}
use Rattle.dv_stream.specs.Written.{IsBegun, IsWrittenTo, lines_before}
use Rattle.dv_stream.proofs.rounds.stream_plan.Goals as goal

pub returns-in_err-to-clause-err : goal.returns-in_err-to-clause-err
returns-in_err-to-clause-err g c =
    let job = g.J.PlannedJob.means c.args.job in
    let known = g.W.Write.contents c.args.writer.now in
    let none : IsBegun job c.args.tree.now known known = record {
      upto = 0;
      within = omega arith;
      text = AppendsBeginning-nothing known (lines_before job c.args.tree.now 0);
    } in
    OnErr-always _ none

pub returns-in_err-words-clause-err : goal.returns-in_err-words-clause-err
returns-in_err-words-clause-err g c =
    let job = g.J.PlannedJob.means c.args.job in
    let known = g.W.Write.contents c.args.writer.now in
    let none : IsBegun job c.args.tree.now known known = record {
      upto = 0;
      within = omega arith;
      text = AppendsBeginning-nothing known (lines_before job c.args.tree.now 0);
    } in
    OnErr-always _ none

pub returns-clause-written : goal.returns-clause-written
returns-clause-written g c =
    let contents = g.W.Write.contents in
    subst (λ t. IfOk c.stream_with_words.result (λ s. IsWrittenTo (g.J.PlannedJob.means c.args.job) t
    (contents c.args.writer.now) (contents c.stream_with_words.new.writer) s.written)) c.in_ok-words.ensures
    c.stream_with_words.ensures.written

pub returns-clause-err : goal.returns-clause-err
returns-clause-err g c =
    let contents = g.W.Write.contents in
    subst (λ t. OnErr c.stream_with_words.result (IsBegun (g.J.PlannedJob.means c.args.job) t
    (contents c.args.writer.now) (contents c.stream_with_words.new.writer))) c.in_ok-words.ensures
    c.stream_with_words.ensures.err
