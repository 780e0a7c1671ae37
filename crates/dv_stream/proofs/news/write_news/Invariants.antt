use Rattle.std.proofs.Common.{◌≡◌, ◌≤◌}
use Rattle.dv_time.specs.Time.{end_of, rank}
use Rattle.dv_stream.specs.Written.{IsWrittenTo}
use Rattle.dv_stream.proofs.news.write_news.Given as goal

abbrev pub invariant-loop : goal.invariant-loop
invariant-loop g l =
    let job = g.N.OfJob.job in
    record {
      tree : l.merger.lines ≡ l.fn.merger.lines;
      written : IsWrittenTo job l.fn.merger.lines (g.W.Write.contents l.fn.writer) (g.W.Write.contents l.writer) l.written;
      within : rank job.limit l.written.mark ≤ end_of job.limit job.horizon;
    }
