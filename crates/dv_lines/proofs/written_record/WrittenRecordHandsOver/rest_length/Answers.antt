use Rattle.std.proofs.Common.{List, length, ap, sym, ◌∙◌}
use Rattle.std.specs.List.{flat_map}
use Rattle.std.proofs.Math.Seq.{drop-append_seam}
use Rattle.dv_bag.specs.declared.entry.Entry.{Entry}
use Rattle.dv_lines.specs.Entries.{Written}
use Rattle.dv_written.specs.Rest.{rest_length}
use Rattle.dv_lines.proofs.written_record.WrittenRecordHandsOver.rest_length.Goals as goal

pub returns : goal.returns
returns g c =
    let line = g.N.OfJob.line in
    let past = c.self.inside.past.part in
    let kept = c.self.inside.kept in
    c.byte_count.ensures
    ∙ ap (λ (es : List Entry). length (flat_map line es)) (sym (drop-append_seam past.entries kept.entries))
    ∙ ap (rest_length line past) (sym c.self.invariant.0)
    ∙ ap (λ (r : Written). rest_length line r.past r.told) c.self.view_is
