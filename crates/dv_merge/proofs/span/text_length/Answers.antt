use Rattle.std.proofs.Common.{◌≡◌, ap, sym, arith, length}
use Rattle.std.proofs.lemmas.List.Folds.{length-flat_map-take}
use Rattle.dv_bag.specs.declared.entry.Entry.{Entry}
use Rattle.dv_merge.proofs.span.text_length.Goals as goal

pub overflow_add-bytes : goal.overflow_add-bytes
overflow_add-bytes g c =
    let line = g.N.OfJob.line in
    let es = c.args.entries.now in
    let k = c.loop-entry.entry-index in
    let e = c.entry-item.result in
    let fits = length-flat_map-take line es k e c.loop-entry-test.true in
    let so_far = c.loop-entry.invariant in
    let one : length (line e) ≡ c.line_length-bytes.result = sym c.line_length-bytes.ensures in
    let here = ap (λ (x : Entry). length (line x)) c.entry-item.is in
    record { fits = omega (arith, fits, so_far, one, here, c.requires) }
