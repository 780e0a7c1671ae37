use Rattle.std.proofs.Common.{◌≡◌, true}
use Rattle.dv_bag.specs.declared.entry.Entry.{Entry}
use Rattle.dv_merge.specs.Entries.{precedes}
use Rattle.dv_merge.proofs.Spans.{behind_first}
use Rattle.dv_merge.proofs.span.Span.cut_before.Goals as goal

pub returns-clause-before : goal.returns-clause-before
returns-clause-before g c =
    behind_first (λ (e : Entry). precedes e c.args.bound.now ≡ true) c.count_before-count.result c.self.inside.entries.now
    c.count_before-count.ensures.before
