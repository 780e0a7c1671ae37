use Rattle.std.proofs.Common.{List, ◌++◌, ap, sym, ◌∙◌}
use Rattle.dv_bag.specs.Part.{PartOf}
use Rattle.dv_bag.specs.declared.entry.Entry.{Entry}
use Rattle.dv_devs.specs.Network.{entry_of}
use Rattle.dv_react.specs.Components.{rank_of}
use Rattle.dv_react.specs.Outcomes.{event_of}
use Rattle.dv_plain.proofs.Steps.{entry-of_event}
use Rattle.dv_plain.proofs.network.push_event.Goals as goal

pub returns-in_ok-push_entry : goal.returns-in_ok-push_entry
returns-in_ok-push_entry c =
    let limit = c.args.instant.now.limit in
    c.in_ok-push_entry.ensures.ok
    ∙ ap (λ (es : List Entry). let p : PartOf = record { entries = c.args.trace.now.entries ++ es; outer = c.args.trace.now.outer } in p)
    (entry-of_event limit c.args.instant.now.time c.args.component (c.in-Some.what, c.args.sent) c.args.instant.now.of_run
    ∙ ap (λ happened. entry_of limit (rank_of c.args.instant.now) c.args.component (event_of happened c.args.sent)) (sym c.in-Some.is))
