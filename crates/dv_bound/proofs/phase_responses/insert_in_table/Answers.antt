use Rattle.std.proofs.Common.{sym, ◌∙◌, eqb}
use Rattle.std.specs.Map.{lookup}
use Rattle.indexmap.proofs.CallerLemmas.{insert_entry-new}
use Rattle.dv_bound.proofs.Tables.{none_from_is_some, with_response-absent}
use Rattle.dv_bound.proofs.phase_responses.insert_in_table.Goals as goal

pub returns-in_ok-insert : goal.returns-in_ok-insert
returns-in_ok-insert c =
    let m = c.args.table.now in
    let phase = c.args.phase in
    let absent = sym c.contains_key.ensures ∙ c.if-not-contains_key.true in
    let added = insert_entry-new eqb m phase c.args.response (none_from_is_some (lookup (eqb phase) m.entries) absent) in
    c.in_ok-insert.ensures.entries ∙ (added ∙ sym (with_response-absent m.entries phase c.args.response absent))
