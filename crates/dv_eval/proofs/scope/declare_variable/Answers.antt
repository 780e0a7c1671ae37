use Rattle.std.proofs.Common.{◌∙◌, sym, eqb}
use Rattle.std.specs.Map.{lookup}
use Rattle.indexmap.proofs.CallerLemmas.{insert_entry-new}
use Rattle.dv_eval.proofs.Names.{with_variable-present, with_variable-absent, none_from_is_some}
use Rattle.dv_eval.proofs.scope.declare_variable.Goals as goal

pub returns-in_ok-insert : goal.returns-in_ok-insert
returns-in_ok-insert c =
    let m = c.args.variables.now in
    let name = c.args.name in
    let domain = c.args.domain in
    let absent = sym c.contains_key.ensures ∙ c.if-not-contains_key.true in
    let added = insert_entry-new eqb m name.number domain (none_from_is_some (lookup (eqb name.number) m.entries) absent) in
    c.in_ok-insert.ensures.entries ∙ (added ∙ sym (with_variable-absent m.entries (name, domain) absent))

pub returns-else-not-contains_key : goal.returns-else-not-contains_key
returns-else-not-contains_key c =
    sym
    (with_variable-present c.args.variables.now.entries (c.args.name, c.args.domain)
    (sym c.contains_key.ensures ∙ c.if-not-contains_key.false))
