use Rattle.std.proofs.Common.{ap, ◌∙◌, map}
use Rattle.std.proofs.lemmas.Result.{err_from_is_err_and}
use Rattle.dv_syntax.specs.Trees.{file_of}
use Rattle.law_sound.specs.Members.{direct_of, entry_of, exit_of}
use Rattle.dv_plan.specs.Texts.{plan_links}
use Rattle.dv_job.proofs.Plans.{planned}
use Rattle.dv_job.proofs.Ran.{unplanned}
use Rattle.dv_job.proofs.planned.plan_tree.Goals as goal

pub least_responses-requires : goal.least_responses-requires
least_responses-requires c =
    let accepted = c.requires.accepted in
    record {
      writable =
          c.files_of_texts_are_writable.ensures c.args.model.now c.args.tree.now.names accepted.tokens (file_of c.args.tree.now.file)
          accepted.lexed accepted.parsed;
      accepted = accepted.checked;
    }

pub returns-in_err-groups-clause-error : goal.returns-in_err-groups-clause-error
returns-in_err-groups-clause-error c =
    let p = err_from_is_err_and c.from_residual-in_err-groups.result c.from_residual-in_err-groups.ensures.1 in
    rw (p.1, p.2)
    (unplanned c.in_err-groups.field-0.0 _ _ c.args.tree.now c.requires.accepted c.in_err-groups.ensures)

pub returns-clause-planned : goal.returns-clause-planned
returns-clause-planned c =
    planned _ _ c.args.tree.now _ (plan_links c.in_ok-links.links) c.in_ok-groups.groups _ _ c.requires.accepted
    (c.in_ok-links.ensures.direct ∙ ap (map direct_of) c.in_ok-flat.ensures.direct)
    (c.in_ok-links.ensures.entrances ∙ ap (map entry_of) c.in_ok-flat.ensures.entries)
    (c.in_ok-links.ensures.exits ∙ ap (map exit_of) c.in_ok-flat.ensures.exits)
    c.in_ok-groups.ensures (ap (map _) c.deref.ensures.value ∙ c.in_ok-least.ensures) c.in_ok-names.ensures
    c.in_ok-plan_json.ensures
