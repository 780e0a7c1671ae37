use Rattle.std.proofs.lemmas.Result.{err_from_is_err_and}
use Rattle.dv_syntax.specs.Trees.{file_of}
use Rattle.dv_job.proofs.Ran.{planned_tree, unstepped_groups, unstepped_inputs}
use Rattle.dv_job.proofs.setup.set_up.Goals as goal

pub returns-in_err-groups-clause-error : goal.returns-in_err-groups-clause-error
returns-in_err-groups-clause-error c =
    let p = err_from_is_err_and c.from_residual-in_err-groups.result c.from_residual-in_err-groups.ensures.1 in
    rw (p.1, p.2)
    (unstepped_groups c.in_err-groups.field-0.0 _ _ _ _ c.args.tree.now c.requires.accepted c.in_err-groups.ensures)

pub returns-in_err-inputs-clause-error : goal.returns-in_err-inputs-clause-error
returns-in_err-inputs-clause-error c =
    let p = err_from_is_err_and c.from_residual-in_err-inputs.result c.from_residual-in_err-inputs.ensures.1 in
    rw (p.1, p.2)
    (unstepped_inputs c.in_err-inputs.field-0.0 _ _ _ _ c.args.tree.now c.in_ok-groups.groups c.requires.accepted
    c.in_ok-groups.ensures c.in_err-inputs.ensures.refused)

pub returns-clause-planned : goal.returns-clause-planned
returns-clause-planned c =
    planned_tree _ _ _ _ c.args.tree.now _ _ c.requires.accepted c.in_ok-groups.ensures c.in_ok-inputs.ensures.inputs

pub returns-clause-writable : goal.returns-clause-writable
returns-clause-writable c =
    let accepted = c.requires.accepted in
    c.files_of_texts_are_writable.ensures c.args.model.now c.args.tree.now.names accepted.tokens (file_of c.args.tree.now.file)
    accepted.lexed accepted.parsed

pub returns-clause-links : goal.returns-clause-links
returns-clause-links c = record {
  direct = c.in_ok-links.ensures.direct;
  entries = c.in_ok-links.ensures.entries;
  exits = c.in_ok-links.ensures.exits;
}
