use Rattle.dv_partition.specs.Groups.{owner_of}
use Rattle.dv_syntax.specs.Trees.{file_of}
use Rattle.dv_run.proofs.Traces.{is_stepped}
use Rattle.dv_run.proofs.steps.compiled_steps.Goals as goal

pub components_of-requires : goal.components_of-requires
components_of-requires c = record {
  compilable =
      c.accepted_files_are_compilable.ensures (file_of c.args.job.now.tree.now.file) c.requires.writable
      c.requires.accepted;
}

pub step_components-requires-clause-components : goal.step_components-requires-clause-components
step_components-requires-clause-components c = record {
  members = c.in_ok-components.ensures.members;
  rise = c.in_ok-components.ensures.rise;
  among = c.in_ok-components.ensures.among;
  responses = c.in_ok-components.ensures.responses;
  short = c.in_ok-components.ensures.short;
}

pub returns : goal.returns
returns c =
    let j = c.args.job.now in
    is_stepped j c.requires.writable c.requires.accepted
    c.parts_of_the_flat_model_are_those_of_the_text.ensures.part c.args.capacity c.args.steps.now c.in_ok-step_components.field-0
    (λ steps w. c.runs_by_programs_are_runs_by_rules.ensures.steps (file_of j.tree.now.file) j.inputs.now j.limit
    j.horizon j.groups.now.processes c.args.capacity (owner_of j.groups.now) steps w c.requires.writable c.requires.accepted)
    c.in_ok-step_components.ensures
