use Rattle.std.proofs.Common.{subst}
use Rattle.dv_syntax.specs.Trees.{file_of}
use Rattle.dv_run.specs.Runs.{IsStepped}
use Rattle.dv_job.specs.Loading.{JobParts}
use Rattle.dv_job.proofs.steps.run_steps.Goals as goal

pub returns-clause-stepped : goal.returns-clause-stepped
returns-clause-stepped c =
    let setup = c.in_ok-setup.setup in
    record {
      names = c.in_ok-tree.tree.names;
      file = file_of c.in_ok-tree.tree.file;
      groups = setup.groups;
      played = setup.inputs;
      planned = c.in_ok-setup.ensures.planned;
      stepped = subst (λ (p : JobParts). IsStepped (file_of p.tree.file) p.inputs p.groups p.horizon p.limit c.args.options.now.capacity
          c.args.steps.now c.in_ok-compiled_steps.field-0) c.job-job.ensures.parts c.in_ok-compiled_steps.ensures;
    }
