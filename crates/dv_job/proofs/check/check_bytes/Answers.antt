use Rattle.std.proofs.Common.{◌∙◌, ap, sym}
use Rattle.dv_syntax.specs.Trees.{file_of}
use Rattle.dv_check.specs.Tree.{components_of}
use Rattle.dv_job.proofs.Counted.{components_are_instances}
use Rattle.dv_job.proofs.check.check_bytes.Goals as goal

pub returns-clause-accepted : goal.returns-clause-accepted
returns-clause-accepted c =
    let tree = c.in_ok-_tree._tree in
    let accepted = c.in_ok-_tree.ensures.accepted in
    let f = file_of tree.file in
    record {
      names = tree.names;
      file = f;
      model = accepted;
      counted = c.components.ensures ∙ ap (λ file. components_of (file_of file)) (sym c.in_ok-_tree.ensures.of_checked)
          ∙ components_are_instances f (c.checked_files.ensures f accepted.checked);
    }
