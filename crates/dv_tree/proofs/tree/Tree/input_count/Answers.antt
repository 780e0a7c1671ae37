use Rattle.std.proofs.Common.{ap, arith, length}
use Rattle.dv_syntax.specs.Trees.{file_of}
use Rattle.dv_tree.proofs.Limits.{few_inputs}
use Rattle.dv_tree.proofs.tree.Tree.input_count.Goals as goal

pub returns-clause-at_most : goal.returns-clause-at_most
returns-clause-at_most c =
    let checked = c.self.inside.checked.now in
    let few = few_inputs (file_of checked.file) (c.checked_files.ensures _ checked.checked) in
    omega (arith, few, c.len.ensures, c.self.inside.inputs.ok.0, ap length c.self.invariant.4)
