use Rattle.std.proofs.Common.{◌≡◌, length, arith, subst}
use Rattle.std.specs.Prelude.{None}
use Rattle.dv_syntax.specs.Trees.{file_of}
use Rattle.dv_check.specs.Refusals.{refusal_of}
use Rattle.dv_tree.specs.Instances.{instances}
use Rattle.dv_tree.specs.Tables.{Source}
use Rattle.dv_tree.proofs.Named.{length-named, tree_named}
use Rattle.dv_tree.proofs.Limits.{few_components}
use Rattle.dv_tree.proofs.tree.Tree.component_count.Goals as goal

count : (c : goal.After-len) → c.len.result ≡ length (instances (file_of c.args.self.now.file))
count c =
    omega (
      arith,
      c.len.ensures,
      c.self.inside.components.ok.0,
      length-named (tree_named c.self.inside.checked.now c.self.inside.reached.models.items c.args.self.now c.self.view_is
          c.self.invariant.6 c.self.inside.components.items c.self.invariant.3),
    )

pub returns-clause-value : goal.returns-clause-value
returns-clause-value c = count c

pub returns-clause-at_most : goal.returns-clause-at_most
returns-clause-at_most c =
    let checked = subst (λ (s : Source). refusal_of (file_of s.file) ≡ None) c.self.view_is c.self.inside.checked.now.checked in
    omega (arith, count c, few_components (file_of c.args.self.now.file) (c.checked_files.ensures _ checked))
