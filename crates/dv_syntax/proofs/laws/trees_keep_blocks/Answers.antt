use Rattle.dv_syntax.proofs.Blocks.{tree_of_if, tree_of_if_else, tree_of_loop}
use Rattle.dv_syntax.proofs.laws.trees_keep_blocks.Goals as goal

pub returns-clause-alone : goal.returns-clause-alone
returns-clause-alone c = tree_of_if

pub returns-clause-with_else : goal.returns-clause-with_else
returns-clause-with_else c = tree_of_if_else

pub returns-clause-repeated : goal.returns-clause-repeated
returns-clause-repeated c = tree_of_loop
