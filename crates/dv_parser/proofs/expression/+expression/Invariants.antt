use Rattle.std.proofs.Common.{◌≡◌, ◌+◌, ◌-◌, ◌*◌, ◌≤◌, ◌<◌}
use Rattle.dv_syntax.specs.Trees.{expression_of}
use Rattle.dv_syntax.specs.Grammar.{depth}
use Rattle.dv_parser.specs.Reading.{expression_at, more_at}
use Rattle.dv_parser.proofs.expression.+expression.Given as goal

abbrev pub decreases-within : goal.decreases-within
decreases-within l = 4 * l.limit + 2

abbrev pub decreases-primary : goal.decreases-primary
decreases-primary l = 4 * l.limit + 1

abbrev pub decreases-operand_within : goal.decreases-operand_within
decreases-operand_within l = 4 * l.limit - 1

abbrev pub decreases-parens : goal.decreases-parens
decreases-parens l = 4 * l.limit

abbrev pub decreases-prefixed : goal.decreases-prefixed
decreases-prefixed l = 4 * l.limit

abbrev pub decreases-times : goal.decreases-times
decreases-times l = 4 * l.limit

abbrev pub invariant-within-loop-operator : goal.invariant-within-loop-operator
invariant-within-loop-operator l = record {
  same : more_at l.limit l.level (expression_of l.left) l.rest ≡ expression_at l.limit l.level l.tokens;
  depth : l.depth ≡ depth (expression_of l.left);
  positive : 0 < l.depth;
  within : l.depth ≤ l.limit;
}

abbrev pub decreases-within-loop-operator : goal.decreases-within-loop-operator
decreases-within-loop-operator l = l.limit - l.depth
