use Rattle.std.proofs.Common.{◌∙◌, sym}
use Rattle.dv_gen.proofs.Emission.{with_expression-Read}
use Rattle.dv_gen.proofs.expression.emit_leaf.Goals as goal

pub returns-clause-code : goal.returns-clause-code
returns-clause-code c = c.in_ok-push.ensures ∙ sym (with_expression-Read c.args.draft.now c.args.leaf)
