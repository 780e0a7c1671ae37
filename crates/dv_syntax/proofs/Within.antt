-- What is within limits on depth is within limits that are no less.
use Rattle.std.proofs.Common.{◌≤◌, List, [], ◌∷◌, Option, Some, None, arith}
use Rattle.std.specs.List.{AllByRecursion}
use Rattle.dv_syntax.specs.Trees.{Expression, Statements, Done, Assign, Does, Send, If, IfElse, For, Changes}
use Rattle.dv_syntax.specs.Written.{AtomicItem, Declares, Lists, Starts, Holds, Rules}
use Rattle.dv_syntax.specs.Grammar.{Limits, IsExpression, AreStatements, AreTicks, IsItem}

pub record AreNoLess (narrow wide : Limits) : Type 0 where
  pub expression : narrow.expression ≤ wide.expression
  pub block : narrow.block ≤ wide.block
  pub loop : narrow.loop ≤ wide.loop

expression_within : (n w : Limits) → AreNoLess n w → (e : Expression) → IsExpression n e → IsExpression w e
expression_within n w g e is = record { formed = is.formed; within = omega (arith, is.within, g.expression) }

statements_within : (n w : Limits) → AreNoLess n w → (s : Statements) → AreStatements n s → AreStatements w s
statements_within n w g Done are = tt
statements_within n w g (Assign v e rest) are = (expression_within n w g e are.0, statements_within n w g rest are.1)
statements_within n w g (Does c offset name rest) are = statements_within n w g rest are
statements_within n w g (Send offset p e rest) are = (expression_within n w g e are.0, statements_within n w g rest are.1)
statements_within n w g (If offset e block rest) are =
    (expression_within n w g e are.0, statements_within n w g block are.1, statements_within n w g rest are.2)
statements_within n w g (IfElse offset e block other rest) are = (
  expression_within n w g e are.0,
  statements_within n w g block are.1,
  statements_within n w g other are.2,
  statements_within n w g rest are.3,
)
statements_within n w g (For offset v b block rest) are = (statements_within n w g block are.0, statements_within n w g rest are.1)
statements_within n w g (Changes c offset e x rest) are = (expression_within n w g e are.0, statements_within n w g rest are.1)

ticks_within : (n w : Limits) → AreNoLess n w → (ticks : Option Expression) → AreTicks n ticks → AreTicks w ticks
ticks_within n w g None are = tt
ticks_within n w g (Some e) are = expression_within n w g e are

pub item_within : (n w : Limits) → AreNoLess n w → (x : AtomicItem) → IsItem n x → IsItem w x
item_within n w g (Declares d) is = is
item_within n w g (Lists p) is = is
item_within n w g (Starts s) is = is
item_within n w g (Holds h) is = ticks_within n w g h.ticks is
item_within n w g (Rules r) is = (statements_within n w g r.body is.0, omega (arith, is.1, g.block), omega (arith, is.2, g.loop))

pub each_within : {A : Type 0} {P Q : A → Type 0} → ((x : A) → P x → Q x) → (xs : List A) → AllByRecursion P xs → AllByRecursion Q xs
each_within h [] all = tt
each_within h (x ∷ xs) all = (h x all.0, each_within h xs all.1)
