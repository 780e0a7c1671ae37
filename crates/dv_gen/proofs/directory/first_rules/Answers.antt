use Rattle.std.proofs.Common.{◌+◌, ◌∷◌, ◌∙◌, ap, sym, drop, map}
use Rattle.std.proofs.lemmas.List.{at_drop_more, drop_all}
use Rattle.dv_check.specs.Tables.{value_for}
use Rattle.dv_syntax.specs.Trees.{rule_of as tree_of, statements_of}
use Rattle.dv_eval.specs.Scope.{rule_of}
use Rattle.dv_gen.proofs.Directories.{added_at, in_front, in_front-none, in_front_nothing, rule_kept, rule_passed}
use Rattle.dv_gen.proofs.directory.first_rules.Goals as goal
use Rattle.dv_gen.proofs.directory.first_rules.Goals.{then-is_of_sort+in_ok-add, else-is_of_sort}

pub loop-rule-init : goal.loop-rule-init
loop-rule-init c = λ phase.
    let wanted = rule_of c.args.sort phase (map tree_of c.args.rules.now) in
    ap (λ f. in_front (f phase) wanted) c.in_ok-first.ensures ∙ in_front_nothing wanted phase

pub loop-rule-preserved : goal.loop-rule-preserved
loop-rule-preserved c = λ phase.
    let sort = c.args.sort in
    let rules = c.args.rules.now in
    let i = c.loop-rule.rule-index in
    let r = c.rule-item.result in
    let before = value_for c.loop-rule.first phase in
    let after = value_for c.if-is_of_sort.first phase in
    let rest = map tree_of (drop (i + 1) rules) in
    let next =
    ap (λ x. in_front before (rule_of sort phase (map tree_of (x ∷ drop (i + 1) rules)))) c.rule-item.is
    ∙ sym (at_drop_more (λ xs. in_front before (rule_of sort phase (map tree_of xs))) rules i r c.loop-rule-test.true)
    ∙ c.loop-rule.invariant phase in
    elim c.if-is_of_sort.branch [
      | then-is_of_sort+in_ok-add w ↦
          rule_kept sort phase (tree_of r) rest before after w.deref-statements.result (sym c.is_of_sort.ensures ∙ w.if-is_of_sort.true)
          (ap statements_of w.deref-statements.ensures.value)
          (ap (λ first. value_for first phase) w.first-is ∙ added_at _ _ _ _ w.in_ok-add.ensures.added phase)
          ∙ next
      | else-is_of_sort w ↦
          ap (λ first. in_front (value_for first phase) (rule_of sort phase rest)) w.first-is
          ∙ ap (in_front before) (rule_passed sort phase (tree_of r) rest (sym c.is_of_sort.ensures ∙ w.if-is_of_sort.false))
          ∙ next
    ]

pub returns : goal.returns
returns c = λ phase.
    let found = value_for c.loop-rule.first phase in
    sym (in_front-none found)
    ∙ ap (λ left. in_front found (rule_of c.args.sort phase (map tree_of left)))
    (sym (drop_all c.loop-rule.rule-index c.args.rules.now c.loop-rule-test.false))
    ∙ c.loop-rule.invariant phase
