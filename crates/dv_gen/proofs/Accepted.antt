-- What is accepted as a whole is accepted in its parts: statements, and the rules and holds of a model.
use Rattle.std.proofs.Common.{◌≡◌, ℕ, true, false, not, List, [], ◌∷◌, ◌++◌, refl, Option, Some, None, IfSome}
use Rattle.std.specs.List.{All, AllByRecursion, flat_map}
use Rattle.std.proofs.lemmas.List.Elements.{All-from_recursion}
use Rattle.dv_lex.specs.declared.error.RefusalNumber.TheVariants.{E9}
use Rattle.dv_syntax.specs.Trees.{AtomicTree, HoldTree, RuleTree, Expression, Statements, Done, Assign, Does, Send, If, IfElse}
use Rattle.dv_syntax.specs.Trees.{For, Changes}
use Rattle.dv_syntax.specs.declared.tree.Command.{Command}
use Rattle.dv_syntax.specs.declared.tree.Name.{Name}
use Rattle.dv_bag.specs.Collections.{discipline_of_change}
use Rattle.dv_bag.specs.declared.discipline.Change.{Change}
use Rattle.dv_bag.specs.declared.value.ValueType.TheVariants.{Number, Truth}
use Rattle.dv_check.specs.declared.wanted.Wanted.TheVariants as want
use Rattle.dv_check.specs.Names.{refusal_if}
use Rattle.dv_check.specs.Rules.{assignment_refusals, atomic_refusals, change_refusals, changed_refusals, command_name_refusals}
use Rattle.dv_check.specs.Rules.{hold_refusals, is_output_rule, known_in, known_in_loop, known_in_rule, loop_variable_refusals}
use Rattle.dv_check.specs.Rules.{phase_refusals, rule_refusals, sent_port_refusals, statements_refusals, ticks_refusals}
use Rattle.dv_check.specs.Types.{Known, held_name_refusals, is_readable, offset_refusals, type_of_name, value_refusals}
use Rattle.dv_check.proofs.CheckedFiles.{both_nil, not_false, not_refused}
use Rattle.law_accepted.proofs.Fitting.{parts_of_none}
use Rattle.law_accepted.proofs.Known.{held_name_known}

-- ---- Statements

pub record AcceptedAssignment (known : Known) (n : Name) (e : Expression) (more : Statements) : Type 0 where
  pub target : assignment_refusals known.rule (known.sort n.number) n.offset ≡ []
  pub value : value_refusals (type_of_name (known.sort n.number)) known e ≡ []
  pub rest : statements_refusals known more ≡ []

pub record AcceptedCommand (known : Known) (c : Command) (name : Name) (more : Statements) : Type 0 where
  pub changing : is_output_rule known.rule ≡ false
  pub target : command_name_refusals known c name ≡ []
  pub rest : statements_refusals known more ≡ []

pub record AcceptedSend (known : Known) (port : Name) (e : Expression) (more : Statements) : Type 0 where
  pub sending : is_output_rule known.rule ≡ true
  pub target : sent_port_refusals (known.sort port.number) port.offset ≡ []
  pub value : offset_refusals Number known e ≡ []
  pub rest : statements_refusals known more ≡ []

pub record AcceptedChoice (known : Known) (e : Expression) (block other more : Statements) : Type 0 where
  pub condition : offset_refusals Truth known e ≡ []
  pub first : statements_refusals known block ≡ []
  pub second : statements_refusals known other ≡ []
  pub rest : statements_refusals known more ≡ []

pub record AcceptedLoop (known : Known) (v b : Name) (block more : Statements) : Type 0 where
  pub readable : is_readable want.Values known.rule (known.sort b.number) ≡ true
  pub inside : statements_refusals (known_in_loop v known) block ≡ []
  pub rest : statements_refusals known more ≡ []

pub record AcceptedChange (known : Known) (c : Change) (e : Expression) (x : Name) (more : Statements) : Type 0 where
  pub changing : is_output_rule known.rule ≡ false
  pub value : offset_refusals Number known e ≡ []
  pub target : changed_refusals (discipline_of_change c) (known.sort x.number) x.offset ≡ []
  pub rest : statements_refusals known more ≡ []

module _ (known : Known) where
  pub accepted_assignment : (n : Name) (e : Expression) (more : Statements) → statements_refusals known (Assign n e more) ≡ []
      → AcceptedAssignment known n e more
  accepted_assignment n e more none =
      let target = assignment_refusals known.rule (known.sort n.number) n.offset in
      let value = value_refusals (type_of_name (known.sort n.number)) known e in
      let left = both_nil target (value ++ statements_refusals known more) none in
      let right = both_nil value (statements_refusals known more) left.1 in
      record { target = left.0; value = right.0; rest = right.1 }

  pub accepted_command : (c : Command) (offset : ℕ) (name : Name) (more : Statements)
      → statements_refusals known (Does c offset name more) ≡ [] → AcceptedCommand known c name more
  accepted_command c offset name more none =
      let target = command_name_refusals known c name in
      let left = both_nil (refusal_if (is_output_rule known.rule) E9 offset) (target ++ statements_refusals known more) none in
      let right = both_nil target (statements_refusals known more) left.1 in
      record { changing = not_refused _ _ _ left.0; target = right.0; rest = right.1 }

  pub accepted_send : (offset : ℕ) (port : Name) (e : Expression) (more : Statements)
      → statements_refusals known (Send offset port e more) ≡ [] → AcceptedSend known port e more
  accepted_send offset port e more none =
      let target = sent_port_refusals (known.sort port.number) port.offset in
      let value = offset_refusals Number known e in
      let later = statements_refusals known more in
      let left = both_nil (refusal_if (not (is_output_rule known.rule)) E9 offset) (target ++ (value ++ later)) none in
      let middle = both_nil target (value ++ later) left.1 in
      let right = both_nil value later middle.1 in
      record { sending = not_false _ (not_refused _ _ _ left.0); target = middle.0; value = right.0; rest = right.1 }

  -- a choice without a second block is one whose second block does nothing
  pub accepted_if : (offset : ℕ) (e : Expression) (block more : Statements) → statements_refusals known (If offset e block more) ≡ []
      → AcceptedChoice known e block Done more
  accepted_if offset e block more none =
      let left = both_nil (offset_refusals Truth known e) (statements_refusals known block ++ statements_refusals known more) none in
      let right = both_nil (statements_refusals known block) (statements_refusals known more) left.1 in
      record { condition = left.0; first = right.0; second = refl; rest = right.1 }

  pub accepted_if_else : (offset : ℕ) (e : Expression) (block other more : Statements)
      → statements_refusals known (IfElse offset e block other more) ≡ [] → AcceptedChoice known e block other more
  accepted_if_else offset e block other more none =
      let first = statements_refusals known block in
      let second = statements_refusals known other in
      let later = statements_refusals known more in
      let left = both_nil (offset_refusals Truth known e) (first ++ (second ++ later)) none in
      let middle = both_nil first (second ++ later) left.1 in
      let right = both_nil second later middle.1 in
      record { condition = left.0; first = middle.0; second = right.0; rest = right.1 }

  pub accepted_loop : (offset : ℕ) (v b : Name) (block more : Statements) → statements_refusals known (For offset v b block more) ≡ []
      → AcceptedLoop known v b block more
  accepted_loop offset v b block more none =
      let bag = held_name_refusals want.Values known.rule (known.sort b.number) b.offset in
      let inside = statements_refusals (known_in_loop v known) block in
      let later = statements_refusals known more in
      let left = both_nil (loop_variable_refusals (known.offset v.number) v.offset) (bag ++ (inside ++ later)) none in
      let middle = both_nil bag (inside ++ later) left.1 in
      let right = both_nil inside later middle.1 in
      let readable = held_name_known want.Values known.rule (known.sort b.number) b.offset middle.0 in
      record { readable = readable; inside = right.0; rest = right.1 }

  pub accepted_change : (c : Change) (offset : ℕ) (e : Expression) (x : Name) (more : Statements)
      → statements_refusals known (Changes c offset e x more) ≡ [] → AcceptedChange known c e x more
  accepted_change c offset e x more none =
      let value = offset_refusals Number known e in
      let target = changed_refusals (discipline_of_change c) (known.sort x.number) x.offset in
      let both = both_nil (change_refusals known c offset e x) (statements_refusals known more) none in
      let left = both_nil (refusal_if (is_output_rule known.rule) E9 offset) (value ++ target) both.0 in
      let right = both_nil value target left.1 in
      record { changing = not_refused _ _ _ left.0; value = right.0; target = right.1; rest = both.1 }

-- ---- Rules and holds

module _ (m : AtomicTree) (none : atomic_refusals m ≡ []) where
  module _ (P : RuleTree → Type 0)
      (holds : (r : RuleTree) → statements_refusals (known_in_rule (Some r.sort) (known_in m)) r.body ≡ [] → P r) where
    each_rule_from : (rules : List RuleTree) → flat_map (rule_refusals (known_in m)) rules ≡ [] → AllByRecursion P rules
    each_rule_from [] accepted = tt
    each_rule_from (r ∷ rules) accepted =
        let k = known_in m in
        let both = both_nil (rule_refusals k r) (flat_map (rule_refusals k) rules) accepted in
        let body = statements_refusals (known_in_rule (Some r.sort) k) r.body in
        (holds r (both_nil (phase_refusals k r.phase) body both.0).1, each_rule_from rules both.1)

    -- what follows for each rule whose statements are accepted
    pub each_rule : All P m.rules
    each_rule = All-from_recursion P m.rules (each_rule_from m.rules (parts_of_none m none).rules)

  module _ (P : Expression → Type 0) (holds : (e : Expression) → offset_refusals Number (known_in m) e ≡ [] → P e) where
    accepted_ticks : (ticks : Option Expression) → ticks_refusals (known_in m) ticks ≡ [] → IfSome ticks P
    accepted_ticks None accepted = tt
    accepted_ticks (Some e) accepted = holds e accepted

    each_hold_from : (items : List HoldTree) → flat_map (hold_refusals (known_in m)) items ≡ []
        → AllByRecursion (λ (h : HoldTree). IfSome h.ticks P) items
    each_hold_from [] accepted = tt
    each_hold_from (h ∷ items) accepted =
        let k = known_in m in
        let both = both_nil (hold_refusals k h) (flat_map (hold_refusals k) items) accepted in
        let ticks = (both_nil (phase_refusals k h.phase) (ticks_refusals k h.ticks) both.0).1 in
        (accepted_ticks h.ticks ticks, each_hold_from items both.1)

    -- and for each hold whose expression is
    pub each_hold : All (λ (h : HoldTree). IfSome h.ticks P) m.holds
    each_hold = All-from_recursion _ m.holds (each_hold_from m.holds (parts_of_none m none).holds)
