-- Numbers of the language, in states, in what arrives and in the texts of rules.
use Rattle.std.specs.Prelude.{◌^◌, Bool, true, ◌&&◌, nat_le, nat_lt, IsTrue, List}
use Rattle.std.specs.List.{list_all}
use Rattle.dv_syntax.specs.Trees.{AtomicTree, Expression, Literal, TruthValue, Named, Parens, Prefixed, Binary, Call, Elapsed}
use Rattle.dv_syntax.specs.Trees.{Times, RuleTree}
use Rattle.dv_syntax.specs.Trees.{Statements, Done, Assign, Does, Send, If, IfElse, For, Changes}
use Rattle.dv_bag.specs.Bag.{is_number}
use Rattle.dv_bag.specs.Collections.{count_in}
use Rattle.dv_bag.specs.Limits.{greatest_count}
use Rattle.dv_bag.specs.declared.collection.Collection.{Collection}
use Rattle.dv_bag.specs.declared.collection.Collection.TheVariants as collection
use Rattle.dv_bag.specs.declared.state.Datum.{Datum}
use Rattle.dv_bag.specs.declared.state.Datum.TheVariants as datum
use Rattle.dv_bag.specs.declared.state.State.{State}
use Rattle.dv_eval.specs.Scope.{start_state}
use Rattle.law_accepted.specs.Fitting.{fits}
use Rattle.dv_conservative.specs.Sound.{is_of_numbers}

-- whether each value of a bag or a queue is a number of the language
abbrev pub has_numbers : Collection → Bool
has_numbers (collection.Bag b) = is_of_numbers b
has_numbers (collection.Queue q) = list_all is_number q

-- a number of the language, a truth value, or a bag or a queue of such numbers with no more than the greatest count of values
abbrev pub is_kept : Datum → Bool
is_kept (datum.Number n) = is_number n
is_kept (datum.Flag b) = true
is_kept (datum.Held c) = has_numbers c && nat_le (count_in c) greatest_count

abbrev pub are_kept : List Datum → Bool
are_kept contents = list_all is_kept contents

-- a state that fits its model and holds only numbers of the language
abbrev pub fits_kept : AtomicTree → State → Bool
fits_kept m s = fits m s && are_kept s.variables

-- the numbers in an expression and in statements are of the language, as those of all tokens are
abbrev pub names_numbers : Expression → Bool
names_numbers (Literal n) = nat_lt n.value (2 ^ 63)
names_numbers (TruthValue offset b) = true
names_numbers (Named name) = true
names_numbers (Parens offset e) = names_numbers e
names_numbers (Prefixed operator offset e) = names_numbers e
names_numbers (Binary operator a b) = names_numbers a && names_numbers b
names_numbers (Call call offset b) = true
names_numbers (Elapsed offset) = true
names_numbers (Times offset e b) = names_numbers e

abbrev pub name_numbers : Statements → Bool
name_numbers Done = true
name_numbers (Assign variable value rest) = names_numbers value && name_numbers rest
name_numbers (Does c offset name rest) = name_numbers rest
name_numbers (Send offset port value rest) = names_numbers value && name_numbers rest
name_numbers (If offset condition block rest) = names_numbers condition && (name_numbers block && name_numbers rest)
name_numbers (IfElse offset condition block other rest) =
    names_numbers condition && (name_numbers block && (name_numbers other && name_numbers rest))
name_numbers (For offset v b block rest) = name_numbers block && name_numbers rest
name_numbers (Changes c offset value x rest) = names_numbers value && name_numbers rest

abbrev pub rules_name_numbers : List RuleTree → Bool
rules_name_numbers rules = list_all (λ (r : RuleTree). name_numbers r.body) rules

-- A model whose numbers are of the language: those of its rules, and those of its start state.
pub record IsOfNumbers (m : AtomicTree) : Type 0 where
  pub rules : IsTrue (rules_name_numbers m.rules)
  pub start : IsTrue (are_kept (start_state m).variables)
