-- The response of an atomic model, which is its lookahead (Chandy and Misra; Bryant): if an external rule goes to a phase, the hold that
-- begins there is not below it.
use Rattle.std.specs.Prelude.{ℕ, ℤ, pos, negsuc, neg_ℤ, ◌+ℤ◌, ◌^◌, ◌-◌, ◌≤◌, int_lt, if◌then◌else◌, List, [], fold, map}
use Rattle.std.specs.Prelude.{Option, Some, None}
use Rattle.std.specs.List.{flat_map}
use Rattle.dv_time.specs.Time.{earlier}
use Rattle.dv_syntax.specs.Trees.{AtomicTree, RuleTree, Expression, Literal, Named, Parens, Binary, Call, Times}
use Rattle.dv_syntax.specs.declared.tree.Operator.TheVariants as operator
use Rattle.dv_syntax.specs.declared.tree.BagCall.TheVariants as call
use Rattle.dv_syntax.specs.declared.tree.RuleSort.TheVariants.{External}
use Rattle.dv_eval.specs.Scope.{Scope, hold_ticks, same_sort, scope_of}
use Rattle.dv_eval.specs.declared.scope.Domain.{Domain}
use Rattle.dv_eval.specs.declared.scope.Domain.TheVariants as domain
use Rattle.law_accepted.specs.Fitting.{domain_named}
use Rattle.law_accepted.specs.Gotos.{gotos_in}

-- the least and the greatest number of 64 bits
abbrev pub least_number : ℤ
least_number = neg_ℤ (pos (2 ^ 63))

abbrev pub greatest_number : ℤ
greatest_number = pos (2 ^ 63 - 1)

-- kept within -2^63..2^63-1
abbrev pub within_numbers : ℤ → ℤ
within_numbers n = if int_lt n least_number then least_number else if int_lt greatest_number n then greatest_number else n

-- the low end of a variable's range; the least number if there is no range
abbrev pub low_end : Option Domain → ℤ
low_end None = least_number
low_end (Some (domain.Number range)) = range.low
low_end (Some (domain.Flag start)) = least_number
low_end (Some (domain.Held d capacity)) = least_number

-- a lower bound of a hold's expression, in all states of the model
abbrev pub low : Scope → Expression → ℤ
low scope (Literal n) = pos n.value
low scope (Named name) = low_end (domain_named scope name.number)
low scope (Parens offset e) = low scope e
low scope (Binary operator.Add a b) = within_numbers (low scope a +ℤ low scope b)
low scope (Call call.Size offset b) = pos 0
low scope (Times offset e b) = pos 0
low scope other = least_number

-- as ticks, which are never below 0
abbrev pub ticks_in : ℤ → ℕ
ticks_in (pos n) = n
ticks_in (negsuc n) = 0

-- the response of a hold: never if it is forever
abbrev pub hold_response : Scope → Option Expression → Option ℕ
hold_response scope None = None
hold_response scope (Some e) = Some (ticks_in (low scope e))

-- the names of the phases to which external rules go, in the order of the text
abbrev pub external_gotos_in : RuleTree → List ℕ
external_gotos_in r = if same_sort r.sort External then gotos_in r.body else []

abbrev pub external_gotos : AtomicTree → List ℕ
external_gotos m = flat_map external_gotos_in m.rules

-- the response of the hold of a phase
abbrev pub phase_response : AtomicTree → ℕ → Option ℕ
phase_response m phase = hold_response (scope_of m) (hold_ticks phase m.holds)

-- The response of a model: the least of the holds to which its external rules go; never if they go nowhere.
abbrev pub response_of : AtomicTree → Option ℕ
response_of m = fold earlier None (map (phase_response m) (external_gotos m))

-- a hold of some ticks is not below a response
abbrev pub IsNotBelow : Option ℕ → ℕ → Type 0
IsNotBelow None ticks = ⊥
IsNotBelow (Some r) ticks = r ≤ ticks
