-- Trees with indices in place of names, and their meaning, by recursion on the tree.
use Rattle.std.specs.Prelude.{◌≡◌, ℕ, suc, ℤ, pos, ◌<◌, Bool, false, if◌then◌else◌, List, [], ◌∷◌, ◌++◌, Option, Some, None, Result, Ok}
use Rattle.dv_bag.specs.Arrivals.{Arrivals}
use Rattle.dv_bag.specs.Collections.{values_in as values_held}
use Rattle.dv_bag.specs.Outcome.{◌>>=◌}
use Rattle.dv_bag.specs.declared.collection.Collection.{Collection}
use Rattle.dv_bag.specs.declared.fault.Fault.{Fault}
use Rattle.dv_bag.specs.declared.state.State.{State}
use Rattle.dv_bag.specs.declared.state.Effect.{Effect}
use Rattle.dv_bag.specs.declared.value.Value.{Value}
use Rattle.dv_bag.specs.declared.value.Value.TheVariants as value
use Rattle.dv_bag.specs.declared.value.ValueType.{ValueType}
use Rattle.dv_bag.specs.declared.value.ValueType.TheVariants.{Truth}
use Rattle.dv_code.specs.Shape.{Shape}
use Rattle.dv_code.specs.Operations.{action_effect, binary_value, collection_of, deed_effect, leaf_value, unary_value}
use Rattle.dv_code.specs.Machine.{first_effect}
use Rattle.dv_code.specs.Known.{IsSourceOf, KnowsAction, KnowsDeed, KnowsLeaf, KnowsUnary, action_type, leaf_type, operand_type}
use Rattle.dv_code.specs.Known.{result_type, unary_type}
use Rattle.dv_code.specs.declared.instruction.Action.{Action}
use Rattle.dv_code.specs.declared.instruction.Binary.{Binary}
use Rattle.dv_code.specs.declared.instruction.Deed.{Deed}
use Rattle.dv_code.specs.declared.instruction.Deed.TheVariants.{Go, Pop}
use Rattle.dv_code.specs.declared.instruction.Leaf.{Leaf}
use Rattle.dv_code.specs.declared.instruction.Source.{Source}
use Rattle.dv_code.specs.declared.instruction.Unary.{Unary}

pub data Expression : Type 0 where
  Read : (l : Leaf) → Expression
  Prefix : (u : Unary) (a : Expression) → Expression
  Infix : (o : Binary) (a b : Expression) → Expression
  And : (a b : Expression) → Expression
  Or : (a b : Expression) → Expression

-- statements, one after the other
pub data Statements : Type 0 where
  Done : Statements
  Act : (a : Action) (value : Expression) (rest : Statements) → Statements
  Obey : (d : Deed) (rest : Statements) → Statements
  When : (condition : Expression) (block rest : Statements) → Statements
  If : (condition : Expression) (block other rest : Statements) → Statements
  For : (s : Source) (block rest : Statements) → Statements

-- a missing value counts as 0, a missing change as none, missing values as none
abbrev pub or_zero : Option (Result Value Fault) → Result Value Fault
or_zero None = Ok (value.Number (pos 0))
or_zero (Some r) = r

abbrev pub or_same : Effect → Option (Result Effect Fault) → Result Effect Fault
or_same e None = Ok e
or_same e (Some r) = r

abbrev pub values_in : Option Collection → List ℤ
values_in None = []
values_in (Some c) = values_held c

abbrev pub truth_of : Value → Bool
truth_of (value.Truth b) = b
truth_of (value.Number n) = false

-- The value of an expression, with the items of the loops around it, the innermost first; or its first fault from the left. If the first
-- operand of `and` or `or` decides, the second is not evaluated.
abbrev pub value_of : Arrivals → List ℤ → State → Expression → Result Value Fault
value_of arrivals items s (Read l) = or_zero (leaf_value arrivals items s l)
value_of arrivals items s (Prefix u a) = value_of arrivals items s a >>= λ v. or_zero (unary_value arrivals s u v)
value_of arrivals items s (Infix o a b) =
    value_of arrivals items s a >>= λ x. value_of arrivals items s b >>= λ y. or_zero (binary_value o x y)
value_of arrivals items s (And a b) = value_of arrivals items s a >>= λ x. if truth_of x then value_of arrivals items s b else Ok x
value_of arrivals items s (Or a b) = value_of arrivals items s a >>= λ x. if truth_of x then Ok x else value_of arrivals items s b

-- a body for each value, one after the other
abbrev pub for_each : (ℤ → Effect → Result Effect Fault) → List ℤ → Effect → Result Effect Fault
for_each body [] e = Ok e
for_each body (n ∷ rest) e = body n e >>= for_each body rest

-- the effect of statements, or the first fault
abbrev pub effect_from : Shape → Arrivals → List ℤ → Statements → Effect → Result Effect Fault
effect_from shape arrivals items Done e = Ok e
effect_from shape arrivals items (Act a value rest) e =
    value_of arrivals items e.state value >>= λ v. or_same e (action_effect shape a v e) >>= effect_from shape arrivals items rest
effect_from shape arrivals items (Obey d rest) e = or_same e (deed_effect d e) >>= effect_from shape arrivals items rest
effect_from shape arrivals items (When condition block rest) e =
    value_of arrivals items e.state condition
    >>= λ v. (if truth_of v then effect_from shape arrivals items block e else Ok e) >>= effect_from shape arrivals items rest
effect_from shape arrivals items (If condition block other rest) e =
    value_of arrivals items e.state condition
    >>= λ v. (if truth_of v then effect_from shape arrivals items block e else effect_from shape arrivals items other e)
    >>= effect_from shape arrivals items rest
effect_from shape arrivals items (For s block rest) e =
    for_each (λ n. effect_from shape arrivals (n ∷ items) block) (values_in (collection_of arrivals e.state s)) e
    >>= effect_from shape arrivals items rest

-- the effect of a rule on a state
abbrev pub rule_effect : Shape → Arrivals → Statements → State → Result Effect Fault
rule_effect shape arrivals body s = effect_from shape arrivals [] body (first_effect shape s)

abbrev pub type_of : Expression → ValueType
type_of (Read l) = leaf_type l
type_of (Prefix u a) = unary_type u
type_of (Infix o a b) = result_type o
type_of (And a b) = Truth
type_of (Or a b) = Truth

-- an expression is well typed for a shape, in a number of loops
abbrev pub IsTyped : Shape → ℕ → Expression → Type 0
IsTyped shape inside (Read l) = KnowsLeaf shape inside l
IsTyped shape inside (Prefix u a) = KnowsUnary shape u × (type_of a ≡ unary_type u) × IsTyped shape inside a
IsTyped shape inside (Infix o a b) =
    (type_of a ≡ operand_type o) × (type_of b ≡ operand_type o) × IsTyped shape inside a × IsTyped shape inside b
IsTyped shape inside (And a b) = (type_of a ≡ Truth) × (type_of b ≡ Truth) × IsTyped shape inside a × IsTyped shape inside b
IsTyped shape inside (Or a b) = (type_of a ≡ Truth) × (type_of b ≡ Truth) × IsTyped shape inside a × IsTyped shape inside b

-- statements are well typed, and their loops are nested no deeper than a limit
abbrev pub AreTyped : Shape → ℕ → ℕ → Statements → Type 0
AreTyped shape depth inside Done = Unit {0}
AreTyped shape depth inside (Act a value rest) =
    KnowsAction shape a × (type_of value ≡ action_type a) × IsTyped shape inside value × AreTyped shape depth inside rest
AreTyped shape depth inside (Obey d rest) = KnowsDeed shape d × AreTyped shape depth inside rest
AreTyped shape depth inside (When condition block rest) =
    (type_of condition ≡ Truth) × IsTyped shape inside condition × AreTyped shape depth inside block × AreTyped shape depth inside rest
AreTyped shape depth inside (If condition block other rest) =
    (type_of condition ≡ Truth) × IsTyped shape inside condition × AreTyped shape depth inside block
    × AreTyped shape depth inside other × AreTyped shape depth inside rest
AreTyped shape depth inside (For s block rest) =
    (inside < depth) × IsSourceOf shape s × AreTyped shape depth (suc inside) block × AreTyped shape depth inside rest

-- the phase to which a deed goes, if it goes to one
abbrev pub gone : Deed → List ℕ
gone (Go phase) = phase ∷ []
gone (Pop index) = []

-- the phases of its gotos, in the order of the text
abbrev pub gotos : Statements → List ℕ
gotos Done = []
gotos (Act a value rest) = gotos rest
gotos (Obey d rest) = gone d ++ gotos rest
gotos (When condition block rest) = gotos block ++ gotos rest
gotos (If condition block other rest) = gotos block ++ (gotos other ++ gotos rest)
gotos (For s block rest) = gotos block ++ gotos rest
