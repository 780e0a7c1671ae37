-- Syntax trees without their memory, and the tree of a value of the code. The items of a model are sorted by kind, each kind in the order
-- of the text: every question about a model is asked of these lists.
use Rattle.std.specs.Prelude.{ℕ, Bool, List, [], ◌∷◌, Option, Some, None, map}
use Rattle.dv_bag.specs.declared.discipline.Change.{Change}
use Rattle.dv_syntax.specs.declared.tree.Name.{Name}
use Rattle.dv_syntax.specs.declared.tree.Number.{Number}
use Rattle.dv_syntax.specs.declared.tree.Prefix.{Prefix}
use Rattle.dv_syntax.specs.declared.tree.Operator.{Operator}
use Rattle.dv_syntax.specs.declared.tree.BagCall.{BagCall}
use Rattle.dv_syntax.specs.declared.tree.Command.{Command}
use Rattle.dv_syntax.specs.declared.tree.Declaration.{Declaration}
use Rattle.dv_syntax.specs.declared.tree.Start.{Start}
use Rattle.dv_syntax.specs.declared.tree.RuleSort.{RuleSort}
use Rattle.dv_syntax.specs.declared.tree.Part.{Part}
use Rattle.dv_syntax.specs.declared.tree.Link.{Link}
use Rattle.dv_syntax.specs.declared.tree.Expr.{Expr}
use Rattle.dv_syntax.specs.declared.tree.Expr.TheVariants as expr
use Rattle.dv_syntax.specs.declared.tree.Stmt.{Stmt, Row_of-Stmt, end_of-Stmt, more_of-Stmt}
use Rattle.dv_syntax.specs.declared.tree.Stmt as stmt
use Rattle.dv_syntax.specs.declared.tree.Block.{Block}
use Rattle.dv_syntax.specs.declared.tree.Ticks.{Ticks}
use Rattle.dv_syntax.specs.declared.tree.Ticks.TheVariants as ticks
use Rattle.dv_syntax.specs.declared.tree.Phases.{Phases}
use Rattle.dv_syntax.specs.declared.tree.Hold.{Hold}
use Rattle.dv_syntax.specs.declared.tree.Rule.{Rule}
use Rattle.dv_syntax.specs.declared.tree.Atomic.{Atomic}
use Rattle.dv_syntax.specs.declared.tree.Coupled.{Coupled}
use Rattle.dv_syntax.specs.declared.tree.Model.{Model}
use Rattle.dv_syntax.specs.declared.tree.Model.TheVariants as model
use Rattle.dv_syntax.specs.declared.tree.File.{File}

-- an expression, with its parentheses
pub data Expression : Type 0 where
  Literal : (number : Number) → Expression
  TruthValue : (offset : ℕ) → (value : Bool) → Expression
  Named : (name : Name) → Expression
  Parens : (offset : ℕ) → (inner : Expression) → Expression
  Prefixed : (operator : Prefix) → (offset : ℕ) → (operand : Expression) → Expression
  Binary : (operator : Operator) → (left right : Expression) → Expression
  Call : (call : BagCall) → (offset : ℕ) → (bag : Name) → Expression
  Elapsed : (offset : ℕ) → Expression
  Times : (offset : ℕ) → (value : Expression) → (bag : Name) → Expression

-- a list of statements: none, or one and the rest
pub data Statements : Type 0 where
  Done : Statements
  Assign : (variable : Name) → (value : Expression) → (rest : Statements) → Statements
  Does : (command : Command) → (offset : ℕ) → (name : Name) → (rest : Statements) → Statements
  Send : (offset : ℕ) → (port : Name) → (value : Expression) → (rest : Statements) → Statements
  If : (offset : ℕ) → (condition : Expression) → (block rest : Statements) → Statements
  IfElse : (offset : ℕ) → (condition : Expression) → (block other rest : Statements) → Statements
  For : (offset : ℕ) → (variable bag : Name) → (block rest : Statements) → Statements
  Changes : (change : Change) → (offset : ℕ) → (value : Expression) → (collection : Name) → (rest : Statements) → Statements

-- an item of phases
pub record PhasesTree : Type 0 where
  pub offset : ℕ
  pub names : List Name

-- a hold; None is forever
pub record HoldTree : Type 0 where
  pub offset : ℕ
  pub phase : Name
  pub ticks : Option Expression

pub record RuleTree : Type 0 where
  pub sort : RuleSort
  pub phase : Name
  pub body : Statements

-- an atomic model: ports, variables, flags, bags and queues, which share their names; phases; starts; holds; rules
pub record AtomicTree : Type 0 where
  pub name : Name
  pub declarations : List Declaration
  pub phases : List PhasesTree
  pub starts : List Start
  pub holds : List HoldTree
  pub rules : List RuleTree

-- a coupled model: its input and output ports, its parts, its links
pub record CoupledTree : Type 0 where
  pub name : Name
  pub inputs : List Name
  pub outputs : List Name
  pub parts : List Part
  pub links : List Link

pub data ModelTree : Type 0 where
  AtomicModel : (model : AtomicTree) → ModelTree
  CoupledModel : (model : CoupledTree) → ModelTree

pub record FileTree : Type 0 where
  pub models : List ModelTree
  pub root : Name

abbrev pub expression_of : Expr → Expression
expression_of (expr.Literal n) = Literal n
expression_of (expr.TruthValue offset value) = TruthValue offset value
expression_of (expr.Named n) = Named n
expression_of (expr.Parens' offset p e) = Parens offset (expression_of e)
expression_of (expr.Prefixed' o offset p e) = Prefixed o offset (expression_of e)
expression_of (expr.Binary' o p a q b) = Binary o (expression_of a) (expression_of b)
expression_of (expr.Call c offset b) = Call c offset b
expression_of (expr.Elapsed offset) = Elapsed offset
expression_of (expr.Times' offset p e b) = Times offset (expression_of e) b

abbrev mutual
  -- a statement of the code, before the rest
  pub statement_before : Stmt → Statements → Statements
  statement_before (stmt.Assign name e) rest = Assign name (expression_of e) rest
  statement_before (stmt.Command c offset name) rest = Does c offset name rest
  statement_before (stmt.Send offset port e) rest = Send offset port (expression_of e) rest
  statement_before (stmt.If' offset e shape block) rest = If offset (expression_of e) (row_statements block) rest
  statement_before (stmt.IfElse' offset e shape block other_shape other) rest =
      IfElse offset (expression_of e) (row_statements block) (row_statements other) rest
  statement_before (stmt.For' offset v b shape block) rest = For offset v b (row_statements block) rest
  statement_before (stmt.Change c offset e x) rest = Changes c offset (expression_of e) x rest

  pub row_statements : {n : _} → Row_of-Stmt n → Statements
  row_statements end_of-Stmt = Done
  row_statements (more_of-Stmt s rest) = statement_before s (row_statements rest)

-- the statements of a list of the code
abbrev pub statements_of : List Stmt → Statements
statements_of [] = Done
statements_of (s ∷ rest) = statement_before s (statements_of rest)

abbrev pub block_of : Block → Statements
block_of block = statements_of block.statements.items

abbrev pub ticks_of : Ticks → Option Expression
ticks_of ticks.Forever = None
ticks_of (ticks.After e) = Some (expression_of e)

abbrev pub phases_of : Phases → PhasesTree
phases_of p = record { offset = p.offset; names = p.names.items }

abbrev pub hold_of : Hold → HoldTree
hold_of h = record { offset = h.offset; phase = h.phase; ticks = ticks_of h.ticks }

abbrev pub rule_of : Rule → RuleTree
rule_of r = record { sort = r.sort; phase = r.phase; body = block_of r.body }

abbrev pub atomic_of : Atomic → AtomicTree
atomic_of m = record {
  name = m.name;
  declarations = m.declarations.items;
  phases = map phases_of m.phases.items;
  starts = m.starts.items;
  holds = map hold_of m.holds.items;
  rules = map rule_of m.rules.items;
}

abbrev pub coupled_of : Coupled → CoupledTree
coupled_of m = record {
  name = m.name;
  inputs = m.inputs.items;
  outputs = m.outputs.items;
  parts = m.parts.items;
  links = m.links.items;
}

abbrev pub model_of : Model → ModelTree
model_of (model.Atomic m) = AtomicModel (atomic_of m)
model_of (model.Coupled m) = CoupledModel (coupled_of m)

-- the tree of a file of the code
abbrev pub file_of : File → FileTree
file_of f = record { models = map model_of f.models.items; root = f.root }
