-- Texts as they are written, without memory, and the files that they stand for: behind `else` an `if` may stand without braces.
use Rattle.std.specs.Prelude.{ℕ, List, Option, Some, None, map}
use Rattle.dv_bag.specs.declared.discipline.Change.{Change}
use Rattle.dv_syntax.specs.declared.tree.Name.{Name}
use Rattle.dv_syntax.specs.declared.tree.Command.{Command}
use Rattle.dv_syntax.specs.declared.tree.RuleSort.{RuleSort}
use Rattle.dv_syntax.specs.declared.tree.Version.{Version}
use Rattle.dv_syntax.specs.Trees.{Expression, Statements}
use Rattle.dv_syntax.specs.Trees as tree
use Rattle.dv_syntax.specs.Written.{AtomicItem, CoupledItem, WrittenModel, WrittenAtomic, WrittenCoupled, WrittenFile, Rules}

mutual
  -- a statement
  pub data TextStatement : Type 0 where
    Assign : (variable : Name) → (value : Expression) → TextStatement
    Does : (command : Command) → (offset : ℕ) → (name : Name) → TextStatement
    Send : (offset : ℕ) → (port : Name) → (value : Expression) → TextStatement
    If : (choice : TextIf) → TextStatement
    For : (offset : ℕ) → (variable bag : Name) → (block : TextStatements) → TextStatement
    Changes : (change : Change) → (offset : ℕ) → (value : Expression) → (collection : Name) → TextStatement

  -- an `if`
  pub data TextIf : Type 0 where
    Choice : (offset : ℕ) → (condition : Expression) → (block : TextStatements) → (otherwise : TextElse) → TextIf

  -- what follows its block: nothing, `else` with a block, or `else` with an `if`
  pub data TextElse : Type 0 where
    Nothing : TextElse
    Else : (block : TextStatements) → TextElse
    ElseIf : (choice : TextIf) → TextElse

  pub data TextStatements : Type 0 where
    Done : TextStatements
    Next : (statement : TextStatement) → (rest : TextStatements) → TextStatements

abbrev pub if_before : ℕ → Expression → Statements → Option Statements → Statements → Statements
if_before offset e block None rest = tree.If offset e block rest
if_before offset e block (Some other) rest = tree.IfElse offset e block other rest

abbrev mutual
  -- a statement as what it stands for, before the rest
  pub statement_for : TextStatement → Statements → Statements
  statement_for (Assign n e) rest = tree.Assign n e rest
  statement_for (Does c offset n) rest = tree.Does c offset n rest
  statement_for (Send offset p e) rest = tree.Send offset p e rest
  statement_for (If c) rest = choice_for c rest
  statement_for (For offset v b block) rest = tree.For offset v b (statements_for block) rest
  statement_for (Changes c offset e x) rest = tree.Changes c offset e x rest

  pub choice_for : TextIf → Statements → Statements
  choice_for (Choice offset e block otherwise) rest = if_before offset e (statements_for block) (other_for otherwise) rest

  -- an `if` behind `else` is the one statement of a block
  pub other_for : TextElse → Option Statements
  other_for Nothing = None
  other_for (Else block) = Some (statements_for block)
  other_for (ElseIf c) = Some (choice_for c tree.Done)

  pub statements_for : TextStatements → Statements
  statements_for Done = tree.Done
  statements_for (Next s rest) = statement_for s (statements_for rest)

-- an item of an atomic model: a rule, or another item, which stands for itself
pub data TextItem : Type 0 where
  Rule : (sort : RuleSort) → (phase : Name) → (body : TextStatements) → TextItem
  Other : (item : AtomicItem) → TextItem

pub data TextModel : Type 0 where
  TextAtomic : (name : Name) → (items : List TextItem) → TextModel
  TextCoupled : (name : Name) → (items : List CoupledItem) → TextModel

pub record TextFile : Type 0 where
  pub header : Option Version
  pub models : List TextModel
  pub root : Name

abbrev pub item_for : TextItem → AtomicItem
item_for (Rule sort phase body) = Rules (record { sort = sort; phase = phase; body = statements_for body })
item_for (Other item) = item

abbrev pub model_for : TextModel → WrittenModel
model_for (TextAtomic name items) = WrittenAtomic name (map item_for items)
model_for (TextCoupled name items) = WrittenCoupled name items

-- the file that a text stands for
abbrev pub file_for : TextFile → WrittenFile
file_for t = record { header = t.header; models = map model_for t.models; root = t.root }
