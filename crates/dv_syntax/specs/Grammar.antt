-- The grammar of files: how a tree is spelled by tokens.
use Rattle.std.specs.Prelude.{◌≡◌, ℕ, ◌+◌, ◌<◌, ◌≤◌, Bool, true, false, List, [], ◌∷◌, ◌++◌, length, Option, Some, None, if◌then◌else◌, max}
use Rattle.std.specs.List.{flat_map, AllByRecursion}
use Rattle.dv_bag.specs.declared.discipline.Change.{Change}
use Rattle.dv_bag.specs.declared.discipline.Change.TheVariants as change
use Rattle.dv_bag.specs.declared.discipline.Discipline.{Discipline}
use Rattle.dv_bag.specs.declared.discipline.Discipline.TheVariants as discipline
use Rattle.dv_lex.specs.declared.token.Token.{Token}
use Rattle.dv_lex.specs.declared.token.TokenKind.{TokenKind}
use Rattle.dv_lex.specs.declared.token.TokenKind.TheVariants as kind
use Rattle.dv_lex.specs.declared.token.Keyword.{Keyword}
use Rattle.dv_lex.specs.declared.token.Keyword.TheVariants as keyword
use Rattle.dv_lex.specs.declared.token.Symbol.{Symbol}
use Rattle.dv_lex.specs.declared.token.Symbol.TheVariants as symbol
use Rattle.dv_syntax.specs.declared.tree.Version.{Version}
use Rattle.dv_syntax.specs.declared.tree.Version.TheVariants as version
use Rattle.dv_syntax.specs.declared.tree.Name.{Name}
use Rattle.dv_syntax.specs.declared.tree.Number.{Number}
use Rattle.dv_syntax.specs.declared.tree.Prefix.{Prefix}
use Rattle.dv_syntax.specs.declared.tree.Prefix.TheVariants as prefix
use Rattle.dv_syntax.specs.declared.tree.Operator.{Operator}
use Rattle.dv_syntax.specs.declared.tree.Operator.TheVariants as operator
use Rattle.dv_syntax.specs.Operators.{class_of, is_comparison}
use Rattle.dv_syntax.specs.declared.tree.BagCall.{BagCall}
use Rattle.dv_syntax.specs.declared.tree.BagCall.TheVariants as call
use Rattle.dv_syntax.specs.declared.tree.Command.{Command}
use Rattle.dv_syntax.specs.declared.tree.Command.TheVariants as command
use Rattle.dv_syntax.specs.declared.tree.Bound.{Bound}
use Rattle.dv_syntax.specs.declared.tree.Variable.{Variable}
use Rattle.dv_syntax.specs.declared.tree.Flag.{Flag}
use Rattle.dv_syntax.specs.declared.tree.StateCollection.{StateCollection}
use Rattle.dv_syntax.specs.declared.tree.Declaration.{Declaration}
use Rattle.dv_syntax.specs.declared.tree.Declaration.TheVariants as declaration
use Rattle.dv_syntax.specs.declared.tree.Part.{Part}
use Rattle.dv_syntax.specs.declared.tree.Link.{Link}
use Rattle.dv_syntax.specs.declared.tree.Start.{Start}
use Rattle.dv_syntax.specs.declared.tree.RuleSort.{RuleSort}
use Rattle.dv_syntax.specs.declared.tree.RuleSort.TheVariants as sort
use Rattle.dv_syntax.specs.declared.tree.End.{End}
use Rattle.dv_syntax.specs.Trees.{Expression, Literal, TruthValue, Named, Parens, Prefixed, Binary, Call, Elapsed, Times}
use Rattle.dv_syntax.specs.Trees.{Statements, Done, Assign, Does, Send, If, IfElse, For, Changes, PhasesTree, HoldTree}
use Rattle.dv_syntax.specs.Trees.{RuleTree}
use Rattle.dv_syntax.specs.Written.{AtomicItem, Declares, Lists, Starts, Holds, Rules, CoupledItem, Inputs, Outputs, Contains}
use Rattle.dv_syntax.specs.Written.{Couples, WrittenModel, WrittenAtomic, WrittenCoupled, WrittenFile}

-- ---- Spellings

-- what a tree requires of a token: its kind, and its offset if the tree keeps it
pub data Spelled : Type 0 where
  At : (kind : TokenKind) → (offset : ℕ) → Spelled
  Anywhere : (kind : TokenKind) → Spelled

abbrev pub IsSpelled : Token → Spelled → Type 0
IsSpelled t (At k offset) = (t.kind ≡ k) × (t.offset ≡ offset)
IsSpelled t (Anywhere k) = t.kind ≡ k

-- the tokens begin with the spelling, and then the rest follows
abbrev pub Spells : List Spelled → List Token → List Token → Type 0
Spells [] ts rest = ts ≡ rest
Spells (s ∷ ss) [] rest = ⊥
Spells (s ∷ ss) (t ∷ ts) rest = IsSpelled t s × Spells ss ts rest

abbrev pub sign : Symbol → Spelled
sign s = Anywhere (kind.Symbol s)

abbrev pub word : Keyword → Spelled
word k = Anywhere (kind.Keyword k)

-- a word whose offset the tree keeps
abbrev pub word_at : Keyword → ℕ → Spelled
word_at k offset = At (kind.Keyword k) offset

abbrev pub name : Name → Spelled
name n = At (kind.Name n.number) n.offset

abbrev pub number : Number → Spelled
number n = At (kind.Number n.value) n.offset

abbrev pub braces : List Spelled → List Spelled
braces inside = sign symbol.OpenBrace ∷ (inside ++ sign symbol.CloseBrace ∷ [])

-- ---- Limits on depth

-- how deep expressions, blocks and loops may be nested, and whether a text may have the short forms
pub record Limits : Type 0 where
  pub expression : ℕ
  pub block : ℕ
  pub loop : ℕ
  pub short_forms : Bool

-- those of the language
abbrev pub the_limits : Limits
the_limits = record { expression = 64; block = 16; loop = 3; short_forms = false }

-- ---- Expressions

abbrev pub truth_word : Bool → Keyword
truth_word true = keyword.True
truth_word false = keyword.False

abbrev pub prefix_kind : Prefix → TokenKind
prefix_kind prefix.Minus = kind.Symbol symbol.Minus
prefix_kind prefix.Not = kind.Keyword keyword.Not

abbrev pub operator_kind : Operator → TokenKind
operator_kind operator.Or = kind.Keyword keyword.Or
operator_kind operator.And = kind.Keyword keyword.And
operator_kind operator.Add = kind.Symbol symbol.Plus
operator_kind operator.Subtract = kind.Symbol symbol.Minus
operator_kind operator.Multiply = kind.Symbol symbol.Star
operator_kind operator.Divide = kind.Symbol symbol.Slash
operator_kind operator.Remainder = kind.Symbol symbol.Percent
operator_kind operator.Equal = kind.Symbol symbol.Equal
operator_kind operator.Unequal = kind.Symbol symbol.Unequal
operator_kind operator.Less = kind.Symbol symbol.Less
operator_kind operator.AtMost = kind.Symbol symbol.AtMost
operator_kind operator.Greater = kind.Symbol symbol.Greater
operator_kind operator.AtLeast = kind.Symbol symbol.AtLeast

abbrev pub call_word : BagCall → Keyword
call_word call.Size = keyword.Size
call_word call.Sum = keyword.Sum
call_word call.Least = keyword.Least
call_word call.Most = keyword.Most
call_word call.Front = keyword.Front

abbrev pub expression_spelling : Expression → List Spelled
expression_spelling (Literal n) = number n ∷ []
expression_spelling (TruthValue offset value) = word_at (truth_word value) offset ∷ []
expression_spelling (Named n) = name n ∷ []
expression_spelling (Parens offset e) = At (kind.Symbol symbol.OpenParen) offset ∷ (expression_spelling e ++ sign symbol.CloseParen ∷ [])
expression_spelling (Prefixed o offset e) = At (prefix_kind o) offset ∷ expression_spelling e
expression_spelling (Binary o a b) = expression_spelling a ++ Anywhere (operator_kind o) ∷ expression_spelling b
expression_spelling (Elapsed offset) = word_at keyword.Elapsed offset ∷ []
expression_spelling (Call c offset b) = word_at (call_word c) offset ∷ sign symbol.OpenParen ∷ name b ∷ sign symbol.CloseParen ∷ []
expression_spelling (Times offset e b) =
    word_at keyword.Times offset ∷ sign symbol.OpenParen
    ∷ (expression_spelling e ++ sign symbol.Comma ∷ name b ∷ sign symbol.CloseParen ∷ [])

-- the rank of a prefix operator: the greater one binds more tightly
abbrev pub prefix_rank : Prefix → ℕ
prefix_rank prefix.Minus = 7
prefix_rank prefix.Not = 3

-- the rank of a binary operator
abbrev pub operator_rank : Operator → ℕ
operator_rank operator.Or = 1
operator_rank operator.And = 2
operator_rank operator.Add = 5
operator_rank operator.Subtract = 5
operator_rank operator.Multiply = 6
operator_rank operator.Divide = 6
operator_rank operator.Remainder = 6
operator_rank operator.Equal = 4
operator_rank operator.Unequal = 4
operator_rank operator.Less = 4
operator_rank operator.AtMost = 4
operator_rank operator.Greater = 4
operator_rank operator.AtLeast = 4

-- the least rank of a left operand: chains of one rank group to the left, but a comparison may not be an operand of another
abbrev pub left_rank : Operator → ℕ
left_rank o = if is_comparison (class_of o) then operator_rank o + 1 else operator_rank o

-- the rank of an expression: 8 if no operator is at its top
abbrev pub rank : Expression → ℕ
rank (Literal n) = 8
rank (TruthValue offset value) = 8
rank (Named n) = 8
rank (Parens offset e) = 8
rank (Prefixed o offset e) = prefix_rank o
rank (Binary o a b) = operator_rank o
rank (Call c offset b) = 8
rank (Elapsed offset) = 8
rank (Times offset e b) = 8

-- each operand has a rank that the grammar allows there
abbrev pub IsWellFormed : Expression → Type 0
IsWellFormed (Literal n) = Unit {0}
IsWellFormed (TruthValue offset value) = Unit {0}
IsWellFormed (Named n) = Unit {0}
IsWellFormed (Parens offset e) = IsWellFormed e
IsWellFormed (Prefixed o offset e) = IsWellFormed e × (prefix_rank o ≤ rank e)
IsWellFormed (Binary o a b) = IsWellFormed a × IsWellFormed b × (left_rank o ≤ rank a) × (operator_rank o < rank b)
IsWellFormed (Call c offset b) = Unit {0}
IsWellFormed (Elapsed offset) = Unit {0}
IsWellFormed (Times offset e b) = IsWellFormed e

abbrev pub depth : Expression → ℕ
depth (Literal n) = 1
depth (TruthValue offset value) = 1
depth (Named n) = 1
depth (Parens offset e) = depth e + 1
depth (Prefixed o offset e) = depth e + 1
depth (Binary o a b) = max (depth a) (depth b) + 1
depth (Call c offset b) = 1
depth (Elapsed offset) = 1
depth (Times offset e b) = depth e + 1

pub record IsExpression (limits : Limits) (e : Expression) : Type 0 where
  pub formed : IsWellFormed e
  pub within : depth e ≤ limits.expression

-- ---- Statements

abbrev pub command_word : Command → Keyword
command_word command.Goto = keyword.Goto
command_word command.Pop = keyword.Pop

abbrev pub change_word : Change → Keyword
change_word change.Add = keyword.Add
change_word change.Drop = keyword.Drop
change_word change.Push = keyword.Push

-- the word between the value and the collection
abbrev pub change_preposition : Change → Keyword
change_preposition change.Add = keyword.To
change_preposition change.Drop = keyword.From
change_preposition change.Push = keyword.To

abbrev pub statements_spelling : Statements → List Spelled
statements_spelling Done = []
statements_spelling (Assign n e rest) =
    name n ∷ sign symbol.Assign ∷ (expression_spelling e ++ sign symbol.Semicolon ∷ statements_spelling rest)
statements_spelling (Does c offset n rest) = word_at (command_word c) offset ∷ name n ∷ sign symbol.Semicolon ∷ statements_spelling rest
statements_spelling (Send offset p e rest) =
    word_at keyword.Send offset ∷ name p ∷ (expression_spelling e ++ sign symbol.Semicolon ∷ statements_spelling rest)
statements_spelling (If offset e block rest) =
    word_at keyword.If offset ∷ (expression_spelling e ++ (braces (statements_spelling block) ++ statements_spelling rest))
statements_spelling (IfElse offset e block other rest) =
    word_at keyword.If offset
    ∷ (expression_spelling e
    ++ (braces (statements_spelling block)
    ++ (word keyword.Else ∷ (braces (statements_spelling other) ++ statements_spelling rest))))
statements_spelling (For offset v b block rest) =
    word_at keyword.For offset ∷ name v ∷ word keyword.In ∷ name b
    ∷ (braces (statements_spelling block) ++ statements_spelling rest)
statements_spelling (Changes c offset e x rest) =
    word_at (change_word c) offset
    ∷ (expression_spelling e ++ word (change_preposition c) ∷ name x ∷ sign symbol.Semicolon ∷ statements_spelling rest)

-- how deep blocks are nested here, with the one of these statements
abbrev pub block_depth : Statements → ℕ
block_depth Done = 1
block_depth (Assign n e rest) = block_depth rest
block_depth (Does c offset n rest) = block_depth rest
block_depth (Send offset p e rest) = block_depth rest
block_depth (If offset e block rest) = max (block_depth block + 1) (block_depth rest)
block_depth (IfElse offset e block other rest) = max (max (block_depth block + 1) (block_depth other + 1)) (block_depth rest)
block_depth (For offset v b block rest) = max (block_depth block + 1) (block_depth rest)
block_depth (Changes c offset e x rest) = block_depth rest

-- how deep loops are nested in these statements
abbrev pub loop_depth : Statements → ℕ
loop_depth Done = 0
loop_depth (Assign n e rest) = loop_depth rest
loop_depth (Does c offset n rest) = loop_depth rest
loop_depth (Send offset p e rest) = loop_depth rest
loop_depth (If offset e block rest) = max (loop_depth block) (loop_depth rest)
loop_depth (IfElse offset e block other rest) = max (max (loop_depth block) (loop_depth other)) (loop_depth rest)
loop_depth (For offset v b block rest) = max (loop_depth block + 1) (loop_depth rest)
loop_depth (Changes c offset e x rest) = loop_depth rest

abbrev pub AreStatements : Limits → Statements → Type 0
AreStatements limits Done = Unit {0}
AreStatements limits (Assign n e rest) = IsExpression limits e × AreStatements limits rest
AreStatements limits (Does c offset n rest) = AreStatements limits rest
AreStatements limits (Send offset p e rest) = IsExpression limits e × AreStatements limits rest
AreStatements limits (If offset e block rest) = IsExpression limits e × AreStatements limits block × AreStatements limits rest
AreStatements limits (IfElse offset e block other rest) =
    IsExpression limits e × AreStatements limits block × AreStatements limits other × AreStatements limits rest
AreStatements limits (For offset v b block rest) = AreStatements limits block × AreStatements limits rest
AreStatements limits (Changes c offset e x rest) = IsExpression limits e × AreStatements limits rest

-- ---- Atomic models

abbrev pub minus_spelling : Option ℕ → List Spelled
minus_spelling None = []
minus_spelling (Some offset) = At (kind.Symbol symbol.Minus) offset ∷ []

abbrev pub bound_spelling : Bound → List Spelled
bound_spelling b = minus_spelling b.minus ++ number b.magnitude ∷ []

abbrev pub variable_spelling : Variable → List Spelled
variable_spelling v =
    word keyword.Var ∷ name v.name ∷ sign symbol.Colon
    ∷ (bound_spelling v.low
    ++ (sign symbol.Range
    ∷ (bound_spelling v.high ++ (sign symbol.Equal ∷ (bound_spelling v.start ++ sign symbol.Semicolon ∷ [])))))

abbrev pub flag_spelling : Flag → List Spelled
flag_spelling f = word keyword.Flag ∷ name f.name ∷ sign symbol.Equal ∷ word (truth_word f.start) ∷ sign symbol.Semicolon ∷ []

abbrev pub discipline_word : Discipline → Keyword
discipline_word discipline.Bag = keyword.Bag
discipline_word discipline.Queue = keyword.Queue

abbrev pub collection_spelling : StateCollection → List Spelled
collection_spelling c = word (discipline_word c.discipline) ∷ name c.name ∷ number c.capacity ∷ sign symbol.Semicolon ∷ []

abbrev pub input_spelling : Name → List Spelled
input_spelling n = word keyword.In ∷ name n ∷ sign symbol.Semicolon ∷ []

abbrev pub output_spelling : Name → List Spelled
output_spelling n = word keyword.Out ∷ name n ∷ sign symbol.Semicolon ∷ []

abbrev pub declaration_spelling : Declaration → List Spelled
declaration_spelling (declaration.In n) = input_spelling n
declaration_spelling (declaration.Out n) = output_spelling n
declaration_spelling (declaration.Var v) = variable_spelling v
declaration_spelling (declaration.Flag f) = flag_spelling f
declaration_spelling (declaration.Held c) = collection_spelling c

-- names with commas between them
abbrev pub names_spelling : List Name → List Spelled
names_spelling [] = []
names_spelling (n ∷ ns) = name n ∷ flat_map (λ n. sign symbol.Comma ∷ name n ∷ []) ns

abbrev pub phases_spelling : PhasesTree → List Spelled
phases_spelling p = word_at keyword.Phases p.offset ∷ (names_spelling p.names ++ sign symbol.Semicolon ∷ [])

abbrev pub start_spelling : Start → List Spelled
start_spelling s = word_at keyword.Start s.offset ∷ name s.phase ∷ sign symbol.Semicolon ∷ []

abbrev pub ticks_spelling : Option Expression → List Spelled
ticks_spelling None = word keyword.Forever ∷ []
ticks_spelling (Some e) = expression_spelling e

abbrev pub hold_spelling : HoldTree → List Spelled
hold_spelling h = word_at keyword.Hold h.offset ∷ name h.phase ∷ sign symbol.Colon ∷ (ticks_spelling h.ticks ++ sign symbol.Semicolon ∷ [])

abbrev pub sort_word : RuleSort → Keyword
sort_word sort.Output = keyword.Output
sort_word sort.Internal = keyword.Internal
sort_word sort.External = keyword.External
sort_word sort.Confluent = keyword.Confluent

abbrev pub rule_spelling : RuleTree → List Spelled
rule_spelling r = word (sort_word r.sort) ∷ name r.phase ∷ braces (statements_spelling r.body)

abbrev pub item_spelling : AtomicItem → List Spelled
item_spelling (Declares d) = declaration_spelling d
item_spelling (Lists p) = phases_spelling p
item_spelling (Starts s) = start_spelling s
item_spelling (Holds h) = hold_spelling h
item_spelling (Rules r) = rule_spelling r

abbrev pub AreTicks : Limits → Option Expression → Type 0
AreTicks limits None = Unit {0}
AreTicks limits (Some e) = IsExpression limits e

abbrev pub IsItem : Limits → AtomicItem → Type 0
IsItem limits (Declares d) = Unit {0}
IsItem limits (Lists p) = 0 < length p.names
IsItem limits (Starts s) = Unit {0}
IsItem limits (Holds h) = AreTicks limits h.ticks
IsItem limits (Rules r) = AreStatements limits r.body × (block_depth r.body ≤ limits.block) × (loop_depth r.body ≤ limits.loop)

-- ---- Coupled models

abbrev pub part_name_spelling : Option Name → Spelled
part_name_spelling None = word keyword.Itself
part_name_spelling (Some n) = name n

abbrev pub end_spelling : End → List Spelled
end_spelling e = part_name_spelling e.part ∷ sign symbol.Dot ∷ name e.port ∷ []

abbrev pub part_spelling : Part → List Spelled
part_spelling p = word keyword.Part ∷ name p.name ∷ sign symbol.Colon ∷ name p.model ∷ sign symbol.Semicolon ∷ []

abbrev pub link_spelling : Link → List Spelled
link_spelling l =
    word_at keyword.Link l.offset
    ∷ (end_spelling l.from ++ (sign symbol.Arrow ∷ (end_spelling l.to ++ sign symbol.Semicolon ∷ [])))

abbrev pub coupled_item_spelling : CoupledItem → List Spelled
coupled_item_spelling (Inputs n) = input_spelling n
coupled_item_spelling (Outputs n) = output_spelling n
coupled_item_spelling (Contains p) = part_spelling p
coupled_item_spelling (Couples l) = link_spelling l

-- ---- Files

abbrev pub model_spelling : WrittenModel → List Spelled
model_spelling (WrittenAtomic n items) = word keyword.Atomic ∷ name n ∷ braces (flat_map item_spelling items)
model_spelling (WrittenCoupled n items) = word keyword.Coupled ∷ name n ∷ braces (flat_map coupled_item_spelling items)

abbrev pub IsModel : Limits → WrittenModel → Type 0
IsModel limits (WrittenAtomic n items) = AllByRecursion (IsItem limits) items
IsModel limits (WrittenCoupled n items) = Unit {0}

-- the number of a version in a header
abbrev pub version_number : Version → ℕ
version_number version.First = 1
version_number version.Second = 2
version_number version.Third = 3

abbrev pub header_spelling : Option Version → List Spelled
header_spelling None = []
header_spelling (Some v) = word keyword.Version ∷ Anywhere (kind.Number (version_number v)) ∷ sign symbol.Semicolon ∷ []

abbrev pub file_spelling : WrittenFile → List Spelled
file_spelling f =
    header_spelling f.header ++ (flat_map model_spelling f.models ++ word keyword.Root ∷ name f.root ∷ sign symbol.Semicolon ∷ [])
