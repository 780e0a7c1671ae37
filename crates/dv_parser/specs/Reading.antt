-- Reading from left to right: a reader gives what is at the front of the tokens and the tokens after it, or what stops it.
use Rattle.std.specs.Prelude.{◌≡◌, ℕ, zero, suc, ◌+◌, ◌-◌, List, [], ◌∷◌, ◌++◌, length, Bool, true, false, ◌&&◌, Option, Some}
use Rattle.std.specs.Prelude.{None, Result, Ok, Err, nat_lt, nat_le, ◌==◌, ◌||◌}
use Rattle.dv_bag.specs.declared.discipline.Change.{Change}
use Rattle.dv_bag.specs.declared.discipline.Change.TheVariants as change
use Rattle.dv_bag.specs.declared.discipline.Discipline.{Discipline}
use Rattle.dv_bag.specs.declared.discipline.Discipline.TheVariants as discipline
use Rattle.dv_lex.specs.declared.token.Token.{Token}
use Rattle.dv_lex.specs.declared.token.TokenKind.{TokenKind}
use Rattle.dv_lex.specs.declared.token.TokenKind.TheVariants as kind
use Rattle.dv_lex.specs.declared.token.Keyword.{Keyword}
use Rattle.dv_lex.specs.declared.token.Keyword.TheVariants as keyword
use Rattle.dv_lex.specs.declared.token.Symbol.{Symbol}
use Rattle.dv_lex.specs.declared.token.Symbol.TheVariants as symbol
use Rattle.dv_source.specs.Grammar.{limits_behind}
use Rattle.dv_syntax.specs.declared.tree.Version.{Version}
use Rattle.dv_syntax.specs.declared.tree.Version.TheVariants as version
use Rattle.dv_syntax.specs.declared.tree.Name.{Name}
use Rattle.dv_syntax.specs.declared.tree.Number.{Number}
use Rattle.dv_syntax.specs.declared.tree.Prefix.{Prefix}
use Rattle.dv_syntax.specs.declared.tree.Prefix.TheVariants as prefix
use Rattle.dv_syntax.specs.declared.tree.Operator.{Operator}
use Rattle.dv_syntax.specs.declared.tree.Operator.TheVariants as operator
use Rattle.dv_syntax.specs.declared.tree.BagCall.{BagCall}
use Rattle.dv_syntax.specs.declared.tree.BagCall.TheVariants as call
use Rattle.dv_syntax.specs.declared.tree.Command.{Command}
use Rattle.dv_syntax.specs.declared.tree.Command.TheVariants as command
use Rattle.dv_syntax.specs.declared.tree.Bound.{Bound}
use Rattle.dv_syntax.specs.declared.tree.Variable.{Variable}
use Rattle.dv_syntax.specs.declared.tree.Flag.{Flag}
use Rattle.dv_syntax.specs.declared.tree.StateCollection.{StateCollection}
use Rattle.dv_syntax.specs.declared.tree.RuleSort.{RuleSort}
use Rattle.dv_syntax.specs.declared.tree.RuleSort.TheVariants as sort
use Rattle.dv_syntax.specs.declared.tree.End.{End}
use Rattle.dv_syntax.specs.declared.tree.Part.{Part}
use Rattle.dv_syntax.specs.declared.tree.Link.{Link}
use Rattle.dv_syntax.specs.declared.tree.Declaration.TheVariants as declaration
use Rattle.dv_parser.specs.declared.parse_error.Obstacle.{Obstacle as CodeObstacle}
use Rattle.dv_parser.specs.declared.parse_error.Obstacle.TheVariants as obstacle
use Rattle.dv_parser.specs.declared.parse_error.ParseError.{ParseError}
use Rattle.dv_parser.specs.declared.parse_error.ParseError.TheVariants as parse_error
use Rattle.dv_syntax.specs.declared.tree.Stmt.{Stmt}
use Rattle.dv_syntax.specs.declared.tree.Stmt as stmt
use Rattle.dv_lex.specs.declared.error.LoadError.{LoadError}
use Rattle.dv_lex.specs.declared.error.LoadError.TheVariants as error
use Rattle.dv_lex.specs.declared.error.Refusal.{Refusal}
use Rattle.dv_lex.specs.declared.error.RefusalNumber.TheVariants.{E4, E5}
use Rattle.dv_syntax.specs.Trees.{expression_of, row_statements, Expression, Literal, TruthValue}
use Rattle.dv_syntax.specs.Trees.{Named, Parens, Prefixed, Binary, Call, Elapsed, Times, Statements, Done, Assign, Does, Send, If}
use Rattle.dv_syntax.specs.Trees.{IfElse, For, Changes}
use Rattle.dv_syntax.specs.Written.{AtomicItem, Declares, Lists, Starts, Holds, Rules, CoupledItem, Inputs, Outputs, Contains}
use Rattle.dv_syntax.specs.Written.{Couples, WrittenModel, WrittenAtomic, WrittenCoupled, WrittenFile}
use Rattle.dv_syntax.specs.Grammar.{Limits, the_limits, prefix_kind, prefix_rank, operator_rank, left_rank, rank, depth}
use Rattle.dv_syntax.specs.Grammar.{call_word, command_word, change_word, change_preposition, discipline_word, sort_word}

-- What stops a reader: the token at an offset is not allowed there, or what begins with it, or what it joins, is nested too deeply; or the
-- tokens end too early.
pub data Obstacle : Type 0 where
  Unexpected : (offset : ℕ) → Obstacle
  TooDeep : (offset : ℕ) → Obstacle
  TooShort : Obstacle

abbrev pub Read : Type 0 → Type 0
Read A = Result A Obstacle

-- a reader: from tokens to what is at their front, and the tokens after it
abbrev pub Reader : Type 0 → Type 0
Reader A = List Token → Read (A × List Token)

-- reads one thing, and goes on with a reader that uses it
unfoldable pub read_then : {A B : Type 0} → Read A → (A → Read B) → Read B
read_then (Ok x) f = f x
read_then (Err o) f = Err o

-- what stops the code
abbrev pub obstacle_of : CodeObstacle → Obstacle
obstacle_of (obstacle.Unexpected offset) = Unexpected offset
obstacle_of (obstacle.TooDeep offset) = TooDeep offset
obstacle_of obstacle.TooShort = TooShort

-- What a function that takes no memory returns, seen by `view`, is what reading gives.
abbrev pub Reads : {X Y : Type 0} → (X → Y) → Result X CodeObstacle → Read Y → Type 0
Reads view (Ok x) read = read ≡ Ok (view x)
Reads view (Err o) read = read ≡ Err (obstacle_of o)

-- What a function returns, seen by `view`, is what reading gives, unless memory runs out.
abbrev pub Fails : {Y : Type 0} → ParseError → Read Y → Type 0
Fails parse_error.Memory read = Unit {0}
Fails (parse_error.Stopped o) read = read ≡ Err (obstacle_of o)

abbrev pub Gives : {X Y : Type 0} → (X → Y) → Result X ParseError → Read Y → Type 0
Gives view (Ok x) read = read ≡ Ok (view x)
Gives view (Err e) read = Fails e read

infixl 10 ◌>>=◌
abbrev pub ◌>>=◌ : {A B : Type 0} → Read A → (A → Read B) → Read B
r >>= f = read_then r f

unfoldable pub choose : {A : Type 0} → Bool → A → A → A
choose true x y = x
choose false x y = y

unfoldable pub maybe : {A B : Type 0} → Option A → B → (A → B) → B
maybe None none some = none
maybe (Some x) none some = some x

-- ---- Single tokens

abbrev pub keyword_number : Keyword → ℕ
keyword_number keyword.Atomic = 0
keyword_number keyword.Coupled = 1
keyword_number keyword.Root = 2
keyword_number keyword.In = 3
keyword_number keyword.Out = 4
keyword_number keyword.Var = 5
keyword_number keyword.Flag = 6
keyword_number keyword.Bag = 7
keyword_number keyword.Phases = 8
keyword_number keyword.Start = 9
keyword_number keyword.Hold = 10
keyword_number keyword.Forever = 11
keyword_number keyword.Output = 12
keyword_number keyword.Internal = 13
keyword_number keyword.External = 14
keyword_number keyword.Confluent = 15
keyword_number keyword.Part = 16
keyword_number keyword.Link = 17
keyword_number keyword.Itself = 18
keyword_number keyword.If = 19
keyword_number keyword.Else = 20
keyword_number keyword.For = 21
keyword_number keyword.Add = 22
keyword_number keyword.To = 23
keyword_number keyword.Drop = 24
keyword_number keyword.From = 25
keyword_number keyword.Send = 26
keyword_number keyword.Goto = 27
keyword_number keyword.True = 28
keyword_number keyword.False = 29
keyword_number keyword.Not = 30
keyword_number keyword.And = 31
keyword_number keyword.Or = 32
keyword_number keyword.Elapsed = 33
keyword_number keyword.Size = 34
keyword_number keyword.Sum = 35
keyword_number keyword.Least = 36
keyword_number keyword.Most = 37
keyword_number keyword.Times = 38
keyword_number keyword.Version = 39
keyword_number keyword.Queue = 40
keyword_number keyword.Push = 41
keyword_number keyword.Pop = 42
keyword_number keyword.Front = 43
keyword_number keyword.Const = 44
keyword_number keyword.Each = 45
keyword_number keyword.When = 46

abbrev pub symbol_number : Symbol → ℕ
symbol_number symbol.Assign = 0
symbol_number symbol.Arrow = 1
symbol_number symbol.Range = 2
symbol_number symbol.Unequal = 3
symbol_number symbol.AtMost = 4
symbol_number symbol.AtLeast = 5
symbol_number symbol.OpenBrace = 6
symbol_number symbol.CloseBrace = 7
symbol_number symbol.OpenParen = 8
symbol_number symbol.CloseParen = 9
symbol_number symbol.Semicolon = 10
symbol_number symbol.Colon = 11
symbol_number symbol.Comma = 12
symbol_number symbol.Dot = 13
symbol_number symbol.Equal = 14
symbol_number symbol.Less = 15
symbol_number symbol.Greater = 16
symbol_number symbol.Plus = 17
symbol_number symbol.Minus = 18
symbol_number symbol.Star = 19
symbol_number symbol.Slash = 20
symbol_number symbol.Percent = 21

abbrev pub same_kind : TokenKind → TokenKind → Bool
same_kind (kind.Name a) (kind.Name b) = a == b
same_kind (kind.Number a) (kind.Number b) = a == b
same_kind (kind.Keyword a) (kind.Keyword b) = keyword_number a == keyword_number b
same_kind (kind.Symbol a) (kind.Symbol b) = symbol_number a == symbol_number b
same_kind _ _ = false

-- the first token is of this kind
abbrev pub begins : TokenKind → List Token → Bool
begins k [] = false
begins k (t ∷ ts) = same_kind t.kind k

-- the offset of the first token
unfoldable pub offset_at : List Token → ℕ
offset_at [] = 0
offset_at (t ∷ ts) = t.offset

-- the first token is not allowed there, or there is none
unfoldable pub obstacle_at : List Token → Obstacle
obstacle_at [] = TooShort
obstacle_at (t ∷ ts) = Unexpected t.offset

-- the tokens after one of this kind
unfoldable pub after : TokenKind → List Token → Read (List Token)
after k [] = Err TooShort
after k (t ∷ ts) = choose (same_kind t.kind k) (Ok ts) (Err (Unexpected t.offset))

abbrev pub name_of : TokenKind → ℕ → Reader Name
name_of (kind.Name n) offset ts = Ok (record { number = n; offset = offset }, ts)
name_of _ offset ts = Err (Unexpected offset)

unfoldable pub name_at : Reader Name
name_at [] = Err TooShort
name_at (t ∷ ts) = name_of t.kind t.offset ts

abbrev pub number_of : TokenKind → ℕ → Reader Number
number_of (kind.Number n) offset ts = Ok (record { value = n; offset = offset }, ts)
number_of _ offset ts = Err (Unexpected offset)

unfoldable pub number_at : Reader Number
number_at [] = Err TooShort
number_at (t ∷ ts) = number_of t.kind t.offset ts

-- `true` or `false`
abbrev pub begins_truth : List Token → Bool
begins_truth ts = begins (kind.Keyword keyword.True) ts || begins (kind.Keyword keyword.False) ts

unfoldable pub truth_at : Reader Bool
truth_at ts = choose (begins (kind.Keyword keyword.True) ts)
    (after (kind.Keyword keyword.True) ts >>= λ rest. Ok (true, rest))
    (after (kind.Keyword keyword.False) ts >>= λ rest. Ok (false, rest))

-- the first token is the word of this call
abbrev pub begins_word_of : BagCall → List Token → Bool
begins_word_of c ts = begins (kind.Keyword (call_word c)) ts

-- a call, by its word
unfoldable pub word_of_at : BagCall → Reader BagCall
word_of_at c ts = after (kind.Keyword (call_word c)) ts >>= λ rest. Ok (c, rest)

-- `size`, `sum`, `least`, `most` or `front`
abbrev pub begins_call : List Token → Bool
begins_call ts =
    begins_word_of call.Size ts || begins_word_of call.Sum ts || begins_word_of call.Least ts || begins_word_of call.Most ts
    || begins_word_of call.Front ts

unfoldable pub call_word_at : Reader BagCall
call_word_at ts =
    choose (begins_word_of call.Size ts) (word_of_at call.Size ts)
    (choose (begins_word_of call.Sum ts) (word_of_at call.Sum ts)
    (choose (begins_word_of call.Least ts) (word_of_at call.Least ts)
    (choose (begins_word_of call.Most ts) (word_of_at call.Most ts)
    (word_of_at call.Front ts))))

-- ---- Expressions

abbrev pub keyword_operator : Keyword → Option Operator
keyword_operator keyword.Or = Some operator.Or
keyword_operator keyword.And = Some operator.And
keyword_operator _ = None

abbrev pub symbol_operator : Symbol → Option Operator
symbol_operator symbol.Plus = Some operator.Add
symbol_operator symbol.Minus = Some operator.Subtract
symbol_operator symbol.Star = Some operator.Multiply
symbol_operator symbol.Slash = Some operator.Divide
symbol_operator symbol.Percent = Some operator.Remainder
symbol_operator symbol.Equal = Some operator.Equal
symbol_operator symbol.Unequal = Some operator.Unequal
symbol_operator symbol.Less = Some operator.Less
symbol_operator symbol.AtMost = Some operator.AtMost
symbol_operator symbol.Greater = Some operator.Greater
symbol_operator symbol.AtLeast = Some operator.AtLeast
symbol_operator _ = None

unfoldable pub operator_of : TokenKind → Option Operator
operator_of (kind.Keyword k) = keyword_operator k
operator_of (kind.Symbol s) = symbol_operator s
operator_of _ = None

-- behind an expression, at a level: the operator continues it
unfoldable pub goes_on : ℕ → Expression → Operator → Bool
goes_on level left o = nat_le level (operator_rank o) && nat_le (left_rank o) (rank left)

unfoldable pub operator_at : ℕ → Expression → List Token → Option (Operator × List Token)
operator_at level left [] = None
operator_at level left (t ∷ ts) = maybe (operator_of t.kind) None (λ o. choose (goes_on level left o) (Some (o, ts)) None)

abbrev pub is_name : TokenKind → Bool
is_name (kind.Name n) = true
is_name _ = false

abbrev pub begins_name : List Token → Bool
begins_name [] = false
begins_name (t ∷ ts) = is_name t.kind

-- a call that asks a collection
unfoldable pub call_at : Reader Expression
call_at ts = do
  c ← call_word_at ts
  inside ← after (kind.Symbol symbol.OpenParen) c.1
  bag ← name_at inside
  rest ← after (kind.Symbol symbol.CloseParen) bag.1
  Ok (Call c.0 (offset_at ts) bag.0, rest)

-- `elapsed`
unfoldable pub elapsed_at : Reader Expression
elapsed_at ts = after (kind.Keyword keyword.Elapsed) ts >>= λ rest. Ok (Elapsed (offset_at ts), rest)

-- a name, a truth value, a call, `elapsed` or a number
unfoldable pub leaf_at : Reader Expression
leaf_at ts = choose (begins_name ts) (name_at ts >>= λ n. Ok (Named n.0, n.1))
    (choose (begins_truth ts) (truth_at ts >>= λ v. Ok (TruthValue (offset_at ts) v.0, v.1))
    (choose (begins_call ts) (call_at ts)
    (choose (begins (kind.Keyword keyword.Elapsed) ts) (elapsed_at ts)
    (number_at ts >>= λ n. Ok (Literal n.0, n.1)))))

-- reads if the limit allows it; else the obstacle is the token at the offset
unfoldable pub within : {A : Type 0} → (limit offset : ℕ) → Read A → Read A
within zero offset read = Err (TooDeep offset)
within (suc limit) offset read = read

-- An operand without binary operators, at a level: `not` is allowed if no operator binds more tightly than it. `operand` reads what is
-- behind an operator, in parentheses or in `times`, at a level, within the limit on depth.
unfoldable pub parens_at : (ℕ → Reader Expression) → ℕ → Reader Expression
parens_at operand limit ts = do
  inside ← after (kind.Symbol symbol.OpenParen) ts
  e ← within limit (offset_at ts) (operand 0 inside)
  rest ← after (kind.Symbol symbol.CloseParen) e.1
  Ok (Parens (offset_at ts) e.0, rest)

unfoldable pub prefixed_at : Prefix → (ℕ → Reader Expression) → ℕ → Reader Expression
prefixed_at o operand limit ts = do
  behind ← after (prefix_kind o) ts
  e ← within limit (offset_at ts) (operand (prefix_rank o) behind)
  Ok (Prefixed o (offset_at ts) e.0, e.1)

-- a `times` expression
unfoldable pub times_at : (ℕ → Reader Expression) → ℕ → Reader Expression
times_at operand limit ts = do
  behind ← after (kind.Keyword keyword.Times) ts
  inside ← within limit (offset_at ts) (after (kind.Symbol symbol.OpenParen) behind)
  e ← operand 0 inside
  comma ← after (kind.Symbol symbol.Comma) e.1
  bag ← name_at comma
  rest ← after (kind.Symbol symbol.CloseParen) bag.1
  Ok (Times (offset_at ts) e.0 bag.0, rest)

-- the first token is a prefix operator that is allowed at the level
abbrev pub begins_prefix : Prefix → ℕ → List Token → Bool
begins_prefix o level ts = begins (prefix_kind o) ts && nat_le level (prefix_rank o)

unfoldable pub primary_at : (ℕ → Reader Expression) → (limit level : ℕ) → Reader Expression
primary_at operand limit level ts =
    choose (begins (kind.Symbol symbol.OpenParen) ts) (parens_at operand limit ts)
    (choose (begins (kind.Keyword keyword.Times) ts) (times_at operand limit ts)
    (choose (begins_prefix prefix.Minus level ts) (prefixed_at prefix.Minus operand limit ts)
    (choose (begins_prefix prefix.Not level ts) (prefixed_at prefix.Not operand limit ts)
    (leaf_at ts))))

-- What follows a left operand, as long as an operator of the level continues it. `more` counts the iterations that are left.
abbrev pub turns : (ℕ → Reader Expression) → (limit more level : ℕ) → Expression → Reader Expression
turns operand limit zero level left ts = maybe (operator_at level left ts) (Ok (left, ts)) (λ o. Err (TooDeep (offset_at ts)))
turns operand limit (suc more) level left ts = maybe (operator_at level left ts) (Ok (left, ts)) (λ o.
    choose (nat_lt (depth left) limit)
    (operand (operator_rank o.0 + 1) o.1 >>= λ right. turns operand limit more level (Binary o.0 left right.0) right.1)
    (Err (TooDeep (offset_at ts))))

-- An expression within the limit on depth, with no operator below the level at its top
unfoldable pub expression_at : ℕ → ℕ → Reader Expression
expression_at zero level ts = Err TooShort
expression_at (suc limit) level ts =
    primary_at (expression_at limit) limit level ts >>= λ e. turns (expression_at limit) (suc limit) (suc limit) level e.0 e.1

-- what follows a left operand, within the limit
unfoldable pub more_at : ℕ → ℕ → Expression → Reader Expression
more_at limit level left ts = turns (expression_at (limit - 1)) limit limit level left ts

-- ---- Lists

-- All before a token of this kind. The number counts how many more there may be.
abbrev pub many : {A : Type 0} → Reader A → TokenKind → ℕ → Reader (List A)
many one stop zero ts = Err TooShort
many one stop (suc more) ts = choose (begins stop ts) (Ok ([], ts)) (one ts >>= λ x. many one stop more x.1 >>= λ xs. Ok (x.0 ∷ xs.0, xs.1))

unfoldable pub many_at : {A : Type 0} → Reader A → TokenKind → Reader (List A)
many_at one stop ts = many one stop (suc (length ts)) ts

-- what becomes of the list that is read
abbrev pub becoming : {A B : Type 0} → (List A → B) → Read (List A × List Token) → Read (B × List Token)
becoming f read = read_then read (λ x. Ok (f x.0, x.1))

-- what was read before, and then what is read
abbrev pub with_front : {A : Type 0} → List A → Read (List A × List Token) → Read (List A × List Token)
with_front front read = becoming (λ xs. front ++ xs) read

-- in braces
unfoldable pub braces_at : {A : Type 0} → Reader A → Reader (List A)
braces_at one ts = do
  inside ← after (kind.Symbol symbol.OpenBrace) ts
  xs ← many_at one (kind.Symbol symbol.CloseBrace) inside
  rest ← after (kind.Symbol symbol.CloseBrace) xs.1
  Ok (xs.0, rest)

-- ---- Statements

-- a statement by itself
pub data Single : Type 0 where
  SingleAssign : (variable : Name) → (value : Expression) → Single
  SingleCommand : (command : Command) → (offset : ℕ) → (name : Name) → Single
  SingleSend : (offset : ℕ) → (port : Name) → (value : Expression) → Single
  SingleIf : (offset : ℕ) → (condition : Expression) → (block : Statements) → Single
  SingleIfElse : (offset : ℕ) → (condition : Expression) → (block other : Statements) → Single
  SingleFor : (offset : ℕ) → (variable bag : Name) → (block : Statements) → Single
  SingleChange : (change : Change) → (offset : ℕ) → (value : Expression) → (collection : Name) → Single

abbrev pub single_before : Single → Statements → Statements
single_before (SingleAssign n e) rest = Assign n e rest
single_before (SingleCommand c offset n) rest = Does c offset n rest
single_before (SingleSend offset p e) rest = Send offset p e rest
single_before (SingleIf offset e block) rest = If offset e block rest
single_before (SingleIfElse offset e block other) rest = IfElse offset e block other rest
single_before (SingleFor offset v b block) rest = For offset v b block rest
single_before (SingleChange c offset e x) rest = Changes c offset e x rest

abbrev pub joined : List Single → Statements
joined [] = Done
joined (s ∷ ss) = single_before s (joined ss)

abbrev pub single_of : Stmt → Single
single_of (stmt.Assign n e) = SingleAssign n (expression_of e)
single_of (stmt.Command c offset n) = SingleCommand c offset n
single_of (stmt.Send offset p e) = SingleSend offset p (expression_of e)
single_of (stmt.If' offset e shape block) = SingleIf offset (expression_of e) (row_statements block)
single_of (stmt.IfElse' offset e shape block other_shape other) =
    SingleIfElse offset (expression_of e) (row_statements block) (row_statements other)
single_of (stmt.For' offset v b shape block) = SingleFor offset v b (row_statements block)
single_of (stmt.Change c offset e x) = SingleChange c offset (expression_of e) x

-- The limit is that of expressions.
unfoldable pub assign_at : ℕ → Reader Single
assign_at limit ts = do
  n ← name_at ts
  behind ← after (kind.Symbol symbol.Assign) n.1
  e ← expression_at limit 0 behind
  rest ← after (kind.Symbol symbol.Semicolon) e.1
  Ok (SingleAssign n.0 e.0, rest)

unfoldable pub command_at : Command → Reader Single
command_at c ts = do
  behind ← after (kind.Keyword (command_word c)) ts
  n ← name_at behind
  rest ← after (kind.Symbol symbol.Semicolon) n.1
  Ok (SingleCommand c (offset_at ts) n.0, rest)

unfoldable pub send_at : ℕ → Reader Single
send_at limit ts = do
  behind ← after (kind.Keyword keyword.Send) ts
  n ← name_at behind
  e ← expression_at limit 0 n.1
  rest ← after (kind.Symbol symbol.Semicolon) e.1
  Ok (SingleSend (offset_at ts) n.0 e.0, rest)

unfoldable pub change_at : ℕ → Change → Reader Single
change_at limit c ts = do
  behind ← after (kind.Keyword (change_word c)) ts
  e ← expression_at limit 0 behind
  word ← after (kind.Keyword (change_preposition c)) e.1
  x ← name_at word
  rest ← after (kind.Symbol symbol.Semicolon) x.1
  Ok (SingleChange c (offset_at ts) e.0 x.0, rest)

-- what follows the block of an `if`
unfoldable pub else_at : Reader Statements → ℕ → Expression → Statements → Reader Single
else_at other_at offset e block ts = do
  behind ← after (kind.Keyword keyword.Else) ts
  other ← other_at behind
  Ok (SingleIfElse offset e block other.0, other.1)

-- The limit is that of the blocks. `other_at` reads what stands behind `else`.
unfoldable pub if_at : Limits → (block_at other_at : Reader Statements) → ℕ → Reader Single
if_at limits block_at other_at limit ts = do
  behind ← after (kind.Keyword keyword.If) ts
  e ← within limit (offset_at ts) (expression_at limits.expression 0 behind)
  block ← block_at e.1
  choose (begins (kind.Keyword keyword.Else) block.1) (else_at other_at (offset_at ts) e.0 block.0 block.1)
      (Ok (SingleIf (offset_at ts) e.0 block.0, block.1))

-- The limit is that of the blocks. `loops` counts the levels of loops that are left here; in the block it is one less.
unfoldable pub for_at : (ℕ → Reader Statements) → (limit loops : ℕ) → Reader Single
for_at block_at limit loops ts = do
  behind ← after (kind.Keyword keyword.For) ts
  v ← within limit (offset_at ts) (within loops (offset_at ts) (name_at behind))
  word ← after (kind.Keyword keyword.In) v.1
  bag ← name_at word
  block ← block_at (loops - 1) bag.1
  Ok (SingleFor (offset_at ts) v.0 bag.0 block.0, block.1)

-- the first token is the word of this command
abbrev pub begins_command : Command → List Token → Bool
begins_command c ts = begins (kind.Keyword (command_word c)) ts

-- the first token is the word of this change
abbrev pub begins_change : Change → List Token → Bool
begins_change c ts = begins (kind.Keyword (change_word c)) ts

-- `block_at` reads a block, and `other_at` what stands behind `else`, with the levels of loops that are left in it.
unfoldable pub statement_at : Limits → (block_at other_at : ℕ → Reader Statements) → (limit loops : ℕ) → Reader Single
statement_at limits block_at other_at limit loops ts =
    choose (begins_command command.Goto ts) (command_at command.Goto ts)
    (choose (begins_command command.Pop ts) (command_at command.Pop ts)
    (choose (begins (kind.Keyword keyword.Send) ts) (send_at limits.expression ts)
    (choose (begins (kind.Keyword keyword.If) ts) (if_at limits (block_at loops) (other_at loops) limit ts)
    (choose (begins (kind.Keyword keyword.For) ts) (for_at block_at limit loops ts)
    (choose (begins_change change.Add ts) (change_at limits.expression change.Add ts)
    (choose (begins_change change.Drop ts) (change_at limits.expression change.Drop ts)
    (choose (begins_change change.Push ts) (change_at limits.expression change.Push ts)
    (assign_at limits.expression ts))))))))

-- the first token is `if`, in a text that may have the short forms
abbrev pub begins_chained : Limits → List Token → Bool
begins_chained limits ts = limits.short_forms && begins (kind.Keyword keyword.If) ts

-- with the levels of blocks and of loops that are left
unfoldable mutual
  pub block_at : Limits → (limit loops : ℕ) → Reader Statements
  block_at limits zero loops ts = Err TooShort
  block_at limits (suc limit) loops ts =
      braces_at (statement_at limits (block_at limits limit) (other_at limits limit) limit loops) ts >>= λ x. Ok (joined x.0, x.1)

  -- a block, or an `if` in its place, which is its one statement
  pub other_at : Limits → (limit loops : ℕ) → Reader Statements
  other_at limits zero loops ts = Err TooShort
  other_at limits (suc limit) loops ts = choose (begins_chained limits ts)
      (if_at limits (block_at limits limit loops) (other_at limits limit loops) limit ts >>= λ x. Ok (single_before x.0 Done, x.1))
      (braces_at (statement_at limits (block_at limits limit) (other_at limits limit) limit loops) ts >>= λ x. Ok (joined x.0, x.1))

-- ---- Atomic models

unfoldable pub bound_at : Reader Bound
bound_at ts = choose (begins (kind.Symbol symbol.Minus) ts)
    (after (kind.Symbol symbol.Minus) ts >>= λ behind.
    number_at behind >>= λ n.
    Ok (record { minus = Some (offset_at ts); magnitude = n.0 }, n.1))
    (number_at ts >>= λ n. Ok (record { minus = None; magnitude = n.0 }, n.1))

unfoldable pub variable_at : Reader Variable
variable_at ts = do
  behind ← after (kind.Keyword keyword.Var) ts
  n ← name_at behind
  colon ← after (kind.Symbol symbol.Colon) n.1
  low ← bound_at colon
  range ← after (kind.Symbol symbol.Range) low.1
  high ← bound_at range
  equal ← after (kind.Symbol symbol.Equal) high.1
  start ← bound_at equal
  rest ← after (kind.Symbol symbol.Semicolon) start.1
  Ok (record { name = n.0; low = low.0; high = high.0; start = start.0 }, rest)

unfoldable pub flag_at : Reader Flag
flag_at ts = do
  behind ← after (kind.Keyword keyword.Flag) ts
  n ← name_at behind
  equal ← after (kind.Symbol symbol.Equal) n.1
  start ← truth_at equal
  rest ← after (kind.Symbol symbol.Semicolon) start.1
  Ok (record { name = n.0; start = start.0 }, rest)

unfoldable pub collection_at : Discipline → Reader StateCollection
collection_at d ts = do
  behind ← after (kind.Keyword (discipline_word d)) ts
  n ← name_at behind
  capacity ← number_at n.1
  rest ← after (kind.Symbol symbol.Semicolon) capacity.1
  Ok (record { discipline = d; name = n.0; capacity = capacity.0 }, rest)

-- the first token is the word of a collection of this discipline
abbrev pub begins_collection : Discipline → List Token → Bool
begins_collection d ts = begins (kind.Keyword (discipline_word d)) ts

-- a comma and a name
unfoldable pub further_name_at : Reader Name
further_name_at ts = after (kind.Symbol symbol.Comma) ts >>= λ behind. name_at behind

unfoldable pub phases_at : Reader AtomicItem
phases_at ts = do
  behind ← after (kind.Keyword keyword.Phases) ts
  first ← name_at behind
  others ← many_at further_name_at (kind.Symbol symbol.Semicolon) first.1
  rest ← after (kind.Symbol symbol.Semicolon) others.1
  Ok (Lists (record { offset = offset_at ts; names = first.0 ∷ others.0 }), rest)

unfoldable pub start_at : Reader AtomicItem
start_at ts = do
  behind ← after (kind.Keyword keyword.Start) ts
  n ← name_at behind
  rest ← after (kind.Symbol symbol.Semicolon) n.1
  Ok (Starts (record { offset = offset_at ts; phase = n.0 }), rest)

unfoldable pub ticks_at : ℕ → Reader (Option Expression)
ticks_at limit ts = choose (begins (kind.Keyword keyword.Forever) ts)
    (after (kind.Keyword keyword.Forever) ts >>= λ rest. Ok (None, rest))
    (expression_at limit 0 ts >>= λ e. Ok (Some e.0, e.1))

unfoldable pub hold_at : ℕ → Reader AtomicItem
hold_at limit ts = do
  behind ← after (kind.Keyword keyword.Hold) ts
  n ← name_at behind
  colon ← after (kind.Symbol symbol.Colon) n.1
  ticks ← ticks_at limit colon
  rest ← after (kind.Symbol symbol.Semicolon) ticks.1
  Ok (Holds (record { offset = offset_at ts; phase = n.0; ticks = ticks.0 }), rest)

unfoldable pub rule_at : Limits → RuleSort → Reader AtomicItem
rule_at limits sort ts = do
  behind ← after (kind.Keyword (sort_word sort)) ts
  n ← name_at behind
  body ← block_at limits limits.block limits.loop n.1
  Ok (Rules (record { sort = sort; phase = n.0; body = body.0 }), body.1)

-- the first token is the word of a rule of this sort
abbrev pub begins_rule : RuleSort → List Token → Bool
begins_rule sort ts = begins (kind.Keyword (sort_word sort)) ts

-- a rule, by its word
unfoldable pub any_rule_at : Limits → Reader AtomicItem
any_rule_at limits ts =
    choose (begins_rule sort.Output ts) (rule_at limits sort.Output ts)
    (choose (begins_rule sort.Internal ts) (rule_at limits sort.Internal ts)
    (choose (begins_rule sort.External ts) (rule_at limits sort.External ts)
    (rule_at limits sort.Confluent ts)))

-- a port with its word: `in port;` or `out port;`
unfoldable pub port_at : Keyword → Reader Name
port_at word ts = do
  behind ← after (kind.Keyword word) ts
  n ← name_at behind
  rest ← after (kind.Symbol symbol.Semicolon) n.1
  Ok (n.0, rest)

unfoldable pub item_at : Limits → Reader AtomicItem
item_at limits ts =
    choose (begins (kind.Keyword keyword.In) ts) (port_at keyword.In ts >>= λ n. Ok (Declares (declaration.In n.0), n.1))
    (choose (begins (kind.Keyword keyword.Out) ts) (port_at keyword.Out ts >>= λ n. Ok (Declares (declaration.Out n.0), n.1))
    (choose (begins (kind.Keyword keyword.Var) ts) (variable_at ts >>= λ v. Ok (Declares (declaration.Var v.0), v.1))
    (choose (begins (kind.Keyword keyword.Flag) ts) (flag_at ts >>= λ f. Ok (Declares (declaration.Flag f.0), f.1))
    (choose (begins_collection discipline.Bag ts) (collection_at discipline.Bag ts >>= λ c. Ok (Declares (declaration.Held c.0), c.1))
    (choose (begins_collection discipline.Queue ts) (collection_at discipline.Queue ts >>= λ c. Ok (Declares (declaration.Held c.0), c.1))
    (choose (begins (kind.Keyword keyword.Phases) ts) (phases_at ts)
    (choose (begins (kind.Keyword keyword.Start) ts) (start_at ts)
    (choose (begins (kind.Keyword keyword.Hold) ts) (hold_at limits.expression ts)
    (any_rule_at limits ts)))))))))

unfoldable pub atomic_at : Limits → Reader (Name × List AtomicItem)
atomic_at limits ts = do
  behind ← after (kind.Keyword keyword.Atomic) ts
  n ← name_at behind
  items ← braces_at (item_at limits) n.1
  Ok ((n.0, items.0), items.1)

-- ---- Coupled models

unfoldable pub end_at : Reader End
end_at ts = choose (begins (kind.Keyword keyword.Itself) ts)
    (after (kind.Keyword keyword.Itself) ts >>= λ behind.
    after (kind.Symbol symbol.Dot) behind >>= λ dot.
    name_at dot >>= λ port.
    Ok (record { part = None; port = port.0 }, port.1))
    (name_at ts >>= λ part.
    after (kind.Symbol symbol.Dot) part.1 >>= λ dot.
    name_at dot >>= λ port.
    Ok (record { part = Some part.0; port = port.0 }, port.1))

unfoldable pub part_at : Reader Part
part_at ts = do
  behind ← after (kind.Keyword keyword.Part) ts
  n ← name_at behind
  colon ← after (kind.Symbol symbol.Colon) n.1
  model ← name_at colon
  rest ← after (kind.Symbol symbol.Semicolon) model.1
  Ok (record { name = n.0; model = model.0 }, rest)

unfoldable pub link_at : Reader Link
link_at ts = do
  behind ← after (kind.Keyword keyword.Link) ts
  source ← end_at behind
  arrow ← after (kind.Symbol symbol.Arrow) source.1
  target ← end_at arrow
  rest ← after (kind.Symbol symbol.Semicolon) target.1
  Ok (record { offset = offset_at ts; from = source.0; to = target.0 }, rest)

unfoldable pub coupled_item_at : Reader CoupledItem
coupled_item_at ts =
    choose (begins (kind.Keyword keyword.In) ts) (port_at keyword.In ts >>= λ n. Ok (Inputs n.0, n.1))
    (choose (begins (kind.Keyword keyword.Out) ts) (port_at keyword.Out ts >>= λ n. Ok (Outputs n.0, n.1))
    (choose (begins (kind.Keyword keyword.Part) ts) (part_at ts >>= λ p. Ok (Contains p.0, p.1))
    (link_at ts >>= λ l. Ok (Couples l.0, l.1))))

unfoldable pub coupled_at : Reader (Name × List CoupledItem)
coupled_at ts = do
  behind ← after (kind.Keyword keyword.Coupled) ts
  n ← name_at behind
  items ← braces_at coupled_item_at n.1
  Ok ((n.0, items.0), items.1)

-- ---- Files

unfoldable pub model_at : Limits → Reader WrittenModel
model_at limits ts = choose (begins (kind.Keyword keyword.Coupled) ts)
    (coupled_at ts >>= λ m. Ok (WrittenCoupled m.0.0 m.0.1, m.1))
    (atomic_at limits ts >>= λ m. Ok (WrittenAtomic m.0.0 m.0.1, m.1))

abbrev pub is_end : List Token → Bool
is_end [] = true
is_end (t ∷ ts) = false

-- the number of a version
unfoldable pub version_at : Reader Version
version_at ts = choose (begins (kind.Number 1) ts)
    (after (kind.Number 1) ts >>= λ rest. Ok (version.First, rest))
    (choose (begins (kind.Number 2) ts)
    (after (kind.Number 2) ts >>= λ rest. Ok (version.Second, rest))
    (after (kind.Number 3) ts >>= λ rest. Ok (version.Third, rest)))

-- a header, if there is one
unfoldable pub header_at : Reader (Option Version)
header_at ts = choose (begins (kind.Keyword keyword.Version) ts)
    (after (kind.Keyword keyword.Version) ts >>= λ behind.
    version_at behind >>= λ v.
    after (kind.Symbol symbol.Semicolon) v.1 >>= λ rest.
    Ok (Some v.0, rest))
    (Ok (None, ts))

-- a file, of all the tokens; its header says whether it may have the short forms
unfoldable pub file_at : Limits → List Token → Read WrittenFile
file_at limits ts = do
  header ← header_at ts
  models ← many_at (model_at (limits_behind limits header.0)) (kind.Keyword keyword.Root) header.1
  behind ← after (kind.Keyword keyword.Root) models.1
  n ← name_at behind
  rest ← after (kind.Symbol symbol.Semicolon) n.1
  choose (is_end rest) (Ok (record { header = header.0; models = models.0; root = n.0 })) (Err (obstacle_at rest))

-- the limits of the language, in a text that may have the short forms, or not
abbrev pub our_limits : Bool → Limits
our_limits short = record the_limits { short_forms = short }

-- the refusal for what stops a reader; `end` is the offset of the end of the text
abbrev pub refusal_of : Obstacle → ℕ → Refusal
refusal_of (Unexpected offset) end = record { number = E4; offset = offset }
refusal_of (TooDeep offset) end = record { number = E5; offset = offset }
refusal_of TooShort end = record { number = E4; offset = end }

abbrev pub refusal_in : {A : Type 0} → Read A → ℕ → Option Refusal
refusal_in (Ok x) end = None
refusal_in (Err o) end = Some (refusal_of o end)

-- the refusal of the tokens of a text that ends at this offset, unless they are those of a file
abbrev pub refusal_of_tokens : List Token → ℕ → Option Refusal
refusal_of_tokens ts end = refusal_in (file_at the_limits ts) end

-- the error for the tokens of a text that ends at this offset, by why the code could not read them
abbrev pub answer_of : ParseError → ℕ → LoadError
answer_of parse_error.Memory end = error.Memory
answer_of (parse_error.Stopped o) end = error.Refused (refusal_of (obstacle_of o) end)

-- the error is that of the tokens, or out of memory
abbrev pub IsRefused : LoadError → List Token → ℕ → Type 0
IsRefused error.Memory ts end = Unit {0}
IsRefused (error.Refused r) ts end = refusal_of_tokens ts end ≡ Some r
