-- What lists of statements do, one statement at a time, and loops, one value at a time.
use Rattle.std.proofs.Common.{◌≡◌, ℕ, zero, suc, ◌+◌, ◌-◌, ◌<◌, ◌≤◌, Bool, true, List, [], ◌∷◌, ◌++◌, length, replicate, get_or}
use Rattle.std.proofs.Common.{drop, set, Option, Some, Result, Ok, Err, refl, sym, ap, ◌∙◌, ℤ, pos, if◌then◌else◌, arith}
use Rattle.std.proofs.lemmas.List.{at_drop_more, get_or_default, set_past}
use Rattle.dv_syntax.specs.declared.tree.Expr.{Expr}
use Rattle.dv_syntax.specs.declared.tree.Name.{Name}
use Rattle.dv_syntax.specs.declared.tree.Stmt.{Stmt, Row_of-Stmt, end_of-Stmt, more_of-Stmt, items-the_row-Stmt}
use Rattle.dv_syntax.specs.declared.tree.Stmt.{items_hidden-the_row-Stmt-0}
use Rattle.dv_syntax.specs.declared.tree.Stmt as stmt
use Rattle.dv_syntax.specs.Trees.{Expression, Statements, Done, For, If, IfElse, expression_of, statement_before, row_statements}
use Rattle.dv_syntax.specs.Trees.{statements_of}
use Rattle.dv_syntax.specs.declared.tree.Command.{Command}
use Rattle.dv_bag.specs.Outcome.{◌>>=◌}
use Rattle.dv_bag.specs.Bag.{Counts, total_of_all, bag_at, values_of, with_copies}
use Rattle.dv_bag.specs.Collections.{values_in}
use Rattle.dv_bag.specs.Outcome.{Fails}
use Rattle.dv_bag.specs.declared.discipline.Change.{Change}
use Rattle.dv_bag.specs.declared.fault.Fault.{Fault}
use Rattle.dv_bag.specs.declared.fault.Fault.TheVariants.{Flood}
use Rattle.dv_bag.specs.declared.fault.RuleError.{RuleError}
use Rattle.dv_bag.specs.declared.fault.RuleError.TheVariants as error
use Rattle.dv_bag.specs.declared.state.Effect.{Effect}
use Rattle.dv_bag.specs.declared.value.Value.{Value}
use Rattle.std.proofs.lemmas.Bool.{lt-leb}
use Rattle.dv_eval.specs.Scope.{Scope, index_of}
use Rattle.dv_eval.specs.Steps.{repeated, with_value}
use Rattle.dv_eval.specs.Meaning.{Context, assignment, changing, collection_of_name, command_effect, in_loop, moment_in, number_of}
use Rattle.dv_eval.specs.Meaning.{repetition, run, sending, truth_of, value_within, with_value_at}

-- to go on with a value is to keep it and then go on
bind_kept : {A B : Type 0} (m : Result A Fault) (k : A → Result B Fault) → (m >>= k) ≡ ((m >>= λ x. Ok x) >>= k)
bind_kept (Ok x) k = refl
bind_kept (Err f) k = refl

bind_twice :
    {A B C : Type 0} (m : Result A Fault) (f : A → Result B Fault) (k : B → Result C Fault)
    → (m >>= λ v. f v >>= k) ≡ ((m >>= λ v. f v >>= λ x. Ok x) >>= k)
bind_twice (Ok v) f k = bind_kept (f v) k
bind_twice (Err e) f k = refl

bind_bind :
    {A B C : Type 0} (m : Result A Fault) (f : A → Result B Fault) (k : B → Result C Fault) → (m >>= λ v. f v >>= k) ≡ ((m >>= f) >>= k)
bind_bind (Ok v) f k = refl
bind_bind (Err e) f k = refl

bind_same : {A B : Type 0} (m : Result A Fault) (f k : A → Result B Fault) → ((x : A) → f x ≡ k x) → (m >>= f) ≡ (m >>= k)
bind_same (Ok x) f k same = same x
bind_same (Err e) f k same = refl

-- what is left after a first part that gave a value, and the fault of one that did not
bind_next :
    {A B : Type 0} (m : Result A Fault) (k : A → Result B Fault) (x : A) (whole : Result B Fault) → (m >>= k) ≡ whole → m ≡ Ok x
    → k x ≡ whole
bind_next m k x whole known step = sym (ap (λ y. y >>= k) step) ∙ known

bind_fails :
    {A B : Type 0} (m : Result A Fault) (k : A → Result B Fault) (whole : Result B Fault) (error : RuleError) → (m >>= k) ≡ whole
    → Fails error m → Fails error whole
bind_fails m k whole (error.Fault f) known step = sym known ∙ ap (λ y. y >>= k) step
bind_fails m k whole error.Memory known step = tt

-- what a loop does, as its statement says it
abbrev walk : Scope → Context → Name → Name → Statements → Effect → Result Effect Fault
walk scope context v b block e =
    repetition
    (λ n. run scope (in_loop (v.number, n) context) block) (values_in (collection_of_name scope (moment_in context e.state) b.number)) e

module _ (scope : Scope) (context : Context) where
  abbrev value_of : Effect → Expr → Result Value Fault
  value_of e value = value_within scope context e (expression_of value)

  -- what one statement does, and what a list of statements does
  abbrev one : Stmt → Effect → Result Effect Fault
  one s = run scope context (statement_before s Done)

  abbrev all : List Stmt → Effect → Result Effect Fault
  all ss = run scope context (statements_of ss)

  abbrev block_of : {n : _} → Row_of-Stmt n → Effect → Result Effect Fault
  block_of block = run scope context (row_statements block)

  -- a statement before a rest: first the statement alone, and then the rest
  run-statement_before : (s : Stmt) (rest : Statements) (e : Effect)
      → run scope context (statement_before s rest) e ≡ (one s e >>= run scope context rest)
  run-statement_before (stmt.Assign name value) rest e =
      bind_twice (value_of e value) (λ v. assignment scope name.number v e) (run scope context rest)
  run-statement_before (stmt.Command c offset name) rest e =
      bind_kept (command_effect scope c name.number e) (run scope context rest)
  run-statement_before (stmt.Send offset port value) rest e =
      bind_twice (value_of e value) (λ v. sending scope port.number v e) (run scope context rest)
  run-statement_before (stmt.If' offset c shape block) rest e =
      bind_twice (value_of e c) (λ v. if truth_of v then block_of block e else Ok e) (run scope context rest)
  run-statement_before (stmt.IfElse' offset c shape block other_shape other) rest e =
      bind_twice (value_of e c) (λ v. if truth_of v then block_of block e else block_of other e) (run scope context rest)
  run-statement_before (stmt.For' offset v b shape block) rest e =
      bind_kept (walk scope context v b (row_statements block) e) (run scope context rest)
  run-statement_before (stmt.Change c offset value x) rest e =
      bind_twice (value_of e value) (λ v. changing scope c x.number (number_of v) e) (run scope context rest)

  -- the statements from an offset on: the one there, and then those behind it
  run-drop :
      (ss : List Stmt) (i : ℕ) (s : Stmt) (e : Effect) → i < length ss → s ≡ get_or ss i s
      → all (drop i ss) e ≡ (one s e >>= all (drop (i + 1) ss))
  run-drop ss i s e within is =
      at_drop_more (λ rest. all rest e) ss i s within
      ∙ ap (λ x. run scope context (statement_before x (statements_of (drop (i + 1) ss))) e) (sym is)
      ∙ run-statement_before s (statements_of (drop (i + 1) ss)) e

  pub run-drop_ok :
      (ss : List Stmt) (i : ℕ) (s : Stmt) (e next : Effect) (whole : Result Effect Fault) → i < length ss → s ≡ get_or ss i s
      → all (drop i ss) e ≡ whole → one s e ≡ Ok next → all (drop (i + 1) ss) next ≡ whole
  run-drop_ok ss i s e next whole within is known step =
      bind_next (one s e) (all (drop (i + 1) ss)) next whole (sym (run-drop ss i s e within is) ∙ known) step

  pub run-drop_err :
      (ss : List Stmt) (i : ℕ) (s : Stmt) (e : Effect) (whole : Result Effect Fault) (error : RuleError) → i < length ss
      → s ≡ get_or ss i s → all (drop i ss) e ≡ whole → Fails error (one s e) → Fails error whole
  run-drop_err ss i s e whole error within is known step =
      bind_fails (one s e) (all (drop (i + 1) ss)) whole error (sym (run-drop ss i s e within is) ∙ known) step

-- the copies of a value from one on: a step, and then those behind it
module _ (step : Effect → Result Effect Fault) (c i : ℕ) (e : Effect) (whole : Result Effect Fault) (within : i < c)
    (known : repeated step (c - i) e ≡ whole) where
  next_copy : (step e >>= repeated step (c - (i + 1))) ≡ whole
  next_copy = let more : c - i ≡ suc (c - (i + 1)) = omega arith in sym (ap (λ k. repeated step k e) more) ∙ known

  pub repeated_next : (next : Effect) → step e ≡ Ok next → repeated step (c - (i + 1)) next ≡ whole
  repeated_next next is = bind_next (step e) (repeated step (c - (i + 1))) next whole next_copy is

  pub repeated_fails : (error : RuleError) → Fails error (step e) → Fails error whole
  repeated_fails error is = bind_fails (step e) (repeated step (c - (i + 1))) whole error next_copy is

-- the values from an index on: the copies of the one there, and then those behind it
module _ (step : ℤ → Effect → Result Effect Fault) where
  repetition_append : (ns ms : List ℤ) (e : Effect) → repetition step (ns ++ ms) e ≡ (repetition step ns e >>= repetition step ms)
  repetition_append [] ms e = refl
  repetition_append (n ∷ ns) ms e =
      bind_same (step n e) (repetition step (ns ++ ms)) (λ x. repetition step ns x >>= repetition step ms) (repetition_append ns ms)
      ∙ bind_bind (step n e) (repetition step ns) (repetition step ms)

  repetition_replicate : (c : ℕ) (n : ℤ) (e : Effect) → repetition step (replicate c n) e ≡ repeated (step n) c e
  repetition_replicate zero n e = refl
  repetition_replicate (suc c) n e = bind_same (step n e) (repetition step (replicate c n)) (repeated (step n) c) (repetition_replicate c n)

  abbrev from : ℕ → Counts → Effect → Result Effect Fault
  from i ps = repetition step (values_of (drop i ps))

  repetition-drop :
      (ps : Counts) (i : ℕ) (e : Effect) (p : ℤ × ℕ) → i < length ps → p ≡ get_or ps i p
      → from i ps e ≡ (repeated (step p.0) p.1 e >>= from (i + 1) ps)
  repetition-drop ps i e p within is =
      at_drop_more (λ rest. repetition step (values_of rest) e) ps i p within
      ∙ ap (λ (x : ℤ × ℕ). repetition step (values_of (x ∷ drop (i + 1) ps)) e) (sym is)
      ∙ repetition_append (replicate p.1 p.0) (values_of (drop (i + 1) ps)) e
      ∙ ap (λ m. m >>= from (i + 1) ps) (repetition_replicate p.1 p.0 e)

  module _ (ps : Counts) (i : ℕ) (e : Effect) (whole : Result Effect Fault) (within : i < length ps) (known : from i ps e ≡ whole) where
    abbrev pair : ℤ × ℕ
    pair = get_or ps i (pos 0, 0)

    next_value : (repeated (step pair.0) pair.1 e >>= from (i + 1) ps) ≡ whole
    next_value = sym (repetition-drop ps i e pair within (get_or_default ps i (pos 0, 0) pair within)) ∙ known

    pub repetition_next : (next : Effect) → repeated (step pair.0) pair.1 e ≡ Ok next → from (i + 1) ps next ≡ whole
    repetition_next next is = bind_next (repeated (step pair.0) pair.1 e) (from (i + 1) ps) next whole next_value is

    pub repetition_fails : (error : RuleError) → Fails error (repeated (step pair.0) pair.1 e) → Fails error whole
    repetition_fails error is = bind_fails (repeated (step pair.0) pair.1 e) (from (i + 1) ps) whole error next_value is

sending-within :
    (scope : Scope) (name : ℕ) (v : Value) (e : Effect) (index : Option ℕ) → total_of_all e.sent < 4096
    → index_of name scope.outputs ≡ index → sending scope name v e ≡ Ok (with_value_at index (number_of v) e)
sending-within scope name v e index few at =
    ap (λ b. if b then Err Flood else Ok (with_value_at (index_of name scope.outputs) (number_of v) e))
    (lt-leb 4096 (total_of_all e.sent) few)
    ∙ ap (λ p. Ok (with_value_at p (number_of v) e)) at

-- a value at a port
pub sending-some :
    (scope : Scope) (name : ℕ) (v : Value) (e : Effect) (port : ℕ) (n : ℤ) (bags : List Counts) → total_of_all e.sent < 4096
    → index_of name scope.outputs ≡ Some port → n ≡ number_of v → bags ≡ set e.sent port (with_copies n 1 (bag_at e.sent port))
    → sending scope name v e ≡ Ok (record { state = e.state; sent = bags; goto = e.goto })
sending-some scope name v e port n bags few at number is =
    sending-within scope name v e (Some port) few at
    ∙ ap (λ x. Ok (record { state = e.state; sent = set e.sent port (with_copies x 1 (bag_at e.sent port)); goto = e.goto })) (sym number)
    ∙ ap (λ x. Ok (record { state = e.state; sent = x; goto = e.goto })) (sym is)

-- a value at a port past the last
pub sending-past :
    (scope : Scope) (name : ℕ) (v : Value) (e : Effect) (port : ℕ) → total_of_all e.sent < 4096 → index_of name scope.outputs ≡ Some port
    → length e.sent ≤ port → sending scope name v e ≡ Ok e
sending-past scope name v e port few at past =
    sending-some scope name v e port (number_of v) e.sent few at refl
    (sym (set_past e.sent port (with_copies (number_of v) 1 (bag_at e.sent port)) past))

-- what is left of a statement alone
bind_ok : {A : Type 0} (m : Result A Fault) → (m >>= λ x. Ok x) ≡ m
bind_ok (Ok x) = refl
bind_ok (Err f) = refl

bind_each_ok : {A B : Type 0} (m : Result A Fault) (f : A → Result B Fault) → (m >>= λ v. f v >>= λ x. Ok x) ≡ (m >>= f)
bind_each_ok (Ok v) f = bind_ok (f v)
bind_each_ok (Err e) f = refl

pub run-Assign :
    (scope : Scope) (context : Context) (s : Stmt) (e : Effect) (variable : Name) (value : Expr) → s ≡ stmt.Assign variable value
    → run scope context (statement_before s Done) e
    ≡ with_value scope context (expression_of value) (assignment scope variable.number) e
run-Assign scope context s e variable value is =
    ap (λ x. run scope context (statement_before x Done) e) is
    ∙ bind_each_ok (value_within scope context e (expression_of value)) (λ v. assignment scope variable.number v e)

module _ (scope : Scope) (context : Context) (s : Stmt) (offset : ℕ) (e : Effect) where
  pub run-If :
      (condition : Expression) (block : Statements) (v : Value) → statement_before s Done ≡ If offset condition block Done
      → value_within scope context e condition ≡ Ok v → truth_of v ≡ true
      → run scope context (statement_before s Done) e ≡ run scope context block e
  run-If condition block v tree value holds =
      ap (λ x. run scope context x e) tree
      ∙ ap (λ m. m >>= λ x. (if truth_of x then run scope context block e else Ok e) >>= λ y. Ok y) value
      ∙ ap (λ b. (if b then run scope context block e else Ok e) >>= λ y. Ok y) holds
      ∙ bind_ok (run scope context block e)

  pub run-IfElse :
      (condition : Expression) (block other : Statements) (v : Value) (holds : Bool)
      → statement_before s Done ≡ IfElse offset condition block other Done
      → value_within scope context e condition ≡ Ok v → truth_of v ≡ holds
      → run scope context (statement_before s Done) e ≡ (if holds then run scope context block e else run scope context other e)
  run-IfElse condition block other v holds tree value is =
      ap (λ x. run scope context x e) tree
      ∙ ap (λ m. m >>= λ x. (if truth_of x then run scope context block e else run scope context other e) >>= λ y. Ok y) value
      ∙ ap (λ b. (if b then run scope context block e else run scope context other e) >>= λ y. Ok y) is
      ∙ bind_ok (if holds then run scope context block e else run scope context other e)

  pub run-For :
      (v b : Name) (block : Statements) → statement_before s Done ≡ For offset v b block Done
      → run scope context (statement_before s Done) e ≡ walk scope context v b block e
  run-For v b block tree = ap (λ x. run scope context x e) tree ∙ bind_ok (walk scope context v b block e)

  pub run-Send :
      (port : Name) (value : Expr) → s ≡ stmt.Send offset port value
      → run scope context (statement_before s Done) e
      ≡ with_value scope context (expression_of value) (sending scope port.number) e
  run-Send port value is =
      ap (λ x. run scope context (statement_before x Done) e) is
      ∙ bind_each_ok (value_within scope context e (expression_of value)) (λ v. sending scope port.number v e)

  pub run-Command :
      (c : Command) (name : Name) → s ≡ stmt.Command c offset name
      → run scope context (statement_before s Done) e ≡ command_effect scope c name.number e
  run-Command c name is =
      ap (λ x. run scope context (statement_before x Done) e) is ∙ bind_ok (command_effect scope c name.number e)

  pub run-Change :
      (c : Change) (value : Expr) (collection : Name) → s ≡ stmt.Change c offset value collection
      → run scope context (statement_before s Done) e
      ≡ with_value scope context (expression_of value) (λ v. changing scope c collection.number (number_of v)) e
  run-Change c value collection is =
      ap (λ x. run scope context (statement_before x Done) e) is
      ∙ bind_each_ok (value_within scope context e (expression_of value)) (λ v. changing scope c collection.number (number_of v) e)
