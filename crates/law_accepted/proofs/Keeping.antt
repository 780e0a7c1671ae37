-- What the step of each statement keeps, statements keep: what holds of the effect from which they start holds of the one that they
-- leave.
use Rattle.std.proofs.Common.{◌≡◌, ℕ, ℤ, nat_le, if◌then◌else◌, List, [], ◌∷◌, ◌++◌, refl, Option, Some, None, Result, Ok, Err}
use Rattle.std.proofs.Common.{IfOk, IfSome}
use Rattle.std.specs.Prelude.{slice_get}
use Rattle.std.specs.List.{AllByRecursion}
use Rattle.dv_syntax.specs.Trees.{Statements, Done, Assign, Does, Send, If, IfElse, For, Changes}
use Rattle.dv_syntax.specs.declared.tree.Command.{Command}
use Rattle.dv_syntax.specs.declared.tree.Command.TheVariants as command
use Rattle.dv_syntax.specs.declared.tree.Name.{Name}
use Rattle.dv_bag.specs.Bag.{total_of_all}
use Rattle.dv_bag.specs.Collections.{changed, popped, values_in}
use Rattle.dv_bag.specs.Effects.{is_within, with_collection, with_datum, with_state}
use Rattle.dv_bag.specs.Outcome.{◌>>=◌}
use Rattle.dv_bag.specs.Limits.{greatest_count}
use Rattle.dv_bag.specs.declared.collection.Collection.{Collection}
use Rattle.dv_bag.specs.declared.discipline.Change.{Change}
use Rattle.dv_bag.specs.declared.fault.Fault.{Fault}
use Rattle.dv_bag.specs.declared.fault.Fault.TheVariants as fault
use Rattle.dv_bag.specs.declared.state.Datum.{Datum}
use Rattle.dv_bag.specs.declared.state.Datum.TheVariants as datum
use Rattle.dv_bag.specs.declared.state.Effect.{Effect}
use Rattle.dv_bag.specs.declared.state.State.{State}
use Rattle.dv_bag.specs.declared.value.Value.{Value}
use Rattle.dv_eval.specs.declared.scope.Domain.{Domain}
use Rattle.dv_eval.specs.declared.scope.Domain.TheVariants as domain
use Rattle.dv_eval.specs.Scope.{Scope, names_of, index_of}
use Rattle.dv_eval.specs.Meaning.{Context, assignment, assignment_at, assignment_in_domain, assignment_to, capacity_of, changing}
use Rattle.dv_eval.specs.Meaning.{changing_at, changing_to, collection_of_name, command_effect, in_loop, moment_in, number_of}
use Rattle.dv_eval.specs.Meaning.{popping, popping_at, popping_from, repetition, run, sending, truth_of, value_within, with_goto}
use Rattle.dv_eval.specs.Meaning.{with_made, with_value_at}
use Rattle.law_accepted.specs.Gotos.{goto_of, gotos_in}
use Rattle.law_accepted.proofs.Outcomes.{if_ok_after, if_ok_branch, if_ok_then}

-- what holds of each element of two lists, one behind the other
pub all_parts : {X : Type 0} (P : X → Type 0) (xs ys : List X) → AllByRecursion P (xs ++ ys) → AllByRecursion P xs × AllByRecursion P ys
all_parts P [] ys all = (tt, all)
all_parts P (x ∷ xs) ys all = let rest = all_parts P xs ys all.1 in ((all.0, rest.0), rest.1)

all_any : {X : Type 0} (xs : List X) → AllByRecursion (λ (x : X). Unit {0}) xs
all_any [] = tt
all_any (x ∷ xs) = (tt, all_any xs)

-- What single statements keep: P of an effect, where Q holds of each phase to which they go.
pub record StatementsKeep (scope : Scope) (Q : ℕ → Type 0) (P : Effect → Type 0) : Type 0 where
  pub assigned : (name : ℕ) (v : Value) (e : Effect) → P e → IfOk (assignment scope name v e) P
  pub gone : (phase : ℕ) (e : Effect) → Q phase → P e → P (with_goto (index_of phase scope.phases) e)
  pub sent : (port : ℕ) (n : ℤ) (e : Effect) → P e → P (with_value_at (index_of port scope.outputs) n e)
  pub changes : (c : Change) (name : ℕ) (n : ℤ) (e : Effect) → P e → IfOk (changing scope c name n e) P
  pub pops : (name : ℕ) (e : Effect) → P e → IfOk (popping scope name e) P

-- ---- Collections

module _ (P : Effect → Type 0) (e : Effect) (here : P e) where
  -- what is made of a collection is put in its place
  pub made_keeps : (Q : Collection → Type 0) (index : ℕ) (made : Option (Result Collection Fault))
      → IfSome made (λ (r : Result Collection Fault). IfOk r Q) → ((c : Collection) → Q c → P (with_collection e index c))
      → IfOk (with_made index e made) P
  made_keeps Q index None of_made put = here
  made_keeps Q index (Some (Err f)) of_made put = tt
  made_keeps Q index (Some (Ok c)) of_made put = put c of_made

  changing_to_keeps : (c : Change) (capacity : Option ℕ) (content : Option Datum) (index : ℕ) (n : ℤ)
      → ((most : ℕ) (held : Collection) → capacity ≡ Some most → content ≡ Some (datum.Held held)
      → IfOk (with_made index e (changed c most n held)) P)
      → IfOk (changing_to c capacity content index n e) P
  changing_to_keeps c None content index n step = here
  changing_to_keeps c (Some most) None index n step = here
  changing_to_keeps c (Some most) (Some (datum.Number x)) index n step = here
  changing_to_keeps c (Some most) (Some (datum.Flag x)) index n step = here
  changing_to_keeps c (Some most) (Some (datum.Held held)) index n step = step most held refl refl

  -- a change is asked where there is a collection with a capacity
  pub changing_at_keeps : (scope : Scope) (c : Change) (o : Option ℕ) (n : ℤ)
      → ((index most : ℕ) (held : Collection) → capacity_of (slice_get scope.variables index) ≡ Some most
      → slice_get e.state.variables index ≡ Some (datum.Held held) → IfOk (with_made index e (changed c most n held)) P)
      → IfOk (changing_at scope c o n e) P
  changing_at_keeps scope c None n step = here
  changing_at_keeps scope c (Some index) n step =
      changing_to_keeps c (capacity_of (slice_get scope.variables index)) (slice_get e.state.variables index) index n (step index)

  popping_from_keeps : (content : Option Datum) (index : ℕ)
      → ((held : Collection) → content ≡ Some (datum.Held held) → IfOk (with_made index e (popped held)) P)
      → IfOk (popping_from content index e) P
  popping_from_keeps None index step = here
  popping_from_keeps (Some (datum.Number x)) index step = here
  popping_from_keeps (Some (datum.Flag x)) index step = here
  popping_from_keeps (Some (datum.Held held)) index step = step held refl

  pub popping_at_keeps : (o : Option ℕ)
      → ((index : ℕ) (held : Collection) → slice_get e.state.variables index ≡ Some (datum.Held held)
      → IfOk (with_made index e (popped held)) P)
      → IfOk (popping_at o e) P
  popping_at_keeps None step = here
  popping_at_keeps (Some index) step = popping_from_keeps (slice_get e.state.variables index) index (step index)

-- ---- What holds whatever the state is

-- assignments and changes of collections change the state alone
module _ (scope : Scope) (P : Effect → Type 0) (in_any_state : (e : Effect) (s : State) → P e → P (with_state e s)) where
  put_keeps : (index : ℕ) (d : Datum) (e : Effect) → P e → P (with_state e (with_datum e.state index d))
  put_keeps index d e here = in_any_state e (with_datum e.state index d) here

  assignment_in_domain_keeps : (d : Domain) (index : ℕ) (v : Value) (e : Effect) → P e → IfOk (assignment_in_domain d index v e) P
  assignment_in_domain_keeps (domain.Number r) index v e here =
      let put = with_state e (with_datum e.state index (datum.Number (number_of v))) in
      if_ok_branch (is_within r.low r.high (number_of v)) (Ok put) (Err fault.Range) P
      (put_keeps index (datum.Number (number_of v)) e here) tt
  assignment_in_domain_keeps (domain.Flag start) index v e here = put_keeps index (datum.Flag (truth_of v)) e here
  assignment_in_domain_keeps (domain.Held d capacity) index v e here = here

  assignment_to_keeps : (o : Option (ℕ × Domain)) (index : ℕ) (v : Value) (e : Effect) → P e → IfOk (assignment_to o index v e) P
  assignment_to_keeps None index v e here = here
  assignment_to_keeps (Some variable) index v e here = assignment_in_domain_keeps variable.1 index v e here

  assignment_at_keeps : (o : Option ℕ) (v : Value) (e : Effect) → P e → IfOk (assignment_at scope o v e) P
  assignment_at_keeps None v e here = here
  assignment_at_keeps (Some index) v e here = assignment_to_keeps (slice_get scope.variables index) index v e here

  any_made_keeps : (index : ℕ) (made : Option (Result Collection Fault)) (e : Effect) → P e → IfOk (with_made index e made) P
  any_made_keeps index None e here = here
  any_made_keeps index (Some (Err f)) e here = tt
  any_made_keeps index (Some (Ok c)) e here = put_keeps index (datum.Held c) e here

  -- so what gotos and sendings keep too, each statement keeps
  pub keeps_in_any_state : (Q : ℕ → Type 0) → ((phase : ℕ) (e : Effect) → Q phase → P e → P (with_goto (index_of phase scope.phases) e))
      → ((port : ℕ) (n : ℤ) (e : Effect) → P e → P (with_value_at (index_of port scope.outputs) n e)) → StatementsKeep scope Q P
  keeps_in_any_state Q gone sent = record {
    assigned = λ name v e here. assignment_at_keeps (index_of name (names_of scope.variables)) v e here;
    gone = gone;
    sent = sent;
    changes = λ c name n e here.
        changing_at_keeps P e here scope c (index_of name (names_of scope.variables)) n
        (λ index most held room content. any_made_keeps index (changed c most n held) e here);
    pops = λ name e here.
        popping_at_keeps P e here (index_of name (names_of scope.variables))
        (λ index held content. any_made_keeps index (popped held) e here);
  }

-- ---- Statements

-- a step for each of some values
pub repetition_keeps : (P : Effect → Type 0) (step : ℤ → Effect → Result Effect Fault) (ns : List ℤ) (e : Effect)
    → ((n : ℤ) (now : Effect) → P now → IfOk (step n now) P) → P e → IfOk (repetition step ns e) P
repetition_keeps P step [] e keeps here = here
repetition_keeps P step (n ∷ ns) e keeps here =
    if_ok_then (step n e) (repetition step ns) P P (keeps n e here) (λ now. repetition_keeps P step ns now keeps)

module _ (scope : Scope) (Q : ℕ → Type 0) (P : Effect → Type 0) (keeps : StatementsKeep scope Q P) where
  pub sending_keeps : (port : ℕ) (v : Value) (e : Effect) → P e → IfOk (sending scope port v e) P
  sending_keeps port v e here =
      let sent = with_value_at (index_of port scope.outputs) (number_of v) e in
      if_ok_branch (nat_le greatest_count (total_of_all e.sent)) (Err fault.Flood) (Ok sent) P tt (keeps.sent port (number_of v) e here)

  -- a value, a step with it, and what follows
  after_step : (x : Result Value Fault) (step : Value → Result Effect Fault) (rest : Effect → Result Effect Fault)
      → ((v : Value) → IfOk (step v) P) → ((now : Effect) → P now → IfOk (rest now) P) → IfOk (x >>= λ v. step v >>= rest) P
  after_step x step rest first later =
      if_ok_after x (λ v. step v >>= rest) P (λ v. if_ok_then (step v) rest P P (first v) later)

  pub command_keeps : (c : Command) (name : Name) (e : Effect) → AllByRecursion Q (goto_of c name) → P e
      → IfOk (command_effect scope c name.number e) P
  command_keeps command.Goto name e all here = keeps.gone name.number e all.0 here
  command_keeps command.Pop name e all here = keeps.pops name.number e here

  -- where Q holds of each phase to which they go
  pub run_keeps_to : (context : Context) (body : Statements) (e : Effect) → AllByRecursion Q (gotos_in body) → P e
      → IfOk (run scope context body e) P
  run_keeps_to context Done e all here = here
  run_keeps_to context (Assign variable value rest) e all here =
      after_step (value_within scope context e value) (λ v. assignment scope variable.number v e) (run scope context rest)
      (λ v. keeps.assigned variable.number v e here) (λ now. run_keeps_to context rest now all)
  run_keeps_to context (Does c offset name rest) e all here =
      let parts = all_parts Q (goto_of c name) (gotos_in rest) all in
      if_ok_then (command_effect scope c name.number e) (run scope context rest) P P (command_keeps c name e parts.0 here)
      (λ now. run_keeps_to context rest now parts.1)
  run_keeps_to context (Send offset port value rest) e all here =
      after_step (value_within scope context e value) (λ v. sending scope port.number v e) (run scope context rest)
      (λ v. sending_keeps port.number v e here) (λ now. run_keeps_to context rest now all)
  run_keeps_to context (If offset condition block rest) e all here =
      let parts = all_parts Q (gotos_in block) (gotos_in rest) all in
      let one = run scope context block e in
      let taken = run_keeps_to context block e parts.0 here in
      after_step (value_within scope context e condition) (λ v. if truth_of v then one else Ok e) (run scope context rest)
      (λ v. if_ok_branch (truth_of v) one (Ok e) P taken here) (λ now. run_keeps_to context rest now parts.1)
  run_keeps_to context (IfElse offset condition block other rest) e all here =
      let parts = all_parts Q (gotos_in block) (gotos_in other ++ gotos_in rest) all in
      let others = all_parts Q (gotos_in other) (gotos_in rest) parts.1 in
      let one = run scope context block e in
      let two = run scope context other e in
      let taken = run_keeps_to context block e parts.0 here in
      let taken_else = run_keeps_to context other e others.0 here in
      after_step (value_within scope context e condition) (λ v. if truth_of v then one else two) (run scope context rest)
      (λ v. if_ok_branch (truth_of v) one two P taken taken_else) (λ now. run_keeps_to context rest now others.1)
  run_keeps_to context (For offset v b block rest) e all here =
      let parts = all_parts Q (gotos_in block) (gotos_in rest) all in
      let step = λ (n : ℤ). run scope (in_loop (v.number, n) context) block in
      let values = values_in (collection_of_name scope (moment_in context e.state) b.number) in
      let each = λ (n : ℤ) (now : Effect). run_keeps_to (in_loop (v.number, n) context) block now parts.0 in
      if_ok_then (repetition step values e) (run scope context rest) P P (repetition_keeps P step values e each here)
      (λ now. run_keeps_to context rest now parts.1)
  run_keeps_to context (Changes c offset value x rest) e all here =
      after_step (value_within scope context e value) (λ v. changing scope c x.number (number_of v) e) (run scope context rest)
      (λ v. keeps.changes c x.number (number_of v) e here) (λ now. run_keeps_to context rest now all)

-- whatever the phases are to which they go
pub run_keeps : (scope : Scope) (P : Effect → Type 0) → StatementsKeep scope (λ phase. Unit {0}) P → (context : Context) (body : Statements)
    (e : Effect) → P e → IfOk (run scope context body e) P
run_keeps scope P keeps context body e here =
    run_keeps_to scope (λ phase. Unit {0}) P keeps context body e (all_any (gotos_in body)) here
