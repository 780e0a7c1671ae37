-- Rules keep states to numbers of the language, and send such numbers.
use Rattle.std.proofs.Common.{◌≡◌, ℕ, zero, suc, Bool, true, ◌&&◌, cond, nat_le, List, [], ◌∷◌, ◌++◌, length, replicate, ℤ}
use Rattle.std.proofs.Common.{Option, Some, None, Result, Ok, Err, IfOk, IsTrue, refl, sym, ap, ◌∙◌}
use Rattle.std.specs.Prelude.{slice_get, slice_set}
use Rattle.std.specs.List.{list_all}
use Rattle.std.proofs.lemmas.Bool.{and_parts}
use Rattle.dv_syntax.specs.Trees.{Expression, Statements, Done, Assign, Does, Send, If, IfElse, For, Changes}
use Rattle.dv_syntax.specs.declared.tree.Command.{Command}
use Rattle.dv_syntax.specs.declared.tree.Command.TheVariants as command
use Rattle.dv_bag.specs.Arrivals.{Arrivals}
use Rattle.dv_bag.specs.Bag.{Counts, bag_at, is_number, total_of_all, values_of, with_copies}
use Rattle.dv_bag.specs.Collections.{changed, popped, values_in}
use Rattle.dv_bag.specs.Effects.{is_within, with_datum, with_state}
use Rattle.dv_bag.specs.Outcome.{◌>>=◌}
use Rattle.dv_bag.specs.Limits.{greatest_count}
use Rattle.dv_bag.specs.declared.collection.Collection.{Collection}
use Rattle.dv_bag.specs.declared.collection.Collection.TheVariants as collection
use Rattle.dv_bag.specs.declared.discipline.Change.{Change}
use Rattle.dv_bag.specs.declared.fault.Fault.{Fault}
use Rattle.dv_bag.specs.declared.fault.Fault.TheVariants as fault
use Rattle.dv_bag.specs.declared.state.Datum.{Datum}
use Rattle.dv_bag.specs.declared.state.Datum.TheVariants as datum
use Rattle.dv_bag.specs.declared.state.State.{State}
use Rattle.dv_bag.specs.declared.state.Effect.{Effect}
use Rattle.dv_bag.specs.declared.value.Value.{Value}
use Rattle.dv_bag.proofs.NumbersKept.{MadeOf}
use Rattle.dv_devs.specs.Behaviour.{are_few}
use Rattle.dv_eval.specs.declared.scope.Domain.{Domain}
use Rattle.dv_eval.specs.declared.scope.Domain.TheVariants as domain
use Rattle.dv_eval.specs.Scope.{Scope, names_of, index_of}
use Rattle.dv_eval.specs.Meaning.{Context, assignment, assignment_at, assignment_in_domain, assignment_to, changing, changing_at}
use Rattle.dv_eval.specs.Meaning.{collection_of_name, command_effect, effect_of, in_loop, moment_in, number_of, outermost, popping_at}
use Rattle.dv_eval.specs.Meaning.{repetition, run, sending, truth_of, value_within, with_goto, with_made, with_value_at}
use Rattle.law_accepted.proofs.Keeping.{changing_at_keeps, made_keeps, popping_at_keeps}
use Rattle.law_accepted.proofs.Outcomes.{if_ok_branch, if_ok_then}
use Rattle.dv_conservative.specs.Sound.{are_of_numbers, is_of_numbers}
use Rattle.dv_conservative.proofs.Numbers.{numbers_with}
use Rattle.law_sound.specs.Kept.{are_kept, has_numbers, is_kept, name_numbers, names_numbers}
use Rattle.law_sound.proofs.Collections.{IsKept, changed_kept, popped_kept}
use Rattle.law_sound.proofs.Values.{IsNumber, KnowsNumbers, bag_here, collection_named, meaning_number}

both_true : (a b : Bool) → a ≡ true → b ≡ true → (a && b) ≡ true
both_true a b h k = rw (h, k) refl

set_all : {X : Type 0} (test : X → Bool) (xs : List X) (i : ℕ) (x : X) → list_all test xs ≡ true → test x ≡ true →
    list_all test (slice_set xs i x) ≡ true
set_all test [] i x h k = h
set_all test (y ∷ ys) zero x h k = let parts = and_parts (test y) (list_all test ys) h in both_true (test x) (list_all test ys) k parts.1
set_all test (y ∷ ys) (suc i) x h k =
    let parts = and_parts (test y) (list_all test ys) h in
    both_true (test y) (list_all test (slice_set ys i x)) parts.0 (set_all test ys i x parts.1 k)

get_all : {X : Type 0} (test : X → Bool) (xs : List X) (i : ℕ) (x : X) → list_all test xs ≡ true → slice_get xs i ≡ Some x → test x ≡ true
get_all test [] i x h e = absurd (cc)
get_all test (y ∷ ys) zero x h e =
    let parts = and_parts (test y) (list_all test ys) h in
    let same : y ≡ x = cc in
    ap test (sym same) ∙ parts.0
get_all test (y ∷ ys) (suc i) x h e = let parts = and_parts (test y) (list_all test ys) h in get_all test ys i x parts.1 e

-- an effect that holds numbers and has sent numbers
pub record Keeps (e : Effect) : Type 0 where
  pub state : are_kept e.state.variables ≡ true
  pub sent : are_of_numbers e.sent ≡ true

put_keeps : (e : Effect) (index : ℕ) (d : Datum) → is_kept d ≡ true → Keeps e → Keeps (with_state e (with_datum e.state index d))
put_keeps e index d h keeps = record { state = set_all is_kept e.state.variables index d keeps.state h; sent = keeps.sent }

module _ (scope : Scope) where
  domain_keeps : (d : Domain) (offset : ℕ) (v : Value) (e : Effect) → IsNumber v → Keeps e → IfOk (assignment_in_domain d offset v e) Keeps
  domain_keeps (domain.Number r) offset v e n keeps =
      if_ok_branch (is_within r.low r.high (number_of v)) (Ok (with_state e (with_datum e.state offset (datum.Number (number_of v)))))
      (Err fault.Range) Keeps (put_keeps e offset (datum.Number (number_of v)) n keeps) tt
  domain_keeps (domain.Flag start) offset v e n keeps = put_keeps e offset (datum.Flag (truth_of v)) refl keeps
  domain_keeps (domain.Held d capacity) offset v e n keeps = keeps

  assigned_keeps : (o : Option (ℕ × Domain)) (offset : ℕ) (v : Value) (e : Effect) → IsNumber v → Keeps e →
      IfOk (assignment_to o offset v e) Keeps
  assigned_keeps None offset v e n keeps = keeps
  assigned_keeps (Some variable) offset v e n keeps = domain_keeps variable.1 offset v e n keeps

  assign_keeps : (o : Option ℕ) (v : Value) (e : Effect) → IsNumber v → Keeps e → IfOk (assignment_at scope o v e) Keeps
  assign_keeps None v e n keeps = keeps
  assign_keeps (Some offset) v e n keeps = assigned_keeps (slice_get scope.variables offset) offset v e n keeps

  -- what is made of the collection at an offset, where that is kept
  put_made_keeps : (offset : ℕ) (held : Collection) (made : Option (Result Collection Fault)) (e : Effect) →
      slice_get e.state.variables offset ≡ Some (datum.Held held) → (IsKept held → MadeOf IsKept made) → Keeps e →
      IfOk (with_made offset e made) Keeps
  put_made_keeps offset held made e content stays keeps =
      made_keeps Keeps e keeps IsKept offset made (stays (get_all is_kept e.state.variables offset (datum.Held held) keeps.state content))
      (λ c kept. put_keeps e offset (datum.Held c) kept keeps)

  change_keeps : (c : Change) (o : Option ℕ) (n : ℤ) (e : Effect) → is_number n ≡ true → Keeps e → IfOk (changing_at scope c o n e) Keeps
  change_keeps c o n e number keeps =
      changing_at_keeps Keeps e keeps scope c o n (λ offset most held room content.
      put_made_keeps offset held (changed c most n held) e content (λ kept. changed_kept held kept c most n number) keeps)

  pop_keeps : (o : Option ℕ) (e : Effect) → Keeps e → IfOk (popping_at o e) Keeps
  pop_keeps o e keeps =
      popping_at_keeps Keeps e keeps o (λ offset held content.
      put_made_keeps offset held (popped held) e content (λ kept. popped_kept held kept) keeps)

  sent_keeps : (o : Option ℕ) (n : ℤ) (e : Effect) → is_number n ≡ true → Keeps e → Keeps (with_value_at o n e)
  sent_keeps None n e number keeps = keeps
  sent_keeps (Some port) n e number keeps = record {
    state = keeps.state;
    sent = set_all is_of_numbers e.sent port (with_copies n 1 (bag_at e.sent port)) keeps.sent
        (numbers_with n 1 (bag_at e.sent port) number (bag_here e.sent port keeps.sent));
  }

  goes_keeps : (o : Option ℕ) (e : Effect) → Keeps e → Keeps (with_goto o e)
  goes_keeps None e keeps = keeps
  goes_keeps (Some phase) e keeps = record { state = keeps.state; sent = keeps.sent }

  command_keeps : (c : Command) (name : ℕ) (e : Effect) → Keeps e → IfOk (command_effect scope c name e) Keeps
  command_keeps command.Goto name e keeps = goes_keeps (index_of name scope.phases) e keeps
  command_keeps command.Pop name e keeps = pop_keeps (index_of name (names_of scope.variables)) e keeps

  -- what has arrived and loops go through
  record Knows (context : Context) : Type 0 where
    received : are_of_numbers context.arrivals.received ≡ true
    few : are_few context.arrivals.received ≡ true
    loops : list_all (λ (l : ℕ × ℤ). is_number l.1) context.loops ≡ true

  knows_at : (context : Context) (e : Effect) → Knows context → Keeps e → KnowsNumbers (moment_in context e.state)
  knows_at context e knows keeps = record { state = keeps.state; received = knows.received; few = knows.few; loops = knows.loops }

  within : (context : Context) (e : Effect) (x : Expression) → IsTrue (names_numbers x) → Knows context → Keeps e →
      IfOk (value_within scope context e x) IsNumber
  within context e x small knows keeps = meaning_number scope (moment_in context e.state) x small (knows_at context e knows keeps)

  -- the values of a bag, and of a collection
  copies_numbers : (n : ℕ) (v : ℤ) (rest : List ℤ) → is_number v ≡ true → list_all is_number rest ≡ true →
      list_all is_number (replicate n v ++ rest) ≡ true
  copies_numbers zero v rest h k = k
  copies_numbers (suc n) v rest h k = both_true (is_number v) (list_all is_number (replicate n v ++ rest)) h (copies_numbers n v rest h k)

  values_numbers : (b : Counts) → is_of_numbers b ≡ true → list_all is_number (values_of b) ≡ true
  values_numbers [] h = refl
  values_numbers (p ∷ ps) h =
      let parts = and_parts (is_number p.0) (is_of_numbers ps) h in
      copies_numbers p.1 p.0 (values_of ps) parts.0 (values_numbers ps parts.1)

  held_values : (c : Collection) → has_numbers c ≡ true → list_all is_number (values_in c) ≡ true
  held_values (collection.Bag b) h = values_numbers b h
  held_values (collection.Queue q) h = h

  repeats : (step : ℤ → Effect → Result Effect Fault) (ns : List ℤ) (e : Effect) → list_all is_number ns ≡ true →
      ((n : ℤ) (now : Effect) → is_number n ≡ true → Keeps now → IfOk (step n now) Keeps) → Keeps e → IfOk (repetition step ns e) Keeps
  repeats step [] e all one keeps = keeps
  repeats step (n ∷ ns) e all one keeps =
      let parts = and_parts (is_number n) (list_all is_number ns) all in
      if_ok_then (step n e) (repetition step ns) Keeps Keeps (one n e parts.0 keeps) (λ now. repeats step ns now parts.1 one)

  -- a value, a step with it, and what follows
  after_step : (x : Result Value Fault) (step : Value → Result Effect Fault) (rest : Effect → Result Effect Fault) → IfOk x IsNumber →
      ((v : Value) → IsNumber v → IfOk (step v) Keeps) → ((now : Effect) → Keeps now → IfOk (rest now) Keeps) →
      IfOk (x >>= λ v. step v >>= rest) Keeps
  after_step x step rest number first later =
      if_ok_then x (λ v. step v >>= rest) IsNumber Keeps number (λ v n. if_ok_then (step v) rest Keeps Keeps (first v n) later)

  run_keeps : (context : Context) (body : Statements) (e : Effect) → IsTrue (name_numbers body) → Knows context → Keeps e →
      IfOk (run scope context body e) Keeps
  run_keeps context Done e small knows keeps = keeps
  run_keeps context (Assign variable x rest) e small knows keeps =
      let parts = and_parts (names_numbers x) (name_numbers rest) small in
      after_step (value_within scope context e x) (λ v. assignment scope variable.number v e) (run scope context rest)
      (within context e x parts.0 knows keeps) (λ v n. assign_keeps (index_of variable.number (names_of scope.variables)) v e n keeps)
      (λ now k. run_keeps context rest now parts.1 knows k)
  run_keeps context (Does c offset name rest) e small knows keeps =
      if_ok_then (command_effect scope c name.number e) (run scope context rest) Keeps Keeps (command_keeps c name.number e keeps)
      (λ now k. run_keeps context rest now small knows k)
  run_keeps context (Send offset port x rest) e small knows keeps =
      let parts = and_parts (names_numbers x) (name_numbers rest) small in
      after_step (value_within scope context e x) (λ v. sending scope port.number v e) (run scope context rest)
      (within context e x parts.0 knows keeps)
      (λ v n. if_ok_branch (nat_le greatest_count (total_of_all e.sent)) (Err fault.Flood)
      (Ok (with_value_at (index_of port.number scope.outputs) (number_of v) e)) Keeps tt
      (sent_keeps (index_of port.number scope.outputs) (number_of v) e n keeps))
      (λ now k. run_keeps context rest now parts.1 knows k)
  run_keeps context (If offset condition block rest) e small knows keeps =
      let first = and_parts (names_numbers condition) (name_numbers block && name_numbers rest) small in
      let parts = and_parts (name_numbers block) (name_numbers rest) first.1 in
      let one = run scope context block e in
      let taken = run_keeps context block e parts.0 knows keeps in
      after_step (value_within scope context e condition) (λ v. cond (truth_of v) one (Ok e)) (run scope context rest)
      (within context e condition first.0 knows keeps) (λ v n. if_ok_branch (truth_of v) one (Ok e) Keeps taken keeps)
      (λ now k. run_keeps context rest now parts.1 knows k)
  run_keeps context (IfElse offset condition block other rest) e small knows keeps =
      let first = and_parts (names_numbers condition) (name_numbers block && (name_numbers other && name_numbers rest)) small in
      let parts = and_parts (name_numbers block) (name_numbers other && name_numbers rest) first.1 in
      let others = and_parts (name_numbers other) (name_numbers rest) parts.1 in
      let one = run scope context block e in
      let two = run scope context other e in
      let taken = run_keeps context block e parts.0 knows keeps in
      let taken_else = run_keeps context other e others.0 knows keeps in
      after_step (value_within scope context e condition) (λ v. cond (truth_of v) one two) (run scope context rest)
      (within context e condition first.0 knows keeps) (λ v n. if_ok_branch (truth_of v) one two Keeps taken taken_else)
      (λ now k. run_keeps context rest now others.1 knows k)
  run_keeps context (For offset v b block rest) e small knows keeps =
      let parts = and_parts (name_numbers block) (name_numbers rest) small in
      let c = collection_of_name scope (moment_in context e.state) b.number in
      let few = collection_named scope (moment_in context e.state) b.number (knows_at context e knows keeps) in
      let step = λ (n : ℤ). run scope (in_loop (v.number, n) context) block in
      let each = λ (n : ℤ) (now : Effect) (number : is_number n ≡ true) (k : Keeps now).
      run_keeps (in_loop (v.number, n) context) block now parts.0
      (record {
        received = knows.received;
        few = knows.few;
        loops = both_true (is_number n) (list_all (λ (l : ℕ × ℤ). is_number l.1) context.loops) number knows.loops;
      }) k in
      if_ok_then (repetition step (values_in c) e) (run scope context rest) Keeps Keeps
      (repeats step (values_in c) e (held_values c few.numbers) each keeps) (λ now k. run_keeps context rest now parts.1 knows k)
  run_keeps context (Changes c offset x target rest) e small knows keeps =
      let parts = and_parts (names_numbers x) (name_numbers rest) small in
      after_step (value_within scope context e x) (λ v. changing scope c target.number (number_of v) e) (run scope context rest)
      (within context e x parts.0 knows keeps)
      (λ v n. change_keeps c (index_of target.number (names_of scope.variables)) (number_of v) e n keeps)
      (λ now k. run_keeps context rest now parts.1 knows k)

  none_numbers : (n : ℕ) → are_of_numbers (replicate n []) ≡ true
  none_numbers zero = refl
  none_numbers (suc n) = none_numbers n

  pub effect_keeps : (body : Statements) (arrivals : Arrivals) (s : State) → IsTrue (name_numbers body) →
      IsTrue (are_of_numbers arrivals.received) →
      IsTrue (are_few arrivals.received) → IsTrue (are_kept s.variables) → IfOk (effect_of scope body arrivals s) Keeps
  effect_keeps body arrivals s small numbers few kept =
      run_keeps (outermost arrivals) body (record { state = s; sent = replicate (length scope.outputs) []; goto = None }) small
      (record { received = numbers; few = few; loops = refl }) (record { state = kept; sent = none_numbers (length scope.outputs) })

weaker : {A : Type 0} (P Q : A → Type 0) (r : Result A Fault) → IfOk r P → ((x : A) → P x → Q x) → IfOk r Q
weaker P Q (Ok x) h k = k x h
weaker P Q (Err f) h k = tt

pub effect_kept : (scope : Scope) (body : Statements) (arrivals : Arrivals) (s : State) → IsTrue (name_numbers body) →
    IsTrue (are_of_numbers arrivals.received) → IsTrue (are_few arrivals.received) → IsTrue (are_kept s.variables) →
    IfOk (effect_of scope body arrivals s) (λ (e : Effect). IsTrue (are_kept e.state.variables))
effect_kept scope body arrivals s small numbers few kept =
    weaker Keeps (λ (e : Effect). IsTrue (are_kept e.state.variables)) (effect_of scope body arrivals s)
    (effect_keeps scope body arrivals s small numbers few kept) (λ e keeps. keeps.state)

pub effect_sends : (scope : Scope) (body : Statements) (arrivals : Arrivals) (s : State) → IsTrue (name_numbers body) →
    IsTrue (are_of_numbers arrivals.received) → IsTrue (are_few arrivals.received) → IsTrue (are_kept s.variables) →
    IfOk (effect_of scope body arrivals s) (λ (e : Effect). IsTrue (are_of_numbers e.sent))
effect_sends scope body arrivals s small numbers few kept =
    weaker Keeps (λ (e : Effect). IsTrue (are_of_numbers e.sent)) (effect_of scope body arrivals s)
    (effect_keeps scope body arrivals s small numbers few kept) (λ e keeps. keeps.sent)
