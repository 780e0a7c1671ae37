-- A run of generated code that is not stuck does what its tree means.
use Rattle.std.proofs.Common.{◌≡◌, ℕ, suc, ◌+◌, ℤ, true, false, cond, List, [], ◌∷◌, Option, Some, None, Result, Ok, Err, refl, ap, ◌∙◌}
use Rattle.std.specs.Prelude.{slice_get, ◌≢◌}
use Rattle.dv_bag.specs.Arrivals.{Arrivals}
use Rattle.dv_bag.specs.Collections.{values_in as values_held}
use Rattle.dv_bag.specs.Outcome.{◌>>=◌}
use Rattle.dv_bag.specs.declared.collection.Collection.{Collection}
use Rattle.dv_bag.specs.declared.fault.Fault.{Fault}
use Rattle.dv_bag.specs.declared.state.State.{State}
use Rattle.dv_bag.specs.declared.state.Effect.{Effect}
use Rattle.dv_bag.specs.declared.value.Value.{Value}
use Rattle.dv_bag.specs.declared.value.Value.TheVariants.{Number, Truth}
use Rattle.dv_bag.specs.declared.value.ValueType.{ValueType}
use Rattle.dv_code.specs.Shape.{Fits, Shape}
use Rattle.dv_code.specs.Operations.{action_effect, binary_value, collection_of, deed_effect, leaf_value, unary_value}
use Rattle.dv_code.specs.Machine.{Turn, Configuration, Outcome, Goes, Faulted, Stuck, acted, and_then, begins, first_effect}
use Rattle.dv_code.specs.Machine.{items_of, opened, performed, pushed, run, step, turns_to}
use Rattle.dv_code.specs.Valid.{Body}
use Rattle.dv_code.specs.declared.instruction.Source.{Source}
use Rattle.dv_code.specs.declared.instruction.Instruction.{Instruction}
use Rattle.dv_code.specs.declared.instruction.Instruction.TheVariants as code
use Rattle.dv_code.proofs.Endings.{never_stuck}
use Rattle.dv_gen.specs.Resolved.{Expression, Read, Prefix, Infix, And, Or, Statements, Done, Act, Obey, When, If, For, AreTyped}
use Rattle.dv_gen.specs.Resolved.{IsTyped, effect_from, for_each, or_same, or_zero, rule_effect, truth_of, type_of, value_of}
use Rattle.dv_gen.specs.Resolved.{values_in}
use Rattle.dv_gen.specs.Generator.{ending, hold_ending, past, past_all}
use Rattle.dv_gen.proofs.Marks.{MarkedInstruction, body_at, instruction_at, instructions}
use Rattle.dv_gen.proofs.Indices.{HasCode, HasCodeOfAll, IsAt, hold_program_stands, marked_hold_program_of, marked_program_of}
use Rattle.dv_gen.proofs.Indices.{program_stands}
use Rattle.dv_gen.proofs.Validity.{hold_valid, rule_valid}

-- the machine at an address
abbrev at : ℕ → List Value → List Turn → Effect → Configuration
at p stack loops e = record { address = p; stack = stack; loops = loops; effect = e }

-- a loop at a value, with those still to come
abbrev turn : ℤ → List ℤ → Turn
turn n rest = record { item = n; rest = rest }

module _ (shape : Shape) (arrivals : Arrivals) (program : List MarkedInstruction) where
  abbrev runs : ℕ → Configuration → Outcome
  runs = run shape (instructions program) arrivals

  abbrev steps : Configuration → Outcome
  steps = step shape (instructions program) arrivals

  -- the machine comes from one configuration to another
  record Reaches (c d : Configuration) : Type 0 where
    by : (k : ℕ) → (j : ℕ) × (runs j c ≡ runs k d)

  -- no run from here is stuck
  abbrev IsFree : Configuration → Type 0
  IsFree c = (n : ℕ) → runs n c ≢ Stuck

  -- the machine comes to the configuration of what is meant, or to its fault
  abbrev ReachesMeant : {A : Type 0} → Configuration → Result A Fault → (A → Configuration) → Type 0
  ReachesMeant c (Ok x) to = Reaches c (to x)
  ReachesMeant c (Err f) to = (j : ℕ) × (runs j c ≡ Faulted f)

  -- a configuration reaches itself, and that of its step
  stays : (c : Configuration) → Reaches c c
  stays c = record { by = λ k. (k, refl) }

  goes_to : (c d : Configuration) → steps c ≡ Goes d → Reaches c d
  goes_to c d e = record { by = λ k. (suc k, ap (λ o. and_then o (runs k)) e) }

  -- what a free configuration reaches is free, and its step is not stuck
  stays_free : (c d : Configuration) → Reaches c d → IsFree c → IsFree d
  stays_free c d l free n e = let a = l.by n in free a.0 (a.1 ∙ e)

  free_not_stuck : {A : Type 0} (c : Configuration) → IsFree c → steps c ≡ Stuck → A
  free_not_stuck c free e = absurd (free 1 (ap (λ o. and_then o (runs 0)) e))

  -- a fault of a step is that of the run
  faults : (c : Configuration) (f : Fault) → steps c ≡ Faulted f → (j : ℕ) × (runs j c ≡ Faulted f)
  faults c f e = (1, ap (λ o. and_then o (runs 0)) e)

  -- what is meant is reached through what is reached
  reaches_through : {A : Type 0} (c d : Configuration) (r : Result A Fault) (to : A → Configuration) → Reaches c d → ReachesMeant d r to
      → ReachesMeant c r to
  reaches_through c d (Ok x) to l m = record { by = λ k. let b = m.by k in let a = l.by b.0 in (a.0, a.1 ∙ b.1) }
  reaches_through c d (Err f) to l m = let a = l.by m.0 in (a.0, a.1 ∙ m.1)

  -- and through a step
  step_on : {A : Type 0} (c d : Configuration) (r : Result A Fault) (to : A → Configuration) → steps c ≡ Goes d → IsFree c
      → (IsFree d → ReachesMeant d r to) → ReachesMeant c r to
  step_on c d r to e free next = let l = goes_to c d e in reaches_through c d r to l (next (stays_free c d l free))

  -- first the one, then the other
  in_sequence : {A B : Type 0} (c : Configuration) (r : Result A Fault) (f : A → Result B Fault) (mid : A → Configuration)
      (to : B → Configuration) → IsFree c → ReachesMeant c r mid
      → ((x : A) → IsFree (mid x) → ReachesMeant (mid x) (f x) to) → ReachesMeant c (r >>= f) to
  in_sequence c (Ok x) f mid to free l next = reaches_through c (mid x) (f x) to l (next x (stays_free c (mid x) l free))
  in_sequence c (Err e) f mid to free l next = l

  -- an instruction stands at an address
  abbrev Stands : ℕ → Instruction → Type 0
  Stands p i = slice_get (instructions program) p ≡ Some i

  stands : (p : ℕ) (i : Instruction) (types : List ValueType) (nest : List Body) → IsAt program p i types nest → Stands p i
  stands p i types nest h = instruction_at program p _ h

  -- the step there is that of the instruction
  step_at : (c : Configuration) (i : Instruction) → Stands c.address i → steps c ≡ performed shape arrivals c (Some i)
  step_at c i h = ap (performed shape arrivals c) h

  -- a value more, or a fault
  pushes : (c : Configuration) (stack : List Value) (o : Option (Result Value Fault)) → IsFree c → steps c ≡ pushed c stack o
      → ReachesMeant c (or_zero o) (λ v. at (c.address + 1) (v ∷ stack) c.loops c.effect)
  pushes c stack None free e = free_not_stuck c free e
  pushes c stack (Some (Ok v)) free e = goes_to c _ e
  pushes c stack (Some (Err f)) free e = faults c f e

  -- another effect, or a fault
  acts : (c : Configuration) (stack : List Value) (o : Option (Result Effect Fault)) → IsFree c → steps c ≡ acted c stack o
      → ReachesMeant c (or_same c.effect o) (λ e. at (c.address + 1) stack c.loops e)
  acts c stack None free e = free_not_stuck c free e
  acts c stack (Some (Ok v)) free e = goes_to c _ e
  acts c stack (Some (Err f)) free e = faults c f e

  -- where the first operand of `and` is false it stays, else the second decides
  keeps_false : (q to : ℕ) (x : Value) (stack : List Value) (loops : List Turn) (e : Effect) (second : Result Value Fault)
      → Stands q (code.FalseKeep to) → IsFree (at q (x ∷ stack) loops e)
      → (IsFree (at (q + 1) stack loops e) → ReachesMeant (at (q + 1) stack loops e) second (λ v. at to (v ∷ stack) loops e))
      → ReachesMeant (at q (x ∷ stack) loops e) (cond (truth_of x) second (Ok x)) (λ v. at to (v ∷ stack) loops e)
  keeps_false q to (Number n) stack loops e second h free next =
      let c = at q (Number n ∷ stack) loops e in free_not_stuck c free (step_at c (code.FalseKeep to) h)
  keeps_false q to (Truth true) stack loops e second h free next =
      let c = at q (Truth true ∷ stack) loops e in
      step_on c (at (q + 1) stack loops e) second _ (step_at c (code.FalseKeep to) h) free next
  keeps_false q to (Truth false) stack loops e second h free next =
      let c = at q (Truth false ∷ stack) loops e in goes_to c _ (step_at c (code.FalseKeep to) h)

  -- where the first operand of `or` is true it stays, else the second decides
  keeps_true : (q to : ℕ) (x : Value) (stack : List Value) (loops : List Turn) (e : Effect) (second : Result Value Fault)
      → Stands q (code.TrueKeep to) → IsFree (at q (x ∷ stack) loops e)
      → (IsFree (at (q + 1) stack loops e) → ReachesMeant (at (q + 1) stack loops e) second (λ v. at to (v ∷ stack) loops e))
      → ReachesMeant (at q (x ∷ stack) loops e) (cond (truth_of x) (Ok x) second) (λ v. at to (v ∷ stack) loops e)
  keeps_true q to (Number n) stack loops e second h free next =
      let c = at q (Number n ∷ stack) loops e in free_not_stuck c free (step_at c (code.TrueKeep to) h)
  keeps_true q to (Truth false) stack loops e second h free next =
      let c = at q (Truth false ∷ stack) loops e in
      step_on c (at (q + 1) stack loops e) second _ (step_at c (code.TrueKeep to) h) free next
  keeps_true q to (Truth true) stack loops e second h free next =
      let c = at q (Truth true ∷ stack) loops e in goes_to c _ (step_at c (code.TrueKeep to) h)

  -- the value of a condition decides where the machine goes on
  chooses : (q unmet_at : ℕ) (x : Value) (loops : List Turn) (e : Effect) (met unmet : Result Effect Fault) (to : Effect → Configuration)
      → Stands q (code.JumpFalse unmet_at) → IsFree (at q (x ∷ []) loops e)
      → (IsFree (at (q + 1) [] loops e) → ReachesMeant (at (q + 1) [] loops e) met to)
      → (IsFree (at unmet_at [] loops e) → ReachesMeant (at unmet_at [] loops e) unmet to)
      → ReachesMeant (at q (x ∷ []) loops e) (cond (truth_of x) met unmet) to
  chooses q unmet_at (Number n) loops e met unmet to h free a b =
      let c = at q (Number n ∷ []) loops e in free_not_stuck c free (step_at c (code.JumpFalse unmet_at) h)
  chooses q unmet_at (Truth true) loops e met unmet to h free a b =
      let c = at q (Truth true ∷ []) loops e in
      step_on c (at (q + 1) [] loops e) met to (step_at c (code.JumpFalse unmet_at) h) free a
  chooses q unmet_at (Truth false) loops e met unmet to h free a b =
      let c = at q (Truth false ∷ []) loops e in
      step_on c (at unmet_at [] loops e) unmet to (step_at c (code.JumpFalse unmet_at) h) free b

  -- behind a block a jump leads on
  jumps : (c : Configuration) (r : Result Effect Fault) (q to : ℕ) (loops : List Turn) → Stands q (code.Jump to)
      → ReachesMeant c r (λ e. at q [] loops e) → ReachesMeant c r (λ e. at to [] loops e)
  jumps c (Ok e) q to loops h l =
      let d = at q [] loops e in reaches_through c d (Ok e) (λ e. at to [] loops e) l (goes_to d _ (step_at d (code.Jump to) h))
  jumps c (Err f) q to loops h l = l

  -- the turns of an open loop do what its body means for each value
  turns : (first next : ℕ) (loops : List Turn) (body : ℤ → Effect → Result Effect Fault) → Stands next (code.Next first)
      → ((n : ℤ) (rest : List ℤ) (e : Effect) → IsFree (at first [] (turn n rest ∷ loops) e)
      → ReachesMeant (at first [] (turn n rest ∷ loops) e) (body n e) (λ x. at next [] (turn n rest ∷ loops) x))
      → (rest : List ℤ) (n : ℤ) (e : Effect) → IsFree (at first [] (turn n rest ∷ loops) e)
      → ReachesMeant (at first [] (turn n rest ∷ loops) e) (body n e >>= for_each body rest) (λ x. at (next + 1) [] loops x)
  turns first next loops body h each [] n e free =
      in_sequence (at first [] (turn n [] ∷ loops) e) (body n e) _ _ _ free (each n [] e free)
      (λ x free_x. let c = at next [] (turn n [] ∷ loops) x in goes_to c _ (step_at c (code.Next first) h))
  turns first next loops body h each (v ∷ rest) n e free =
      in_sequence (at first [] (turn n (v ∷ rest) ∷ loops) e) (body n e) _ _ _ free (each n (v ∷ rest) e free)
      (λ x free_x.
      let c = at next [] (turn n (v ∷ rest) ∷ loops) x in
      let d = at first [] (turn v rest ∷ loops) x in
      step_on c d (body v x >>= for_each body rest) _ (step_at c (code.Next first) h) free_x
      (turns first next loops body h each rest v x))

  -- so does a loop, over the values of its collection
  loop : (p past : ℕ) (s : Source) (loops : List Turn) (e : Effect) (body : ℤ → Effect → Result Effect Fault)
      → Stands p (code.Loop s past)
      → ((n : ℤ) (rest : List ℤ) → IsFree (at (p + 1) [] (turn n rest ∷ loops) e)
      → ReachesMeant (at (p + 1) [] (turn n rest ∷ loops) e) (body n e >>= for_each body rest) (λ x. at past [] loops x))
      → IsFree (at p [] loops e)
      → ReachesMeant (at p [] loops e) (for_each body (values_in (collection_of arrivals e.state s)) e) (λ x. at past [] loops x)
  loop p past s loops e body h begun free =
      over_collection (collection_of arrivals e.state s) (step_at (at p [] loops e) (code.Loop s past) h)
    where
      over : (vs : List ℤ) → steps (at p [] loops e) ≡ turns_to (p + 1) past loops (at p [] loops e) vs
          → ReachesMeant (at p [] loops e) (for_each body vs e) (λ x. at past [] loops x)
      over [] is = goes_to (at p [] loops e) _ is
      over (n ∷ rest) is =
          step_on (at p [] loops e) (at (p + 1) [] (turn n rest ∷ loops) e) (body n e >>= for_each body rest) _ is free (begun n rest)

      over_collection : (o : Option Collection) → steps (at p [] loops e) ≡ opened past (at p [] loops e) o
          → ReachesMeant (at p [] loops e) (for_each body (values_in o) e) (λ x. at past [] loops x)
      over_collection None is = free_not_stuck (at p [] loops e) free is
      over_collection (Some held) is = over (values_held held) is

  -- the code of an expression leaves its value
  leaves_value : (a : Expression) (p : ℕ) (types : List ValueType) (nest : List Body) (stack : List Value) (loops : List Turn) (e : Effect)
      → HasCode program p types nest a → IsFree (at p stack loops e)
      → ReachesMeant (at p stack loops e) (value_of arrivals (items_of loops) e.state a) (λ v. at (past p a) (v ∷ stack) loops e)
  leaves_value (Read l) p types nest stack loops e h free =
      let c = at p stack loops e in
      pushes c stack (leaf_value arrivals (items_of loops) e.state l) free (step_at c (code.Push l) (stands p _ _ nest h))
  leaves_value (Prefix u a) p types nest stack loops e h free =
      let q = past p a in
      in_sequence (at p stack loops e) (value_of arrivals (items_of loops) e.state a) _ _ _ free
      (leaves_value a p types nest stack loops e h.0 free)
      (λ v free_v.
      let c = at q (v ∷ stack) loops e in
      pushes c stack (unary_value arrivals e.state u v) free_v (step_at c (code.Apply u) (stands q _ _ nest h.1)))
  leaves_value (Infix o a b) p types nest stack loops e h free =
      let q = past p a in
      let r = past q b in
      in_sequence (at p stack loops e) (value_of arrivals (items_of loops) e.state a) _ _ _ free
      (leaves_value a p types nest stack loops e h.0 free)
      (λ x free_x. in_sequence (at q (x ∷ stack) loops e) (value_of arrivals (items_of loops) e.state b) _ _ _ free_x
      (leaves_value b q (type_of a ∷ types) nest (x ∷ stack) loops e h.1 free_x)
      (λ y free_y.
      let c = at r (y ∷ x ∷ stack) loops e in
      pushes c stack (binary_value o x y) free_y (step_at c (code.Combine o) (stands r _ _ nest h.2))))
  leaves_value (And a b) p types nest stack loops e h free =
      let q = past p a in
      in_sequence (at p stack loops e) (value_of arrivals (items_of loops) e.state a) _ _ _ free
      (leaves_value a p types nest stack loops e h.0 free)
      (λ x free_x. keeps_false q (past (q + 1) b) x stack loops e (value_of arrivals (items_of loops) e.state b)
      (stands q _ _ nest h.1) free_x (leaves_value b (q + 1) types nest stack loops e h.2))
  leaves_value (Or a b) p types nest stack loops e h free =
      let q = past p a in
      in_sequence (at p stack loops e) (value_of arrivals (items_of loops) e.state a) _ _ _ free
      (leaves_value a p types nest stack loops e h.0 free)
      (λ x free_x. keeps_true q (past (q + 1) b) x stack loops e (value_of arrivals (items_of loops) e.state b)
      (stands q _ _ nest h.1) free_x (leaves_value b (q + 1) types nest stack loops e h.2))

  -- the code of statements has their effect
  has_effect : (block : Statements) (p : ℕ) (nest : List Body) (loops : List Turn) (e : Effect) → HasCodeOfAll program p nest block
      → IsFree (at p [] loops e)
      → ReachesMeant (at p [] loops e) (effect_from shape arrivals (items_of loops) block e) (λ x. at (past_all p block) [] loops x)
  has_effect Done p nest loops e h free = stays (at p [] loops e)
  has_effect (Act a value rest) p nest loops e h free =
      let q = past p value in
      in_sequence (at p [] loops e) (value_of arrivals (items_of loops) e.state value) _ _ _ free
      (leaves_value value p [] nest [] loops e h.0 free)
      (λ v free_v.
      let c = at q (v ∷ []) loops e in
      let o = action_effect shape a v e in
      in_sequence c (or_same e o) _ _ _ free_v (acts c [] o free_v (step_at c (code.Perform a) (stands q _ _ nest h.1)))
      (λ x free_x. has_effect rest (q + 1) nest loops x h.2 free_x))
  has_effect (Obey d rest) p nest loops e h free =
      let c = at p [] loops e in
      let o = deed_effect d e in
      in_sequence c (or_same e o) _ _ _ free (acts c [] o free (step_at c (code.Do d) (stands p _ _ nest h.0)))
      (λ x free_x. has_effect rest (p + 1) nest loops x h.1 free_x)
  has_effect (When condition block rest) p nest loops e h free =
      let q = past p condition in
      let end_at = past_all (q + 1) block in
      let met = effect_from shape arrivals (items_of loops) block e in
      let to : Effect → Configuration = λ x. at end_at [] loops x in
      in_sequence (at p [] loops e) (value_of arrivals (items_of loops) e.state condition) _ _ _ free
      (leaves_value condition p [] nest [] loops e h.0 free)
      (λ v free_v.
      in_sequence (at q (v ∷ []) loops e) (cond (truth_of v) met (Ok e)) _ to _ free_v
      (chooses q end_at v loops e met (Ok e) to (stands q _ _ nest h.1) free_v
      (has_effect block (q + 1) nest loops e h.2)
      (λ free_end. stays (to e)))
      (λ x free_x. has_effect rest end_at nest loops x h.3 free_x))
  has_effect (If condition block other rest) p nest loops e h free =
      let q = past p condition in
      let then_end = past_all (q + 1) block in
      let end_at = past_all (then_end + 1) other in
      let met = effect_from shape arrivals (items_of loops) block e in
      let unmet = effect_from shape arrivals (items_of loops) other e in
      let to : Effect → Configuration = λ x. at end_at [] loops x in
      in_sequence (at p [] loops e) (value_of arrivals (items_of loops) e.state condition) _ _ _ free
      (leaves_value condition p [] nest [] loops e h.0 free)
      (λ v free_v.
      in_sequence (at q (v ∷ []) loops e) (cond (truth_of v) met unmet) _ to _ free_v
      (chooses q (then_end + 1) v loops e met unmet to (stands q _ _ nest h.1) free_v
      (λ free_then.
      jumps (at (q + 1) [] loops e) met then_end end_at loops (stands then_end _ _ nest h.3)
      (has_effect block (q + 1) nest loops e h.2 free_then))
      (has_effect other (then_end + 1) nest loops e h.4))
      (λ x free_x. has_effect rest end_at nest loops x h.5 free_x))
  has_effect (For s block rest) p nest loops e h free =
      let next = past_all (p + 1) block in
      let inner = body_at p block ∷ nest in
      let body : ℤ → Effect → Result Effect Fault = λ n. effect_from shape arrivals (n ∷ items_of loops) block in
      in_sequence (at p [] loops e) (for_each body (values_in (collection_of arrivals e.state s)) e) _ _ _ free
      (loop p (next + 1) s loops e body (stands p _ _ nest h.0)
      (λ n vs free_n.
      turns (p + 1) next loops body (stands next _ _ inner h.2)
      (λ m ms x free_x. has_effect block (p + 1) inner (turn m ms ∷ loops) x h.1 free_x) vs n e free_n)
      free)
      (λ x free_x. has_effect rest (next + 1) nest loops x h.3 free_x)

  -- at the end of a program
  rule_ends : (c : Configuration) (q : ℕ) (r : Result Effect Fault) → Stands q code.End → ReachesMeant c r (λ e. at q [] [] e)
      → (n : ℕ) × (runs n c ≡ ending r)
  rule_ends c q (Ok e) h l = let a = l.by 1 in (a.0, a.1 ∙ ap (λ o. and_then o (runs 0)) (step_at (at q [] [] e) code.End h))
  rule_ends c q (Err f) h l = l

  hold_ends : (c : Configuration) (e : Effect) (q : ℕ) (r : Result Value Fault) → Stands q code.End
      → ReachesMeant c r (λ v. at q (v ∷ []) [] e) → (n : ℕ) × (runs n c ≡ hold_ending e r)
  hold_ends c e q (Ok v) h l =
      let a = l.by 1 in (a.0, a.1 ∙ ap (λ o. and_then o (runs 0)) (step_at (at q (v ∷ []) [] e) code.End h))
  hold_ends c e q (Err f) h l = l

module _ (shape : Shape) (arrivals : Arrivals) (s : State) (fits : Fits shape.slots s.variables) where
  pub rule_means : (depth : ℕ) (body : Statements) → AreTyped shape depth 0 body
      → (n : ℕ) × (run shape (instructions (marked_program_of body)) arrivals n (begins shape s)
      ≡ ending (rule_effect shape arrivals body s))
  rule_means depth body typed =
      let program = marked_program_of body in
      let h = program_stands body in
      let free = never_stuck shape arrivals [] depth (instructions program) (rule_valid shape depth body typed) s fits in
      rule_ends shape arrivals program (begins shape s) (past_all 0 body) (rule_effect shape arrivals body s)
      (stands shape arrivals program (past_all 0 body) _ [] [] h.1.0)
      (has_effect shape arrivals program body 0 [] [] (first_effect shape s) h.0 free)

  pub hold_means : (e : Expression) → IsTyped shape 0 e
      → (n : ℕ) × (run shape (instructions (marked_hold_program_of e)) arrivals n (begins shape s)
      ≡ hold_ending (first_effect shape s) (value_of arrivals [] s e))
  hold_means e typed =
      let program = marked_hold_program_of e in
      let h = hold_program_stands e in
      let free = never_stuck shape arrivals (type_of e ∷ []) 0 (instructions program) (hold_valid shape e typed) s fits in
      hold_ends shape arrivals program (begins shape s) (first_effect shape s) (past 0 e) (value_of arrivals [] s e)
      (stands shape arrivals program (past 0 e) _ (type_of e ∷ []) [] h.1.0)
      (leaves_value shape arrivals program e 0 [] [] [] [] (first_effect shape s) h.0 free)
