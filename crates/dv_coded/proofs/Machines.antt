-- What the machine gives, as what programs give.
use Rattle.std.proofs.Common.{◌≡◌, ℕ, ℤ, ◌≤◌, List, [], None, Result, Ok, Err, IfOk, IfErr, ap, sym, ◌∙◌, subst, arith}
use Rattle.dv_bag.specs.Arrivals.{AreFew, Arrivals, nothing_arrived}
use Rattle.dv_bag.specs.Bag.{Counts}
use Rattle.dv_bag.specs.Outcome.{◌>>=◌, Fails, Gives}
use Rattle.dv_bag.specs.declared.fault.Fault.{Fault}
use Rattle.dv_bag.specs.declared.fault.RuleError.{RuleError}
use Rattle.dv_bag.specs.declared.fault.RuleError.TheVariants as error
use Rattle.dv_bag.specs.declared.state.State.{State}
use Rattle.dv_bag.specs.declared.state.Effect.{Effect}
use Rattle.dv_bag.specs.declared.value.ValueType.{ValueType}
use Rattle.dv_code.specs.Machine.{Outcome, Finished}
use Rattle.dv_code.specs.Outcomes.{effect_by, number_by}
use Rattle.dv_code.specs.Runs.{Ends, GivesEffect, GivesNumber, GivesSent}
use Rattle.dv_code.specs.Shape.{Fits}
use Rattle.dv_code.specs.Valid.{EndsWell, Program}
use Rattle.law_compiled.specs.Behaviours.{change_of as change_of_effect}
use Rattle.dv_coded.specs.Given.{output_by}

-- where nothing has arrived, no port is flooded
pub nothing-few : AreFew nothing_arrived.received
nothing-few port = omega arith

pub effect-given : (p : Program) (arrivals : Arrivals) (s : State) (n : ℕ) (r : Result Effect RuleError) →
    ((e : Effect) → GivesEffect p arrivals s n (Ok e) → effect_by p arrivals s ≡ Ok e) →
    ((f : Fault) → GivesEffect p arrivals s n (Err (error.Fault f)) → effect_by p arrivals s ≡ Err f) →
    GivesEffect p arrivals s n r → Gives r (effect_by p arrivals s)
effect-given p arrivals s n (Ok e) ok fault given = ok e given
effect-given p arrivals s n (Err (error.Fault f)) ok fault given = fault f given
effect-given p arrivals s n (Err error.Memory) ok fault given = tt

pub number-given : (p : Program) (arrivals : Arrivals) (s : State) (n : ℕ) (r : Result ℤ RuleError) →
    ((x : ℤ) → GivesNumber p arrivals s n (Ok x) → number_by p arrivals s ≡ Ok x) →
    ((f : Fault) → GivesNumber p arrivals s n (Err (error.Fault f)) → number_by p arrivals s ≡ Err f) →
    GivesNumber p arrivals s n r → Gives r (number_by p arrivals s)
number-given p arrivals s n (Ok x) ok fault given = ok x given
number-given p arrivals s n (Err (error.Fault f)) ok fault given = fault f given
number-given p arrivals s n (Err error.Memory) ok fault given = tt

-- what is sent at the end of an effect
sent-of : (r : Result Effect Fault) (e : Effect) (sent : List Counts) → r ≡ Ok e → sent ≡ e.sent → (r >>= λ x. Ok x.sent) ≡ Ok sent
sent-of r e sent there same =
    ap (λ (q : Result Effect Fault). q >>= λ x. Ok x.sent) there
    ∙ ap (λ (b : List Counts). let q : Result (List Counts) Fault = Ok b in q) (sym same)

pub sent-given : (p : Program) (s : State) (n : ℕ) (r : Result (List Counts) RuleError) →
    ((sent : List Counts) → GivesSent p nothing_arrived s n (Ok sent) →
    (e : Effect) × (effect_by p nothing_arrived s ≡ Ok e) × (sent ≡ e.sent)) →
    ((f : Fault) → GivesSent p nothing_arrived s n (Err (error.Fault f)) → effect_by p nothing_arrived s ≡ Err f) →
    GivesSent p nothing_arrived s n r → Gives r (output_by p s)
sent-given p s n (Ok sent) ok fault given =
    let there = ok sent given in sent-of (effect_by p nothing_arrived s) there.0 sent there.1 there.2
sent-given p s n (Err (error.Fault f)) ok fault given =
    ap (λ (q : Result Effect Fault). q >>= λ x. Ok x.sent) (fault f given)
sent-given p s n (Err error.Memory) ok fault given = tt

-- the state that is left fits
pub fits-given : (p : Program) (left : List ValueType) (arrivals : Arrivals) (s : State) (n most : ℕ) (r : Result Effect RuleError) →
    ((m n : ℕ) (one two : Outcome) → Ends p arrivals s m one → Ends p arrivals s n two → (m ≡ n) × (one ≡ two)) →
    ((n : ℕ) × (end : Outcome) × Ends p arrivals s n end × (n ≤ most) × EndsWell p.shape left end) →
    GivesEffect p arrivals s n r → IfOk r (λ (e : Effect). Fits p.shape.slots e.state.variables)
fits-given p left arrivals s n most (Ok e) one ends given =
    let same = (one ends.0 n ends.1 (Finished [] e) ends.2 given).1 in
    (subst (EndsWell p.shape left) same ends.4).1
fits-given p left arrivals s n most (Err f) one ends given = tt

-- what is given at once: what is sent, and a state that is left, or the fault
pub sent-at-once : (p : Program) (s : State) (r : Result (List Counts) RuleError) →
    IfOk r (λ (sent : List Counts). effect_by p nothing_arrived s ≡ Ok (record { state = s; sent = sent; goto = None })) →
    IfErr r (λ (e : RuleError). Fails e (effect_by p nothing_arrived s)) → Gives r (output_by p s)
sent-at-once p s (Ok sent) ok fault = ap (λ (q : Result Effect Fault). q >>= λ x. Ok x.sent) ok
sent-at-once p s (Err (error.Fault f)) ok fault = ap (λ (q : Result Effect Fault). q >>= λ x. Ok x.sent) fault
sent-at-once p s (Err error.Memory) ok fault = tt

pub change-fails : (e : RuleError) (r : Result Effect Fault) → Fails e r → Fails e (change_of_effect r)
change-fails (error.Fault f) r h = ap change_of_effect h
change-fails error.Memory r h = tt
