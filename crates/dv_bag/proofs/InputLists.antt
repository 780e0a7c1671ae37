-- Lists of inputs: what comes in at a time, and where its inputs stand.
use Rattle.std.proofs.Common.{◌≡◌, ℕ, zero, suc, ◌+◌, ◌-◌, ◌<◌, ◌≤◌, Bool, true, false, ◌&&◌, cond, nat_eq, nat_lt, List}
use Rattle.std.proofs.Common.{[], ◌∷◌, ◌++◌, length, get_or, set, drop, replicate, filter, ℤ, refl, sym, ap, ◌∙◌, subst, arith}
use Rattle.std.proofs.Common.{inl, inr}
use Rattle.std.specs.List.{count_by, prefix_len, take_while}
use Rattle.std.specs.Ordering.{int_eq}
use Rattle.std.proofs.lemmas.Bool.{cases_Bool, false≢true, eqb-true, eqb-false}
use Rattle.std.proofs.lemmas.Bool.Decides.{Decides-int_eq, nat_tests}
use Rattle.std.proofs.lemmas.List.{ext_get_or, get_or-replicate, get_or-set_other, get_or-set_same, length-set, length-replicate}
use Rattle.std.proofs.lemmas.List.Elements.{filter-append}
use Rattle.std.proofs.lemmas.List.Sums.{prefix_len-le-length, sum_by-cons, take_while-cons}
use Rattle.dv_time.specs.Limits.{greatest_tick}
use Rattle.dv_time.specs.Time.{IsOfRun, is_before}
use Rattle.dv_time.specs.declared.time.Time.{Time}
use Rattle.dv_bag.specs.Bag.{Counts, IsBag, bag_at, capped, count_of, with_copies}
use Rattle.dv_bag.specs.Inputs.{IsFrom, IsByTime, bags_at, bags_from, inputs_before, is_at, is_of, is_passed, last_time, start_of}
use Rattle.dv_bag.specs.Inputs.{values_at, values_into}
use Rattle.dv_bag.specs.InputSteps.{with_input, with_inputs}
use Rattle.dv_bag.specs.declared.inputs.Input.{Input}
use Rattle.dv_bag.proofs.Pairs.{with_copies_bag}
use Rattle.dv_bag.proofs.Monoid.{count_kept, count_with_other, count_with_same}

-- the order of times
pub not_sooner : (a b c : Time) → is_before b a ≡ false → is_before c b ≡ false → is_before c a ≡ false
not_sooner a b c h k = grind (arith, nat_tests)

pub before_later : (a b c : Time) → is_before a b ≡ true → is_before c b ≡ false → is_before a c ≡ true
before_later a b c h k = grind (arith, nat_tests)

pub not_itself : (a : Time) → is_before a a ≡ false
not_itself a = grind (arith, nat_tests)

not_before_start : (a : Time) → is_before a (start_of 0) ≡ false
not_before_start a = grind (arith, nat_tests)

-- an input at another time
pub at_none_earlier : (t : Time) (i : Input) → is_before t i.time ≡ true → is_at t i ≡ false
at_none_earlier t i h = grind (arith, nat_tests)

pub at_none_later : (t : Time) (i : Input) → is_before i.time t ≡ true → is_at t i ≡ false
at_none_later t i h = grind (arith, nat_tests)

at_none_above : (t : Time) (i : Input) → t.micro < i.time.micro → is_at t i ≡ false
at_none_above t i h = grind (arith, nat_tests)

past_not_at : (t : Time) (i : Input) → is_before i.time t ≡ false → is_at t i ≡ false → is_before t i.time ≡ true
past_not_at t i h e = grind (arith, nat_tests)

-- an input that is passed by, and one that is not
above_limit : (a b : ℕ) → nat_lt a b ≡ true → a < b
above_limit a b h = grind (arith, nat_tests)

pub passed_not_at : (limit : ℕ) (t u : Time) (i : Input) → IsOfRun limit u → is_before u t ≡ false → is_passed limit t i ≡ true
    → is_at u i ≡ false
passed_not_at limit t u i run le e = elim (cases_Bool (is_before i.time t)) [
  | inl sooner ↦ at_none_later u i (before_later i.time t u sooner le)
  | inr late ↦ at_none_above u i (let lt : limit < i.time.micro = above_limit limit i.time.micro (rw late at e) in omega (arith, lt, run))
]

pub not_passed : (limit : ℕ) (t : Time) (i : Input) → is_passed limit t i ≡ false
    → (is_before i.time t ≡ false) × IsOfRun limit i.time
not_passed limit t i e = elim (cases_Bool (is_before i.time t)) [
  | inl sooner ↦ absurd (false≢true (sym e ∙ rw sooner refl))
  | inr late ↦ (late, within limit i.time.micro (rw late at e))
]
  where
    within : (a b : ℕ) → nat_lt a b ≡ false → b ≤ a
    within a b h = grind (arith, nat_tests)

-- one more input
from_last : (low : Time) (i : Input) (inputs : List Input) → IsFrom low (i ∷ inputs) → is_before (last_time (i ∷ inputs)) low ≡ false
from_last low i [] h = h.0
from_last low i (j ∷ inputs) h = not_sooner low i.time (last_time (j ∷ inputs)) h.0 (from_last i.time j inputs h.2)

pub from_push : (low : Time) (inputs : List Input) (i : Input) → IsFrom low inputs → is_before i.time (last_time inputs) ≡ false
    → is_before i.time low ≡ false → i.time.tick ≤ greatest_tick → IsFrom low (inputs ++ i ∷ [])
from_push low [] i h last above within = (above, within, tt)
from_push low (x ∷ []) i h last above within = (h.0, h.1, (last, within, tt))
from_push low (x ∷ y ∷ inputs) i h last above within =
    let above_x = not_sooner x.time (last_time (y ∷ inputs)) i.time (from_last x.time y inputs h.2) last in
    (h.0, h.1, from_push x.time (y ∷ inputs) i h.2 last above_x within)

pub by_time_push : (inputs new : List Input) (i : Input) → IsByTime inputs → is_before i.time (last_time inputs) ≡ false
    → i.time.tick ≤ greatest_tick → new ≡ inputs ++ i ∷ [] → IsByTime new
by_time_push inputs new i h last within e =
    subst IsByTime (sym e) (from_push (start_of 0) inputs i h last (not_before_start i.time) within)

-- the last time is that of the last input
pub last_time_last : (inputs : List Input) (d : Input) → 1 ≤ length inputs → (get_or inputs (length inputs - 1) d).time ≡ last_time inputs
last_time_last [] d h = absurd (omega arith)
last_time_last (i ∷ []) d h = refl
last_time_last (i ∷ j ∷ inputs) d h =
    ap (λ (n : ℕ). (get_or (i ∷ j ∷ inputs) n d).time)
    (let n : length (i ∷ j ∷ inputs) - 1 ≡ suc (length (j ∷ inputs) - 1) = omega arith in n)
    ∙ last_time_last (j ∷ inputs) d (omega arith)

-- where all inputs are from a time on, none is at an earlier one
pub none_at : (low t : Time) (inputs : List Input) → IsFrom low inputs → is_before t low ≡ true → filter (is_at t) inputs ≡ []
none_at low t [] h lt = refl
none_at low t (i ∷ inputs) h lt =
    let later = before_later t low i.time lt h.0 in
    ap (λ (b : Bool). cond b (i ∷ filter (is_at t) inputs) (filter (is_at t) inputs)) (at_none_earlier t i later)
    ∙ none_at i.time t inputs h.2 later

-- where none is before a time, its inputs stand in front
in_front : (low t : Time) (inputs : List Input) → IsFrom low inputs → is_before low t ≡ false
    → take_while (is_at t) inputs ≡ filter (is_at t) inputs
in_front low t [] h le = refl
in_front low t (i ∷ inputs) h le =
    take_while-cons (is_at t) i inputs
    ∙ step (in_front i.time t inputs h.2 (not_sooner t low i.time le h.0)) (is_at t i) refl
  where
    step : take_while (is_at t) inputs ≡ filter (is_at t) inputs → (b : Bool) → is_at t i ≡ b
        → cond b (i ∷ take_while (is_at t) inputs) [] ≡ cond b (i ∷ filter (is_at t) inputs) (filter (is_at t) inputs)
    step rest true e = ap (λ (is : List Input). i ∷ is) rest
    step rest false e = sym (none_at i.time t inputs h.2 (past_not_at t i (not_sooner t low i.time le h.0) e))

pub one_more : (n : ℕ) → 1 + n ≡ suc n
one_more n = omega arith

-- the inputs of a time stand together, from its index on
pub together : (limit : ℕ) (low t : Time) (inputs : List Input) → IsFrom low inputs → IsOfRun limit t
    → take_while (is_at t) (drop (inputs_before limit inputs t) inputs) ≡ filter (is_at t) inputs
together limit low t [] h run = refl
together limit low t (i ∷ inputs) h run = step (together limit i.time t inputs h.2 run) (is_passed limit t i) refl
  where
    step : take_while (is_at t) (drop (inputs_before limit inputs t) inputs) ≡ filter (is_at t) inputs → (b : Bool)
        → is_passed limit t i ≡ b
        → take_while (is_at t) (drop (cond b (1 + inputs_before limit inputs t) 0) (i ∷ inputs)) ≡ filter (is_at t) (i ∷ inputs)
    step rest true e =
        ap (λ (n : ℕ). take_while (is_at t) (drop n (i ∷ inputs))) (one_more (inputs_before limit inputs t))
        ∙ rest
        ∙ ap (λ (c : Bool). cond c (i ∷ filter (is_at t) inputs) (filter (is_at t) inputs))
        (sym (passed_not_at limit t t i run (not_itself t) e))
    step rest false e = in_front t t (i ∷ inputs) ((not_passed limit t i e).0, h.1, h.2) (not_itself t)

pub before_within : (limit : ℕ) (t : Time) (inputs : List Input) → inputs_before limit inputs t ≤ length inputs
before_within limit t inputs = prefix_len-le-length (is_passed limit t) inputs

-- as many are passed by from an index on as there are from it to the index of a time
pub passed_from : {X : Type 0} (p : X → Bool) (xs : List X) (index : ℕ) → index ≤ prefix_len p xs
    → index + prefix_len p (drop index xs) ≡ prefix_len p xs
passed_from p xs zero h = omega arith
passed_from p [] (suc index) h = absurd (omega arith)
passed_from p (x ∷ xs) (suc index) h = step (passed_from p xs index) (p x) h
  where
    step : (index ≤ prefix_len p xs → index + prefix_len p (drop index xs) ≡ prefix_len p xs) → (b : Bool)
        → suc index ≤ cond b (1 + prefix_len p xs) 0
        → suc index + prefix_len p (drop index xs) ≡ cond b (1 + prefix_len p xs) 0
    step rest true le = let more = rest (omega (arith, le)) in omega (arith, more)
    step rest false le = absurd (omega (arith, le))

-- the bags by port
pub bags_from_length : (port n : ℕ) (inputs : List Input) (t : Time) → length (bags_from port n inputs t) ≡ n
bags_from_length port zero inputs t = refl
bags_from_length port (suc n) inputs t = let rest = bags_from_length (port + 1) n inputs t in omega arith

pub bag_from : (port n k q : ℕ) (inputs : List Input) (t : Time) → k < n → q ≡ port + k
    → bag_at (bags_from port n inputs t) k ≡ values_at t q inputs
bag_from port zero k q inputs t lt e = absurd (omega arith)
bag_from port (suc n) zero q inputs t lt e = ap (λ (p : ℕ). values_at t p inputs) (let same : port ≡ q = omega arith in same)
bag_from port (suc n) (suc k) q inputs t lt e = bag_from (port + 1) n k q inputs t (omega arith) (omega arith)

with_inputs_length : (inputs : List Input) (bags : List Counts) → length (with_inputs inputs bags) ≡ length bags
with_inputs_length [] bags = refl
with_inputs_length (i ∷ inputs) bags = with_inputs_length inputs (with_input i bags)
    ∙ length-set bags i.port (with_copies i.value 1 (bag_at bags i.port))

put_read : (i : Input) (bags : List Counts) (p : ℕ) → p < length bags
    → bag_at (with_input i bags) p ≡ cond (nat_eq i.port p) (with_copies i.value 1 (bag_at bags p)) (bag_at bags p)
put_read i bags p lt = elim (cases_Bool (nat_eq i.port p)) [
  | inl same ↦
      let e : i.port ≡ p = eqb-true i.port p same in
      subst (λ (q : ℕ). bag_at (set bags q (with_copies i.value 1 (bag_at bags q))) p ≡ cond (nat_eq i.port p)
      (with_copies i.value 1 (bag_at bags p)) (bag_at bags p)) (sym e)
      (get_or-set_same bags p (with_copies i.value 1 (bag_at bags p)) [] lt ∙ rw same refl)
  | inr other ↦
      get_or-set_other bags i.port p (with_copies i.value 1 (bag_at bags i.port)) [] (λ e. eqb-false i.port p other (sym e))
      ∙ rw other refl
]

put_reads : (t : Time) (p : ℕ) (inputs : List Input) (bags : List Counts) → p < length bags
    → bag_at (with_inputs (filter (is_at t) inputs) bags) p ≡ values_into t p inputs (bag_at bags p)
put_reads t p [] bags lt = refl
put_reads t p (i ∷ inputs) bags lt = step (is_at t i) (λ cs. put_reads t p inputs cs)
  where
    step : (b : Bool) → ((cs : List Counts) → p < length cs
        → bag_at (with_inputs (filter (is_at t) inputs) cs) p ≡ values_into t p inputs (bag_at cs p))
        → bag_at (with_inputs (cond b (i ∷ filter (is_at t) inputs) (filter (is_at t) inputs)) bags) p ≡ values_into t p
        inputs (cond (b && nat_eq i.port p) (with_copies i.value 1 (bag_at bags p)) (bag_at bags p))
    step true rest =
        rest (with_input i bags) (omega (arith, length-set bags i.port (with_copies i.value 1 (bag_at bags i.port))))
        ∙ ap (values_into t p inputs) (put_read i bags p lt)
    step false rest = rest bags lt

pub put_at_time : (ports : ℕ) (t : Time) (inputs : List Input)
    → with_inputs (filter (is_at t) inputs) (replicate ports []) ≡ bags_at ports inputs t
put_at_time ports t inputs =
    let none : List Counts = replicate ports [] in
    let few = length-replicate {A = Counts} ports [] in
    let put = with_inputs_length (filter (is_at t) inputs) none in
    let all = bags_from_length 0 ports inputs t in
    ext_get_or [] _ _ (omega arith) (λ p lt.
    put_reads t p inputs none (omega arith)
    ∙ ap (values_into t p inputs) (get_or-replicate ports p [] [] (omega arith))
    ∙ sym (bag_from 0 ports p p inputs t (omega arith) (omega arith)))

-- where no input is at a time nothing comes in then
pub nothing_put : (ports : ℕ) (t : Time) (inputs : List Input) → filter (is_at t) inputs ≡ []
    → bags_at ports inputs t ≡ replicate ports []
nothing_put ports t inputs none =
    sym (put_at_time ports t inputs) ∙ ap (λ (is : List Input). with_inputs is (replicate ports [])) none

-- an input at another time brings nothing
pub put_without : (ports : ℕ) (t : Time) (i : Input) (front back : List Input) → is_at t i ≡ false
    → bags_at ports (front ++ i ∷ back) t ≡ bags_at ports (front ++ back) t
put_without ports t i front back other =
    let kept : filter (is_at t) (i ∷ back) ≡ filter (is_at t) back =
    ap (λ (b : Bool). cond b (i ∷ filter (is_at t) back) (filter (is_at t) back)) other in
    sym (put_at_time ports t (front ++ i ∷ back))
    ∙ ap (λ (is : List Input). with_inputs is (replicate ports []))
    (filter-append (is_at t) front (i ∷ back) ∙ ap (λ (is : List Input). filter (is_at t) front ++ is) kept
    ∙ sym (filter-append (is_at t) front back))
    ∙ put_at_time ports t (front ++ back)

pub above_brings_nothing : (limit ports : ℕ) (t : Time) (i : Input) (front back : List Input) → IsOfRun limit t → limit < i.time.micro
    → bags_at ports (front ++ i ∷ back) t ≡ bags_at ports (front ++ back) t
above_brings_nothing limit ports t i front back run lt = put_without ports t i front back (at_none_above t i (omega (arith, run, lt)))

-- what a walk finds from the index of a time on
pub arriving : (limit : ℕ) (t : Time) (index : ℕ) (now items read front : List Input) → IsByTime items → items ≡ now → read ≡ items
    → IsOfRun limit t → index ≡ inputs_before limit now t → front ≡ take_while (is_at t) (drop index read)
    → front ≡ filter (is_at t) now
arriving limit t index now items read front h view same run at taken =
    taken
    ∙ ap (λ (xs : List Input). take_while (is_at t) (drop index xs)) (same ∙ view)
    ∙ ap (λ (n : ℕ). take_while (is_at t) (drop n now)) at
    ∙ together limit (start_of 0) t now (subst IsByTime view h) run

-- how often a value comes in
abbrev says : Time → ℕ → ℤ → List Input → ℕ
says t port v inputs = count_by (is_of t port v) inputs

counted : (t : Time) (port : ℕ) (v : ℤ) (inputs : List Input) (b : Counts) → IsBag b
    → count_of v (values_into t port inputs b) ≡ capped (count_of v b + says t port v inputs)
counted t port v [] b h = let small = count_kept v b h in omega arith
counted t port v (i ∷ inputs) b h =
    step (is_at t i) (nat_eq i.port port) (int_eq i.value v) refl (λ c k. counted t port v inputs c k)
    ∙ ap (λ (n : ℕ). capped (count_of v b + n)) (sym (sum_by-cons (λ (j : Input). cond (is_of t port v j) 1 0) i inputs))
  where
    step : (a u w : Bool) → int_eq i.value v ≡ w → ((c : Counts) → IsBag c
        → count_of v (values_into t port inputs c) ≡ capped (count_of v c + says t port v inputs))
        → count_of v (values_into t port inputs (cond (a && u) (with_copies i.value 1 b) b)) ≡ capped
        (count_of v b + (cond (a && u && w) 1 0 + says t port v inputs))
    step true true true e rest =
        let same : i.value ≡ v = (Decides-int_eq i.value v).0 e in
        let more : count_of v (with_copies i.value 1 b) ≡ capped (count_of v b + 1) =
        ap (λ (z : ℤ). count_of v (with_copies z 1 b)) same ∙ count_with_same v 1 b h in
        rest (with_copies i.value 1 b) (with_copies_bag i.value 1 b h) ∙ omega arith
    step true true false e rest =
        let as_before : count_of v (with_copies i.value 1 b) ≡ count_of v b =
        count_with_other v i.value 1 b (λ f. false≢true (sym e ∙ (Decides-int_eq i.value v).1 (sym f))) in
        rest (with_copies i.value 1 b) (with_copies_bag i.value 1 b h) ∙ omega arith
    step true false w e rest = rest b h ∙ omega arith
    step false u w e rest = rest b h ∙ omega arith

pub copies_at : (ports : ℕ) (t : Time) (port : ℕ) (v : ℤ) (inputs : List Input) → port < ports
    → count_of v (bag_at (bags_at ports inputs t) port) ≡ capped (says t port v inputs)
copies_at ports t port v inputs lt =
    ap (count_of v) (bag_from 0 ports port port inputs t lt (omega arith)) ∙ counted t port v inputs [] tt ∙ omega arith
