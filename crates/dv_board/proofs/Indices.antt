-- What a board keeps of each process, index by index.
use Rattle.std.proofs.Common.{◌≡◌, ℕ, zero, suc, ◌+◌, ◌<◌, ◌≤◌, Bool, true, false, cond, List, [], ◌∷◌, ◌++◌, length, map}
use Rattle.std.proofs.Common.{replicate, take, set, slice_get, slice_index_or, Some, refl, sym, ap, ap₂, subst, ◌∙◌}
use Rattle.std.proofs.Common.{arith, ⊎_elim}
use Rattle.std.specs.List.{All, Contains}
use Rattle.std.proofs.lemmas.Bool.{cases_Bool, cond-false, cond-true}
use Rattle.std.proofs.lemmas.List.{get_or-map, length-map, length-set, map-set, take_all}
use Rattle.std.proofs.lemmas.List.Elements.{All-map, All-more, All-weaker}
use Rattle.std.proofs.lemmas.Option.{same_Some}
use Rattle.dv_time.specs.Time.{IsOfRun, end_of, is_before, rank}
use Rattle.dv_time.specs.declared.time.Time.{Time}
use Rattle.dv_bag.specs.Part.{PartOf, joined, nothing, since}
use Rattle.dv_conservative.specs.Process.{first_time}
use Rattle.dv_conservative.specs.World.{Job}
use Rattle.dv_board.specs.declared.held.Stretch.{Stretch}
use Rattle.dv_board.specs.Backlogs.{AreHeld, IsHeld, end_of_last}
use Rattle.dv_board.specs.Clocks.{IsLeast, IsNoLater, later}
use Rattle.dv_board.specs.Jobs.{committed}
use Rattle.dv_board.specs.Stretches.{HeldOf, ended_past, is_joined, rest_of, start_past, with_more, with_piece}
use Rattle.dv_board.proofs.Between.{committed_joined, committed_none, committed_since}
use Rattle.dv_board.proofs.Stretches.{end_of_more, past_rest, stretches_more}
use Rattle.dv_board.proofs.Times.{no_later, not_before_itself, not_before_sooner, sooner}

-- ---- the least clock

abbrev pub clocks_of : {N : Type 0} → List (HeldOf N) → List Time
clocks_of {N} held = map (λ (h : HeldOf N). h.clock) held

-- the least clock of the first indices, which is that of an index
pub record IsLeastOf {N : Type 0} (held : List (HeldOf N)) (k : ℕ) (least : Time) : Type 0 where
  pub is : Contains (clocks_of held) least
  pub none_before : All (λ (h : HeldOf N). is_before h.clock least ≡ false) (take k held)

clock_is_in : {N : Type 0} (held : List (HeldOf N)) (k : ℕ) (h : HeldOf N) → k < length held → h ≡ slice_index_or held k h
    → Contains (clocks_of held) h.clock
clock_is_in {N} held k h lt at = (
  k,
  subst (λ (n : ℕ). k < n) (sym (length-map held (λ (h : HeldOf N). h.clock))) lt,
  get_or-map (λ (h : HeldOf N). h.clock) held k h h.clock lt ∙ ap (λ (h : HeldOf N). h.clock) (sym at),
)

pub first_least : {N : Type 0} (held : List (HeldOf N)) (h : HeldOf N) → 0 < length held → h ≡ slice_index_or held 0 h
    → IsLeastOf held 0 h.clock
first_least held h lt at = record { is = clock_is_in held 0 h lt at; none_before = λ k d none. absurd (omega arith) }

module _ {N : Type 0} (held : List (HeldOf N)) (k : ℕ) (least : Time) (h : HeldOf N) (lt : k < length held)
    (at : h ≡ slice_index_or held k h) (so_far : IsLeastOf held k least) where
  pub least_falls : is_before h.clock least ≡ true → IsLeastOf held (k + 1) h.clock
  least_falls e = record {
    is = clock_is_in held k h lt at;
    none_before = All-more (λ (g : HeldOf N). is_before g.clock h.clock ≡ false) held k h lt
        (All-weaker (λ (g : HeldOf N). is_before g.clock least ≡ false) (λ (g : HeldOf N). is_before g.clock h.clock ≡ false)
        (λ g f. not_before_sooner h.clock least g.clock e f) (take k held) so_far.none_before)
        (subst (λ (g : HeldOf N). is_before g.clock h.clock ≡ false) at (not_before_itself h.clock));
  }

  pub least_stays : is_before h.clock least ≡ false → IsLeastOf held (k + 1) least
  least_stays e = record {
    is = so_far.is;
    none_before = All-more (λ (g : HeldOf N). is_before g.clock least ≡ false) held k h lt so_far.none_before
        (subst (λ (g : HeldOf N). is_before g.clock least ≡ false) at e);
  }

pub least_of_all : {N : Type 0} (held : List (HeldOf N)) (k : ℕ) (least : Time) → length held ≤ k → IsLeastOf held k least
    → IsLeast least (clocks_of held)
least_of_all {N} held k least le so_far = record {
  is = so_far.is;
  none_before = All-map (λ (c : Time). is_before c least ≡ false) (λ (h : HeldOf N). h.clock) held
      (subst (All (λ (h : HeldOf N). is_before h.clock least ≡ false)) (take_all k held le) so_far.none_before);
}

-- ---- one index

-- of each index, after one is set
each_set : {X : Type 0} (P : ℕ → X → Type 0) (xs : List X) (k : ℕ) (y : X)
    → ((p : ℕ) (x : X) → slice_get xs p ≡ Some x → P p x) → P k y
    → (p : ℕ) (x : X) → slice_get (set xs k y) p ≡ Some x → P p x
each_set P [] k y all new p x at = all p x at
each_set P (z ∷ zs) zero y all new zero x at = subst (P 0) (same_Some y x at) new
each_set P (z ∷ zs) zero y all new (suc p) x at = all (suc p) x at
each_set P (z ∷ zs) (suc k) y all new zero x at = all 0 x at
each_set P (z ∷ zs) (suc k) y all new (suc p) x at = each_set (λ (q : ℕ). P (suc q)) zs k y (λ q w e. all (suc q) w e) new p x at

pub held_set : {N : Type 0} (job : Job) (mark : Time) (held : List (HeldOf N)) (p : ℕ) (y : HeldOf N) → AreHeld job mark held
    → IsHeld job mark p y → AreHeld job mark (set held p y)
held_set {N} job mark held p y all new = record {
  merges = all.merges;
  some = all.some;
  of_run = all.of_run;
  many = length-set held p y ∙ all.many;
  each = each_set (λ (k : ℕ) (h : HeldOf N). IsHeld job mark k h) held p y all.each new;
}

-- a clock, read and written
pub clock_read : {N : Type 0} (held : List (HeldOf N)) (p : ℕ) (h : HeldOf N) → p < length held → h ≡ slice_index_or held p h
    → slice_index_or (clocks_of held) p first_time ≡ h.clock
clock_read {N} held p h lt at = get_or-map (λ (h : HeldOf N). h.clock) held p h first_time lt ∙ ap (λ (h : HeldOf N). h.clock) (sym at)

pub clocks_set : {N : Type 0} (held : List (HeldOf N)) (p : ℕ) (y : HeldOf N)
    → clocks_of (set held p y) ≡ set (clocks_of held) p y.clock
clocks_set {N} = map-set (λ (h : HeldOf N). h.clock)

-- the clocks of a new board, and those that stay where it is drained
pub clocks_new : {N : Type 0} (n : ℕ) (h : HeldOf N) → clocks_of (replicate n h) ≡ replicate n h.clock
clocks_new zero h = refl
clocks_new (suc n) h = ap (λ (cs : List Time). h.clock ∷ cs) (clocks_new n h)

-- the clock of a process stays where stretches are let go, and becomes the later one where a piece is joined
clock_of_rest : {N : Type 0} (time : Time) (h : HeldOf N) → (rest_of time h).clock ≡ h.clock
clock_of_rest {N} time h = by_test (is_before time h.clock)
  where
    by_test : (t : Bool) → (cond {A = HeldOf N} t
        (record { from = start_past time h.from h.ended; clock = h.clock; ended = ended_past time h.ended; last = h.last })
        (record { from = h.clock; clock = h.clock; ended = []; last = nothing })).clock ≡ h.clock
    by_test true = refl
    by_test false = refl

pub clocks_stay : {N : Type 0} (time : Time) (held : List (HeldOf N)) → clocks_of (map (rest_of time) held) ≡ clocks_of held
clocks_stay time [] = refl
clocks_stay time (h ∷ hs) = ap₂ (λ (c : Time) (cs : List Time). c ∷ cs) (clock_of_rest time h) (clocks_stay time hs)

module _ {N : Type 0} (h : HeldOf N) (more : PartOf) (clock : Time) where
  abbrev lengthened : HeldOf N
  lengthened = record { from = h.from; clock = clock; ended = h.ended; last = joined h.last more }

  abbrev begun : HeldOf N
  begun = record { from = h.from; clock = clock; ended = h.ended ++ record { upto = h.clock; part = h.last } ∷ []; last = more }

  clock_with_more : (with_more h more clock).clock ≡ clock
  clock_with_more = by_test (is_joined h.last more)
    where
      by_test : (t : Bool) → (cond t lengthened begun).clock ≡ clock
      by_test true = refl
      by_test false = refl

  -- what a process commits from its clock to another one, behind what is kept of it
  more_is_held : (job : Job) (mark : Time) (p : ℕ) → IsHeld job mark p h → IsOfRun job.limit clock
      → rank job.limit clock ≤ end_of job.limit job.horizon → IsNoLater job h.clock clock → more ≡ committed job p h.clock clock
      → IsHeld job mark p (with_more h more clock)
  more_is_held job mark p held of_run within high is =
      let early = held.early in
      let order = held.order in
      let upto = held.upto in
      let end = end_of_last h.from h.ended in
      ⊎_elim
      (λ yes. subst (IsHeld job mark p) (sym (cond-true (is_joined h.last more) lengthened begun yes)) (record {
        of_run = of_run;
        within = within;
        early = early;
        order = omega (arith, high, order);
        ended = held.ended;
        upto = omega (arith, upto, high);
        last = ap₂ joined held.last is ∙ committed_joined job p end h.clock clock upto high;
      }))
      (λ no.
      let s : Stretch N = record { upto = h.clock; part = h.last } in
      let ends = end_of_more job p h.from h.ended s in
      subst (IsHeld job mark p) (sym (cond-false (is_joined h.last more) lengthened begun no)) (record {
        of_run = of_run;
        within = within;
        early = early;
        order = omega (arith, high, order);
        ended = stretches_more job p h.from h.ended s held.ended (record { of_run = held.of_run; order = upto; part = held.last });
        upto = subst (λ (t : Time). IsNoLater job t clock) (sym ends) high;
        last = is ∙ ap (λ (t : Time). committed job p t clock) (sym ends);
      }))
      (cases_Bool (is_joined h.last more))

pub clock_of_piece : {N : Type 0} (h : HeldOf N) (piece : PartOf) (clock : Time)
    → (with_piece h piece clock).clock ≡ later h.clock clock
clock_of_piece {N} h piece clock = by_test (is_before h.clock clock)
  where
    by_test : (t : Bool) → (cond t (with_more h (since h.clock piece) clock) h).clock ≡ cond t clock h.clock
    by_test true = clock_with_more h (since h.clock piece) clock
    by_test false = refl

-- a piece that begins no later than the clock is joined
pub piece_is_held : {N : Type 0} (job : Job) (mark : Time) (p : ℕ) (h : HeldOf N) (piece : PartOf) (from clock : Time)
    → IsHeld job mark p h → IsOfRun job.limit clock → rank job.limit clock ≤ end_of job.limit job.horizon
    → IsNoLater job from h.clock
    → piece ≡ committed job p from clock → IsHeld job mark p (with_piece h piece clock)
piece_is_held {N} job mark p h piece from clock held of_run within low is =
    let more : HeldOf N = with_more h (since h.clock piece) clock in
    ⊎_elim
    (λ yes.
    let high = sooner job h.clock clock held.of_run of_run yes in
    subst (IsHeld job mark p) (sym (cond-true (is_before h.clock clock) more h yes))
    (more_is_held h (since h.clock piece) clock job mark p held of_run within (omega (arith, high))
    (ap (since h.clock) is ∙ committed_since job p from h.clock clock low (omega (arith, high)) held.of_run)))
    (λ no. subst (IsHeld job mark p) (sym (cond-false (is_before h.clock clock) more h no)) held)
    (cases_Bool (is_before h.clock clock))

-- what ends no later than a time goes, where the clock is no sooner
pub rest_is_held : {N : Type 0} (job : Job) (mark time : Time) (p : ℕ) (h : HeldOf N) → IsHeld job mark p h → IsOfRun job.limit time
    → IsNoLater job mark time → IsNoLater job time h.clock → IsHeld job time p (rest_of time h)
rest_is_held {N} job mark time p h held of_run low high =
    let early = held.early in
    let rest : HeldOf N
    = record { from = start_past time h.from h.ended; clock = h.clock; ended = ended_past time h.ended; last = h.last } in
    let none : HeldOf N = record { from = h.clock; clock = h.clock; ended = []; last = nothing } in
    ⊎_elim
    (λ yes.
    let past = past_rest job p time of_run h.from h.ended (omega (arith, early, low)) held.ended in
    subst (IsHeld job time p) (sym (cond-true (is_before time h.clock) rest none yes)) (record {
      of_run = held.of_run;
      within = held.within;
      early = past.early;
      order = high;
      ended = past.all;
      upto = subst (λ (t : Time). IsNoLater job t h.clock) (sym past.end) held.upto;
      last = held.last ∙ ap (λ (t : Time). committed job p t h.clock) (sym past.end);
    }))
    (λ no. subst (IsHeld job time p) (sym (cond-false (is_before time h.clock) rest none no)) (record {
      of_run = held.of_run;
      within = held.within;
      early = no_later job time h.clock of_run held.of_run no;
      order = high;
      ended = tt;
      upto = omega arith;
      last = sym (committed_none job p h.clock);
    }))
    (cases_Bool (is_before time h.clock))
