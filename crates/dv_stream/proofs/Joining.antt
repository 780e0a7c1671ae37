-- What is joined to a backlog of the processes of a world.
use Rattle.std.proofs.Common.{◌≡◌, ℕ, ◌+◌, ◌<◌, Bool, true, false, nat_eq, List, length, map, replicate, slice_index_or, Option, Some}
use Rattle.std.proofs.Common.{refl, sym, ap, subst, ◌∙◌, arith}
use Rattle.std.specs.List.{All, slice_get}
use Rattle.std.proofs.Math.ListN.{length-set, set}
use Rattle.std.proofs.lemmas.Bool.Decides.{nat_tests}
use Rattle.std.proofs.lemmas.List.{length-map}
use Rattle.std.proofs.lemmas.Option.{slice_get-get_or, slice_get_within}
use Rattle.dv_time.specs.Time.{rank}
use Rattle.dv_time.specs.declared.time.Time.{Time}
use Rattle.dv_bag.specs.Part.{nothing}
use Rattle.dv_board.specs.Clocks.{later}
use Rattle.dv_board.proofs.Drained.{same_indices}
use Rattle.dv_board.proofs.Wholes.{get_map}
use Rattle.dv_conservative.specs.Flat.{whole}
use Rattle.dv_conservative.specs.Process.{IsWithin, first_time}
use Rattle.dv_conservative.specs.World.{Job, owned, share_of}
use Rattle.dv_conservative.proofs.Local.{same_number}
use Rattle.dv_core.specs.Kept.{clock_of}
use Rattle.dv_core.specs.ProcessState.{ProcessState}
use Rattle.dv_core.specs.Worlds.{EndsAs, shown}
use Rattle.dv_core.specs.declared.state.WorldState.{WorldState}
use Rattle.dv_core.specs.declared.step.Ended.{Ended}
use Rattle.dv_core.proofs.Answering.{shown_at}
use Rattle.dv_core.proofs.Lookups.{set_other, set_same}
use Rattle.dv_devs.specs.Parts.{part_before}
use Rattle.dv_record.specs.Told.{Handed}
use Rattle.dv_work.specs.Seats.{HasHandedOver}
use Rattle.dv_work.proofs.Lists.{at_index}
use Rattle.dv_stream.specs.Rounds.{AreJoined}
use Rattle.dv_stream.proofs.ToldClocks.{later_is, replicated, replicated_length}
use Rattle.dv_stream.proofs.Rising.{ends_rise}

pub some_same : {X : Type 0} {o : Option X} {c d : X} → o ≡ Some c → o ≡ Some d → c ≡ d
some_same e f = cc

-- what a process committed to its clock is joined
module _ (job : Job) (states : List ProcessState) (handed : List Handed) (clocks : List Time)
    (joined : AreJoined job states handed clocks) (p : ℕ) (x : ProcessState) (h : Handed) (t : Time)
    (at : slice_get states p ≡ Some x) (also : slice_get handed p ≡ Some h) (there : slice_get clocks p ≡ Some t)
    (part : x.part ≡ part_before (owned job p) job.limit (whole job.flat) job.outside (rank job.limit x.position.clock))
    (within : IsWithin (share_of job p) x.position.clock) (g : Handed) (is : g.past ≡ x.part) where
  one : HasHandedOver job p x g x.position.clock
  one = record { of_run = within.0; order = omega arith; past = is ∙ part }

  by_index : (q : ℕ) (y : ProcessState) (k : Handed) (u : Time) → slice_get states q ≡ Some y → slice_get (set handed p g) q ≡ Some k
      → slice_get (set clocks p x.position.clock) q ≡ Some u → (b : Bool) → nat_eq q p ≡ b → HasHandedOver job q y k u
  by_index q y k u ey ek eu true same =
      let index : q ≡ p = same_number q p same in
      let here = subst (λ (n : ℕ). slice_get states n ≡ Some y) index ey in
      let now = subst (λ (n : ℕ). slice_get (set handed p g) n ≡ Some k) index ek in
      let clock = subst (λ (n : ℕ). slice_get (set clocks p x.position.clock) n ≡ Some u) index eu in
      let first = set_same handed p h g also in
      let second = set_same clocks p t x.position.clock there in
      let state_is : x ≡ y = some_same at here in
      let handed_is : g ≡ k = some_same first now in
      let clock_is : x.position.clock ≡ u = some_same second clock in
      subst (λ (n : ℕ). HasHandedOver job n y k u) (sym index)
      (subst (λ (z : ProcessState). HasHandedOver job p z k u) state_is
      (subst (λ (m : Handed). HasHandedOver job p x m u) handed_is (subst (HasHandedOver job p x g) clock_is one)))
  by_index q y k u ey ek eu false other =
      joined.each q y k u ey (sym (set_other handed p q g other) ∙ ek) (sym (set_other clocks p q x.position.clock other) ∙ eu)

  pub joined_more : AreJoined job states (set handed p g) (set clocks p x.position.clock)
  joined_more = record {
    count = length-set clocks p x.position.clock ∙ joined.count;
    each = λ q y k u ey ek eu. by_index q y k u ey ek eu (nat_eq q p) refl;
  }

-- ---- Of the processes of a world

module _ {P : Type 0} (job : Job) (state : P → ProcessState) (handed : P → Handed) (items : List P) (clocks : List Time)
    (joined : AreJoined job (map state items) (map handed items) clocks) (p : ℕ) (x : P) (at : slice_get items p ≡ Some x)
    (inside : p < job.processes) where
  pub clock_there : slice_get clocks p ≡ Some (slice_index_or clocks p first_time)
  clock_there = slice_get-get_or clocks p first_time (let count = joined.count in omega (arith, count, inside))

  pub over_there : HasHandedOver job p (state x) (handed x) (slice_index_or clocks p first_time)
  over_there =
      joined.each p (state x) (handed x) (slice_index_or clocks p first_time) (shown_at state items p x at)
      (shown_at handed items p x at) clock_there

  -- with what it handed over to its clock
  module _ (part : (state x).part ≡ part_before (owned job p) job.limit (whole job.flat) job.outside
      (rank job.limit (state x).position.clock))
      (within : IsWithin (share_of job p) (state x).position.clock) (others : List P) (same : map state others ≡ map state items)
      (now : map handed others ≡ set (map handed items) p (record (handed x) { past = (state x).part }))
      (after : List Time) (kept : after ≡ set clocks p (later (slice_index_or clocks p first_time) (state x).position.clock)) where
    pub clocks_after : after ≡ set clocks p (state x).position.clock
    clocks_after =
        kept
        ∙ ap (set clocks p)
        (later_is job.limit (slice_index_or clocks p first_time) (state x).position.clock over_there.of_run within.0 over_there.order)

    pub joined_after : AreJoined job (map state others) (map handed others) after
    joined_after =
        subst (λ (xs : List ProcessState). AreJoined job xs (map handed others) after) (sym same)
        (subst (λ (hs : List Handed). AreJoined job (map state items) hs after) (sym now)
        (subst (AreJoined job (map state items) (set (map handed items) p (record (handed x) { past = (state x).part })))
        (sym clocks_after)
        (joined_more job (map state items) (map handed items) clocks joined p (state x) (handed x)
        (slice_index_or clocks p first_time) (shown_at state items p x at) (shown_at handed items p x at) clock_there part within
        (record (handed x) { past = (state x).part }) refl)))

-- each clock so far is that of its process
abbrev pub AreAtFirst : List ProcessState → List Time → ℕ → Type 0
AreAtFirst states clocks n =
    (p : ℕ) (x : ProcessState) (t : Time) → p < n → slice_get states p ≡ Some x → slice_get clocks p ≡ Some t → t ≡ x.position.clock

pub first_after : (states : List ProcessState) (clocks : List Time) (n : ℕ) (x : ProcessState) (u : Time) → AreAtFirst states clocks n
    → slice_get states n ≡ Some x → slice_get clocks n ≡ Some u → AreAtFirst states (set clocks n x.position.clock) (n + 1)
first_after states clocks n x u first at there p y t lt ey et = by_index (nat_eq p n) refl
  where
    by_index : (b : Bool) → nat_eq p n ≡ b → t ≡ y.position.clock
    by_index true same =
        let index : p ≡ n = same_number p n same in
        let state_is : x ≡ y = some_same at (subst (λ (m : ℕ). slice_get states m ≡ Some y) index ey) in
        let clock_is : x.position.clock ≡ t = some_same (set_same clocks n u x.position.clock there)
        (subst (λ (m : ℕ). slice_get (set clocks n x.position.clock) m ≡ Some t) index et) in
        sym clock_is ∙ ap (λ (z : ProcessState). z.position.clock) state_is
    by_index false other =
        let less : p < n = grind (arith, nat_tests) in
        first p y t less ey (sym (set_other clocks n p x.position.clock other) ∙ et)

-- in the end all clocks are those of the processes
pub all_at_first : {P : Type 0} (state : P → ProcessState) (items : List P) (clocks : List Time) (n : ℕ) → length clocks ≡ n
    → length items ≡ n → AreAtFirst (map state items) clocks n → clocks ≡ map (λ x. (state x).position.clock) items
all_at_first state items clocks n many count first =
    same_indices clocks (map (λ x. (state x).position.clock) items)
    (let long = length-map items (λ x. (state x).position.clock) in omega (arith, many, count, long))
    (λ k t u at also.
    let x = get_map (λ x. (state x).position.clock) items k u also in
    let lt = slice_get_within clocks k t at in
    first k (state x.0) t (omega (arith, lt, many)) (shown_at state items k x.0 x.1) at ∙ x.2)

-- before a world has made a step nothing was handed over
pub none_joined : {P : Type 0} (job : Job) (state : P → ProcessState) (handed : P → Handed) (items : List P)
    → All (λ x. (handed x).past ≡ nothing) items → (processes : ℕ) → processes ≡ job.processes
    → AreJoined job (map state items) (map handed items) (replicate processes first_time)
none_joined job state handed items none processes count = record {
  count = replicated_length processes first_time ∙ count;
  each = λ p x h t ex eh et.
      let y = get_map handed items p h eh in
      let first = replicated processes first_time p t et in
      subst (HasHandedOver job p x h) (sym first) (record {
        of_run = omega arith;
        order = omega arith;
        past = ap (λ (k : Handed). k.past) (sym y.2) ∙ at_index (λ z. (handed z).past ≡ nothing) items p y.0 none y.1
            ∙ ap (part_before (owned job p) job.limit (whole job.flat) job.outside) (zero_rank job.limit);
      });
}
  where
    zero_rank : (limit : ℕ) → 0 ≡ rank limit first_time
    zero_rank limit = omega arith

-- rounds leave what was handed over, and no clock falls
pub joined_later : {J P : Type 0} (means : J → Job) (state : P → ProcessState) (handed : P → Handed) (w v : WorldState J P)
    → map handed v.processes.items ≡ map handed w.processes.items → (most : ℕ) (e : Ended)
    → EndsAs (means w.job) most e (shown means state w) (shown means state v) → (clocks : List Time)
    → AreJoined (means w.job) (map state w.processes.items) (map handed w.processes.items) clocks
    → AreJoined (means w.job) (map state v.processes.items) (map handed v.processes.items) clocks
joined_later means state handed w v kept most e ends clocks joined = record {
  count = joined.count;
  each = λ p x h t ex eh et.
      let was = subst (λ (hs : List Handed). slice_get hs p ≡ Some h) kept eh in
      let y = get_map handed w.processes.items p h was in
      let old = shown_at state w.processes.items p y.0 y.1 in
      let over = joined.each p (state y.0) h t old was et in
      let rises = ends_rise (means w.job) most e (shown means state w) (shown means state v) ends p in
      let first : rank (means w.job).limit ((shown means state w).clock p) ≡ rank (means w.job).limit (state y.0).position.clock
      = ap (λ o. rank (means w.job).limit (clock_of o)) old in
      let last : rank (means w.job).limit ((shown means state v).clock p) ≡ rank (means w.job).limit x.position.clock
      = ap (λ o. rank (means w.job).limit (clock_of o)) ex in
      let low = over.order in
      record { of_run = over.of_run; order = omega (arith, low, rises, first, last); past = over.past };
}
