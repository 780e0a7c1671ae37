-- Stretches that follow one another: joined, cut by time, and let go.
use Rattle.std.proofs.Common.{◌≡◌, ℕ, suc, ◌+◌, ◌<◌, Bool, true, false, cond, List, [], ◌∷◌, ◌++◌, length, take, drop}
use Rattle.std.proofs.Common.{slice_index_or, refl, sym, ap, ap₂, subst, ◌∙◌, arith}
use Rattle.std.proofs.lemmas.Bool.Decides.{nat_tests}
use Rattle.std.proofs.lemmas.List.{append-nil, take-append-drop, take_more}
use Rattle.std.proofs.Math.Seq.{drop-cons}
use Rattle.dv_time.specs.Time.{IsOfRun, is_before}
use Rattle.dv_time.specs.declared.time.Time.{Time}
use Rattle.dv_bag.specs.Part.{IsByTime, PartOf, before, joined, nothing, since}
use Rattle.dv_devs.proofs.Cuts.{before_joined, since_joined}
use Rattle.dv_devs.proofs.Parts.{same_part}
use Rattle.dv_conservative.specs.Process.{first_time}
use Rattle.dv_conservative.specs.World.{Job}
use Rattle.dv_board.specs.declared.held.Stretch.{Stretch}
use Rattle.dv_board.specs.Backlogs.{AreStretches, IsHeld, IsStretch, end_of_last}
use Rattle.dv_board.specs.Clocks.{IsNoLater}
use Rattle.dv_board.specs.Jobs.{committed}
use Rattle.dv_board.specs.Stretches.{AreByTime, AreInTurn, HeldOf, ended_past, joined_in_turn, part_of, start_past}
use Rattle.dv_board.proofs.Between.{committed_by_time, committed_joined, committed_none, committed_since}
use Rattle.dv_board.proofs.Cutting.{none_before, since_first}
use Rattle.dv_board.proofs.Times.{no_later, not_before_first, not_sooner}

-- ---- joined in turn

joined_snoc : {N : Type 0} (front : PartOf) (ss : List (Stretch N)) (s : Stretch N)
    → joined_in_turn front (ss ++ s ∷ []) ≡ joined (joined_in_turn front ss) s.part
joined_snoc front [] s = refl
joined_snoc front (t ∷ ts) s = joined_snoc (joined front t.part) ts s

-- what two times cut out of a part, and out of two that are joined
abbrev pub cut : Time → Time → PartOf → PartOf
cut from upto part = since from (before upto part)

pub cut_joined : (from upto : Time) (a b : PartOf) → cut from upto (joined a b) ≡ joined (cut from upto a) (cut from upto b)
cut_joined from upto a b =
    ap (since from) (before_joined upto a b) ∙ since_joined from (before upto a) (before upto b)

-- one stretch more of those in front
pub cut_more : {N : Type 0} (from upto : Time) (ss : List (Stretch N)) (k : ℕ) (s : Stretch N) (part : PartOf) → k < length ss
    → s ≡ slice_index_or ss k s → part ≡ cut from upto (joined_in_turn nothing (take k ss))
    → joined part (cut from upto s.part) ≡ cut from upto (joined_in_turn nothing (take (k + 1) ss))
cut_more {N} from upto ss k s part lt at so_far =
    ap (λ (p : PartOf). joined p (cut from upto s.part)) so_far
    ∙ (sym (cut_joined from upto (joined_in_turn nothing (take k ss)) s.part)
    ∙ ap (cut from upto) (sym (ap (joined_in_turn nothing) (take_more ss k s lt
    ∙ ap (λ (t : Stretch N). take k ss ++ t ∷ []) (sym at)) ∙ joined_snoc nothing (take k ss) s)))

joined_append : {N : Type 0} (front : PartOf) (ss ts : List (Stretch N))
    → joined_in_turn front (ss ++ ts) ≡ joined_in_turn (joined_in_turn front ss) ts
joined_append front [] ts = refl
joined_append front (s ∷ ss) ts = joined_append (joined front s.part) ss ts

still_past : (a b c : Time) → is_before b a ≡ false → is_before a c ≡ false → is_before b c ≡ false
still_past a b c h k = grind (arith, nat_tests)

-- stretches that begin no sooner than a time have nothing before it
none_ahead : {N : Type 0} (upto begin : Time) (front : PartOf) (ss : List (Stretch N))
    → is_before begin upto ≡ false → AreInTurn begin ss
    → before upto (joined_in_turn front ss) ≡ before upto front
none_ahead upto begin front [] past turn = refl
none_ahead upto begin front (s ∷ ss) past turn =
    none_ahead upto s.upto (joined front s.part) ss (still_past begin s.upto upto turn.2 past) turn.3
    ∙ (before_joined upto front s.part
    ∙ (ap (joined (before upto front)) (ap (before upto) (sym turn.1) ∙ none_before begin upto s.part past)
    ∙ joined_nothing (before upto front)))
  where
    joined_nothing : (p : PartOf) → joined p nothing ≡ p
    joined_nothing p = same_part _ _ _ _ (append-nil p.entries) (append-nil p.outer)

-- so those in front are enough
pub cut_enough : {N : Type 0} (from upto begin : Time) (ss : List (Stretch N)) (k : ℕ) → is_before begin upto ≡ false
    → AreInTurn begin (drop k ss) → cut from upto (joined_in_turn nothing (take k ss)) ≡ cut from upto (joined_in_turn nothing ss)
cut_enough from upto begin ss k past turn =
    ap (since from) (sym (none_ahead upto begin (joined_in_turn nothing (take k ss)) (drop k ss) past turn)
    ∙ ap (before upto) (sym (joined_append nothing (take k ss) (drop k ss)) ∙ ap (joined_in_turn nothing) (take-append-drop k ss)))

-- the stretch at an index, and those behind it
pub turn_at : {N : Type 0} (begin : Time) (ss : List (Stretch N)) (k : ℕ) (s : Stretch N)
    → k < length ss → s ≡ slice_index_or ss k s
    → AreInTurn begin (drop k ss) → IsByTime s.part × AreInTurn s.upto (drop (k + 1) ss)
turn_at {N} begin ss k s lt at turn =
    let next : suc k ≡ k + 1 = omega arith in
    let here = drop-cons ss k s lt ∙ ap₂ (λ (t : Stretch N) (n : ℕ). t ∷ drop n ss) (sym at) next in
    let is = subst (AreInTurn begin) here turn in
    (is.0, is.3)

-- ---- of a process

module _ {N : Type 0} (job : Job) (p : ℕ) where
  -- they end no sooner than they begin
  pub end_no_sooner : (from : Time) (ss : List (Stretch N)) → AreStretches job p from ss → IsNoLater job from (end_of_last from ss)
  end_no_sooner from [] all = omega arith
  end_no_sooner from (s ∷ ss) all =
      let order = all.0.order in
      let more = end_no_sooner s.upto ss all.1 in
      omega (arith, order, more)

  -- together they are what the process commits up to their end
  stretches_joined : (a from : Time) (front : PartOf) (ss : List (Stretch N)) → IsNoLater job a from → front ≡ committed job p a from
      → AreStretches job p from ss → joined_in_turn front ss ≡ committed job p a (end_of_last from ss)
  stretches_joined a from front [] low is all = is
  stretches_joined a from front (s ∷ ss) low is all =
      let order = all.0.order in
      stretches_joined a s.upto (joined front s.part) ss (omega (arith, low, order))
      (ap₂ joined is all.0.part ∙ committed_joined job p a from s.upto low order) all.1

  pub part_held : (mark : Time) (h : HeldOf N) → IsHeld job mark p h → part_of h ≡ committed job p h.from h.clock
  part_held mark h is =
      ap₂ joined (stretches_joined h.from h.from nothing h.ended (omega arith) (sym (committed_none job p h.from)) is.ended) is.last
      ∙ committed_joined job p h.from (end_of_last h.from h.ended) h.clock (end_no_sooner h.from h.ended is.ended) is.upto

  tail_in_turn : (from : Time) (ss : List (Stretch N)) → IsOfRun job.limit from → AreStretches job p from ss → AreInTurn from ss
  tail_in_turn from [] of_run all = tt
  tail_in_turn from (s ∷ ss) of_run all =
      let order = all.0.order in (
        subst IsByTime (sym all.0.part) (committed_by_time job p from s.upto order),
        ap (since from) all.0.part ∙ (committed_since job p from from s.upto (omega arith) order of_run ∙ sym all.0.part),
        not_sooner job from s.upto of_run all.0.of_run order,
        tail_in_turn s.upto ss all.0.of_run all.1,
      )

  stretches_in_turn : (from : Time) (ss : List (Stretch N)) → AreStretches job p from ss → AreInTurn first_time ss
  stretches_in_turn from [] all = tt
  stretches_in_turn from (s ∷ ss) all = (
    subst IsByTime (sym all.0.part) (committed_by_time job p from s.upto all.0.order),
    since_first s.part,
    not_before_first s.upto,
    tail_in_turn s.upto ss all.0.of_run all.1,
  )

  pub held_by_time : (mark : Time) (h : HeldOf N) → IsHeld job mark p h → AreByTime h
  held_by_time mark h is = (
    stretches_in_turn h.from h.ended is.ended,
    subst IsByTime (sym is.last) (committed_by_time job p (end_of_last h.from h.ended) h.clock is.upto),
  )

  -- one more behind them
  pub stretches_more : (from : Time) (ss : List (Stretch N)) (s : Stretch N) → AreStretches job p from ss
      → IsStretch job p (end_of_last from ss) s → AreStretches job p from (ss ++ s ∷ [])
  stretches_more from [] s all one = (one, tt)
  stretches_more from (t ∷ ts) s all one = (all.0, stretches_more t.upto ts s all.1 one)

  pub end_of_more : (from : Time) (ss : List (Stretch N)) (s : Stretch N) → end_of_last from (ss ++ s ∷ []) ≡ s.upto
  end_of_more from [] s = refl
  end_of_more from (t ∷ ts) s = end_of_more t.upto ts s

  -- without those that end no later than a time
  module _ (time : Time) (of_run : IsOfRun job.limit time) where
    pub record IsRest (from : Time) (ss : List (Stretch N)) (start : Time) (rest : List (Stretch N)) : Type 0 where
      pub early : IsNoLater job start time
      pub all : AreStretches job p start rest
      pub end : end_of_last start rest ≡ end_of_last from ss

    pub past_rest : (from : Time) (ss : List (Stretch N)) → IsNoLater job from time → AreStretches job p from ss
        → IsRest from ss (start_past time from ss) (ended_past time ss)
    past_rest from [] low all = record { early = low; all = tt; end = refl }
    past_rest from (s ∷ ss) low all = by_test (is_before time s.upto) refl (λ no.
        past_rest s.upto ss (no_later job time s.upto of_run all.0.of_run no) all.1)
      where
        by_test : (t : Bool) → is_before time s.upto ≡ t
            → (is_before time s.upto ≡ false → IsRest s.upto ss (start_past time s.upto ss) (ended_past time ss))
            → IsRest from (s ∷ ss) (cond t from (start_past time s.upto ss)) (cond t (s ∷ ss) (ended_past time ss))
        by_test true e more = record { early = low; all = all; end = refl }
        by_test false e more = let rest = more e in record { early = rest.early; all = rest.all; end = rest.end }
