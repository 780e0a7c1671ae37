-- The least of clocks, and the clocks that are told of a run of which the trace was written to a mark.
use Rattle.std.proofs.Common.{◌≡◌, ℕ, zero, suc, ◌<◌, ◌≤◌, Bool, true, false, if◌then◌else◌, nat_lt, List, length}
use Rattle.std.proofs.Common.{replicate, slice_index_or}
use Rattle.std.proofs.Common.{Some, refl, sym, ap, subst, ◌∙◌, arith}
use Rattle.std.specs.List.{All, slice_get}
use Rattle.std.proofs.lemmas.Bool.Decides.{nat_tests}
use Rattle.std.proofs.lemmas.Option.{slice_get-get_or}
use Rattle.dv_time.specs.Time.{IsOfRun, is_before, rank, time_of}
use Rattle.dv_time.specs.declared.time.Time.{Time}
use Rattle.dv_time.proofs.Ranks.{is_before-rank, time_of-rank}
use Rattle.dv_board.specs.Clocks.{IsLeast, later}
use Rattle.dv_conservative.specs.Events.{same_time}
use Rattle.dv_conservative.proofs.Told.{same_times}
use Rattle.dv_devs.specs.Clocks.{least_rank}
use Rattle.dv_plan.specs.Clocks.{least_time}
use Rattle.dv_plan.proofs.LeastClock.{AllOfRun, least_above, least_below, least_of_same, least_time_of_run, least_time_rank}
use Rattle.dv_stream.specs.Clocks.{shown_clocks}
use Rattle.dv_work.proofs.Lists.{at_index}

-- times of the run at one rank are the same
pub same_rank : (limit : ℕ) (a b : Time) → IsOfRun limit a → IsOfRun limit b → rank limit a ≡ rank limit b → a ≡ b
same_rank limit a b h k e = sym (time_of-rank limit a h) ∙ ap (time_of limit) e ∙ time_of-rank limit b k

no_earlier_rank : (limit : ℕ) (a b : Time) → IsOfRun limit a → IsOfRun limit b → is_before a b ≡ false → rank limit b ≤ rank limit a
no_earlier_rank limit a b h k e =
    let test : nat_lt (rank limit a) (rank limit b) ≡ false = sym (is_before-rank limit a b h k) ∙ e in
    grind (arith, nat_tests)

-- of a time and one that is not before it the other is the later
pub later_is : (limit : ℕ) (a b : Time) → IsOfRun limit a → IsOfRun limit b → rank limit a ≤ rank limit b → later a b ≡ b
later_is limit a b h k le = by_test (is_before a b) refl
  where
    by_test : (t : Bool) → is_before a b ≡ t → (if t then b else a) ≡ b
    by_test true e = refl
    by_test false e = let ge = no_earlier_rank limit a b h k e in same_rank limit a b h k (omega (arith, ge, le))

-- there is one least clock
pub least_is : (limit : ℕ) (t : Time) (ts : List Time) → IsOfRun limit t → AllOfRun limit ts → IsLeast t ts → t ≡ least_time ts
least_is limit t ts of_run all least =
    let some : 0 < length ts = (let lt = least.is.1 in omega (arith, lt)) in
    let at : slice_get ts least.is.0 ≡ Some t = slice_get-get_or ts least.is.0 t least.is.1 ∙ ap Some least.is.2 in
    let low = least_below limit ts least.is.0 t at in
    let high = least_above limit (rank limit t) ts some
    (λ p u e. no_earlier_rank limit u t (all p u e) of_run
    (at_index (λ (c : Time). is_before c t ≡ false) ts p u least.none_before e)) in
    same_rank limit t (least_time ts) of_run (least_time_of_run limit ts all)
    (let is = least_time_rank limit ts some all in omega (arith, low, high, is))

pub replicated : (n : ℕ) (mark : Time) (p : ℕ) (t : Time) → slice_get (replicate n mark) p ≡ Some t → t ≡ mark
replicated zero mark p t e = absurd (cc)
replicated (suc n) mark zero t e = cc
replicated (suc n) mark (suc p) t e = replicated n mark p t e

pub replicated_length : (n : ℕ) (mark : Time) → length (replicate n mark) ≡ n
replicated_length zero mark = refl
replicated_length (suc n) mark = ap (λ (k : ℕ). suc k) (replicated_length n mark)

-- what holds of all that were reached, and of the mark, holds of all that are told
pub told_all : (P : Time → Type 0) (times : List Time) (mark : Time) → All P times → P mark → All P (shown_clocks times mark)
told_all P times mark all one = by_test (same_time (least_time times) mark)
  where
    by_test : (t : Bool) → All P (if t then times else replicate (length times) mark)
    by_test true = all
    by_test false = λ k d lt.
        let at = slice_get-get_or (replicate (length times) mark) k d lt in
        subst P (sym (replicated (length times) mark k (slice_index_or (replicate (length times) mark) k d) at)) one

-- as many are told as were reached
pub told_count : (times : List Time) (mark : Time) → length (shown_clocks times mark) ≡ length times
told_count times mark = by_test (same_time (least_time times) mark)
  where
    by_test : (t : Bool) → length (if t then times else replicate (length times) mark) ≡ length times
    by_test true = refl
    by_test false = replicated_length (length times) mark

module _ (limit : ℕ) (times : List Time) (mark : Time) (some : 0 < length times) (runs : All (IsOfRun limit) times) where
  pub told_some : 0 < length (shown_clocks times mark)
  told_some = by_test (same_time (least_time times) mark)
    where
      by_test : (t : Bool) → 0 < length (if t then times else replicate (length times) mark)
      by_test true = some
      by_test false = subst (λ (n : ℕ). 0 < n) (sym (replicated_length (length times) mark)) some

  -- the mark is the least of the clocks that are told
  pub told_least : rank limit mark ≡ least_rank limit (shown_clocks times mark)
  told_least = by_test (same_time (least_time times) mark) refl
    where
      by_test : (t : Bool) → same_time (least_time times) mark ≡ t
          → rank limit mark ≡ least_rank limit (if t then times else replicate (length times) mark)
      by_test true e =
          ap (rank limit) (sym (same_times (least_time times) mark e))
          ∙ least_time_rank limit times some (λ p t at. at_index (IsOfRun limit) times p t runs at)
      by_test false e =
          sym (least_of_same limit (rank limit mark) (replicate (length times) mark)
          (subst (λ (n : ℕ). 0 < n) (sym (replicated_length (length times) mark)) some)
          (λ p t at. ap (rank limit) (replicated (length times) mark p t at)))
