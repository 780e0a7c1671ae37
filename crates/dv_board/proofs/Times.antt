-- Times of a job's run, in order.
use Rattle.std.proofs.Common.{◌≡◌, true, false, sym, ◌∙◌, arith}
use Rattle.std.proofs.lemmas.Bool.{le-ltb, ltb-false, ltb-true}
use Rattle.std.proofs.lemmas.Bool.Decides.{nat_tests}
use Rattle.dv_time.specs.Time.{IsOfRun, is_before, rank}
use Rattle.dv_time.specs.declared.time.Time.{Time}
use Rattle.dv_time.proofs.Ranks.{is_before-rank}
use Rattle.dv_conservative.specs.Process.{first_time}
use Rattle.dv_conservative.specs.World.{Job}
use Rattle.dv_board.specs.Clocks.{IsNoLater, IsSooner}

pub not_before_itself : (a : Time) → is_before a a ≡ false
not_before_itself a = grind (arith, nat_tests)

pub not_before_sooner : (a b c : Time) → is_before a b ≡ true → is_before c b ≡ false → is_before c a ≡ false
not_before_sooner a b c h k = grind (arith, nat_tests)

pub not_before_first : (t : Time) → is_before t first_time ≡ false
not_before_first t = grind (arith, nat_tests)

module _ (job : Job) (a b : Time) (h : IsOfRun job.limit a) (k : IsOfRun job.limit b) where
  pub sooner : is_before a b ≡ true → IsSooner job a b
  sooner e = ltb-true (rank job.limit a) (rank job.limit b) (sym (is_before-rank job.limit a b h k) ∙ e)

  pub no_later : is_before a b ≡ false → IsNoLater job b a
  no_later e = ltb-false (rank job.limit a) (rank job.limit b) (sym (is_before-rank job.limit a b h k) ∙ e)

  pub not_sooner : IsNoLater job a b → is_before b a ≡ false
  not_sooner le = is_before-rank job.limit b a k h ∙ le-ltb (rank job.limit b) (rank job.limit a) le
