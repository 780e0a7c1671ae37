-- A world of the two processes is made for their job.
use Rattle.std.proofs.Common.{◌≡◌, ◌<◌, ℕ, zero, suc, true, false, List, [], ◌∷◌, Some, nat_eq, refl, sym, subst, ◌∙◌, arith, lit<}
use Rattle.std.specs.List.{slice_get}
use Rattle.std.proofs.lemmas.Bool.Decides.{nat_tests}
use Rattle.dv_conservative.specs.Alike.{AreAlike}
use Rattle.dv_conservative.specs.Sound.{AreApart, IsJob}
use Rattle.dv_conservative.specs.World.{Channel, share_of}
use Rattle.dv_conservative.proofs.SameRuns.{equal_alike}
use Rattle.dv_core.specs.Conservative.{IsConservative, state_by}
use Rattle.dv_core.specs.ProcessState.{IsNew}
use Rattle.dv_core.specs.Worlds.{AreMadeFor}
use Rattle.dv_proc.specs.declared.channel.Channel.{Channel as ChannelOfCode}
use Rattle.dv_proc.specs.declared.process.Process.{Process}
use Rattle.dv_record.specs.Told.{Told}
use Rattle.test_ring.specs.Ring.{job_by, job_of, share_by, view_of}
use Rattle.test_ring.specs.declared.job.RingJob.{RingJob}
use Rattle.test_ring.specs.declared.silent.Silent.{Silent}

never : {X : Type 0} → false ≡ true → X
never h = absurd (cc)

-- neither process is one that is not there
elsewhere : (n q : ℕ) → n < 2 → nat_eq n (suc (suc q)) ≡ false
elsewhere n q h = grind (arith, nat_tests)

apart : (limit horizon ticks q : ℕ) → AreApart (job_by limit horizon ticks) q (job_by limit horizon ticks).channels
apart limit horizon ticks zero = (λ h k own. never h, ((λ h k own. refl), tt))
apart limit horizon ticks (suc zero) = (λ h k own. refl, ((λ h k own. never h), tt))
apart limit horizon ticks (suc (suc q)) =
    let one = elsewhere 1 q (lit< tt) in
    let zero = elsewhere 0 q (lit< tt) in
    (λ h k own. never (sym one ∙ h), ((λ h k own. never (sym zero ∙ h)), tt))

is_job : (job : RingJob) → IsJob (λ k s. true) (job_of job)
is_job job = record {
  numbered = tt;
  sound = tt;
  outside = λ n. refl;
  lead = tt;
  apart = apart job.frame.limit job.frame.horizon job.ticks;
  heard = λ q. tt;
}

abbrev links : List ChannelOfCode
links = record { source = 0; target = 1 } ∷ record { source = 1; target = 0 } ∷ []

module _ (job : RingJob) (one other : Process Silent (Unit {0}) Told)
    (one_valid : IsConservative view_of view_of one) (other_valid : IsConservative view_of view_of other)
    (one_new : IsNew (state_by view_of one)) (other_new : IsNew (state_by view_of other))
    (one_share : (view_of one.local).share ≡ share_by job.frame.limit job.frame.horizon job.ticks 1 0)
    (other_share : (view_of other.local).share ≡ share_by job.frame.limit job.frame.horizon job.ticks 0 1) where
  abbrev processes : List (Process Silent (Unit {0}) Told)
  processes = one ∷ other ∷ []

  by_index : (Q : ℕ → Process Silent (Unit {0}) Told → Type 0) → Q 0 one → Q 1 other →
      (p : ℕ) (x : Process Silent (Unit {0}) Told) → slice_get processes p ≡ Some x → Q p x
  by_index Q at_one at_other zero x e = let same : one ≡ x = cc in subst (Q 0) same at_one
  by_index Q at_one at_other (suc zero) x e = let same : other ≡ x = cc in subst (Q 1) same at_other
  by_index Q at_one at_other (suc (suc p)) x e = absurd (cc)

  ends : (l : ℕ) (c : Channel) → slice_get (job_of job).channels l ≡ Some c → (c.source < 2) × (c.target < 2)
  ends zero c e =
      let same : (let d : Channel = record { source = 0; target = 1 } in d) ≡ c = cc in
      subst (λ (d : Channel). (d.source < 2) × (d.target < 2)) same (omega arith, omega arith)
  ends (suc zero) c e =
      let same : (let d : Channel = record { source = 1; target = 0 } in d) ≡ c = cc in
      subst (λ (d : Channel). (d.source < 2) × (d.target < 2)) same (omega arith, omega arith)
  ends (suc (suc l)) c e = absurd (cc)

  pub are_made : AreMadeFor job_of (state_by view_of) (IsConservative view_of view_of) job links processes
  are_made = record {
    valid = by_index (λ p x. IsConservative view_of view_of x) one_valid other_valid;
    fits = λ k s. true;
    sound = is_job job;
    links = refl;
    count = refl;
    ends = ends;
    shares = by_index (λ p x. AreAlike (state_by view_of x).share (share_of (job_of job) p) × IsNew (state_by view_of x))
        (equal_alike _ _ one_share, one_new) (equal_alike _ _ other_share, other_new);
    few = (lit< tt, lit< tt);
  }
