-- No clock falls, and rounds after rounds are rounds.
use Rattle.std.proofs.Common.{◌≡◌, inl, inr, ℕ, zero, suc, ◌+◌, ◌≤◌, Bool, true, false, nat_eq, List, [], ◌∷◌, Option, Some}
use Rattle.std.proofs.Common.{None, refl, sym, ap, subst, arith}
use Rattle.dv_time.specs.Time.{rank}
use Rattle.dv_time.specs.declared.time.Time.{Time}
use Rattle.dv_conservative.specs.Rounds.{AreRounds, IsDriven, round}
use Rattle.dv_conservative.specs.World.{Answers, AnswersBy, IsStep, IsTurn, Job, Reply, Step, World, Turn, Put, Take, Stop}
use Rattle.dv_conservative.specs.World.{Done, Refused, Stopped, Empty, Full, Memory, refusal}
use Rattle.dv_conservative.proofs.Local.{same_number}
use Rattle.dv_core.specs.Worlds.{EndsAs, IsCut}
use Rattle.dv_core.specs.declared.step.Ended.{Ended}
use Rattle.dv_core.specs.declared.step.Ended.TheVariants as ended

module _ (job : Job) where
  -- no clock is earlier
  abbrev pub Rise : World → World → Type 0
  Rise w v = (p : ℕ) → rank job.limit (w.clock p) ≤ rank job.limit (v.clock p)

  same_clocks : (w v : World) → v.clock ≡ w.clock → Rise w v
  same_clocks w v e p = let at = ap (λ (c : ℕ → Time). rank job.limit (c p)) e in omega (arith, at)

  same_world : (w v : World) → v ≡ w → Rise w v
  same_world w v e = same_clocks w v (ap (λ (x : World). x.clock) e)

  then_rise : (w u v : World) → Rise w u → Rise u v → Rise w v
  then_rise w u v a b p = let one = a p in let two = b p in omega (arith, one, two)

  turn_rises : (p : ℕ) (w v : World) → IsTurn job p w v → Rise w v
  turn_rises p w v turn q = by_process (nat_eq q p) refl
    where
      by_process : (t : Bool) → nat_eq q p ≡ t → rank job.limit (w.clock q) ≤ rank job.limit (v.clock q)
      by_process true e =
          let same : q ≡ p = same_number q p e in
          subst (λ (i : ℕ). rank job.limit (w.clock i) ≤ rank job.limit (v.clock i)) (sym same) turn.rises
      by_process false e =
          let at : rank job.limit (v.clock q) ≡ rank job.limit (w.clock q) = ap (rank job.limit) (turn.others q e) in omega (arith, at)

  answer_rises : (s : Step) (reply : Reply) (w v : World) → Answers job s reply w v → Rise w v
  answer_rises (Turn p) Done w v h = turn_rises p w v h
  answer_rises (Put l) Done w v h = same_clocks w v h.clock
  answer_rises (Take l) Done w v h = same_clocks w v h.clock
  answer_rises (Stop p) Done w v h = same_clocks w v h.clock
  answer_rises (Turn p) Memory w v h = same_world w v h
  answer_rises (Put l) Memory w v h = same_world w v h
  answer_rises (Take l) Memory w v h = same_world w v h
  answer_rises (Stop p) Memory w v h = absurd h
  answer_rises s Refused w v h = absurd h
  answer_rises s Stopped w v h = absurd h
  answer_rises s Empty w v h = absurd h
  answer_rises s Full w v h = absurd h

  step_rises : (s : Step) (reply : Reply) (w v : World) → IsStep job s reply w v → Rise w v
  step_rises s reply w v h = by_refusal (refusal job w s) h
    where
      by_refusal : (o : Option Reply) → AnswersBy o job s reply w v → Rise w v
      by_refusal None h = answer_rises s reply w v h
      by_refusal (Some r) h = same_world w v h.1

  driven_rises : (ss : List Step) (w v : World) → IsDriven job ss w v → Rise w v
  driven_rises [] w v h = same_world w v h
  driven_rises (s ∷ ss) w v h = then_rise w h.0 v (step_rises s h.1 w h.0 h.2) (driven_rises ss h.0 v h.5)

  cut_rises : (ss : List Step) (w v : World) → IsCut job ss w v → Rise w v
  cut_rises [] w v h = absurd h
  cut_rises (s ∷ ss) w v (inl h) = step_rises s Memory w v h
  cut_rises (s ∷ ss) w v (inr h) = then_rise w h.0 v (step_rises s h.1 w h.0 h.2) (cut_rises ss h.0 v h.5)

  rounds_rise : (k : ℕ) (w v : World) → AreRounds job k w v → Rise w v
  rounds_rise zero w v h = same_world w v h
  rounds_rise (suc k) w v h = then_rise w h.0 v (rounds_rise k w h.0 h.1) (driven_rises (round job) h.0 v h.2)

  pub ends_rise : (most : ℕ) (e : Ended) (w v : World) → EndsAs job most e w v → Rise w v
  ends_rise most ended.Whole w v h = rounds_rise h.0 w v h.2
  ends_rise most ended.Stalled w v h = rounds_rise most w v h.0
  ends_rise most ended.Memory w v h = then_rise w h.2.0 v (rounds_rise h.0 w h.2.0 h.2.1) (cut_rises (round job) h.2.0 v h.2.2)

  -- ---- rounds after rounds

  more_rounds : (k m : ℕ) (w u v : World) → AreRounds job k w u → AreRounds job m u v → AreRounds job (m + k) w v
  more_rounds k zero w u v a b =
      let same : k ≡ 0 + k = omega arith in
      subst (λ (n : ℕ). AreRounds job n w v) same (subst (λ (x : World). AreRounds job k w x) (sym b) a)
  more_rounds k (suc m) w u v a b =
      let next : suc (m + k) ≡ suc m + k = omega arith in
      subst (λ (n : ℕ). AreRounds job n w v) next (b.0, more_rounds k m w u b.0 a b.1, b.2)

  -- after rounds that did not end the run, so many more at most
  pub ends_later : (k m : ℕ) (e : Ended) (w u v : World) → EndsAs job k ended.Stalled w u → EndsAs job m e u v → EndsAs job (m + k) e w v
  ends_later k m ended.Whole w u v a b = (b.0 + k, omega (arith, b.1), more_rounds k b.0 w u v a.0 b.2, b.3)
  ends_later k m ended.Stalled w u v a b = (more_rounds k m w u v a.0 b.0, b.1)
  ends_later k m ended.Memory w u v a b = (b.0 + k, omega (arith, b.1), (b.2.0, more_rounds k b.0 w u b.2.0 a.0 b.2.1, b.2.2))

  -- an end that came after some rounds came within more
  pub ends_within : (few most : ℕ) → few ≤ most → (e : Ended) → (e ≡ ended.Stalled → ⊥) → (w v : World) → EndsAs job few e w v
      → EndsAs job most e w v
  ends_within few most le ended.Whole some w v h = (h.0, omega (arith, le, h.1), h.2, h.3)
  ends_within few most le ended.Stalled some w v h = absurd (some refl)
  ends_within few most le ended.Memory some w v h = (h.0, omega (arith, le, h.1), h.2)
