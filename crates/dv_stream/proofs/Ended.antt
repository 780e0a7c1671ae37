-- How a run in rounds ended, by whether every clock is at the end, and by how its rounds ended; and how one by workers did.
use Rattle.std.proofs.Common.{◌≡◌, ◌≢◌, ℕ, Bool, true, false, if◌then◌else◌, List, Option, Some, refl, sym, ◌∙◌, arith}
use Rattle.std.specs.Prelude.{◌↔◌, IsTrue}
use Rattle.std.specs.List.{list_any, slice_get}
use Rattle.std.proofs.lemmas.Option.{slice_get_within}
use Rattle.dv_time.specs.declared.time.Time.{Time}
use Rattle.dv_conservative.specs.World.{Job, World}
use Rattle.dv_core.specs.Worlds.{IsWhole, end_time}
use Rattle.dv_core.specs.declared.step.Ended.{Ended}
use Rattle.dv_core.specs.declared.step.Ended.TheVariants.{Memory, Stalled, Whole}
use Rattle.dv_core.proofs.Lookups.{some_at}
use Rattle.dv_plan.specs.Runs.{AreClocksOf}
use Rattle.dv_stream.specs.Endings.{by_rounds, why_for}
use Rattle.dv_work.specs.Endings.{is_caused, lacks_memory}
use Rattle.dv_work.specs.declared.worker.Halt.{Halt}
use Rattle.dv_stream.specs.declared.ran.RunEnded.{RunEnded}
use Rattle.dv_stream.specs.declared.ran.RunEnded.TheVariants as told
use Rattle.dv_stream.specs.declared.ran.Why.{Why}
use Rattle.dv_stream.specs.declared.ran.Why.TheVariants as why

-- how rounds ended, by what is told of it
pub whole_by_rounds : (e : Ended) → by_rounds e ≡ told.Whole → e ≡ Whole
whole_by_rounds Whole is = refl
whole_by_rounds Stalled is = absurd (cc)
whole_by_rounds Memory is = absurd (cc)

pub stalled_by_rounds : (e : Ended) → by_rounds e ≡ told.Cut why.Rounds → e ≡ Stalled
stalled_by_rounds Whole is = absurd (cc)
stalled_by_rounds Stalled is = refl
stalled_by_rounds Memory is = absurd (cc)

pub memory_by_rounds : (e : Ended) → by_rounds e ≡ told.Cut why.Memory → e ≡ Memory
memory_by_rounds Whole is = absurd (cc)
memory_by_rounds Stalled is = absurd (cc)
memory_by_rounds Memory is = refl

pub never_stopped_by_rounds : (e : Ended) → by_rounds e ≡ told.Cut why.Stopped → ⊥
never_stopped_by_rounds Whole is = absurd (cc)
never_stopped_by_rounds Stalled is = absurd (cc)
never_stopped_by_rounds Memory is = absurd (cc)

-- it is whole exactly if every clock is at the end
pub ends_whole : (b : Bool) (e : Ended) (W : Type 0) → IsTrue b ↔ W → (e ≡ Whole → W)
    → ((if b then told.Whole else by_rounds e) ≡ told.Whole) ↔ W
ends_whole true e W is so = (λ same. is.0 refl, λ w. refl)
ends_whole false e W is so = (λ same. so (whole_by_rounds e same), λ w. absurd (let t : false ≡ true = is.1 w in cc))

-- and else as the rounds did
pub ends_as : (b : Bool) (e : Ended) → (if b then told.Whole else by_rounds e) ≢ told.Whole
    → (if b then told.Whole else by_rounds e) ≡ by_rounds e
ends_as true e cut = absurd (cut refl)
ends_as false e cut = refl

-- the clocks of a world that is whole
pub whole_clocks : (job : Job) (w : World) (times : List Time) → AreClocksOf job w times
    → IsWhole job w ↔ ((p : ℕ) (t : Time) → slice_get times p ≡ Some t → t ≡ end_time job)
whole_clocks job w times are = (
  λ whole p t at.
      let within = slice_get_within times p t at in
      let count = are.count in
      sym (are.clocks p t at) ∙ whole p (omega (arith, within, count)),
  λ all p among.
      let count = are.count in
      let there = some_at times p (omega (arith, among, count)) in
      are.clocks p there.0 there.1 ∙ all p there.0 there.1,
)

-- a run that is whole, or cut for a reason, by whether its whole trace was written
pub whole_of : (b : Bool) (w : Why) → (if b then told.Whole else told.Cut w) ≡ told.Whole → IsTrue b
whole_of true w e = refl
whole_of false w e = absurd (cc)

pub whole_if : (b : Bool) (w : Why) → IsTrue b → (if b then told.Whole else told.Cut w) ≡ told.Whole
whole_if true w is = refl
whole_if false w is = absurd (cc)

pub whole_or_cut : (b : Bool) (w : Why) → (if b then told.Whole else told.Cut w) ≢ told.Whole
    → (if b then told.Whole else told.Cut w) ≡ told.Cut w
whole_or_cut true w not_whole = absurd (not_whole refl)
whole_or_cut false w not_whole = refl

-- workers never end for want of rounds
why_not_rounds : (memory is_caused : Bool)
    → (if memory then why.Memory else if is_caused then why.Stopped else why.Memory) ≡ why.Rounds → ⊥
why_not_rounds true is_caused e = absurd (cc)
why_not_rounds false true e = absurd (cc)
why_not_rounds false false e = absurd (cc)

pub never_for_rounds : {C : Type 0} (ended : RunEnded) (halts : List (Option (Halt C)))
    → (ended ≢ told.Whole → ended ≡ told.Cut (why_for halts)) → ended ≢ told.Cut why.Rounds
never_for_rounds told.Whole halts as_said e = absurd (cc)
never_for_rounds (told.Cut w) halts as_said e =
    why_not_rounds (list_any lacks_memory halts) (list_any is_caused halts) (cut_is (sym (as_said (λ whole. absurd (cc))) ∙ e))
  where
    cut_is : {a b : Why} → told.Cut a ≡ told.Cut b → a ≡ b
    cut_is e = cc
