-- Processes at the beginning of a run, and plans that can be run.
use Rattle.std.specs.Prelude.{◌≡◌, ℕ, ◌<◌, ◌^◌, Bool, List, [], ◌∷◌, length, slice_get, Some}
use Rattle.std.specs.List.{AllByRecursion}
use Rattle.dv_bag.specs.declared.state.State.{State}
use Rattle.dv_devs.specs.Behaviour.{Behaviour}
use Rattle.dv_devs.specs.NextTimes.{IsFrom, least_next}
use Rattle.dv_conservative.specs.Process.{Share as ShareAsMeant}
use Rattle.dv_conservative.specs.Sound.{IsJob, IsSoundShare}
use Rattle.dv_conservative.specs.World.{Channel, Job}
use Rattle.dv_react.specs.Components.{components_of}
use Rattle.dv_share.specs.Share.{starts_of}
use Rattle.dv_proc.specs.Arriving.{AreApart}
use Rattle.dv_proc.specs.Local.{View}
use Rattle.dv_proc.specs.declared.process.Process.{Process}
use Rattle.dv_local.specs.Shares.{IsShare, numbers_of_ways, share_by}
use Rattle.dv_local.specs.declared.share.Share.{Share}
use Rattle.dv_plan.specs.Plans.{IsPlanOf}
use Rattle.dv_plan.specs.declared.plan.Plan.{Plan}
use Rattle.dv_core.specs.Conservative.{IsConservative, state_by}
use Rattle.dv_core.specs.ProcessState.{IsNew}

-- A share with which a process can begin: no component is imminent at 0.0, its components are sound, and no two of its channels have
-- the same number.
pub record CanBegin {S : Type 0} (behaviour : S → Behaviour) (fits : S → State → Type 0) (s : Share S) : Type 0 where
  pub few : length s.tables.members.items < 2 ^ 32
  pub share : IsShare fits s
  pub later : IsFrom 1 (least_next (components_of s.tables.limit (starts_of s.tables.members.items)))
  pub sound : (sound : ℕ → State → Bool) × IsSoundShare sound (share_by behaviour s)
  pub apart_in : AreApart s.sources.items
  pub apart_out : AreApart (numbers_of_ways s.ways.items)

-- a process of a share at the beginning of a run
pub record HasBegun {L W R : Type 0} (view settled : L → View) (s : ShareAsMeant) (p : Process L W R) : Type 0 where
  pub valid : IsConservative view settled p
  pub share : (state_by view p).share ≡ s
  pub new : IsNew (state_by view p)

-- a process of each of several shares
abbrev pub AllBegun : {L W R : Type 0} → (L → View) → (L → View) → List ShareAsMeant → List (Process L W R) → Type 0
AllBegun view settled [] [] = Unit {0}
AllBegun view settled [] (p ∷ ps) = ⊥
AllBegun view settled (s ∷ ss) [] = ⊥
AllBegun view settled (s ∷ ss) (p ∷ ps) = HasBegun view settled s p × AllBegun view settled ss ps

-- A plan that can be run: it is the plan of a job that can be run in parts, its channels are between existing processes, and a process
-- can begin with each of its shares.
pub record CanRun {J S : Type 0} (means : J → Job) (behaviour : S → Behaviour) (fits : S → State → Type 0) (job : J) (plan : Plan S)
    : Type 0 where
  pub planned : IsPlanOf behaviour fits (means job) plan
  pub begin : AllByRecursion (CanBegin behaviour fits) plan.shares.items
  pub sound : (sound : ℕ → State → Bool) × IsJob sound (means job)
  pub ends : (l : ℕ) (c : Channel) → slice_get (means job).channels l ≡ Some c
      → (c.source < (means job).processes) × (c.target < (means job).processes)
  pub few : (length plan.shares.items < 2 ^ 32) × (length plan.links.items < 2 ^ 32)
