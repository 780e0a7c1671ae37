-- What a process of a text begins with.
use Rattle.std.proofs.Common.{◌≡◌, ℕ, ◌<◌, List, [], None, map, refl, sym, ap, ◌∙◌, subst}
use Rattle.std.specs.List.{AllByRecursion}
use Rattle.dv_bag.specs.Part.{nothing}
use Rattle.dv_bag.specs.declared.inputs.Input.{Input}
use Rattle.dv_check.specs.Refusals.{refusal_of}
use Rattle.dv_check.specs.Writable.{IsWritable}
use Rattle.dv_syntax.specs.Trees.{FileTree}
use Rattle.dv_tree.specs.Instances.{instances}
use Rattle.dv_conservative.specs.Alike.{with_outside}
use Rattle.dv_conservative.specs.Flat.{Flat, network}
use Rattle.dv_conservative.specs.Process.{Outgoing, Share as Meant}
use Rattle.dv_conservative.specs.Sound.{IsSoundShare}
use Rattle.dv_conservative.specs.World.{Job, share_of}
use Rattle.dv_devs.specs.Behaviour.{Component}
use Rattle.dv_devs.specs.NextTimes.{IsFrom, least_next}
use Rattle.dv_coded.specs.Lent.{behaviour_of_lent, lent_takes}
use Rattle.dv_coded.specs.declared.lent.Lent.{Lent}
use Rattle.dv_local.specs.Shares.{share_by}
use Rattle.dv_local.specs.declared.share.Share.{Share}
use Rattle.dv_local.proofs.Starts.{away_numbers, starts_are}
use Rattle.dv_plan.specs.Plans.{IsPlanOf, IsShareOf}
use Rattle.dv_plan.specs.declared.plan.Plan.{Plan}
use Rattle.dv_proc.specs.Arriving.{AreApart}
use Rattle.dv_proc.specs.Local.{DeliverAlike, View}
use Rattle.dv_proc.specs.Standing.{IsBegun}
use Rattle.dv_react.specs.Components.{components_of}
use Rattle.dv_plan.specs.Beginning.{CanBegin}
use Rattle.dv_share.specs.Share.{starts_of}
use Rattle.law_sound.specs.Jobs.{AllInputNumbers, fits_number, job_of}
use Rattle.law_sound.proofs.Jobbing.{numbers_at}
use Rattle.dv_run.proofs.Numbered.{holds_at, holds_of_all}

-- ---- The laws on which it rests

abbrev pub StartsSound : Type 0
StartsSound =
    (f : FileTree) (inputs : List Input) (limit horizon processes p : ℕ) (owner : ℕ → ℕ)
    → IsWritable f → refusal_of f ≡ None → AllInputNumbers inputs → ((k : ℕ) → owner k < processes)
    → IsSoundShare (fits_number (instances f)) (share_of (job_of limit horizon f inputs processes owner) p)

abbrev pub Begins : Type 0
Begins =
    (f : FileTree) (inputs : List Input) (limit horizon processes p : ℕ) (owner : ℕ → ℕ) (v : View)
    → v.share ≡ share_of (job_of limit horizon f inputs processes owner) p
    → v.components ≡ (network v.share.flat).start → v.committed ≡ nothing
    → ((n : ℕ) → DeliverAlike (v.held n) []) → IsBegun v

abbrev pub ApartIn : Type 0
ApartIn = (job : Job) (p : ℕ) → AreApart (share_of job p).incoming

abbrev pub ApartOut : Type 0
ApartOut = (job : Job) (p : ℕ) → AreApart (map (λ (o : Outgoing). o.number) (share_of job p).outgoing)

module _ (f : FileTree) (inputs : List Input) (horizon limit processes : ℕ) (owner : ℕ → ℕ)
    (writable : IsWritable f) (accepted : refusal_of f ≡ None) (numbers : AllInputNumbers inputs)
    (within : (k : ℕ) → owner k < processes)
    (sound : StartsSound) (begins : Begins) (apart_in : ApartIn) (apart_out : ApartOut) where
  abbrev job : Job
  job = job_of limit horizon f inputs processes owner

  module _ (p : ℕ) (s : Share Lent) (its : IsShareOf behaviour_of_lent lent_takes job p s) (own : AllInputNumbers s.inputs) where
    abbrev here : Meant
    here = share_by behaviour_of_lent s

    abbrev there : Meant
    there = share_of job p

    flat_is : here.flat ≡ there.flat
    flat_is = ap (λ (x : Meant). x.flat) its.alike.same

    is_sound : IsSoundShare (fits_number (instances f)) here
    is_sound =
        let h = sound f inputs limit horizon processes p owner writable accepted numbers within in
        let made : IsSoundShare (fits_number (instances f)) (with_outside here.outside there) = record {
          sound = h.sound;
          outside = λ n. numbers_at s.tables.limit s.ports s.inputs own n;
        } in
        subst (IsSoundShare (fits_number (instances f))) (sym its.alike.same) made

    abbrev start : View
    start = record { share = there; components = (network there.flat).start; committed = nothing; held = λ n. [] }

    later : IsFrom 1 (least_next (components_of s.tables.limit (starts_of s.tables.members.items)))
    later =
        let h = begins f inputs limit horizon processes p owner start refl refl refl (λ n k port bag. refl) in
        let at : IsFrom 1 (least_next (network here.flat).start) =
        subst (λ (x : Flat). IsFrom 1 (least_next (network x).start)) (sym flat_is) h.later in
        subst (λ (cs : List Component). IsFrom 1 (least_next cs))
        (sym (starts_are behaviour_of_lent s.tables.limit s.tables.models.items s.tables.members.items)) at

    pub can_begin : CanBegin behaviour_of_lent lent_takes s
    can_begin = record {
      few = its.few;
      share = its.share;
      later = later;
      sound = (fits_number (instances f), is_sound);
      apart_in = subst AreApart (sym (ap (λ (x : Meant). x.incoming) its.alike.same)) (apart_in job p);
      apart_out =
          subst AreApart
          (ap (λ (os : List Outgoing). map (λ (o : Outgoing). o.number) os) (sym (ap (λ (x : Meant). x.outgoing) its.alike.same))
          ∙ away_numbers s.ways.items)
          (apart_out job p);
    }

  pub all_can_begin : (plan : Plan Lent) → IsPlanOf behaviour_of_lent lent_takes job plan
      → AllByRecursion (λ (s : Share Lent). AllInputNumbers s.inputs) plan.shares.items
      → AllByRecursion (CanBegin behaviour_of_lent lent_takes) plan.shares.items
  all_can_begin plan planned own =
      holds_of_all (CanBegin behaviour_of_lent lent_takes) plan.shares.items (λ p s e.
      can_begin p s (planned.shares p s e) (holds_at (λ (x : Share Lent). AllInputNumbers x.inputs) plan.shares.items p s own e))
