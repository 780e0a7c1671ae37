-- What the processes of a world hand over.
use Rattle.std.proofs.Common.{◌≡◌, ℕ, List, length, map, Some, refl, sym, ap, subst, ◌∙◌}
use Rattle.std.specs.List.{slice_get}
use Rattle.std.specs.Option.{option_map}
use Rattle.std.proofs.lemmas.List.{length-map}
use Rattle.std.proofs.lemmas.Option.{slice_get-map}
use Rattle.dv_time.specs.Time.{rank}
use Rattle.dv_time.specs.declared.time.Time.{Time}
use Rattle.dv_bag.specs.Part.{PartOf}
use Rattle.dv_devs.specs.Parts.{part_before}
use Rattle.dv_conservative.specs.Flat.{whole}
use Rattle.dv_conservative.specs.Process.{IsWithin}
use Rattle.dv_conservative.specs.World.{Job, owned, share_of}
use Rattle.dv_core.specs.Kept.{Kept, clock_of, world_of}
use Rattle.dv_core.specs.ProcessState.{ProcessState}
use Rattle.dv_core.specs.Worlds.{IsTrueToModel}
use Rattle.dv_plan.specs.Runs.{AreClocksOf, AreOfWorld}
use Rattle.dv_plan.proofs.Beginning.{IsGivenAt, given_at}

-- what a world of processes hands over
module _ {P : Type 0} (state : P → ProcessState) (job : Job) (k : Kept) (processes : List P) (states : k.states ≡ map state processes)
    (holds : IsTrueToModel job k) (all : List PartOf) (times : List Time) (parts : all ≡ map (λ x. (state x).part) processes)
    (clocks : times ≡ map (λ x. (state x).position.clock) processes) where
  counted : length processes ≡ job.processes
  counted = sym (ap length states ∙ length-map processes state) ∙ holds.count

  seen : (p : ℕ) (x : P) → slice_get processes p ≡ Some x → slice_get k.states p ≡ Some (state x)
  seen p x there = ap (λ (xs : List ProcessState). slice_get xs p) states ∙ slice_get-map state processes p ∙ ap (option_map state) there

  module _ (p : ℕ) (t : Time) (at : slice_get times p ≡ Some t) where
    own : IsGivenAt (λ x. (state x).position.clock) processes p t
    own = given_at (λ x. (state x).position.clock) processes p t (sym (ap (λ (ts : List Time). slice_get ts p) clocks) ∙ at)

    its_clock : (world_of job k).clock p ≡ t
    its_clock = ap clock_of (seen p own.item own.there) ∙ own.given

    is_within : IsWithin (share_of job p) t
    is_within = subst (IsWithin (share_of job p)) own.given (holds.within p (state own.item) (seen p own.item own.there))

    its_part : (x : PartOf) → slice_get all p ≡ Some x
        → x ≡ part_before (owned job p) job.limit (whole job.flat) job.outside (rank job.limit t)
    its_part x there =
        let committed = given_at (λ x. (state x).part) processes p x (sym (ap (λ (xs : List PartOf). slice_get xs p) parts) ∙ there) in
        let same : Some committed.item ≡ Some own.item = sym committed.there ∙ own.there in
        let one : committed.item ≡ own.item = cc in
        sym committed.given
        ∙ ap (λ (y : P). (state y).part) one
        ∙ holds.parts p (state own.item) (seen p own.item own.there)
        ∙ ap (λ (u : Time). part_before (owned job p) job.limit (whole job.flat) job.outside (rank job.limit u)) own.given

  pub of_world : AreOfWorld job (world_of job k) all times
  of_world = record {
    count = ap length clocks ∙ length-map processes (λ x. (state x).position.clock) ∙ counted;
    clocks = its_clock;
    within = is_within;
    long = ap length parts ∙ length-map processes (λ x. (state x).part) ∙ counted;
    parts = λ p x t there at. its_part p t at x there;
  }

-- and the clocks to which its processes came
pub clocks_of_world : {P : Type 0} (state : P → ProcessState) (job : Job) (k : Kept) (processes : List P)
    → k.states ≡ map state processes → IsTrueToModel job k → (times : List Time)
    → times ≡ map (λ x. (state x).position.clock) processes → AreClocksOf job (world_of job k) times
clocks_of_world state job k processes states holds times clocks =
    let own = of_world state job k processes states holds (map (λ x. (state x).part) processes) times refl clocks in
    record { count = own.count; clocks = own.clocks; within = own.within }
