-- What the instants between two ranks add to a trace or a part: cut, joined, and by time.
use Rattle.std.proofs.Common.{◌≡◌, ℕ, ◌+◌, ◌-◌, ◌≤◌, false, not, sym, ap, ap₂, subst, ◌∙◌, arith}
use Rattle.std.proofs.lemmas.List.Kept.{AllPairs-filter}
use Rattle.dv_time.specs.Time.{IsOfRun, is_before, rank, time_of}
use Rattle.dv_time.specs.declared.time.Time.{Time}
use Rattle.dv_time.proofs.Ranks.{time_of-rank}
use Rattle.dv_bag.specs.Part.{IsByTime, PartOf, before, joined, nothing, since}
use Rattle.dv_bag.specs.declared.entry.Entry.{Entry}
use Rattle.dv_bag.specs.declared.entry.Outer.{Outer}
use Rattle.dv_devs.specs.Cuts.{IsAllAt, all_between}
use Rattle.dv_devs.specs.Network.{all_before}
use Rattle.dv_devs.specs.Parts.{part_at}
use Rattle.dv_devs.proofs.ByTime.{part_by_time}
use Rattle.dv_devs.proofs.Cuts.{cut_before, cut_since, join_between, part_since, parts_at, ranks_not_before, since_joined}
use Rattle.dv_conservative.specs.Flat.{whole}
use Rattle.dv_conservative.specs.World.{Job, owned}
use Rattle.dv_board.specs.Clocks.{IsNoLater}
use Rattle.dv_board.specs.Jobs.{committed}
use Rattle.dv_board.proofs.Cutting.{before_since, since_already, since_since}

-- parts of which each is at its own time
module _ (limit : ℕ) (parts : ℕ → PartOf) (at : (k : ℕ) → IsAllAt (time_of limit k) (parts k))
    (a b c : ℕ) (low : a ≤ b) (high : b ≤ c) where
  no_later : is_before (time_of limit b) (time_of limit a) ≡ false
  no_later = ranks_not_before limit b a low

  cut_at : (n : ℕ) → n ≤ c → all_between parts n c ≡ since (time_of limit n) (all_before parts c)
  cut_at n le = sym (cut_since limit parts at n c le)

  pub between_since : since (time_of limit b) (all_between parts a c) ≡ all_between parts b c
  between_since =
      ap (since (time_of limit b)) (cut_at a (omega arith))
      ∙ since_since (time_of limit a) (time_of limit b) no_later (all_before parts c)
      ∙ cut_since limit parts at b c high

  pub between_before : before (time_of limit b) (all_between parts a c) ≡ all_between parts a b
  between_before =
      ap (before (time_of limit b)) (cut_at a (omega arith))
      ∙ before_since (time_of limit a) (time_of limit b) (all_before parts c)
      ∙ ap (since (time_of limit a)) (cut_before limit parts at b c high)
      ∙ cut_since limit parts at a b low

  pub between_joined : joined (all_between parts a b) (all_between parts b c) ≡ all_between parts a c
  between_joined =
      sym (cut_at a (omega arith)
      ∙ ap (since (time_of limit a)) (sym (join_between parts b c high))
      ∙ since_joined (time_of limit a) (all_before parts b) (all_between parts b c)
      ∙ ap₂ joined (cut_since limit parts at a b low)
      (ap (since (time_of limit a)) (cut_at b high)
      ∙ since_already (time_of limit a) (time_of limit b) no_later (all_before parts c)
      ∙ cut_since limit parts at b c high))

-- ---- of a job, at times of its run

-- a time of the run is the time at its rank
at_time : {X : Type 0} (f : Time → X) (limit : ℕ) (t : Time) → IsOfRun limit t → f t ≡ f (time_of limit (rank limit t))
at_time f limit t h = ap f (sym (time_of-rank limit t h))

module _ (job : Job) (p : ℕ) where
  abbrev instants : ℕ → PartOf
  instants = part_at (owned job p) job.limit (whole job.flat) job.outside

  instants_at : (k : ℕ) → IsAllAt (time_of job.limit k) (instants k)
  instants_at = parts_at job.limit (whole job.flat) job.outside (owned job p)

  -- from a time on and before it there is nothing
  pub committed_none : (a : Time) → committed job p a a ≡ nothing
  committed_none a =
      let r = rank job.limit a in
      let none : r - r ≡ 0 = omega arith in
      ap (λ (n : ℕ). all_before (λ k. instants (r + k)) n) none

  module _ (a b c : Time) (low : IsNoLater job a b) (high : IsNoLater job b c) where
    pub committed_since : IsOfRun job.limit b → since b (committed job p a c) ≡ committed job p b c
    committed_since h =
        at_time (λ t. since t (committed job p a c)) job.limit b h
        ∙ between_since job.limit instants instants_at (rank job.limit a) (rank job.limit b) (rank job.limit c) low high

    pub committed_before : IsOfRun job.limit b → before b (committed job p a c) ≡ committed job p a b
    committed_before h =
        at_time (λ t. before t (committed job p a c)) job.limit b h
        ∙ between_before job.limit instants instants_at (rank job.limit a) (rank job.limit b) (rank job.limit c) low high

    pub committed_joined : joined (committed job p a b) (committed job p b c) ≡ committed job p a c
    committed_joined =
        between_joined job.limit instants instants_at (rank job.limit a) (rank job.limit b) (rank job.limit c) low high

  pub committed_by_time : (a b : Time) → IsNoLater job a b → IsByTime (committed job p a b)
  committed_by_time a b le =
      let all = part_by_time job.limit (whole job.flat) job.outside (owned job p) (rank job.limit b) in
      let start = time_of job.limit (rank job.limit a) in
      subst IsByTime (part_since job.limit (whole job.flat) job.outside (owned job p) (rank job.limit a) (rank job.limit b) le) (
        AllPairs-filter (λ (x y : Entry). is_before y.time x.time ≡ false) (λ (e : Entry). not (is_before e.time start)) _ all.0,
        AllPairs-filter (λ (x y : Outer). is_before y.time x.time ≡ false) (λ (o : Outer). not (is_before o.time start)) _ all.1,
      )
