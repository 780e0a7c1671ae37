-- Steps of processes by programs are steps of processes by rules.
use Rattle.std.proofs.Common.{◌≡◌, ◌⊎◌, inl, inr, ℕ, zero, suc, Bool, true, false, cond, nat_eq, List, [], ◌∷◌, Option, Some, None, refl}
use Rattle.std.proofs.Common.{ap, ◌∙◌, subst}
use Rattle.std.specs.List.{filter}
use Rattle.dv_conservative.specs.Flat.{Member}
use Rattle.dv_conservative.specs.Process.{Outgoing, Share, events_by}
use Rattle.dv_conservative.specs.Rounds.{AreRounds, IsDriven, Progressed, round}
use Rattle.dv_conservative.specs.Turn.{Progresses}
use Rattle.dv_conservative.specs.World.{Answers, AnswersBy, Channel, IsPreparedOn, IsStep, IsTurn, Job, Reply, Step, World}
use Rattle.dv_conservative.specs.World.{Turn, Put, Take, Stop, Done, Refused, Stopped, Empty, Full, Memory}
use Rattle.dv_conservative.specs.World.{outgoing_from, outgoing_on, owned, position_in, promised_on, received_in, refusal, share_of}
use Rattle.dv_conservative.specs.World.{with_standing}
use Rattle.dv_core.specs.Worlds.{EndsAs, IsCut, IsRunWithProgress}
use Rattle.dv_core.specs.declared.step.Ended.{Ended}
use Rattle.dv_core.specs.declared.step.Ended.TheVariants as ended
use Rattle.law_rules.proofs.Pairs.{AllPairs, pairs_among}
use Rattle.law_rules.proofs.Shares.{same_packet, same_progress, still_settled, with_members}

-- a job with other components
abbrev pub with_components : List Member → Job → Job
with_components ns job = record {
  limit = job.limit;
  horizon = job.horizon;
  flat = record {
    members = ns;
    links = job.flat.links;
    entrances = job.flat.entrances;
    exits = job.flat.exits;
    outputs = job.flat.outputs;
  };
  outside = job.outside;
  processes = job.processes;
  owner = job.owner;
  channels = job.channels;
  responses = job.responses;
}

module _ (job : Job) (ns : List Member) (pairs : AllPairs job.flat.members ns) where
  abbrev other : Job
  other = with_components ns job

  -- the components of a process
  abbrev own : ℕ → List Member
  own p = filter (λ (m : Member). owned job p m.number) ns

  pairs_of : (p : ℕ) → AllPairs (share_of job p).flat.members (own p)
  pairs_of p = pairs_among (owned job p) job.flat.members ns pairs

  same_outgoing : (p l : ℕ) (cs : List Channel) → outgoing_from other p l cs ≡ outgoing_from job p l cs
  same_outgoing p l [] = refl
  same_outgoing p l (c ∷ cs) = by_test (same_outgoing p (suc l) cs) (nat_eq c.source p)
    where
      by_test : outgoing_from other p (suc l) cs ≡ outgoing_from job p (suc l) cs → (t : Bool)
          → cond t (outgoing_on other l c ∷ outgoing_from other p (suc l) cs) (outgoing_from other p (suc l) cs)
          ≡ cond t (outgoing_on job l c ∷ outgoing_from job p (suc l) cs) (outgoing_from job p (suc l) cs)
      by_test rest true = ap (λ (os : List Outgoing). outgoing_on job l c ∷ os) rest
      by_test rest false = rest

  same_share : (p : ℕ) → share_of other p ≡ with_members (own p) (share_of job p)
  same_share p =
      ap (λ (os : List Outgoing). let s : Share = record {
        limit = job.limit;
        horizon = job.horizon;
        flat = (share_of other p).flat;
        outside = job.outside;
        incoming = (share_of job p).incoming;
        outgoing = os;
        response = job.responses p;
      } in s) (same_outgoing p 0 job.channels)

  turns : (p : ℕ) (w v : World) → IsTurn other p w v → IsTurn job p w v
  turns p w v h = record {
    rises = h.rises;
    within = h.within;
    heard = h.heard;
    others = h.others;
    stopped = h.stopped;
    links = λ l. by_link l (h.links l);
  }
    where
      by_link : (l : ℕ) → (v.link l ≡ w.link l) ⊎ IsPreparedOn other p w v l → (v.link l ≡ w.link l) ⊎ IsPreparedOn job p w v l
      by_link l (inl same) = inl same
      by_link l (inr made) =
          let out = outgoing_on job l made.channel in
          let s = share_of job p in
          inr (record {
            channel = made.channel;
            there = made.there;
            own = made.own;
            prepared = record {
              upto = made.prepared.upto;
              free = made.prepared.free;
              later = made.prepared.later;
              within = made.prepared.within;
              settled = still_settled s (own p) (pairs_of p) (received_in w) out made.prepared.upto made.prepared.settled;
              made = made.prepared.made
                  ∙ ap (with_standing (w.link l))
                  (same_packet s (own p) (pairs_of p) (events_by (received_in w)) out (promised_on (w.link l)) made.prepared.upto);
            };
          })

  answers : (s : Step) (reply : Reply) (w v : World) → Answers other s reply w v → Answers job s reply w v
  answers (Turn p) Done w v h = turns p w v h
  answers (Put l) Done w v h = h
  answers (Take l) Done w v h = h
  answers (Stop p) Done w v h = h
  answers (Turn p) Memory w v h = h
  answers (Put l) Memory w v h = h
  answers (Take l) Memory w v h = h
  answers (Stop p) Memory w v h = absurd h
  answers s Refused w v h = absurd h
  answers s Stopped w v h = absurd h
  answers s Empty w v h = absurd h
  answers s Full w v h = absurd h

  answers_by : (o : Option Reply) (s : Step) (reply : Reply) (w v : World) → AnswersBy o other s reply w v → AnswersBy o job s reply w v
  answers_by None s reply w v h = answers s reply w v h
  answers_by (Some r) s reply w v h = h

  steps : (s : Step) (reply : Reply) (w v : World) → IsStep other s reply w v → IsStep job s reply w v
  steps (Turn p) reply w v h = answers_by (refusal job w (Turn p)) (Turn p) reply w v h
  steps (Put l) reply w v h = answers_by (refusal job w (Put l)) (Put l) reply w v h
  steps (Take l) reply w v h = answers_by (refusal job w (Take l)) (Take l) reply w v h
  steps (Stop p) reply w v h = answers_by (refusal job w (Stop p)) (Stop p) reply w v h

  progress : (s : Step) (reply : Reply) (w v : World) → Progressed other s reply w v → Progressed job s reply w v
  progress (Turn p) Done w v h =
      same_progress (share_of job p) (own p) (pairs_of p) (received_in w) (position_in w p) (position_in v p)
      (subst (λ (s : Share). Progresses s (received_in w) (position_in w p) (position_in v p)) (same_share p) h)
  progress (Turn p) Refused w v h = tt
  progress (Turn p) Stopped w v h = tt
  progress (Turn p) Empty w v h = tt
  progress (Turn p) Full w v h = tt
  progress (Turn p) Memory w v h = tt
  progress (Put l) reply w v h = tt
  progress (Take l) reply w v h = tt
  progress (Stop p) reply w v h = tt

  driven : (ss : List Step) (w v : World) → IsDriven other ss w v → IsDriven job ss w v
  driven [] w v h = h
  driven (s ∷ ss) w v h =
      (h.0, h.1, steps s h.1 w h.0 h.2, h.3, progress s h.1 w h.0 h.4, driven ss h.0 v h.5)

  rounds : (k : ℕ) (w v : World) → AreRounds other k w v → AreRounds job k w v
  rounds zero w v h = h
  rounds (suc k) w v h = (h.0, rounds k w h.0 h.1, driven (round job) h.0 v h.2)

  cut : (ss : List Step) (w v : World) → IsCut other ss w v → IsCut job ss w v
  cut [] w v h = absurd h
  cut (s ∷ ss) w v (inl last) = inl (steps s Memory w v last)
  cut (s ∷ ss) w v (inr h) =
      inr (h.0, h.1, steps s h.1 w h.0 h.2, h.3, progress s h.1 w h.0 h.4, cut ss h.0 v h.5)

  pub ends : (limit : ℕ) (e : Ended) (w v : World) → EndsAs other limit e w v → EndsAs job limit e w v
  ends limit ended.Whole w v h = (h.0, h.1, rounds h.0 w v h.2, h.3)
  ends limit ended.Stalled w v h = (rounds limit w v h.0, h.1)
  ends limit ended.Memory w v h = (h.0, h.1, (h.2.0, rounds h.0 w h.2.0 h.2.1, cut (round job) h.2.0 v h.2.2))

  pub runs : (ss : List (Step × Reply)) (w v : World) → IsRunWithProgress other ss w v → IsRunWithProgress job ss w v
  runs [] w v h = h
  runs (s ∷ ss) w v h =
      (h.0, steps s.0 s.1 w h.0 h.1, progress s.0 s.1 w h.0 h.2, runs ss h.0 v h.3)
