-- Rounds, runs and the headline.
use Rattle.std.proofs.Common.{◌≡◌, inl, inr, ℕ, zero, suc, ◌+◌, ◌-◌, ◌<◌, ◌≤◌, List, [], ◌∷◌, ◌++◌, length, drop, Some, refl}
use Rattle.std.proofs.Common.{sym, ap, subst, ◌∙◌, arith}
use Rattle.std.specs.List.{slice_get}
use Rattle.std.proofs.lemmas.List.{length-map}
use Rattle.std.proofs.lemmas.Option.{slice_get_within}
use Rattle.std.specs.Vec.{vec_len}
use Rattle.dv_time.specs.Time.{end_of, rank}
use Rattle.dv_time.specs.declared.time.Time.{Time}
use Rattle.dv_bag.specs.Part.{PartOf}
use Rattle.dv_bag.specs.declared.entry.Outer.{Outer}
use Rattle.dv_devs.specs.Network.{components_at}
use Rattle.dv_devs.specs.Outside.{union_of_lines}
use Rattle.dv_devs.specs.Parts.{part_before}
use Rattle.dv_devs.proofs.Parts.{part_entries}
use Rattle.dv_conservative.specs.True.{united}
use Rattle.dv_conservative.proofs.Wholes.{all_united}
use Rattle.dv_conservative.specs.Flat.{kept, numbers, whole}
use Rattle.dv_conservative.specs.Process.{IsWithin, components_by, events_by, least_clock, part_by}
use Rattle.dv_conservative.specs.Rounds.{AllHaveSources, AreRounds, HadMemory, Progressed, moves_from, turns_from}
use Rattle.dv_conservative.specs.World.{Channel, IsRun, IsStep, Job, World, Put, Take, Turn, all_of, new_world, owned}
use Rattle.dv_conservative.specs.World.{received_in, share_of}
use Rattle.dv_conservative.specs.World as theory
use Rattle.dv_conservative.proofs.SameRuns.{same_components, same_limit, same_part}
use Rattle.dv_conservative.proofs.Holding.{Holds, components_now, holds_after, holds_at_first, part_now}
use Rattle.dv_conservative.proofs.Rounding.{all_at_end}
use Rattle.dv_proc.specs.Channels.{meant_channel}
use Rattle.dv_core.specs.Answers.{meant_reply, meant_step}
use Rattle.dv_core.specs.Kept.{Kept, clock_of, world_of}
use Rattle.dv_core.specs.ProcessState.{ProcessState}
use Rattle.dv_core.specs.Worlds.{AreTheTrace, HaveAllParts, IsAnswered, IsCut, IsRunWithProgress, IsTrueToModel, IsWhole, end_time}
use Rattle.dv_core.specs.Worlds.{kept_by, outer_of, shown, with_replies}
use Rattle.dv_core.specs.Standing.{Continues, Stands}
use Rattle.dv_core.specs.declared.step.Step.{Step}
use Rattle.dv_core.specs.declared.step.Reply.{Reply}
use Rattle.dv_core.specs.declared.step.Reply.TheVariants as reply
use Rattle.dv_core.specs.declared.state.WorldState.{WorldState}
use Rattle.dv_core.proofs.Alike.{components_alike, part_alike}
use Rattle.dv_core.proofs.Lookups.{drop_all, some_at}
use Rattle.dv_core.proofs.Standing.{agree_received}

had_memory : (r : Reply) → (r ≡ reply.Memory → ⊥) → HadMemory (meant_reply r)
had_memory reply.Done h = tt
had_memory reply.Refused h = tt
had_memory reply.Stopped h = tt
had_memory reply.Empty h = tt
had_memory reply.Full h = tt
had_memory reply.Memory h = h refl

module _ {J P : Type 0} {means : J → Job} {state : P → ProcessState} (before after : WorldState J P) (step : Step) (answer : Reply)
    (made : IsAnswered means state step answer before after) (job : Job) (same : means before.job ≡ job) where
  abbrev w : World
  w = shown means state before

  abbrev v : World
  v = shown means state after

  the_step : IsStep job (meant_step step) (meant_reply answer) w v
  the_step = subst (λ (j : Job). IsStep j (meant_step step) (meant_reply answer) w v) same made.is_step

  the_progress : Progressed job (meant_step step) (meant_reply answer) w v
  the_progress = subst (λ (j : Job). Progressed j (meant_step step) (meant_reply answer) w v) same made.progressed

  pub still_same : means after.job ≡ job
  still_same = ap means made.job ∙ same

  module _ (all rest : List theory.Step) (start : World) (was : Continues job all (meant_step step ∷ rest) start w) where
    pub one_more : (answer ≡ reply.Memory → ⊥) → Continues job all rest start v
    one_more some = record {
      driven = λ u h. was.driven u (v, meant_reply answer, the_step, had_memory answer some, the_progress, h);
      cut = λ u h. was.cut u (inr (v, meant_reply answer, the_step, had_memory answer some, the_progress, h));
    }

    pub cut_here : answer ≡ reply.Memory → IsCut job all start v
    cut_here none =
        was.cut v (inl (subst (λ (r : Reply). IsStep job (meant_step step) (meant_reply r) w v) none the_step))

  pub run_more : (s : List Step) (t : List Reply) (u : World) → IsRunWithProgress job (with_replies s t) v u →
      IsRunWithProgress job (with_replies (step ∷ s) (answer ∷ t)) w u
  run_more s t u h = (v, the_step, the_progress, h)

-- where turns progress, it is a run all the same
pub is_run : (job : Job) (ss : List (theory.Step × theory.Reply)) (w v : World) → IsRunWithProgress job ss w v → IsRun job ss w v
is_run job [] w v h = h
is_run job (s ∷ ss) w v h = (h.0, h.1, is_run job ss h.0 v h.3)

pub continues_at_first : (job : Job) (all : List theory.Step) (w : World) → Continues job all all w w
continues_at_first job all w = record { driven = λ v h. h; cut = λ v h. h }

united_alike : (f g : ℕ → List Outer) (count : ℕ) → ((p : ℕ) → p < count → f p ≡ g p) → united f count ≡ united g count
united_alike f g zero h = refl
united_alike f g (suc n) h =
    ap (λ (lines : List Outer). union_of_lines lines (f n)) (united_alike f g n (λ p lt. h p (omega arith)))
    ∙ ap (union_of_lines (united g n)) (h n (omega arith))

-- the headline
module _ {J P : Type 0} {IsValid : P → Type 0} {means : J → Job} {state : P → ProcessState} (w : WorldState J P)
    (stands : Stands means state IsValid w) where
  abbrev job : Job
  job = means w.job

  abbrev k : Kept
  k = kept_by state w

  abbrev shown_world : World
  shown_world = world_of job k

  holds : Holds stands.reached.fits job stands.reached.sound shown_world
  holds =
      holds_after stands.reached.fits job stands.reached.sound (new_world stands.reached.capacity) shown_world stands.reached.steps
      (holds_at_first stands.reached.fits job stands.reached.sound stands.reached.capacity) stands.reached.run

  its_part : (p : ℕ) (x : ProcessState) → slice_get k.states p ≡ Some x →
      x.part ≡ part_before (owned job p) job.limit (whole job.flat) job.outside (rank job.limit x.position.clock)
  its_part p x there =
      let clock : shown_world.clock p ≡ x.position.clock = ap clock_of there in
      stands.kept.committed p x there
      ∙ same_part x.share (share_of job p) (stands.kept.shares p x there) (events_by x.received) (rank x.share.limit x.position.clock)
      ∙ ap (λ (limit : ℕ). part_by (share_of job p) (events_by x.received) (rank limit x.position.clock))
      (same_limit x.share (share_of job p) (stands.kept.shares p x there))
      ∙ part_alike (share_of job p) x.received (received_in shown_world) (agree_received job k p x there) (rank job.limit x.position.clock)
      ∙ ap (λ (t : Time). part_by (share_of job p) (events_by (received_in shown_world)) (rank job.limit t)) (sym clock)
      ∙ part_now stands.reached.fits job stands.reached.sound shown_world holds p
      ∙ ap (λ (t : Time). part_before (owned job p) job.limit (whole job.flat) job.outside (rank job.limit t)) clock

  its_components : (p : ℕ) (x : ProcessState) → slice_get k.states p ≡ Some x →
      x.components ≡ kept (owned job p) (numbers job.flat.members)
      (components_at job.limit (whole job.flat) job.outside (rank job.limit x.position.clock))
  its_components p x there =
      let clock : shown_world.clock p ≡ x.position.clock = ap clock_of there in
      stands.kept.components p x there
      ∙ same_components x.share (share_of job p) (stands.kept.shares p x there) (events_by x.received)
      (rank x.share.limit x.position.clock)
      ∙ ap (λ (limit : ℕ). components_by (share_of job p) (events_by x.received) (rank limit x.position.clock))
      (same_limit x.share (share_of job p) (stands.kept.shares p x there))
      ∙ components_alike (share_of job p) x.received (received_in shown_world) (agree_received job k p x there)
      (rank job.limit x.position.clock)
      ∙ ap (λ (t : Time). components_by (share_of job p) (events_by (received_in shown_world)) (rank job.limit t)) (sym clock)
      ∙ components_now stands.reached.fits job stands.reached.sound shown_world holds p
      ∙ ap (λ (t : Time). kept (owned job p) (numbers job.flat.members)
      (components_at job.limit (whole job.flat) job.outside (rank job.limit t))) clock

  pub true_to_model : IsTrueToModel job k
  true_to_model = record {
    count = stands.kept.processes;
    packets = holds.truth;
    clocks = λ p x there.
        subst (λ (t : Time). rank job.limit t ≤ least_clock (share_of job p) (received_in shown_world)) (ap clock_of there)
        (holds.clocks p);
    within = λ p x there. subst (IsWithin (share_of job p)) (ap clock_of there) (holds.within p);
    parts = its_part;
    components = its_components;
  }

  pub all_parts : IsWhole job shown_world → HaveAllParts job k.states
  all_parts is_whole p x there =
      let count = stands.kept.processes in
      let within = slice_get_within k.states p x there in
      let clock : x.position.clock ≡ end_time job = sym (ap clock_of there) ∙ is_whole p (omega arith) in
      let last : rank job.limit (end_time job) ≡ end_of job.limit job.horizon = omega arith in
      its_part p x there
      ∙ ap (part_before (owned job p) job.limit (whole job.flat) job.outside) (ap (rank job.limit) clock ∙ last)

  one_outer : IsWhole job shown_world → (p : ℕ) → p < job.processes →
      outer_of (slice_get k.states p) ≡ (part_before (owned job p) job.limit (whole job.flat) job.outside
      (end_of job.limit job.horizon)).outer
  one_outer is_whole p lt =
      let count = stands.kept.processes in
      let some = some_at k.states p (omega arith) in
      ap outer_of some.1 ∙ ap (λ (part : PartOf). part.outer) (all_parts is_whole p some.0 some.1)

  pub are_the_trace : IsWhole job shown_world → AreTheTrace job k.states
  are_the_trace is_whole = record {
    parts = all_parts is_whole;
    entries = λ p x there.
        ap (λ (part : PartOf). part.entries) (all_parts is_whole p x there)
        ∙ part_entries job.limit (whole job.flat) job.outside (owned job p) (end_of job.limit job.horizon);
    outer = λ ready outputs linear bags within.
        united_alike (λ p. outer_of (slice_get k.states p))
        (λ p. (part_before (owned job p) job.limit (whole job.flat) job.outside (end_of job.limit job.horizon)).outer) job.processes
        (λ p lt. one_outer is_whole p lt)
        ∙ all_united job.limit (whole job.flat) job.outside ready outputs job.owner (end_of job.limit job.horizon) linear bags
        job.processes within;
  }

all_sources : (count : ℕ) (chs : List Channel) → ((l : ℕ) (c : Channel) → slice_get chs l ≡ Some c → c.source < count)
    → AllHaveSources count chs
all_sources count [] h = tt
all_sources count (c ∷ cs) h = (h 0 c refl, all_sources count cs (λ l d e. h (suc l) d e))

-- enough rounds of a new world bring every clock to the end
pub enough_rounds : (job : Job) (capacity limit : ℕ) (w v : World) → w ≡ new_world capacity → 0 < capacity →
    ((l : ℕ) (c : Channel) → slice_get job.channels l ≡ Some c → (c.source < job.processes) × (c.target < job.processes))
    → end_of job.limit job.horizon + 1 ≤ limit → AreRounds job limit w v → IsWhole job v
enough_rounds job capacity limit w v fresh some ends enough rounds =
    all_at_end job capacity limit v some (all_sources job.processes job.channels (λ l c e. let both = ends l c e in both.0))
    (subst (λ (u : World). AreRounds job limit u v) fresh rounds) enough

module _ (job : Job) (rest : List theory.Step) where
  pub turns_next : (p n : ℕ) → p < n → turns_from p (n - p) ++ rest ≡ Turn p ∷ (turns_from (p + 1) (n - (p + 1)) ++ rest)
  turns_next p n lt =
      let count : n - p ≡ suc (n - (p + 1)) = omega arith in
      let next : suc p ≡ p + 1 = omega arith in
      ap (λ (m : ℕ). turns_from p m ++ rest) count ∙ ap (λ (q : ℕ). Turn p ∷ (turns_from q (n - (p + 1)) ++ rest)) next

  pub turns_last : (p n : ℕ) → n ≤ p → turns_from p (n - p) ++ rest ≡ rest
  turns_last p n le =
      let count : n - p ≡ 0 = omega arith in
      ap (λ (m : ℕ). turns_from p m ++ rest) count

drop_at : (l : ℕ) (chs : List Channel) → l < length chs → (c : Channel) × (drop l chs ≡ c ∷ drop (l + 1) chs)
drop_at l [] h = absurd (omega arith)
drop_at zero (c ∷ cs) h = (c, refl)
drop_at (suc l) (c ∷ cs) h =
    let rest = drop_at l cs (omega arith) in
    let next : suc (l + 1) ≡ suc l + 1 = omega arith in
    (rest.0, rest.1 ∙ ap (λ (n : ℕ). rest.0 ∷ drop n (c ∷ cs)) next)

pub moves_next : (l : ℕ) (chs : List Channel) → l < length chs →
    moves_from l (drop l chs) ≡ Put l ∷ (Take l ∷ moves_from (l + 1) (drop (l + 1) chs))
moves_next l chs lt =
    let first = drop_at l chs lt in
    let next : suc l ≡ l + 1 = omega arith in
    ap (moves_from l) first.1 ∙ ap (λ (m : ℕ). Put l ∷ (Take l ∷ moves_from m (drop (l + 1) chs))) next

pub moves_last : (l : ℕ) (chs : List Channel) → length chs ≤ l → moves_from l (drop l chs) ≡ []
moves_last l chs le = ap (moves_from l) (drop_all chs l le)

-- as many processes and links as the job has
module _ {J P : Type 0} {IsValid : P → Type 0} {means : J → Job} {state : P → ProcessState} (w : WorldState J P)
    (stands : Stands means state IsValid w) where
  pub processes_counted : vec_len w.processes ≡ (means w.job).processes
  processes_counted = w.processes.ok.0 ∙ sym (length-map w.processes.items state) ∙ stands.kept.processes

  pub links_counted : vec_len w.channels ≡ length (means w.job).channels
  links_counted = w.channels.ok.0 ∙ sym (length-map w.channels.items meant_channel) ∙ ap length stands.channels

pub is_end : (t : Time) (job : Job) (end : ℕ) → end ≡ job.horizon → t.tick ≡ end + 1 → t.micro ≡ 0 → t ≡ end_time job
is_end t job end is tick micro =
    let last : t.tick ≡ job.horizon + 1 = omega arith in
    ap (λ (n : ℕ). let u : Time = record { tick = n; micro = t.micro } in u) last
    ∙ ap (λ (m : ℕ). let u : Time = record { tick = job.horizon + 1; micro = m } in u) micro
