-- How the state of a process agrees with the world.
use Rattle.std.proofs.Common.{◌≡◌, ℕ, suc, ◌+◌, Bool, true, false, cond, nat_eq, List, [], ◌∷◌, ◌++◌, Option, Some, refl, sym}
use Rattle.std.proofs.Common.{ap, subst, ◌∙◌, arith}
use Rattle.std.specs.List.{slice_get}
use Rattle.dv_time.specs.declared.time.Time.{Time}
use Rattle.dv_conservative.specs.Process.{Packet, clock_after}
use Rattle.dv_conservative.specs.Turn.{AllStayOn, Position}
use Rattle.dv_conservative.specs.World.{Channel, IsRun, IsStep, Job, LinkState, Reply, Step, World, incoming_from, new_world}
use Rattle.dv_conservative.specs.World.{outgoing_from, outgoing_on, position_in, promised_on, received_in}
use Rattle.dv_conservative.proofs.Local.{same_number}
use Rattle.dv_core.specs.Kept.{Kept, link_of, received_of, standing_of, world_of}
use Rattle.dv_core.specs.Standing.{IsReached}
use Rattle.dv_core.specs.ProcessState.{ProcessState}
use Rattle.dv_core.proofs.Alike.{AllReceiveTheSame}

received_on : (f g : ℕ → List Packet) (p base : ℕ) (chs : List Channel) →
    ((i : ℕ) (c : Channel) → slice_get chs i ≡ Some c → nat_eq c.target p ≡ true → f (base + i) ≡ g (base + i))
    → AllReceiveTheSame (incoming_from p base chs) f g
received_on f g p base [] h = tt
received_on f g p base (c ∷ cs) h = by_target (nat_eq c.target p) refl
    (received_on f g p (suc base) cs (λ i d e own.
    let next : base + suc i ≡ suc base + i = omega arith in subst (λ (n : ℕ). f n ≡ g n) next (h (suc i) d e own)))
  where
    by_target : (t : Bool) → nat_eq c.target p ≡ t → AllReceiveTheSame (incoming_from p (suc base) cs) f g →
        AllReceiveTheSame (cond t (base ∷ incoming_from p (suc base) cs) (incoming_from p (suc base) cs)) f g
    by_target true own rest =
        let number : base + 0 ≡ base = omega arith in
        (subst (λ (n : ℕ). f n ≡ g n) number (h 0 c refl own), rest)
    by_target false own rest = rest

abbrev IsSameOn : Position → Position → ℕ → Type 0
IsSameOn x y l = (y.standing l ≡ x.standing l) × (y.promised l ≡ x.promised l)

stay_on : (job : Job) (x y : Position) (p base : ℕ) (chs : List Channel) →
    ((i : ℕ) (c : Channel) → slice_get chs i ≡ Some c → nat_eq c.source p ≡ true → IsSameOn x y (base + i))
    → AllStayOn (outgoing_from job p base chs) x y
stay_on job x y p base [] h = tt
stay_on job x y p base (c ∷ cs) h = by_source (nat_eq c.source p) refl
    (stay_on job x y p (suc base) cs (λ i d e own.
    let next : base + suc i ≡ suc base + i = omega arith in subst (IsSameOn x y) next (h (suc i) d e own)))
  where
    by_source : (t : Bool) → nat_eq c.source p ≡ t → AllStayOn (outgoing_from job p (suc base) cs) x y →
        AllStayOn (cond t (outgoing_on job base c ∷ outgoing_from job p (suc base) cs) (outgoing_from job p (suc base) cs)) x y
    by_source true own rest =
        let number : base + 0 ≡ base = omega arith in
        let same = subst (IsSameOn x y) number (h 0 c refl own) in
        (record { stands = same.0; promised = same.1 }, rest)
    by_source false own rest = rest

-- what a link is, by the process that it leads from and the one that it leads to
pub link_is : (job : Job) (k : Kept) (l : ℕ) (o : Option Channel) → slice_get job.channels l ≡ o → (world_of job k).link l ≡ link_of k l o
link_is job k l o e = ap (link_of k l) e

module _ (job : Job) (k : Kept) (p : ℕ) (x : ProcessState) (there : slice_get k.states p ≡ Some x) where
  pub agree_received : AllReceiveTheSame (incoming_from p 0 job.channels) x.received (received_in (world_of job k))
  agree_received = received_on x.received (received_in (world_of job k)) p 0 job.channels (λ i c e own.
      let number : i ≡ 0 + i = omega arith in
      subst (λ (n : ℕ). x.received n ≡ received_in (world_of job k) n) number (on i c e own))
    where
      on : (l : ℕ) (c : Channel) → slice_get job.channels l ≡ Some c → nat_eq c.target p ≡ true
          → x.received l ≡ received_in (world_of job k) l
      on l c e own =
          sym (ap (λ (y : LinkState). y.received) (link_is job k l (Some c) e)
          ∙ ap (λ (q : ℕ). received_of (slice_get k.states q) l) (same_number c.target p own)
          ∙ ap (λ (o : Option ProcessState). received_of o l) there)

  pub agree_position : ((l : ℕ) (c : Channel) → slice_get job.channels l ≡ Some c → nat_eq c.source p ≡ true →
      x.position.promised l ≡ promised_on (link_of k l (Some c)))
      → AllStayOn (outgoing_from job p 0 job.channels) x.position (position_in (world_of job k) p)
  agree_position promised = stay_on job x.position (position_in (world_of job k) p) p 0 job.channels (λ i c e own.
      let number : i ≡ 0 + i = omega arith in
      subst (IsSameOn x.position (position_in (world_of job k) p)) number (on i c e own))
    where
      on : (l : ℕ) (c : Channel) → slice_get job.channels l ≡ Some c → nat_eq c.source p ≡ true →
          IsSameOn x.position (position_in (world_of job k) p) l
      on l c e own = (
        ap (λ (y : LinkState). y.standing) (link_is job k l (Some c) e)
            ∙ ap (λ (q : ℕ). standing_of (slice_get k.states q) l) (same_number c.source p own)
            ∙ ap (λ (o : Option ProcessState). standing_of o l) there,
        ap promised_on (link_is job k l (Some c) e) ∙ sym (promised l c e own),
      )

-- a step more
run_append : (job : Job) (one other : List (Step × Reply)) (w u v : World) → IsRun job one w u → IsRun job other u v
    → IsRun job (one ++ other) w v
run_append job [] other w u v h k = subst (λ (x : World). IsRun job other x v) h k
run_append job (s ∷ ss) other w u v h k = (h.0, h.1, run_append job ss other h.0 u v h.2 k)

pub reached_by : (job : Job) (w v : World) (step : Step) (reply : Reply) → IsReached job w → IsStep job step reply w v → IsReached job v
reached_by job w v step reply was made = record {
  fits = was.fits;
  sound = was.sound;
  capacity = was.capacity;
  steps = was.steps ++ (step, reply) ∷ [];
  run = run_append job was.steps ((step, reply) ∷ []) (new_world was.capacity) w v was.run (v, made, refl);
}

-- where the windows of packets end
pub clock_after_last : (start : Time) (ps : List Packet) (p : Packet) → clock_after start (ps ++ p ∷ []) ≡ p.upto
clock_after_last start [] p = refl
clock_after_last start (q ∷ ps) p = clock_after_last q.upto ps p
