-- True packets of a link, one more at the end, and the clocks that rise with it.
use Rattle.std.proofs.Common.{◌≡◌, ℕ, suc, ◌+◌, ◌≤◌, Bool, true, false, cond, nat_eq, List, [], ◌∷◌, ◌++◌, Some, refl, ap, subst, arith}
use Rattle.std.specs.List.{slice_get}
use Rattle.dv_time.specs.Time.{rank}
use Rattle.dv_time.specs.declared.time.Time.{Time}
use Rattle.dv_conservative.specs.Process.{Packet, channel_clock, clock_after, first_time, least_of}
use Rattle.dv_conservative.specs.True.{AreTrue, IsTruePacket}
use Rattle.dv_conservative.specs.World.{Channel, Job, incoming_from}
use Rattle.dv_core.proofs.Standing.{clock_after_last}

-- the last of true packets is true, and joins those before it
pub last_of_true : (job : Job) (l : ℕ) (c : Channel) (start : Time) (ps : List Packet) (p : Packet) → AreTrue job l c start (ps ++ p ∷ [])
    → (p.from ≡ clock_after start ps) × IsTruePacket job l c p
last_of_true job l c start [] p h = (h.0, h.1)
last_of_true job l c start (q ∷ ps) p h = last_of_true job l c q.upto ps p h.2

-- with it the channel clock rises
pub clock_rises : (job : Job) (l : ℕ) (c : Channel) (ps : List Packet) (p : Packet) → AreTrue job l c first_time (ps ++ p ∷ [])
    → rank job.limit (channel_clock ps) ≤ rank job.limit (channel_clock (ps ++ p ∷ []))
clock_rises job l c ps p h =
    let last = last_of_true job l c first_time ps p h in
    let truth = last.1 in
    let first : rank job.limit p.from ≡ rank job.limit (channel_clock ps) = ap (rank job.limit) last.0 in
    let now : rank job.limit (channel_clock (ps ++ p ∷ [])) ≡ rank job.limit p.upto
    = ap (rank job.limit) (clock_after_last first_time ps p) in
    omega (arith, truth.later)

-- the least channel clock rises with them all
pub least_rises : (limit bound q : ℕ) (one other : ℕ → List Packet) (base : ℕ) (chs : List Channel)
    → ((i : ℕ) (c : Channel) → slice_get chs i ≡ Some c
    → rank limit (channel_clock (one (base + i))) ≤ rank limit (channel_clock (other (base + i))))
    → least_of limit bound (incoming_from q base chs) one ≤ least_of limit bound (incoming_from q base chs) other
least_rises limit bound q one other base [] h = omega arith
least_rises limit bound q one other base (c ∷ cs) h =
    let number : base + 0 ≡ base = omega arith in
    let first : rank limit (channel_clock (one base)) ≤ rank limit (channel_clock (other base))
    = subst (λ (n : ℕ). rank limit (channel_clock (one n)) ≤ rank limit (channel_clock (other n))) number (h 0 c refl) in
    let rest = least_rises limit bound q one other (suc base) cs (λ i d e.
    let next : base + suc i ≡ suc base + i = omega arith in
    subst (λ (n : ℕ). rank limit (channel_clock (one n)) ≤ rank limit (channel_clock (other n))) next (h (suc i) d e)) in
    by_test (nat_eq c.target q) first rest
  where
    by_test : (t : Bool) → rank limit (channel_clock (one base)) ≤ rank limit (channel_clock (other base))
        → least_of limit bound (incoming_from q (suc base) cs) one ≤ least_of limit bound (incoming_from q (suc base) cs) other
        → least_of limit bound (cond t (base ∷ incoming_from q (suc base) cs) (incoming_from q (suc base) cs)) one
        ≤ least_of limit bound (cond t (base ∷ incoming_from q (suc base) cs) (incoming_from q (suc base) cs)) other
    by_test true first rest = omega arith
    by_test false first rest = rest
