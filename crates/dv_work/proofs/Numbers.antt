-- Events of true packets are of numbers of the language.
use Rattle.std.proofs.Common.{◌≡◌, ℕ, suc, zero, ◌+◌, ◌-◌, Bool, true, false, cond, nat_eq, List, [], ◌∷◌, ◌++◌, map, Some}
use Rattle.std.proofs.Common.{refl, sym, subst, arith}
use Rattle.std.specs.List.{slice_get}
use Rattle.dv_time.specs.Time.{rank, time_of}
use Rattle.dv_time.specs.declared.time.Time.{Time}
use Rattle.dv_bag.specs.declared.state.State.{State}
use Rattle.dv_conservative.specs.Events.{Event, event_of, events_from, in_order}
use Rattle.dv_conservative.specs.Links.{Delivery}
use Rattle.dv_conservative.specs.Process.{Packet, events_by, events_in, first_time}
use Rattle.dv_conservative.specs.Sound.{AllNumbers, AllReceivedNumbers, IsJob}
use Rattle.dv_conservative.specs.True.{AreTrue, IsTruePacket, crossing_by}
use Rattle.dv_conservative.specs.World.{Channel, Job, incoming_from}
use Rattle.dv_conservative.proofs.Crossing.{crossing_numbers}
use Rattle.dv_conservative.proofs.Numbers.{OfNumbers, numbers_in_order}
use Rattle.dv_conservative.proofs.Settled.{events_append}

instant_numbers : (t : Time) (ds : List Delivery) (es : List Event) → OfNumbers ds → AllNumbers es → AllNumbers (map (event_of t) ds ++ es)
instant_numbers t [] es h k = k
instant_numbers t (d ∷ ds) es h k = (h.0, instant_numbers t ds es h.1 k)

window_numbers : (limit : ℕ) (stream : ℕ → List Delivery) (start count : ℕ) → ((n : ℕ) → OfNumbers (stream n))
    → AllNumbers (events_from limit stream start count)
window_numbers limit stream start zero h = tt
window_numbers limit stream start (suc count) h =
    instant_numbers (time_of limit start) (in_order (stream start)) (events_from limit stream (start + 1) count)
    (numbers_in_order (stream start) (h start)) (window_numbers limit stream (start + 1) count h)

module _ (fits : ℕ → State → Bool) (job : Job) (good : IsJob fits job) where
  packet_numbers : (l : ℕ) (c : Channel) (start : Time) (ps : List Packet) → AreTrue job l c start ps → AllNumbers (events_in ps)
  packet_numbers l c start [] h = tt
  packet_numbers l c start (p ∷ ps) h =
      let truth : IsTruePacket job l c p = h.1 in
      events_append p.events (events_in ps)
      (subst AllNumbers (sym truth.events)
      (window_numbers job.limit (crossing_by job c) (rank job.limit p.from) (rank job.limit p.upto - rank job.limit p.from)
      (crossing_numbers fits job good c)))
      (packet_numbers l c p.upto ps h.2)

  numbers_from : (q base : ℕ) (received : ℕ → List Packet) (chs : List Channel)
      → ((i : ℕ) (c : Channel) → slice_get chs i ≡ Some c → AllNumbers (events_by received (base + i)))
      → AllReceivedNumbers received (incoming_from q base chs)
  numbers_from q base received [] h = tt
  numbers_from q base received (c ∷ cs) h =
      let number : base + 0 ≡ base = omega arith in
      by_target (subst (λ (n : ℕ). AllNumbers (events_by received n)) number (h 0 c refl))
      (numbers_from q (suc base) received cs (λ i d e.
      let next : base + suc i ≡ suc base + i = omega arith in subst (λ (n : ℕ). AllNumbers (events_by received n)) next (h (suc i) d e)))
      (nat_eq c.target q)
    where
      by_target : AllNumbers (events_by received base) → AllReceivedNumbers received (incoming_from q (suc base) cs) → (t : Bool)
          → AllReceivedNumbers received (cond t (base ∷ incoming_from q (suc base) cs) (incoming_from q (suc base) cs))
      by_target first rest true = (first, rest)
      by_target first rest false = rest

  -- of all that a process received, where that is true
  pub received_numbers : (q : ℕ) (received : ℕ → List Packet)
      → ((l : ℕ) (c : Channel) → slice_get job.channels l ≡ Some c → AreTrue job l c first_time (received l))
      → AllReceivedNumbers received (incoming_from q 0 job.channels)
  received_numbers q received truth = numbers_from q 0 received job.channels (λ i c e.
      let number : i ≡ 0 + i = omega arith in
      subst (λ (n : ℕ). AllNumbers (events_by received n)) number (packet_numbers i c first_time (received i) (truth i c e)))
