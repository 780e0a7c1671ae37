-- Where numbers are received, all of a process stays of numbers.
use Rattle.std.proofs.Common.{ℕ, Bool, List, IsTrue}
use Rattle.std.specs.List.{list_all}
use Rattle.dv_bag.specs.declared.state.State.{State}
use Rattle.dv_devs.specs.Fits.{AllFit, OnlyArrives}
use Rattle.dv_devs.specs.Network.{emissions_at}
use Rattle.dv_conservative.specs.Events.{deliveries_at}
use Rattle.dv_conservative.specs.Flat.{network}
use Rattle.dv_conservative.specs.Process.{Packet, Share, all_events, components_by, events_by, inputs_by}
use Rattle.dv_conservative.specs.Sound.{AllReceivedNumbers, IsSoundShare, are_of_numbers, by_index}
use Rattle.dv_conservative.proofs.Numbers.{OfNumbers, numbers_arrive, numbers_at, sends_stay, states_stay}
use Rattle.dv_conservative.proofs.Settled.{received_numbers}

module _ (fits : ℕ → State → Bool) (s : Share) (received : ℕ → List Packet) (sound : IsSoundShare fits s)
    (ours : AllReceivedNumbers received s.incoming) where
  come : (n : ℕ) → OfNumbers (deliveries_at s.limit (all_events s.incoming (events_by received)) n)
  come n =
      numbers_at s.limit (all_events s.incoming (events_by received)) n (received_numbers s.limit received s.incoming ours)

  pub states_at : (n : ℕ) → AllFit (by_index fits s.flat.members) 0 (components_by s (events_by received) n)
  states_at n =
      states_stay fits (λ k. s.response) s.limit s.flat sound.sound (inputs_by s (events_by received)) sound.outside come n

  pub sent_numbers_at : (n : ℕ) →
      IsTrue (list_all are_of_numbers (emissions_at s.limit (network s.flat) (inputs_by s (events_by received)) n))
  sent_numbers_at n =
      sends_stay fits (λ k. s.response) s.limit s.flat sound.sound (inputs_by s (events_by received)) sound.outside come n

  pub numbers_arrive_before : (n : ℕ) → OnlyArrives are_of_numbers s.limit (network s.flat) (inputs_by s (events_by received)) n
  numbers_arrive_before n j lt =
      numbers_arrive s.flat (emissions_at s.limit (network s.flat) (inputs_by s (events_by received)) j) (s.outside j)
      (deliveries_at s.limit (all_events s.incoming (events_by received)) j) (sent_numbers_at j) (sound.outside j) (come j)
