use Rattle.std.proofs.Common.{true, refl}
use Rattle.test_ring.proofs.ring.process_of.Goals as goal

pub new-requires-2-clause-sound : goal.new-requires-2-clause-sound
new-requires-2-clause-sound c = (λ k s. true, record { sound = tt; outside = λ n. refl })
