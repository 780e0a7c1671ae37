use Rattle.std.proofs.Common.{ℕ, ◌<◌, Bool, true, false, cond, nat_eq, [], ◌∷◌, Option, Some, None, IsTrue, refl, arith, pos}
use Rattle.dv_devs.specs.Models.{relay}
use Rattle.dv_devs.specs.Rows.{component_until, one, phase_alone}
use Rattle.dv_conservative.specs.Flat.{Member}
use Rattle.dv_conservative.specs.Promise.{IsAtLeast}
use Rattle.dv_conservative.specs.Rows.{two_relays}
use Rattle.dv_conservative.specs.Sound.{IsSound, are_of_numbers}
use Rattle.dv_conservative.proofs.Numbering.{all_apart, all_heard}
use Rattle.dv_conservative.proofs.rows.two_relays_are_a_job.Goals as goal

any_hold : (hold : Option ℕ) → IsAtLeast (Some 0) hold
any_hold None = tt
any_hold (Some ticks) = omega arith

-- one value or none
sends : (t : Bool) → IsTrue (are_of_numbers (cond t (one (pos 1)) [] ∷ []))
sends true = refl
sends false = refl

relay_sound : (k : ℕ) →
    IsSound (λ s. true) (Some 0)
    (let m : Member = record { number = k; ports = 1; behaviour = relay 0; start = component_until (phase_alone 0) None } in m)
relay_sound k = record {
  keeps = record {
    internal = λ s fit. refl;
    external = λ elapsed bags s fit come few. refl;
    confluent = λ bags s fit come few. tt;
  };
  responds = λ elapsed bags s fit come few goes. any_hold _;
  sends = λ s fit. sends (nat_eq s.phase 1);
  start = refl;
  quiet = λ quiet. absurd (cc);
}

within : (t : Bool) → cond t 0 1 < 2
within true = omega arith
within false = omega arith

pub returns : goal.returns
returns c = record {
  numbered = (refl, (refl, tt));
  sound = (relay_sound 0, (relay_sound 1, tt));
  outside = λ n. refl;
  lead = (refl, (refl, tt));
  apart = all_apart two_relays;
  heard = λ q. all_heard two_relays q refl (λ k. within (nat_eq k 0));
}
