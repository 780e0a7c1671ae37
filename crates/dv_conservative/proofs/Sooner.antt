-- A sooner response is one as well.
use Rattle.std.proofs.Common.{ℕ, Bool, Option, Some, None, Result, Ok, Err, IfOk, IsTrue, arith}
use Rattle.dv_bag.specs.declared.fault.Fault.{Fault}
use Rattle.dv_bag.specs.declared.state.State.{State}
use Rattle.dv_devs.specs.Behaviour.{Change}
use Rattle.dv_time.specs.Time.{earlier}
use Rattle.dv_conservative.specs.Flat.{Member}
use Rattle.dv_conservative.specs.Promise.{IsAtLeast}
use Rattle.dv_conservative.specs.Sound.{IsSound}

pub sooner_first : (a b hold : Option ℕ) → IsAtLeast a hold → IsAtLeast (earlier a b) hold
sooner_first a b None h = tt
sooner_first None b (Some hold) h = absurd h
sooner_first (Some x) None (Some hold) h = h
sooner_first (Some x) (Some y) (Some hold) h = omega arith

pub sooner_second : (a b hold : Option ℕ) → IsAtLeast b hold → IsAtLeast (earlier a b) hold
sooner_second a b None h = tt
sooner_second None b (Some hold) h = h
sooner_second (Some x) None (Some hold) h = absurd h
sooner_second (Some x) (Some y) (Some hold) h = omega arith

weaker : {A : Type 0} (P Q : A → Type 0) (r : Result A Fault) → ((x : A) → P x → Q x) → IfOk r P → IfOk r Q
weaker P Q (Ok x) k h = k x h
weaker P Q (Err f) k h = tt

pub is_sound_sooner : (fits : State → Bool) (r sooner : Option ℕ) (m : Member) →
    ((hold : Option ℕ) → IsAtLeast r hold → IsAtLeast sooner hold) →
    IsSound fits r m → IsSound fits sooner m
is_sound_sooner fits r sooner m less sound = record {
  keeps = sound.keeps;
  responds = λ elapsed bags s fit come few.
      weaker (λ (c : Change). IsTrue c.goes → IfOk (m.behaviour.hold c.state) (IsAtLeast r))
      (λ (c : Change). IsTrue c.goes → IfOk (m.behaviour.hold c.state) (IsAtLeast sooner)) (m.behaviour.external elapsed bags s)
      (λ c h goes. weaker (IsAtLeast r) (IsAtLeast sooner) (m.behaviour.hold c.state) less (h goes))
      (sound.responds elapsed bags s fit come few);
  sends = sound.sends;
  start = sound.start;
  quiet = sound.quiet;
}
