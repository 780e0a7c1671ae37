-- Results, one after the other.
use Rattle.std.proofs.Common.{◌≡◌, Result, Ok, Err, IfOk, refl}
use Rattle.dv_bag.specs.Outcome.{◌>>=◌}
use Rattle.dv_bag.specs.declared.fault.Fault.{Fault}

pub bind : {A B : Type 0} (P : A → Type 0) (Q : B → Type 0) (r : Result A Fault) (f : A → Result B Fault) → IfOk r P →
    ((x : A) → P x → IfOk (f x) Q) → IfOk (r >>= f) Q
bind P Q (Ok x) f h k = k x h
bind P Q (Err e) f h k = tt

pub bind_same : {A B : Type 0} (P : A → Type 0) (r : Result A Fault) (f g : A → Result B Fault) → IfOk r P → ((x : A) → P x → f x ≡ g x) →
    (r >>= f) ≡ (r >>= g)
bind_same P (Ok x) f g h k = k x h
bind_same P (Err e) f g h k = refl

pub any : {A : Type 0} (r : Result A Fault) → IfOk r (λ x. Unit {0})
any (Ok x) = tt
any (Err e) = tt
