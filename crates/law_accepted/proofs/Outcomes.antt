-- What holds of what is computed, where it is no fault.
use Rattle.std.proofs.Common.{Bool, true, false, if◌then◌else◌, IfOk, Result, Ok, Err}
use Rattle.dv_bag.specs.Outcome.{◌>>=◌}
use Rattle.dv_bag.specs.declared.fault.Fault.{Fault}

-- what goes on with a value of which something holds
pub if_ok_then : {A B : Type 0} (m : Result A Fault) (k : A → Result B Fault) (P : A → Type 0) (Q : B → Type 0) → IfOk m P
    → ((x : A) → P x → IfOk (k x) Q) → IfOk (m >>= k) Q
if_ok_then (Ok x) k P Q first later = later x first
if_ok_then (Err f) k P Q first later = tt

-- what goes on with any value
pub if_ok_after : {A B : Type 0} (m : Result A Fault) (k : A → Result B Fault) (Q : B → Type 0) → ((x : A) → IfOk (k x) Q)
    → IfOk (m >>= k) Q
if_ok_after (Ok x) k Q later = later x
if_ok_after (Err f) k Q later = tt

-- either of two
pub if_ok_branch : {A : Type 0} (b : Bool) (one other : Result A Fault) (P : A → Type 0) → IfOk one P → IfOk other P
    → IfOk (if b then one else other) P
if_ok_branch true one other P first second = first
if_ok_branch false one other P first second = second
