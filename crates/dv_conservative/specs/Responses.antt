-- The response of a process: the least of its components'.
use Rattle.std.specs.Prelude.{ℕ, ◌+◌, nat_eq, if◌then◌else◌, List, [], ◌∷◌, Option, None}
use Rattle.dv_time.specs.Time.{earlier}

-- by the responses of the components from a number on, and the process of each component
abbrev pub least_response : (ℕ → ℕ) → ℕ → ℕ → List (Option ℕ) → Option ℕ
least_response owner p k [] = None
least_response owner p k (r ∷ rs) =
    if nat_eq (owner k) p then earlier r (least_response owner p (k + 1) rs) else least_response owner p (k + 1) rs
