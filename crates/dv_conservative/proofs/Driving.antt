-- Rounds are runs.
use Rattle.std.proofs.Common.{ℕ, zero, suc, List, [], ◌∷◌, ◌++◌, subst}
use Rattle.dv_conservative.specs.Rounds.{AreRounds, IsDriven, round}
use Rattle.dv_conservative.specs.World.{IsRun, Job, Reply, Step, World}

driven_run : (job : Job) (ss : List Step) (w v : World) → IsDriven job ss w v → (steps : List (Step × Reply)) × IsRun job steps w v
driven_run job [] w v h = ([], h)
driven_run job (s ∷ ss) w v h =
    let rest = driven_run job ss h.0 v h.5 in
    ((s, h.1) ∷ rest.0, (h.0, h.2, rest.1))

run_append : (job : Job) (one other : List (Step × Reply)) (w u v : World) → IsRun job one w u → IsRun job other u v →
    IsRun job (one ++ other) w v
run_append job [] other w u v h k = subst (λ (x : World). IsRun job other x v) h k
run_append job (s ∷ ss) other w u v h k = (h.0, h.1, run_append job ss other h.0 u v h.2 k)

pub rounds_run : (job : Job) (k : ℕ) (w v : World) → AreRounds job k w v → (steps : List (Step × Reply)) × IsRun job steps w v
rounds_run job zero w v h = ([], h)
rounds_run job (suc k) w v h =
    let before = rounds_run job k w h.0 h.1 in
    let last = driven_run job (round job) h.0 v h.2 in
    (before.0 ++ last.0, run_append job before.0 last.0 w h.0 v before.1 last.1)
