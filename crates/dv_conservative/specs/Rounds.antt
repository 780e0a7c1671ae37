-- Rounds: a turn for each process in order, and then for each link one put and one take.
use Rattle.std.specs.Prelude.{◌≡◌, ℕ, zero, suc, ◌<◌, List, [], ◌∷◌, ◌++◌}
use Rattle.dv_conservative.specs.Turn.{Progresses}
use Rattle.dv_conservative.specs.World.{Channel, IsStep, Job, Reply, Step, World, Turn, Put, Take, Done, Memory, position_in}
use Rattle.dv_conservative.specs.World.{received_in, share_of}

-- the turns of a number of processes from one on
abbrev pub turns_from : ℕ → ℕ → List Step
turns_from p zero = []
turns_from p (suc n) = Turn p ∷ turns_from (suc p) n

-- a put and a take for each link from one on
abbrev pub moves_from : ℕ → List Channel → List Step
moves_from l [] = []
moves_from l (c ∷ cs) = Put l ∷ Take l ∷ moves_from (suc l) cs

abbrev pub round : Job → List Step
round job = turns_from 0 job.processes ++ moves_from 0 job.channels

-- a turn that is done makes the required progress
abbrev pub Progressed : Job → Step → Reply → World → World → Type 0
Progressed job (Turn p) Done w v = Progresses (share_of job p) (received_in w) (position_in w p) (position_in v p)
Progressed job s reply w v = Unit {0}

-- a reply other than that memory ran out
abbrev pub HadMemory : Reply → Type 0
HadMemory Memory = ⊥
HadMemory reply = Unit {0}

-- steps one after the other, none of which runs out of memory, and whose turns make progress
abbrev pub IsDriven : Job → List Step → World → World → Type 0
IsDriven job [] w v = v ≡ w
IsDriven job (s ∷ ss) w v =
    (u : World) × (reply : Reply) × IsStep job s reply w u × HadMemory reply × Progressed job s reply w u × IsDriven job ss u v

-- a number of rounds
abbrev pub AreRounds : Job → ℕ → World → World → Type 0
AreRounds job zero w v = v ≡ w
AreRounds job (suc k) w v = (u : World) × AreRounds job k w u × IsDriven job (round job) u v

-- every link leads from an existing process
abbrev pub AllHaveSources : ℕ → List Channel → Type 0
AllHaveSources count [] = Unit {0}
AllHaveSources count (c ∷ cs) = (c.source < count) × AllHaveSources count cs
