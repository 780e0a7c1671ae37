-- How a run by workers ends, by why its workers ended.
use Rattle.std.specs.Prelude.{◌≡◌, ◌↔◌, ℕ, Bool, true, false, IsTrue, List, [], ◌∷◌, slice_get, Option, Some, None}
use Rattle.std.specs.List.{list_any}
use Rattle.dv_board.specs.declared.posts.Piece.{Piece}
use Rattle.dv_conservative.specs.World.{Job}
use Rattle.dv_core.specs.Worlds.{end_time}
use Rattle.dv_work.specs.declared.report.Ended.{Ended}
use Rattle.dv_work.specs.declared.report.Ended.TheVariants as ended
use Rattle.dv_work.specs.declared.worker.Halt.{Halt}
use Rattle.dv_work.specs.declared.worker.Halt.TheVariants as halt

module _ {C : Type 0} where
  -- whether a worker ended out of memory
  abbrev pub lacks_memory : Option (Halt C) → Bool
  lacks_memory None = false
  lacks_memory (Some halt.Flag) = false
  lacks_memory (Some halt.Stop) = false
  lacks_memory (Some halt.Memory) = true
  lacks_memory (Some (halt.Cause c)) = false

  -- whether the watch stopped a worker
  abbrev pub is_caused : Option (Halt C) → Bool
  is_caused None = false
  is_caused (Some halt.Flag) = false
  is_caused (Some halt.Stop) = false
  is_caused (Some halt.Memory) = false
  is_caused (Some (halt.Cause c)) = true

  -- the cause for which it did
  abbrev pub cause_of : Option (Halt C) → Option C
  cause_of None = None
  cause_of (Some halt.Flag) = None
  cause_of (Some halt.Stop) = None
  cause_of (Some halt.Memory) = None
  cause_of (Some (halt.Cause c)) = Some c

  -- the first of two options that is there
  abbrev pub first_of : Option C → Option C → Option C
  first_of None other = other
  first_of (Some c) other = Some c

  -- the cause of the first worker that has one
  abbrev pub first_cause : List (Option (Halt C)) → Option C
  first_cause [] = None
  first_cause (h ∷ hs) = first_of (cause_of h) (first_cause hs)

-- Whole if every clock is at the end; else out of memory if a worker was; else stopped if the watch stopped one; else cancelled if the
-- caller's flag was raised. Anything else that keeps a clock from the end counts as out of memory.
abbrev pub ended_by : (is_whole memory is_caused is_stopped : Bool) → Ended
ended_by true memory is_caused is_stopped = ended.Whole
ended_by false true is_caused is_stopped = ended.Memory
ended_by false false true is_stopped = ended.Stopped
ended_by false false false true = ended.Cancelled
ended_by false false false false = ended.Memory

-- how a run ended whose workers ended like this
abbrev pub ended_of : {C : Type 0} → (is_whole : Bool) → List (Option (Halt C)) → (is_stopped : Bool) → Ended
ended_of is_whole halts is_stopped = ended_by is_whole (list_any lacks_memory halts) (list_any is_caused halts) is_stopped

-- The run of a job ended like this: it is whole exactly if every clock is at the end.
pub record EndsFor {N C : Type 0} (job : Job) (halts : List (Option (Halt C))) (is_stopped : Bool) (rest : List (Piece N))
    (ended : Ended) : Type 0 where
  pub is_whole : Bool
  pub whole : IsTrue is_whole ↔ ((p : ℕ) (x : Piece N) → slice_get rest p ≡ Some x → x.clock ≡ end_time job)
  pub is : ended ≡ ended_of is_whole halts is_stopped
