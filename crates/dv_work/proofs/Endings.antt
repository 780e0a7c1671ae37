-- How a run ends, by the halts of its workers.
use Rattle.std.proofs.Common.{◌≡◌, Bool, true, false, List, [], ◌∷◌, ◌++◌, map, Option, Some, None, IsSome, is_some}
use Rattle.std.proofs.Common.{refl, sym, ap, ◌∙◌, append_assoc}
use Rattle.std.specs.List.{list_any}
use Rattle.dv_work.specs.declared.report.Ended.TheVariants as ended
use Rattle.dv_work.specs.declared.worker.Halt.{Halt}
use Rattle.dv_work.specs.declared.worker.Halt.TheVariants as halt
use Rattle.dv_work.specs.declared.worker.Worked.{Worked}
use Rattle.std.specs.Prelude.{Err, IfOk, Ok, Result}
use Rattle.dv_conservative.specs.World.{Job}
use Rattle.dv_work.specs.declared.report.Report.{Report}
use Rattle.dv_work.specs.Endings.{EndsFor, ended_by, first_cause, is_caused}

abbrev pub halts_of : {P C : Type 0} → List (Worked P C) → List (Option (Halt C))
halts_of = map (λ w. w.halt)

-- the halt of the next worker goes from those that are left to those that were kept
pub one_kept : {P C : Type 0} (all : List (Option (Halt C))) (old new : List (Worked P C)) (w : Worked P C) (kept : List (Option (Halt C)))
    → all ≡ kept ++ halts_of old → old ≡ w ∷ new → all ≡ (kept ++ w.halt ∷ []) ++ halts_of new
one_kept {P} {C} all old new w kept are next =
    are ∙ ap (λ (l : List (Worked P C)). kept ++ halts_of l) next ∙ sym (append_assoc kept (w.halt ∷ []) (halts_of new))

-- there is a first cause where the watch stopped a worker
pub caused_is_some : {C : Type 0} (halts : List (Option (Halt C))) → list_any is_caused halts ≡ true → IsSome (first_cause halts)
caused_is_some [] e = absurd (cc)
caused_is_some (None ∷ hs) e = caused_is_some hs e
caused_is_some (Some halt.Flag ∷ hs) e = caused_is_some hs e
caused_is_some (Some halt.Stop ∷ hs) e = caused_is_some hs e
caused_is_some (Some halt.Memory ∷ hs) e = caused_is_some hs e
caused_is_some (Some (halt.Cause c) ∷ hs) e = refl

-- a run is cancelled only where the caller's flag was raised
pub cancelled_is_stopped : {X : Type 0} (is_whole memory is_caused : Bool) (stopped : Option X)
    → ended_by is_whole memory is_caused (is_some stopped) ≡ ended.Cancelled → IsSome stopped
cancelled_is_stopped true memory is_caused stopped e = absurd (cc)
cancelled_is_stopped false true is_caused stopped e = absurd (cc)
cancelled_is_stopped false false true stopped e = absurd (cc)
cancelled_is_stopped false false false None e = absurd (cc)
cancelled_is_stopped false false false (Some x) e = refl

pub cancelled_if_ok : {N C E : Type 0} (job : Job) (r : Result (Report N C) E)
    → IfOk r (λ x. EndsFor job x.halts.items (is_some x.stopped) x.rest.pieces x.ended)
    → IfOk r (λ x. x.ended ≡ ended.Cancelled → IsSome x.stopped)
cancelled_if_ok job (Err e) ends = tt
cancelled_if_ok job (Ok x) ends = λ is. cancelled_is_stopped ends.is_whole _ _ x.stopped (sym ends.is ∙ is)
