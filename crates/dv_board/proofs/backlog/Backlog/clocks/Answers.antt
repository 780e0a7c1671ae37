use Rattle.std.proofs.Common.{◌≤◌, List, slice_index_or, sym, ap, subst, ◌∙◌}
use Rattle.std.specs.List.{All}
use Rattle.std.proofs.lemmas.Option.{slice_get-get_or}
use Rattle.dv_time.specs.Time.{IsOfRun, end_of, rank}
use Rattle.dv_time.specs.declared.time.Time.{Time}
use Rattle.dv_conservative.specs.World.{Job}
use Rattle.dv_board.specs.Backlogs.{AreHeld}
use Rattle.dv_board.specs.Stretches.{HeldOf}
use Rattle.dv_board.proofs.Indices.{clocks_of}
use Rattle.dv_board.proofs.Wholes.{get_map}
use Rattle.dv_board.proofs.backlog.Backlog.clocks.Goals as goal

all_of_run : {N : Type 0} (job : Job) (mark : Time) (held : List (HeldOf N)) → AreHeld job mark held
    → All (IsOfRun job.limit) (clocks_of held)
all_of_run {N} job mark held all k d lt =
    let at = slice_get-get_or (clocks_of held) k d lt in
    let h = get_map (λ (h : HeldOf N). h.clock) held k (slice_index_or (clocks_of held) k d) at in
    subst (IsOfRun job.limit) h.2 (all.each k h.0 h.1).of_run

abbrev IsWithin : Job → Time → Type 0
IsWithin job t = rank job.limit t ≤ end_of job.limit job.horizon

all_within : {N : Type 0} (job : Job) (mark : Time) (held : List (HeldOf N)) → AreHeld job mark held
    → All (IsWithin job) (clocks_of held)
all_within {N} job mark held all k d lt =
    let at = slice_get-get_or (clocks_of held) k d lt in
    let h = get_map (λ (h : HeldOf N). h.clock) held k (slice_index_or (clocks_of held) k d) at in
    subst (IsWithin job) h.2 (all.each k h.0 h.1).within

pub returns-clause-of_run : goal.returns-clause-of_run
returns-clause-of_run g c =
    let s = c.self.inside in
    subst (All (IsOfRun g.N.OfJob.job.limit)) (sym (c.in_ok-clocks.ensures ∙ ap clocks_of c.deref.ensures.value))
    (all_of_run g.N.OfJob.job s.mark s.held.items c.self.invariant)

pub returns-clause-within : goal.returns-clause-within
returns-clause-within g c =
    let s = c.self.inside in
    subst (All (IsWithin g.N.OfJob.job)) (sym (c.in_ok-clocks.ensures ∙ ap clocks_of c.deref.ensures.value))
    (all_within g.N.OfJob.job s.mark s.held.items c.self.invariant)
