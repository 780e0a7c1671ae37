use Rattle.std.proofs.Common.{◌≡◌, ℕ, ◌+◌, [], ◌∷◌, ◌++◌, List, Some, sym, ap, subst, ◌∙◌}
use Rattle.std.specs.List.{list_any, slice_get}
use Rattle.std.specs.Vec.Iter.{into_iter_items}
use Rattle.std.proofs.lemmas.Iterator.Adapters.{YieldsList-from_vec}
use Rattle.std.proofs.lemmas.Iterator.Consumers.{YieldsList-end}
use Rattle.std.proofs.lemmas.List.{map-append, map-id}
use Rattle.std.proofs.lemmas.List.Elements.{All-head, All-rest, All-same}
use Rattle.dv_time.specs.declared.time.Time.{Time}
use Rattle.dv_board.specs.declared.posts.Piece.{Piece}
use Rattle.dv_conservative.specs.World.{Job}
use Rattle.dv_core.specs.Worlds.{end_time}
use Rattle.dv_work.specs.Endings.{ended_by, is_caused, lacks_memory}
use Rattle.dv_work.specs.Workers.{Reported}
use Rattle.dv_work.specs.declared.worker.Worked.{Worked}
use Rattle.dv_work.proofs.Endings.{halts_of}
use Rattle.dv_work.proofs.Reporting.{pieces_reached, reached_again}
use Rattle.dv_work.proofs.report.report_of.Goals as goal

pub enter_all-requires-clause-seats : goal.enter_all-requires-clause-seats
enter_all-requires-clause-seats g c =
    let R : Worked g.row.P.Denot g.row.C.Denot → Type 0
    = λ w. Reported g.N.OfJob.job g.P.LogicalProcess.state g.P.LogicalProcess.handed g.P.LogicalProcess.valid w in
    let here : R c.in-Some.worked
    = All-head R c.in-Some.worked (into_iter_items c.next.new.self)
    (All-same R _ (into_iter_items c.loop-worked.worked-iterator) (sym c.in-Some.ensures.steps.0) c.loop-worked.invariant.0) in
    here.reports

pub loop-worked-preserved : goal.loop-worked-preserved
loop-worked-preserved g c =
    let R : Worked g.row.P.Denot g.row.C.Denot → Type 0
    = λ w. Reported g.N.OfJob.job g.P.LogicalProcess.state g.P.LogicalProcess.handed g.P.LogicalProcess.valid w in
    let w = c.in-Some.worked in (
      All-rest R w (into_iter_items c.next.new.self) (into_iter_items c.loop-worked.worked-iterator) c.in-Some.ensures.steps.0
          c.loop-worked.invariant.0,
      c.enter_all.ensures,
      c.in_ok-push.ensures.items ∙ ap (λ l. l ++ w.halt ∷ []) c.loop-worked.invariant.2
          ∙ sym (map-append (λ (z : Worked g.row.P.Denot g.row.C.Denot). z.halt) c.loop-worked.yielded (w ∷ [])),
    )

pub rest-rest-requires : goal.rest-rest-requires
rest-rest-requires g c = pieces_reached g.N.OfJob.job c.loop-worked.rest.items c.loop-worked.invariant.1

pub returns-clause-reached : goal.returns-clause-reached
returns-clause-reached g c =
    reached_again g.N.OfJob.job c.loop-worked.rest.items c.rest-rest.result.pieces c.loop-worked.invariant.1 c.rest-rest.ensures.processes
    c.rest-rest.ensures.each

pub returns-clause-halts : goal.returns-clause-halts
returns-clause-halts g c =
    let gives = c.into_iter-worked-iterator.ensures.into_iter_gives in
    let all = YieldsList-from_vec c.args.all.items gives.0 (gives.1 ∙ c.args.all.ok.0) in
    let end = YieldsList-end all c.loop-worked.yielded c.loop-worked.worked-iterator c.loop-worked.yielded_by c.next.result c.next.new.self
    c.in-None.is c.next.ensures.steps in
    c.loop-worked.invariant.2 ∙ ap halts_of (sym (map-id c.loop-worked.yielded) ∙ end.0)

pub returns-clause-whole : goal.returns-clause-whole
returns-clause-whole g c =
    let end : Time = record { tick = c.horizon.result + 1; micro = 0 } in
    let All : Time → List (Piece g.row.N.Denot) → Type 0
    = λ e xs. (p : ℕ) (x : Piece g.row.N.Denot) → slice_get xs p ≡ Some x → x.clock ≡ e in
    let is : end ≡ end_time g.N.OfJob.job
    = ap (λ (n : ℕ). let t : Time = record { tick = n + 1; micro = 0 } in t)
    (c.horizon.ensures.is ∙ ap (λ (j : Job). j.horizon) (sym c.requires.job)) in
    let tells = c.all_reach-is_whole.ensures in
    let how = c.how_ended-ended.ensures.whole in
    let same = c.pieces.ensures in (
      (λ whole. subst (λ (e : Time). All e c.rest-rest.result.pieces) is (subst (All end) same (tells.0 (how.0 whole)))),
      λ all. how.1 (tells.1 (subst (All end) (sym same) (subst (λ (e : Time). All e c.rest-rest.result.pieces) (sym is) all))),
    )

pub returns-clause-ended : goal.returns-clause-ended
returns-clause-ended g c =
    let end : Time = record { tick = c.horizon.result + 1; micro = 0 } in
    let All : Time → List (Piece g.row.N.Denot) → Type 0
    = λ e xs. (p : ℕ) (x : Piece g.row.N.Denot) → slice_get xs p ≡ Some x → x.clock ≡ e in
    let is : end ≡ end_time g.N.OfJob.job
    = ap (λ (n : ℕ). let t : Time = record { tick = n + 1; micro = 0 } in t)
    (c.horizon.ensures.is ∙ ap (λ (j : Job). j.horizon) (sym c.requires.job)) in
    let tells = c.all_reach-is_whole.ensures in
    let same = c.pieces.ensures in
    let whole = c.all_reach-is_whole.result in
    let halts = c.loop-worked.halts.items in
    record {
      is_whole = whole;
      whole = (
        (λ w. subst (λ (e : Time). All e c.rest-rest.result.pieces) is (subst (All end) same (tells.0 w))),
        λ all. tells.1 (subst (All end) (sym same) (subst (λ (e : Time). All e c.rest-rest.result.pieces) (sym is) all)),
      );
      is = c.how_ended-ended.ensures.ended
          ∙ ap (λ m. ended_by whole m c.was_stopped-is_caused.result c.is_some.result)
          (c.lacked_memory-memory.ensures ∙ ap (list_any lacks_memory) c.deref.ensures.value)
          ∙ ap (λ k. ended_by whole (list_any lacks_memory halts) k c.is_some.result)
          (c.was_stopped-is_caused.ensures ∙ ap (list_any is_caused) c.deref-2.ensures.value)
          ∙ ap (λ b. ended_by whole (list_any lacks_memory halts) (list_any is_caused halts) b) c.is_some.ensures;
    }
