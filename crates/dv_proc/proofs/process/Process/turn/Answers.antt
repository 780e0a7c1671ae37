use Rattle.std.proofs.Common.{take, drop, ◌++◌, ◌≡◌, inl, inr, ◌∙◌, ℕ, ◌<◌, ◌≤◌, List, true, false, ap, length, nat_lt, get_or}
use Rattle.std.proofs.Common.{subst, sym, arith}
use Rattle.std.proofs.lemmas.Bool.Decides.{nat_tests}
use Rattle.dv_time.specs.Time.{IsOfRun, end_of, rank}
use Rattle.dv_time.specs.declared.time.Time.{Time}
use Rattle.dv_conservative.specs.Process.{Share, end_rank, events_by, least_clock}
use Rattle.dv_conservative.specs.Turn.{IsTurnOf, Position, turned}
use Rattle.dv_proc.specs.Accesses.{CountsTurn}
use Rattle.dv_proc.specs.Advancing.{AreBeside, HasRoom, IsSameLink}
use Rattle.dv_proc.specs.Arriving.{received_by}
use Rattle.dv_proc.specs.Leaving.{position_by}
use Rattle.dv_proc.specs.Local.{View}
use Rattle.dv_proc.specs.Midway.{IsMidway}
use Rattle.dv_proc.specs.Standing.{IsFar, IsProcess}
use Rattle.dv_proc.specs.declared.outgoing.Outgoing.{Outgoing}
use Rattle.dv_proc.proofs.Accesses.{counted_turn}
use Rattle.dv_proc.proofs.Moving.{position_same}
use Rattle.dv_proc.proofs.Runs.{run_before}
use Rattle.dv_proc.proofs.NothingDue.{still_unseen}
use Rattle.dv_proc.proofs.Turns.{far_moved, midway_moved, midway_rest, process_roomy, rose_past}
use Rattle.dv_proc.proofs.Whole.{least_before_end, least_is, written_back}
use Rattle.dv_proc.proofs.process.Process.turn.Goals as goal

pub finish-requires-clause-least : goal.finish-requires-clause-least
finish-requires-clause-least g c =
    least_is (g.L.Local.view c.args.self.now.local).share c.args.self.now.incoming.items c.as_slice.result.now
    c.args.self.now.outgoing.items c.args.self.now.clock c.requires.process.standing c.frame-frame.result.limit
    c.frame-frame.result.horizon
    (rank c.frame-frame.result.limit c.least_clock-least.result) c.frame-frame.ensures.limit c.frame-frame.ensures.horizon
    c.as_slice.ensures.value c.least_clock-least.ensures.least

pub finish-requires-clause-midway : goal.finish-requires-clause-midway
finish-requires-clause-midway g c =
    midway_rest (g.L.Local.view c.args.self.now.local) c.args.self.now.incoming.items c.args.self.now.outgoing.items c.args.self.now.clock
    c.requires.process

pub finish-requires-clause-heard : goal.finish-requires-clause-heard
finish-requires-clause-heard g c =
    let least : rank c.frame-frame.result.limit c.least_clock-least.result ≡ least_clock (g.L.Local.view c.args.self.now.local).share
    (received_by c.args.self.now.incoming.items)
    = (least_is (g.L.Local.view c.args.self.now.local).share c.args.self.now.incoming.items c.as_slice.result.now
    c.args.self.now.outgoing.items c.args.self.now.clock c.requires.process.standing c.frame-frame.result.limit
    c.frame-frame.result.horizon
    (rank c.frame-frame.result.limit c.least_clock-least.result) c.frame-frame.ensures.limit c.frame-frame.ensures.horizon
    c.as_slice.ensures.value c.least_clock-least.ensures.least) in
    let here : rank c.frame-frame.result.limit c.args.self.now.clock ≡ rank (g.L.Local.view c.args.self.now.local).share.limit
    c.args.self.now.clock = ap (λ (l : ℕ). rank l c.args.self.now.clock) c.frame-frame.ensures.limit in
    let of_run : IsOfRun c.frame-frame.result.limit c.args.self.now.clock = subst (λ (l : ℕ). IsOfRun l c.args.self.now.clock)
    (sym c.frame-frame.ensures.limit) c.requires.process.standing.within.0 in
    let heard : rank c.frame-frame.result.limit c.args.self.now.clock ≤ rank c.frame-frame.result.limit c.least_clock-least.result =
    omega (arith, c.requires.process.standing.heard) in
    heard

pub finish-requires-clause-goes : goal.finish-requires-clause-goes
finish-requires-clause-goes g c =
    let least : rank c.frame-frame.result.limit c.least_clock-least.result ≡ least_clock (g.L.Local.view c.args.self.now.local).share
    (received_by c.args.self.now.incoming.items)
    = (least_is (g.L.Local.view c.args.self.now.local).share c.args.self.now.incoming.items c.as_slice.result.now
    c.args.self.now.outgoing.items c.args.self.now.clock c.requires.process.standing c.frame-frame.result.limit
    c.frame-frame.result.horizon
    (rank c.frame-frame.result.limit c.least_clock-least.result) c.frame-frame.ensures.limit c.frame-frame.ensures.horizon
    c.as_slice.ensures.value c.least_clock-least.ensures.least) in
    let here : rank c.frame-frame.result.limit c.args.self.now.clock ≡ rank (g.L.Local.view c.args.self.now.local).share.limit
    c.args.self.now.clock = ap (λ (l : ℕ). rank l c.args.self.now.clock) c.frame-frame.ensures.limit in
    let of_run : IsOfRun c.frame-frame.result.limit c.args.self.now.clock = subst (λ (l : ℕ). IsOfRun l c.args.self.now.clock)
    (sym c.frame-frame.ensures.limit) c.requires.process.standing.within.0 in
    let heard : rank c.frame-frame.result.limit c.args.self.now.clock ≤ rank c.frame-frame.result.limit c.least_clock-least.result =
    omega (arith, c.requires.process.standing.heard) in
    let test : c.is_before.result ≡ nat_lt (rank c.frame-frame.result.limit c.args.self.now.clock)
    (rank c.frame-frame.result.limit c.least_clock-least.result)
    = c.is_before.ensures.rank c.frame-frame.result.limit of_run c.least_clock-least.ensures.of_run in
    let late : nat_lt (rank c.frame-frame.result.limit c.args.self.now.clock) (rank c.frame-frame.result.limit c.least_clock-least.result)
    ≡ false = sym test ∙ c.if-not-is_before.true in
    let past : rank c.frame-frame.result.limit c.least_clock-least.result ≤ rank c.frame-frame.result.limit c.args.self.now.clock =
    grind (arith, nat_tests) in
    inl (omega arith)

pub step-requires-clause-within : goal.step-requires-clause-within
step-requires-clause-within g c =
    least_before_end (g.L.Local.view c.args.self.now.local).share c.args.self.now.incoming.items c.frame-frame.result.limit
    c.frame-frame.result.horizon (rank c.frame-frame.result.limit c.least_clock-least.result) c.frame-frame.ensures.limit
    c.frame-frame.ensures.horizon (least_is (g.L.Local.view c.args.self.now.local).share c.args.self.now.incoming.items
    c.as_slice.result.now c.args.self.now.outgoing.items c.args.self.now.clock c.requires.process.standing c.frame-frame.result.limit
    c.frame-frame.result.horizon
    (rank c.frame-frame.result.limit c.least_clock-least.result) c.frame-frame.ensures.limit c.frame-frame.ensures.horizon
    c.as_slice.ensures.value c.least_clock-least.ensures.least)

-- what was committed is before the clock
pub step-requires-clause-later : goal.step-requires-clause-later
step-requires-clause-later g c =
    run_before (g.L.Local.view c.args.self.now.local) (events_by (received_by c.args.self.now.incoming.items)) c.args.self.now.clock
    c.requires.process.standing.within.0 c.requires.process.run

pub returns-in_default-clause-process : goal.returns-in_default-clause-process
returns-in_default-clause-process g c =
    let same : AreBeside (λ j. IsSameLink) c.args.self.now.outgoing.items c.step.new.outgoing
    = subst (λ (zs : List Outgoing). AreBeside (λ j. IsSameLink) zs c.step.new.outgoing) c.as_mut_slice.ensures.value c.step.ensures.same in
    let back = written_back c.args.self.now.outgoing.len c.step.new.outgoing c.args.self.now.outgoing.items same.0
    (sym c.as_mut_slice.ensures.len ∙ ap length c.as_mut_slice.ensures.value) in
    subst (λ (x : View). IsProcess x c.args.self.now.incoming.items
    (take c.args.self.now.outgoing.len (c.step.new.outgoing ++ drop (length c.step.new.outgoing) c.args.self.now.outgoing.items))
    c.args.self.now.clock) (sym (c.roll_back.ensures.view ∙ c.step.ensures.settled ∙ c.requires.settled))
    (subst (λ (zs : List Outgoing). IsProcess (g.L.Local.view c.args.self.now.local) c.args.self.now.incoming.items zs
    c.args.self.now.clock) (sym back) (process_roomy (g.L.Local.view c.args.self.now.local) c.args.self.now.incoming.items
    c.args.self.now.outgoing.items c.step.new.outgoing c.args.self.now.clock c.requires.process same))

pub returns-in_default-clause-err_position : goal.returns-in_default-clause-err_position
returns-in_default-clause-err_position g c =
    let same : AreBeside (λ j. IsSameLink) c.args.self.now.outgoing.items c.step.new.outgoing
    = subst (λ (zs : List Outgoing). AreBeside (λ j. IsSameLink) zs c.step.new.outgoing) c.as_mut_slice.ensures.value c.step.ensures.same in
    let back = written_back c.args.self.now.outgoing.len c.step.new.outgoing c.args.self.now.outgoing.items same.0
    (sym c.as_mut_slice.ensures.len ∙ ap length c.as_mut_slice.ensures.value) in
    ap (position_by c.args.self.now.clock) back ∙ position_same c.args.self.now.clock c.args.self.now.outgoing.items c.step.new.outgoing
    same

pub finish-requires-2-clause-least : goal.finish-requires-2-clause-least
finish-requires-2-clause-least g c =
    (least_is (g.L.Local.view c.args.self.now.local).share c.args.self.now.incoming.items c.as_slice.result.now
    c.args.self.now.outgoing.items c.args.self.now.clock c.requires.process.standing c.frame-frame.result.limit
    c.frame-frame.result.horizon
    (rank c.frame-frame.result.limit c.least_clock-least.result) c.frame-frame.ensures.limit c.frame-frame.ensures.horizon
    c.as_slice.ensures.value c.least_clock-least.ensures.least)
    ∙ ap (λ (s : Share). least_clock s (received_by c.args.self.now.incoming.items))
    (sym (ap (λ (x : View). x.share) c.settle.ensures.view ∙ c.in-Ok.ensures.advance.instant.share))

pub finish-requires-2-clause-midway : goal.finish-requires-2-clause-midway
finish-requires-2-clause-midway g c =
    let same : AreBeside (λ j. IsSameLink) c.args.self.now.outgoing.items c.step.new.outgoing
    = subst (λ (zs : List Outgoing). AreBeside (λ j. IsSameLink) zs c.step.new.outgoing) c.as_mut_slice.ensures.value c.step.ensures.same in
    let back = written_back c.args.self.now.outgoing.len c.step.new.outgoing c.args.self.now.outgoing.items same.0
    (sym c.as_mut_slice.ensures.len ∙ ap length c.as_mut_slice.ensures.value) in
    let least : rank c.frame-frame.result.limit c.least_clock-least.result ≡ least_clock (g.L.Local.view c.args.self.now.local).share
    (received_by c.args.self.now.incoming.items)
    = (least_is (g.L.Local.view c.args.self.now.local).share c.args.self.now.incoming.items c.as_slice.result.now
    c.args.self.now.outgoing.items c.args.self.now.clock c.requires.process.standing c.frame-frame.result.limit
    c.frame-frame.result.horizon
    (rank c.frame-frame.result.limit c.least_clock-least.result) c.frame-frame.ensures.limit c.frame-frame.ensures.horizon
    c.as_slice.ensures.value c.least_clock-least.ensures.least) in
    let here : rank c.frame-frame.result.limit c.args.self.now.clock ≡ rank (g.L.Local.view c.args.self.now.local).share.limit
    c.args.self.now.clock = ap (λ (l : ℕ). rank l c.args.self.now.clock) c.frame-frame.ensures.limit in
    let of_run : IsOfRun c.frame-frame.result.limit c.args.self.now.clock = subst (λ (l : ℕ). IsOfRun l c.args.self.now.clock)
    (sym c.frame-frame.ensures.limit) c.requires.process.standing.within.0 in
    let heard : rank c.frame-frame.result.limit c.args.self.now.clock ≤ rank c.frame-frame.result.limit c.least_clock-least.result =
    omega (arith, c.requires.process.standing.heard) in
    let test : c.is_before.result ≡ nat_lt (rank c.frame-frame.result.limit c.args.self.now.clock)
    (rank c.frame-frame.result.limit c.least_clock-least.result)
    = c.is_before.ensures.rank c.frame-frame.result.limit of_run c.least_clock-least.ensures.of_run in
    let early : nat_lt (rank c.frame-frame.result.limit c.args.self.now.clock)
    (rank c.frame-frame.result.limit c.least_clock-least.result) ≡ true = sym test ∙ c.if-not-is_before.false in
    let before : rank c.frame-frame.result.limit c.args.self.now.clock < rank c.frame-frame.result.limit c.least_clock-least.result =
    grind (arith, nat_tests) in
    let before_least : rank c.frame-frame.result.limit c.args.self.now.clock < rank c.frame-frame.result.limit
    c.least_clock-least.result = before in
    let ended : c.is_before-2.result ≡ nat_lt (rank c.frame-frame.result.limit c.in-Ok.now)
    (end_of c.frame-frame.result.limit c.frame-frame.result.horizon)
    = c.is_before-2.ensures.rank c.frame-frame.result.limit c.in-Ok.ensures.of_run c.end.ensures.of_run
    ∙ ap (nat_lt (rank c.frame-frame.result.limit c.in-Ok.now)) c.end.ensures.rank in
    let last : end_of c.frame-frame.result.limit c.frame-frame.result.horizon ≡ end_rank (g.L.Local.view c.step.new.local).share
    = ap (λ (l : ℕ). end_of l c.frame-frame.result.horizon) c.frame-frame.ensures.limit
    ∙ ap (end_of (g.L.Local.view c.args.self.now.local).share.limit) c.frame-frame.ensures.horizon
    ∙ ap (λ (s : Share). end_rank s) (sym c.in-Ok.ensures.advance.instant.share) in
    subst (λ (x : View). IsMidway x c.args.self.now.incoming.items
    (take c.args.self.now.outgoing.len (c.step.new.outgoing ++ drop (length c.step.new.outgoing) c.args.self.now.outgoing.items))
    c.is_before-2.result c.in-Ok.now) (sym c.settle.ensures.view)
    (subst (λ (zs : List Outgoing). IsMidway (g.L.Local.view c.step.new.local) c.args.self.now.incoming.items zs c.is_before-2.result
    c.in-Ok.now) (sym back)
    (midway_moved (g.L.Local.view c.args.self.now.local) (g.L.Local.view c.step.new.local) c.args.self.now.incoming.items
    c.args.self.now.outgoing.items c.step.new.outgoing c.args.self.now.clock c.in-Ok.now c.requires.process same
    c.frame-frame.result.limit (rank c.frame-frame.result.limit c.least_clock-least.result) c.frame-frame.ensures.limit least
    before_least
    c.in-Ok.ensures.advance c.in-Ok.ensures.of_run c.is_before-2.result
    (ended ∙ ap (nat_lt (rank c.frame-frame.result.limit c.in-Ok.now)) last)
    (λ yes j d lt. c.in-Ok.ensures.fresh (sym ended ∙ yes) j d lt)))

pub finish-requires-2-clause-room : goal.finish-requires-2-clause-room
finish-requires-2-clause-room g c =
    λ yes.
    let same : AreBeside (λ j. IsSameLink) c.args.self.now.outgoing.items c.step.new.outgoing
    = subst (λ (zs : List Outgoing). AreBeside (λ j. IsSameLink) zs c.step.new.outgoing) c.as_mut_slice.ensures.value c.step.ensures.same in
    let back = written_back c.args.self.now.outgoing.len c.step.new.outgoing c.args.self.now.outgoing.items same.0
    (sym c.as_mut_slice.ensures.len ∙ ap length c.as_mut_slice.ensures.value) in
    let ended : c.is_before-2.result ≡ nat_lt (rank c.frame-frame.result.limit c.in-Ok.now)
    (end_of c.frame-frame.result.limit c.frame-frame.result.horizon)
    = c.is_before-2.ensures.rank c.frame-frame.result.limit c.in-Ok.ensures.of_run c.end.ensures.of_run
    ∙ ap (nat_lt (rank c.frame-frame.result.limit c.in-Ok.now)) c.end.ensures.rank in
    subst (λ (zs : List Outgoing). (j : ℕ) (d : Outgoing) → j < length zs → HasRoom (get_or zs j d)) (sym back)
    (λ j d lt. (c.in-Ok.ensures.fresh (sym ended ∙ yes) j d lt).room)

pub finish-requires-2-clause-goes : goal.finish-requires-2-clause-goes
finish-requires-2-clause-goes g c =
    let same : AreBeside (λ j. IsSameLink) c.args.self.now.outgoing.items c.step.new.outgoing
    = subst (λ (zs : List Outgoing). AreBeside (λ j. IsSameLink) zs c.step.new.outgoing) c.as_mut_slice.ensures.value c.step.ensures.same in
    let back = written_back c.args.self.now.outgoing.len c.step.new.outgoing c.args.self.now.outgoing.items same.0
    (sym c.as_mut_slice.ensures.len ∙ ap length c.as_mut_slice.ensures.value) in
    let least : rank c.frame-frame.result.limit c.least_clock-least.result ≡ least_clock (g.L.Local.view c.args.self.now.local).share
    (received_by c.args.self.now.incoming.items)
    = (least_is (g.L.Local.view c.args.self.now.local).share c.args.self.now.incoming.items c.as_slice.result.now
    c.args.self.now.outgoing.items c.args.self.now.clock c.requires.process.standing c.frame-frame.result.limit
    c.frame-frame.result.horizon
    (rank c.frame-frame.result.limit c.least_clock-least.result) c.frame-frame.ensures.limit c.frame-frame.ensures.horizon
    c.as_slice.ensures.value c.least_clock-least.ensures.least) in
    let here : rank c.frame-frame.result.limit c.args.self.now.clock ≡ rank (g.L.Local.view c.args.self.now.local).share.limit
    c.args.self.now.clock = ap (λ (l : ℕ). rank l c.args.self.now.clock) c.frame-frame.ensures.limit in
    let of_run : IsOfRun c.frame-frame.result.limit c.args.self.now.clock = subst (λ (l : ℕ). IsOfRun l c.args.self.now.clock)
    (sym c.frame-frame.ensures.limit) c.requires.process.standing.within.0 in
    let heard : rank c.frame-frame.result.limit c.args.self.now.clock ≤ rank c.frame-frame.result.limit c.least_clock-least.result =
    omega (arith, c.requires.process.standing.heard) in
    let test : c.is_before.result ≡ nat_lt (rank c.frame-frame.result.limit c.args.self.now.clock)
    (rank c.frame-frame.result.limit c.least_clock-least.result)
    = c.is_before.ensures.rank c.frame-frame.result.limit of_run c.least_clock-least.ensures.of_run in
    let early : nat_lt (rank c.frame-frame.result.limit c.args.self.now.clock)
    (rank c.frame-frame.result.limit c.least_clock-least.result) ≡ true = sym test ∙ c.if-not-is_before.false in
    let before : rank c.frame-frame.result.limit c.args.self.now.clock < rank c.frame-frame.result.limit c.least_clock-least.result =
    grind (arith, nat_tests) in
    let before_least : rank c.frame-frame.result.limit c.args.self.now.clock < rank c.frame-frame.result.limit
    c.least_clock-least.result = before in
    inr (rose_past (g.L.Local.view c.args.self.now.local) (g.L.Local.view c.step.new.local) c.args.self.now.incoming.items
    c.args.self.now.outgoing.items c.step.new.outgoing c.args.self.now.clock c.in-Ok.now c.requires.process same
    c.frame-frame.result.limit (rank c.frame-frame.result.limit c.least_clock-least.result) c.frame-frame.ensures.limit least
    before_least
    c.in-Ok.ensures.advance c.in-Ok.ensures.of_run)

pub returns-clause-turn : goal.returns-clause-turn
returns-clause-turn g c =
    let same : AreBeside (λ j. IsSameLink) c.args.self.now.outgoing.items c.step.new.outgoing
    = subst (λ (zs : List Outgoing). AreBeside (λ j. IsSameLink) zs c.step.new.outgoing) c.as_mut_slice.ensures.value c.step.ensures.same in
    let back = written_back c.args.self.now.outgoing.len c.step.new.outgoing c.args.self.now.outgoing.items same.0
    (sym c.as_mut_slice.ensures.len ∙ ap length c.as_mut_slice.ensures.value) in
    subst (λ (s : Share). IsTurnOf s (received_by c.args.self.now.incoming.items)
    (position_by c.args.self.now.clock c.args.self.now.outgoing.items)
    (position_by c.finish-2.new.self.clock c.finish-2.new.self.outgoing.items))
    (ap (λ (x : View). x.share) c.settle.ensures.view ∙ c.in-Ok.ensures.advance.instant.share)
    (subst (λ (x : Position). IsTurnOf (g.L.Local.view c.settle.new.self).share (received_by c.args.self.now.incoming.items) x
    (position_by c.finish-2.new.self.clock c.finish-2.new.self.outgoing.items))
    (ap (position_by c.args.self.now.clock) back ∙ position_same c.args.self.now.clock c.args.self.now.outgoing.items c.step.new.outgoing
    same) c.finish-2.ensures.turn)

pub returns-clause-far : goal.returns-clause-far
returns-clause-far g c =
    let same : AreBeside (λ j. IsSameLink) c.args.self.now.outgoing.items c.step.new.outgoing
    = subst (λ (zs : List Outgoing). AreBeside (λ j. IsSameLink) zs c.step.new.outgoing) c.as_mut_slice.ensures.value c.step.ensures.same in
    let back = written_back c.args.self.now.outgoing.len c.step.new.outgoing c.args.self.now.outgoing.items same.0
    (sym c.as_mut_slice.ensures.len ∙ ap length c.as_mut_slice.ensures.value) in
    let least : rank c.frame-frame.result.limit c.least_clock-least.result ≡ least_clock (g.L.Local.view c.args.self.now.local).share
    (received_by c.args.self.now.incoming.items)
    = (least_is (g.L.Local.view c.args.self.now.local).share c.args.self.now.incoming.items c.as_slice.result.now
    c.args.self.now.outgoing.items c.args.self.now.clock c.requires.process.standing c.frame-frame.result.limit
    c.frame-frame.result.horizon
    (rank c.frame-frame.result.limit c.least_clock-least.result) c.frame-frame.ensures.limit c.frame-frame.ensures.horizon
    c.as_slice.ensures.value c.least_clock-least.ensures.least) in
    let here : rank c.frame-frame.result.limit c.args.self.now.clock ≡ rank (g.L.Local.view c.args.self.now.local).share.limit
    c.args.self.now.clock = ap (λ (l : ℕ). rank l c.args.self.now.clock) c.frame-frame.ensures.limit in
    let of_run : IsOfRun c.frame-frame.result.limit c.args.self.now.clock = subst (λ (l : ℕ). IsOfRun l c.args.self.now.clock)
    (sym c.frame-frame.ensures.limit) c.requires.process.standing.within.0 in
    let heard : rank c.frame-frame.result.limit c.args.self.now.clock ≤ rank c.frame-frame.result.limit c.least_clock-least.result =
    omega (arith, c.requires.process.standing.heard) in
    let test : c.is_before.result ≡ nat_lt (rank c.frame-frame.result.limit c.args.self.now.clock)
    (rank c.frame-frame.result.limit c.least_clock-least.result)
    = c.is_before.ensures.rank c.frame-frame.result.limit of_run c.least_clock-least.ensures.of_run in
    let early : nat_lt (rank c.frame-frame.result.limit c.args.self.now.clock)
    (rank c.frame-frame.result.limit c.least_clock-least.result) ≡ true = sym test ∙ c.if-not-is_before.false in
    let before : rank c.frame-frame.result.limit c.args.self.now.clock < rank c.frame-frame.result.limit c.least_clock-least.result =
    grind (arith, nat_tests) in
    let before_least : rank c.frame-frame.result.limit c.args.self.now.clock < rank c.frame-frame.result.limit
    c.least_clock-least.result = before in
    subst (λ (u : Time). IsFar (g.L.Local.view c.args.self.now.local).share (received_by c.args.self.now.incoming.items)
    (rank (g.L.Local.view c.args.self.now.local).share.limit u)) (sym c.finish-2.ensures.clock)
    (subst (λ (l : ℕ). IsFar (g.L.Local.view c.args.self.now.local).share (received_by c.args.self.now.incoming.items)
    (rank l c.in-Ok.now)) c.frame-frame.ensures.limit
    (far_moved (g.L.Local.view c.args.self.now.local) (g.L.Local.view c.step.new.local) c.args.self.now.incoming.items
    c.args.self.now.outgoing.items c.step.new.outgoing c.args.self.now.clock c.in-Ok.now c.requires.process same
    c.frame-frame.result.limit (rank c.frame-frame.result.limit c.least_clock-least.result) c.frame-frame.ensures.limit least
    before_least
    c.in-Ok.ensures.advance c.in-Ok.ensures.of_run))

pub returns-clause-answer : goal.returns-clause-answer
returns-clause-answer g c =
    let same : AreBeside (λ j. IsSameLink) c.args.self.now.outgoing.items c.step.new.outgoing
    = subst (λ (zs : List Outgoing). AreBeside (λ j. IsSameLink) zs c.step.new.outgoing) c.as_mut_slice.ensures.value c.step.ensures.same in
    let back = written_back c.args.self.now.outgoing.len c.step.new.outgoing c.args.self.now.outgoing.items same.0
    (sym c.as_mut_slice.ensures.len ∙ ap length c.as_mut_slice.ensures.value) in
    c.finish-2.ensures.answer
    ∙ ap (λ (s : Share). turned s (position_by c.args.self.now.clock
    (take c.args.self.now.outgoing.len (c.step.new.outgoing ++ drop (length c.step.new.outgoing) c.args.self.now.outgoing.items)))
    (position_by c.finish-2.new.self.clock c.finish-2.new.self.outgoing.items)) (ap (λ (x : View). x.share) c.settle.ensures.view
    ∙ c.in-Ok.ensures.advance.instant.share)
    ∙ ap (λ (x : Position). turned (g.L.Local.view c.args.self.now.local).share x
    (position_by c.finish-2.new.self.clock c.finish-2.new.self.outgoing.items)) (ap (position_by c.args.self.now.clock) back
    ∙ position_same c.args.self.now.clock c.args.self.now.outgoing.items c.step.new.outgoing same)

pub returns-clause-visits : goal.returns-clause-visits
returns-clause-visits g c =
    let v = g.L.Local.view c.args.self.now.local in
    let w = g.L.Local.view c.step.new.local in
    let is = c.args.self.now.incoming.items in
    let xs = c.args.self.now.outgoing.items in
    let clock = c.args.self.now.clock in
    let now = c.in-Ok.now in
    let limit = c.frame-frame.result.limit in
    let upto = rank limit c.least_clock-least.result in
    let same : AreBeside (λ j. IsSameLink) xs c.step.new.outgoing =
    subst (λ (zs : List Outgoing). AreBeside (λ j. IsSameLink) zs c.step.new.outgoing) c.as_mut_slice.ensures.value c.step.ensures.same in
    let least : upto ≡ least_clock v.share (received_by is) =
    least_is v.share is c.as_slice.result.now xs clock c.requires.process.standing limit c.frame-frame.result.horizon upto
    c.frame-frame.ensures.limit c.frame-frame.ensures.horizon c.as_slice.ensures.value c.least_clock-least.ensures.least in
    let of_run : IsOfRun limit clock =
    subst (λ (l : ℕ). IsOfRun l clock) (sym c.frame-frame.ensures.limit) c.requires.process.standing.within.0 in
    let test : c.is_before.result ≡ nat_lt (rank limit clock) upto =
    c.is_before.ensures.rank limit of_run c.least_clock-least.ensures.of_run in
    let early : nat_lt (rank limit clock) upto ≡ true = sym test ∙ c.if-not-is_before.false in
    let before : rank limit clock < upto = grind (arith, nat_tests) in
    let rose : rank limit clock < rank limit now =
    rose_past v w is xs c.step.new.outgoing clock now c.requires.process same limit upto c.frame-frame.ensures.limit least before
    c.in-Ok.ensures.advance c.in-Ok.ensures.of_run in
    let view : g.L.Local.view c.finish-2.new.self.local ≡ w =
    ap (λ l. g.L.Local.view l) c.finish-2.ensures.local ∙ c.settle.ensures.view in
    let x = g.L.Local.visits c.args.self.now.local in
    let y = g.L.Local.visits c.step.new.local in
    let visits : g.L.Local.visits c.finish-2.new.self.local ≡ y =
    ap (λ l. g.L.Local.visits l) c.finish-2.ensures.local ∙ c.settle.ensures.visits in
    subst (λ (z : ℕ). CountsTurn (rank v.share.limit clock) (rank v.share.limit c.finish-2.new.self.clock) v
    (g.L.Local.view c.finish-2.new.self.local) x z) (sym visits)
    (subst (λ (u : View). CountsTurn (rank v.share.limit clock) (rank v.share.limit c.finish-2.new.self.clock) v u x y) (sym view)
    (subst (λ (u : Time). CountsTurn (rank v.share.limit clock) (rank v.share.limit u) v w x y) (sym c.finish-2.ensures.clock)
    (subst (λ (l : ℕ). CountsTurn (rank l clock) (rank l now) v w x y) c.frame-frame.ensures.limit
    (counted_turn (rank limit clock) (rank limit now) v w x y c.in-Ok.ensures.advance.instant rose c.in-Ok.ensures.visits))))

pub returns-clause-visits_stay : goal.returns-clause-visits_stay
returns-clause-visits_stay g c =
    λ here there.
    let v = g.L.Local.view c.args.self.now.local in
    let w = g.L.Local.view c.step.new.local in
    let is = c.args.self.now.incoming.items in
    let xs = c.args.self.now.outgoing.items in
    let clock = c.args.self.now.clock in
    let now = c.in-Ok.now in
    let limit = c.frame-frame.result.limit in
    let upto = rank limit c.least_clock-least.result in
    let same : AreBeside (λ j. IsSameLink) xs c.step.new.outgoing =
    subst (λ (zs : List Outgoing). AreBeside (λ j. IsSameLink) zs c.step.new.outgoing) c.as_mut_slice.ensures.value c.step.ensures.same in
    let least : upto ≡ least_clock v.share (received_by is) =
    least_is v.share is c.as_slice.result.now xs clock c.requires.process.standing limit c.frame-frame.result.horizon upto
    c.frame-frame.ensures.limit c.frame-frame.ensures.horizon c.as_slice.ensures.value c.least_clock-least.ensures.least in
    let of_run : IsOfRun limit clock =
    subst (λ (l : ℕ). IsOfRun l clock) (sym c.frame-frame.ensures.limit) c.requires.process.standing.within.0 in
    let test : c.is_before.result ≡ nat_lt (rank limit clock) upto =
    c.is_before.ensures.rank limit of_run c.least_clock-least.ensures.of_run in
    let early : nat_lt (rank limit clock) upto ≡ true = sym test ∙ c.if-not-is_before.false in
    let before : rank limit clock < upto = grind (arith, nat_tests) in
    let rose : rank limit clock < rank limit now =
    rose_past v w is xs c.step.new.outgoing clock now c.requires.process same limit upto c.frame-frame.ensures.limit least before
    c.in-Ok.ensures.advance c.in-Ok.ensures.of_run in
    let view : g.L.Local.view c.finish-2.new.self.local ≡ w =
    ap (λ l. g.L.Local.view l) c.finish-2.ensures.local ∙ c.settle.ensures.view in
    let x = g.L.Local.visits c.args.self.now.local in
    let y = g.L.Local.visits c.step.new.local in
    let visits : g.L.Local.visits c.finish-2.new.self.local ≡ y =
    ap (λ l. g.L.Local.visits l) c.finish-2.ensures.local ∙ c.settle.ensures.visits in
    let counted : CountsTurn (rank v.share.limit clock) (rank v.share.limit c.finish-2.new.self.clock) v
    (g.L.Local.view c.finish-2.new.self.local) x (g.L.Local.visits c.finish-2.new.self.local) =
    subst (λ (z : ℕ). CountsTurn (rank v.share.limit clock) (rank v.share.limit c.finish-2.new.self.clock) v
    (g.L.Local.view c.finish-2.new.self.local) x z) (sym visits)
    (subst (λ (u : View). CountsTurn (rank v.share.limit clock) (rank v.share.limit c.finish-2.new.self.clock) v u x y) (sym view)
    (subst (λ (u : Time). CountsTurn (rank v.share.limit clock) (rank v.share.limit u) v w x y) (sym c.finish-2.ensures.clock)
    (subst (λ (l : ℕ). CountsTurn (rank l clock) (rank l now) v w x y) c.frame-frame.ensures.limit
    (counted_turn (rank limit clock) (rank limit now) v w x y c.in-Ok.ensures.advance.instant rose c.in-Ok.ensures.visits)))) in
    still_unseen v (g.L.Local.view c.finish-2.new.self.local) x (g.L.Local.visits c.finish-2.new.self.local) is
    c.finish-2.new.self.incoming.items xs c.finish-2.new.self.outgoing.items clock c.finish-2.new.self.clock c.requires.process
    c.finish-2.ensures.process
    (ap (λ (y : View). y.share) view ∙ c.in-Ok.ensures.advance.instant.share) (ap (λ is'. is'.items) c.finish-2.ensures.incoming)
    counted here there
