use Rattle.std.proofs.Common.{◌≡◌, ◌<◌, length, set, Some, refl, sym, ap, subst, ◌∙◌, arith}
use Rattle.std.proofs.lemmas.Option.{slice_get-get_or}
use Rattle.dv_time.specs.Time.{IsOfRun, is_before}
use Rattle.dv_time.specs.declared.time.Time.{Time}
use Rattle.dv_board.specs.Stretches.{HeldOf}
use Rattle.dv_board.specs.Backlogs.{BacklogOf, IsHeld, clock_of}
use Rattle.dv_board.specs.Clocks.{IsNoLater, IsSooner, later}
use Rattle.dv_board.proofs.Indices.{clock_of_piece, clock_read, clocks_of, clocks_set, held_set, piece_is_held}
use Rattle.dv_board.proofs.Times.{no_later, sooner}
use Rattle.dv_board.proofs.backlog.Backlog.extend.Goals as goal

pub returns-then-is_before-clause-refused : goal.returns-then-is_before-clause-refused
returns-then-is_before-clause-refused g c =
    let job = g.N.OfJob.job in
    let held = c.self.inside.held.items in
    let p = c.args.piece.process in
    let h = c.index_mut-held.result.now in
    let many = c.self.invariant.many in
    let within : p < length held = omega (arith, many, c.requires.process) in
    let at = c.index_mut-held.ensures.value in
    let is = c.self.invariant.each p h (slice_get-get_or held p h within ∙ ap Some (sym at)) in
    let same = c.clock-kept.ensures in
    let test = ap (λ (t : Time). is_before t c.args.piece.from) (sym same) ∙ sym c.is_before.ensures.order in (
      refl,
      same ∙ sym (subst (λ (b : BacklogOf). clock_of b p ≡ h.clock) c.self.view_is (clock_read held p h within at)),
      subst (IsOfRun job.limit) (sym same) is.of_run,
      subst (λ (t : Time). IsSooner job t c.args.piece.from) (sym same)
          (sooner job h.clock c.args.piece.from is.of_run c.requires.from_of_run (test ∙ c.if-is_before.true)),
    )

pub returns-in-Err-clause-refused : goal.returns-in-Err-clause-refused
returns-in-Err-clause-refused g c =
    let job = g.N.OfJob.job in
    let held = c.self.inside.held.items in
    let p = c.args.piece.process in
    let h = c.index_mut-held.result.now in
    let many = c.self.invariant.many in
    let within : p < length held = omega (arith, many, c.requires.process) in
    let at = c.index_mut-held.ensures.value in
    let is = c.self.invariant.each p h (slice_get-get_or held p h within ∙ ap Some (sym at)) in
    let test = ap (λ (t : Time). is_before t c.args.piece.from) (sym c.clock-kept.ensures) ∙ sym c.is_before.ensures.order in
    subst (λ (b : BacklogOf). IsNoLater job c.args.piece.from (clock_of b p) × IsSooner job (clock_of b p) c.args.piece.clock)
    c.self.view_is
    (subst (λ (t : Time). IsNoLater job c.args.piece.from t × IsSooner job t c.args.piece.clock) (sym (clock_read held p h within at)) (
      no_later job h.clock c.args.piece.from is.of_run c.requires.from_of_run (test ∙ c.if-is_before.false),
      sooner job h.clock c.args.piece.clock is.of_run c.requires.of_run c.in-Err.ensures.more,
    ))

pub invariant_of-self-2 : goal.invariant_of-self-2
invariant_of-self-2 g c =
    let job = g.N.OfJob.job in
    let mark = c.self.inside.mark in
    let held = c.self.inside.held.items in
    let p = c.args.piece.process in
    let h = c.index_mut-held.result.now in
    let many = c.self.invariant.many in
    let within : p < length held = omega (arith, many, c.requires.process) in
    let is = c.self.invariant.each p h (slice_get-get_or held p h within ∙ ap Some (sym c.index_mut-held.ensures.value)) in
    let test = ap (λ (t : Time). is_before t c.args.piece.from) (sym c.clock-kept.ensures) ∙ sym c.is_before.ensures.order in
    let low = no_later job h.clock c.args.piece.from is.of_run c.requires.from_of_run (test ∙ c.if-is_before.false) in
    held_set job mark held p c.join.new.self c.self.invariant
    (subst (IsHeld job mark p) (sym c.in_default.ensures.ok)
    (piece_is_held job mark p h c.args.piece.part c.args.piece.from c.args.piece.clock is c.requires.of_run c.requires.within low
    c.requires.part))

pub returns-clause-clocks : goal.returns-clause-clocks
returns-clause-clocks g c =
    let held = c.self.inside.held.items in
    let p = c.args.piece.process in
    let h = c.index_mut-held.result.now in
    let many = c.self.invariant.many in
    let within : p < length held = omega (arith, many, c.requires.process) in
    let read = clock_read held p h within c.index_mut-held.ensures.value in
    subst (λ (b : BacklogOf). clocks_of (set held p c.join.new.self) ≡ set b.clocks p (later (clock_of b p) c.args.piece.clock))
    c.self.view_is
    (clocks_set held p c.join.new.self
    ∙ ap (set (clocks_of held) p)
    (ap (λ (h : HeldOf g.row.N.Denot). h.clock) c.in_default.ensures.ok
    ∙ (clock_of_piece h c.args.piece.part c.args.piece.clock ∙ ap (λ (t : Time). later t c.args.piece.clock) (sym read))))
