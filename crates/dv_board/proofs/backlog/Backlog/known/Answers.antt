use Rattle.std.proofs.Common.{◌≡◌, List, map, rules, sym, ap, subst, ◌∙◌}
use Rattle.std.specs.List.{All}
use Rattle.dv_time.specs.declared.time.Time.{Time}
use Rattle.dv_bag.specs.Part.{before, since}
use Rattle.dv_merge.specs.Whole.{ArePartsOf}
use Rattle.dv_board.specs.Stretches.{AreByTime, HeldOf, part_of}
use Rattle.dv_board.specs.Clocks.{IsLeast, IsNoLater}
use Rattle.dv_board.specs.Jobs.{trace}
use Rattle.dv_board.proofs.Drained.{all_by_time, least_of_run, least_within, mark_no_later, pieces_of_trace}
use Rattle.dv_board.proofs.Indices.{clocks_of}
use Rattle.dv_board.proofs.backlog.Backlog.known.Goals as goal

pub pieces_between-requires : goal.pieces_between-requires
pieces_between-requires g c =
    let s = c.self.inside in
    subst (All AreByTime) (sym c.deref-2.ensures.value)
    (all_by_time g.N.OfJob.job s.mark s.held.items c.self.invariant)

pub returns-clause-pieces : goal.returns-clause-pieces
returns-clause-pieces g c =
    let job = g.N.OfJob.job in
    let s = c.self.inside in
    let least = c.least_clock-least.result in
    let at : s.mark ≡ c.args.from = search rules in
    let is = subst (λ (l : List (HeldOf g.row.N.Denot)). IsLeast least (clocks_of l)) c.deref.ensures.value c.least_clock-least.ensures in
    let pieces =
    c.in_ok-pieces.ensures
    ∙ ap (map (λ (h : HeldOf g.row.N.Denot). since c.args.from (before least (part_of h)))) c.deref-2.ensures.value
    ∙ ap (λ (t : Time). map (λ (h : HeldOf g.row.N.Denot). since t (before least (part_of h))) s.held.items) (sym at) in
    subst (λ (t : Time). ArePartsOf job.owner (trace job t least) c.in_ok-pieces.pieces.items) at
    (subst (ArePartsOf job.owner (trace job s.mark least)) (sym pieces) (pieces_of_trace job s.mark s.held.items c.self.invariant least is))

pub returns-clause-order : goal.returns-clause-order
returns-clause-order g c =
    let job = g.N.OfJob.job in
    let s = c.self.inside in
    let least = c.least_clock-least.result in
    let at : s.mark ≡ c.args.from = search rules in
    let is = subst (λ (l : List (HeldOf g.row.N.Denot)). IsLeast least (clocks_of l)) c.deref.ensures.value c.least_clock-least.ensures in
    subst (λ (t : Time). IsNoLater job t least) at (mark_no_later job s.mark s.held.items c.self.invariant least is)

pub returns-clause-of_run : goal.returns-clause-of_run
returns-clause-of_run g c =
    let s = c.self.inside in
    let least = c.least_clock-least.result in
    let is = subst (λ (l : List (HeldOf g.row.N.Denot)). IsLeast least (clocks_of l)) c.deref.ensures.value c.least_clock-least.ensures in
    least_of_run g.N.OfJob.job s.mark s.held.items c.self.invariant least is

pub returns-clause-within : goal.returns-clause-within
returns-clause-within g c =
    let s = c.self.inside in
    let least = c.least_clock-least.result in
    let is = subst (λ (l : List (HeldOf g.row.N.Denot)). IsLeast least (clocks_of l)) c.deref.ensures.value c.least_clock-least.ensures in
    least_within g.N.OfJob.job s.mark s.held.items c.self.invariant least is
