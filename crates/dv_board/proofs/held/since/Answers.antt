use Rattle.std.proofs.Common.{◌≡◌, rules, sym, ap, subst, ◌∙◌, arith}
use Rattle.dv_time.specs.declared.time.Time.{Time}
use Rattle.dv_bag.specs.Part.{since}
use Rattle.dv_board.proofs.Between.{committed_since}
use Rattle.dv_board.proofs.held.since.Goals as goal

pub returns-then-eq : goal.returns-then-eq
returns-then-eq g c =
    let piece = c.args.piece in
    let is = c.requires.part in
    let order = c.requires.order in
    let same : piece.from ≡ c.args.time = search rules in
    subst (λ (t : Time). piece.part ≡ since t piece.part) same
    (is ∙ sym (ap (since piece.from) is
    ∙ committed_since g.N.OfJob.job piece.process piece.from piece.from piece.clock (omega arith) order c.requires.from_of_run))
