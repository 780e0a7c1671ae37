use Rattle.std.proofs.Common.{◌≡◌, ◌∙◌, ℕ, List, ap, nat_lt, get_or, subst, sym, arith}
use Rattle.dv_time.specs.Time.{end_of, rank}
use Rattle.dv_bag.specs.Bag.{Counts}
use Rattle.dv_conservative.specs.Process.{Share, end_rank}
use Rattle.dv_proc.specs.Accesses.{CountsEmission, CountsStep}
use Rattle.dv_proc.specs.Advancing.{IsAdvance, IsFresh}
use Rattle.dv_proc.specs.Local.{View, sent_at}
use Rattle.dv_proc.proofs.Accesses.{counted_found}
use Rattle.dv_proc.proofs.advance.step.Goals as goal

pub returns-clause-advance : goal.returns-clause-advance
returns-clause-advance g c =
    let limit = c.args.frame.now.limit in
    let v = g.L.Local.view c.args.local.now in
    subst (λ (x : View). IsAdvance (rank limit c.args.clock) (rank limit c.args.least) v x (rank limit c.in_ok-now.now))
    (sym c.emit.ensures.view) c.in_ok-now.ensures.advance

pub returns-clause-visits : goal.returns-clause-visits
returns-clause-visits g c =
    let limit = c.args.frame.now.limit in
    let now = c.in_ok-now.now in
    let v = g.L.Local.view c.args.local.now in
    let w = g.L.Local.view c.advance.new.local in
    let x = g.L.Local.visits c.args.local.now in
    let y = g.L.Local.visits c.advance.new.local in
    let z = g.L.Local.visits c.emit.new.self in
    let instant = c.in_ok-now.ensures.advance.instant in
    let le : w.share.limit ≡ limit = ap (λ (s : Share). s.limit) instant.share ∙ sym c.requires.limit in
    let found : CountsEmission (rank limit now) w y z = subst (λ (l : ℕ). CountsEmission (rank l now) w y z) le c.emit.ensures.visits in
    let last : end_of limit c.args.frame.now.horizon ≡ end_rank w.share =
    ap (λ (l : ℕ). end_of l c.args.frame.now.horizon) c.requires.limit
    ∙ ap (end_of v.share.limit) c.requires.horizon
    ∙ ap (λ (s : Share). end_rank s) (sym instant.share) in
    let test : c.is_before.result ≡ nat_lt (rank limit now) (end_rank w.share) =
    c.is_before.ensures.rank limit c.in_ok-now.ensures.of_run c.end.ensures.of_run
    ∙ ap (nat_lt (rank limit now)) (c.end.ensures.rank ∙ last) in
    subst (λ (u : View). CountsStep (rank limit c.args.clock) (rank limit now) v u x z) (sym c.emit.ensures.view)
    (counted_found (rank limit c.args.clock) (rank limit now) v w x y z c.in_ok-now.ensures.visits found
    (sym test ∙ c.if-not-is_before.false))

pub returns-clause-fresh : goal.returns-clause-fresh
returns-clause-fresh g c =
    λ before j d lt.
    let limit = c.args.frame.now.limit in
    let now = c.in_ok-now.now in
    let w = g.L.Local.view c.advance.new.local in
    let x = g.L.Local.view c.emit.new.self in
    let le : w.share.limit ≡ limit = ap (λ (s : Share). s.limit) c.in_ok-now.ensures.advance.instant.share ∙ sym c.requires.limit in
    let sent : g.L.Local.sent c.emit.new.self ≡ sent_at x (rank limit now) =
    c.in_ok-emit.ensures.sent ∙ ap (λ (l : ℕ). sent_at w (rank l now)) le
    ∙ ap (λ (u : View). sent_at u (rank limit now)) (sym c.emit.ensures.view) in
    subst (λ (sends : List (List Counts)). IsFresh x sends now j (get_or c.fill_all.new.outgoing j d)) sent
    (c.in_ok-fill_all.ensures.fresh j d (omega (arith, lt, c.fill_all.ensures.same.0)))
