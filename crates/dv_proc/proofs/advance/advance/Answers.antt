use Rattle.std.proofs.Common.{◌≡◌, ◌∙◌, ℕ, suc, ◌<◌, ap, sym, subst, rules, arith}
use Rattle.dv_time.specs.Time.{end_of, rank}
use Rattle.dv_proc.specs.Local.{IsAfterInstant}
use Rattle.dv_conservative.specs.Process.{Share}
use Rattle.dv_proc.proofs.Due.{next_due, succ_rank}
use Rattle.dv_proc.proofs.advance.advance.Goals as goal

pub returns-clause-advance : goal.returns-clause-advance
returns-clause-advance g c =
    let limit = c.args.frame.now.limit in
    let v = g.L.Local.view c.args.local.now in
    let w = g.L.Local.view c.react.new.self in
    let instant : IsAfterInstant (rank limit c.args.clock) v w
    = subst (λ (l : ℕ). IsAfterInstant (rank l c.args.clock) v w) (sym c.requires.limit) c.in_ok-react.ensures.reacted in
    let le : limit ≡ w.share.limit = c.requires.limit ∙ sym (ap (λ (s : Share). s.limit) instant.share) in
    let start : rank w.share.limit c.succ.result ≡ suc (rank limit c.args.clock)
    = ap (λ (l : ℕ). rank l c.succ.result) (sym le) ∙ ap (rank limit) c.succ.ensures ∙ succ_rank limit c.args.clock c.requires.clock in
    record {
      instant = instant;
      next = next_due w limit (rank w.share.limit c.succ.result) (suc (rank limit c.args.clock)) (rank limit c.args.least)
          (rank limit c.sooner-next.result) (rank limit c.sooner.result) c.next.result c.first_input-input.result le start
          c.next.ensures.least
          c.first_input-input.ensures c.sooner-next.ensures.rank c.sooner.ensures.rank;
    }

pub react-requires-clause-before_end : goal.react-requires-clause-before_end
react-requires-clause-before_end g c =
    let limit = c.args.frame.now.limit in
    let s = (g.L.Local.view c.args.local.now).share in
    let lt : rank limit c.args.clock < end_of limit c.args.frame.now.horizon = omega (arith, c.requires.before, c.requires.within) in
    subst (λ (l : ℕ). rank l c.args.clock < end_of l s.horizon) c.requires.limit
    (subst (λ (h : ℕ). rank limit c.args.clock < end_of limit h) c.requires.horizon lt)
