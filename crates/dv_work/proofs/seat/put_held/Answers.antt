use Rattle.std.proofs.Common.{Some, ap, sym, ◌∙◌}
use Rattle.dv_link.specs.declared.rule.EndView.{EndView}
use Rattle.dv_work.proofs.Ends.{held_is_next, out_after}
use Rattle.dv_work.proofs.seat.put_held.Goals as goal

pub put-requires-clause-next : goal.put-requires-clause-next
put-requires-clause-next g c =
    held_is_next g.N.OfJob.job c.args.end.now c.in-Some.packet c.requires.end.link_is (sym c.take.ensures.value ∙ c.in-Some.is)
    c.requires.all_true

pub returns-in-Ok-clause-end : goal.returns-in-Ok-clause-end
returns-in-Ok-clause-end g c =
    out_after c.args.links.now c.args.end.now c.put.new.pass c.take.new.self c.index-links-end.result c.requires.end c.index-links-end.is
    c.in-Ok.ensures.link (ap (λ (v : EndView). v.link) c.in-Ok.ensures.put)

pub returns-in-Err-clause-end : goal.returns-in-Err-clause-end
returns-in-Err-clause-end g c =
    out_after c.args.links.now c.args.end.now c.put.new.pass (Some c.in-Err.full.value) c.index-links-end.result c.requires.end
    c.index-links-end.is c.in-Err.ensures.link (ap (λ (v : EndView). v.link) c.in-Err.ensures.put.1)
