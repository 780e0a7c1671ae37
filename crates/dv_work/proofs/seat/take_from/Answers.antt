use Rattle.std.proofs.Common.{◌∙◌, subst, sym}
use Rattle.dv_link.specs.Carries.{IsLinkOf}
use Rattle.dv_link.specs.Ends.{receiver}
use Rattle.dv_work.proofs.Ends.{in_after, link_after_take, taken_is_true}
use Rattle.dv_work.proofs.seat.take_from.Goals as goal

pub take-requires-clause-channel : goal.take-requires-clause-channel
take-requires-clause-channel g c = subst (IsLinkOf g.N.OfJob.job) (sym c.requires.end.link_is) c.requires.channel

pub returns-clause-end : goal.returns-clause-end
returns-clause-end g c =
    in_after c.args.links.now c.args.end.now c.take.new.pass c.index-links-end.result c.requires.end c.index-links-end.is
    c.take.ensures.link
    (link_after_take c.take.result (receiver c.args.end.now.pass) (receiver c.take.new.pass) c.take.ensures.taken)

pub returns-clause-all_true : goal.returns-clause-all_true
returns-clause-all_true g c =
    taken_is_true g.N.OfJob.job c.args.end.now.number (receiver c.take.new.pass)
    (link_after_take c.take.result (receiver c.args.end.now.pass) (receiver c.take.new.pass) c.take.ensures.taken ∙ c.requires.end.link_is)
    c.take.ensures.all_true
