use Rattle.std.proofs.Common.{List, ap, map, ◌∙◌}
use Rattle.dv_plan.specs.Steps.{way_of}
use Rattle.dv_plan.specs.declared.channels.Away.{Away}
use Rattle.dv_plan.proofs.Shares.{ways_of_job}
use Rattle.dv_plan.proofs.share.ways_of_process.Goals as goal

pub returns : goal.returns
returns c = λ job owner links.
    let cut = c.args.common.now.cut.now in
    let p = c.args.process in
    c.in_ok-ways.ensures
    ∙ ap (λ (ways : List Away). map (way_of cut p) ways) c.deref.ensures.value
    ∙ ways_of_job job cut p c.in_ok-away.away.items owner links
    ∙ c.in_ok-away.ensures job
