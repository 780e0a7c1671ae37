use Rattle.dv_run.proofs.components.lone_components.Goals as goal

pub returns : goal.returns
returns c =
    let is = c.in_ok-components_of.ensures in
    record { members = is.members; rise = is.rise; among = is.among; responses = is.responses; short = is.short }
