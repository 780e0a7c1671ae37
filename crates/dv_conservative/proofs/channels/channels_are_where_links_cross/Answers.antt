use Rattle.std.proofs.Common.{List, ap, sym, subst, ◌∙◌}
use Rattle.std.specs.List.{slice_get}
use Rattle.dv_conservative.specs.Rounds.{AllHaveSources}
use Rattle.dv_conservative.specs.Sound.{AreApart}
use Rattle.dv_conservative.specs.World.{Channel}
use Rattle.dv_conservative.proofs.Numbering.{all_apart, all_heard, all_have_sources, channel_ends}
use Rattle.dv_conservative.proofs.channels.channels_are_where_links_cross.Goals as goal

pub returns-clause-apart : goal.returns-clause-apart
returns-clause-apart c job are q = subst (AreApart job q) (sym are) (all_apart job q)

pub returns-clause-heard : goal.returns-clause-heard
returns-clause-heard c job are within q = all_heard job q are within

pub returns-clause-sources : goal.returns-clause-sources
returns-clause-sources c job are = subst (AllHaveSources job.processes) (sym are) (all_have_sources job)

pub returns-clause-ends : goal.returns-clause-ends
returns-clause-ends c job l d are e = channel_ends job l d (ap (λ (cs : List Channel). slice_get cs l) (sym are) ∙ e)
