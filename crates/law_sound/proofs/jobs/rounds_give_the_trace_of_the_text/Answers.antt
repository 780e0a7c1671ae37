use Rattle.std.proofs.Common.{refl}
use Rattle.dv_conservative.specs.World.{new_world}
use Rattle.law_sound.specs.Jobs.{job_of}
use Rattle.law_sound.proofs.jobs.rounds_give_the_trace_of_the_text.Goals as goal

pub returns : goal.returns
returns c f inputs limit horizon processes capacity k owner w writable fine given within some rounds enough =
    let job = job_of limit horizon f inputs processes owner in
    let run = c.rounds_are_runs.ensures job k (new_world capacity) w rounds in
    let ends = c.rounds_are_enough.ensures.enough job capacity k w some
    (c.channels_are_where_links_cross.ensures.sources job refl) rounds enough in (
      (λ p lt. c.a_whole_run_has_the_trace_of_the_text.ensures.entries f inputs limit horizon processes capacity owner run.0 w p
          writable fine given
          within run.1 (ends p lt)),
      c.a_whole_run_has_the_trace_of_the_text.ensures.outer f inputs limit horizon processes capacity owner run.0 w writable fine given
          within run.1 ends,
    )
