use Rattle.std.proofs.Common.{ℕ, List, length, ap, ◌∙◌}
use Rattle.std.specs.List.{range_with_len}
use Rattle.dv_time.specs.Time.{rank}
use Rattle.dv_tree.specs.Instances.{instances}
use Rattle.dv_devs.specs.Network.{components_at}
use Rattle.dv_plain.specs.Source.{outside}
use Rattle.dv_conservative.specs.Flat.{kept, whole}
use Rattle.dv_conservative.specs.World.{owned}
use Rattle.law_sound.specs.Jobs.{fits_number, job_of}
use Rattle.law_sound.specs.Members.{flat_of}
use Rattle.law_sound.proofs.Flattened.{numbers_same}
use Rattle.law_sound.proofs.jobs.processes_commit_their_parts_of_the_text.Goals as goal

pub returns-clause-part : goal.returns-clause-part
returns-clause-part c f inputs limit horizon processes capacity owner steps w p writable fine given within run =
    let job = job_of limit horizon f inputs processes owner in
    c.every_process_commits_its_part.ensures.part (fits_number (instances f)) job capacity steps w
    (c.texts_are_jobs.ensures f inputs limit horizon processes owner writable fine given within) run p
    ∙ c.parts_of_the_flat_model_are_those_of_the_text.ensures.part f inputs limit (rank limit (w.clock p)) (owned job p) writable fine

pub returns-clause-components : goal.returns-clause-components
returns-clause-components c f inputs limit horizon processes capacity owner steps w p writable fine given within run =
    let job = job_of limit horizon f inputs processes owner in
    let n = rank limit (w.clock p) in
    c.every_process_commits_its_part.ensures.components (fits_number (instances f)) job capacity steps w
    (c.texts_are_jobs.ensures f inputs limit horizon processes owner writable fine given within) run p
    ∙ ap (λ (ks : List ℕ). kept (owned job p) ks (components_at limit (whole (flat_of limit f)) (outside f limit inputs) n))
    (numbers_same limit 0 (instances f))
    ∙ ap (kept (owned job p) (range_with_len 0 (length (instances f))))
    (c.parts_of_the_flat_model_are_those_of_the_text.ensures.components f inputs limit n writable fine)
