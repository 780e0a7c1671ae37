use Rattle.std.proofs.Common.{◌≡◌, ℕ, suc, zero, ◌<◌, List, ap, ◌∙◌, refl, arith}
use Rattle.dv_time.specs.Time.{end_of}
use Rattle.dv_bag.specs.Part.{PartOf}
use Rattle.dv_bag.specs.declared.entry.Outer.{Outer}
use Rattle.dv_devs.specs.Outside.{union_of_lines}
use Rattle.dv_devs.specs.Parts.{part_before}
use Rattle.dv_plain.specs.Source.{network_of, outside}
use Rattle.dv_tree.specs.Instances.{instances}
use Rattle.dv_conservative.specs.Process.{events_by, part_by}
use Rattle.dv_conservative.specs.True.{united}
use Rattle.dv_conservative.specs.World.{owned, received_in, share_of}
use Rattle.law_sound.specs.Jobs.{fits_number, job_of}
use Rattle.law_sound.proofs.jobs.a_whole_run_has_the_trace_of_the_text.Goals as goal

same_lines : (one other : ℕ → List Outer) (n : ℕ) → ((p : ℕ) → p < n → one p ≡ other p) → united one n ≡ united other n
same_lines one other zero h = refl
same_lines one other (suc n) h =
    ap (λ (os : List Outer). union_of_lines os (one n)) (same_lines one other n (λ p lt. h p (omega arith)))
    ∙ ap (union_of_lines (united other n)) (h n (omega arith))

pub returns-clause-entries : goal.returns-clause-entries
returns-clause-entries c f inputs limit horizon processes capacity owner steps w p writable fine given within run at =
    let job = job_of limit horizon f inputs processes owner in
    let good = c.texts_are_jobs.ensures f inputs limit horizon processes owner writable fine given within in
    ap (λ (part : PartOf). part.entries)
    (c.a_whole_run_is_the_trace.ensures (fits_number (instances f)) job capacity steps w p good run at
    ∙ c.parts_of_the_flat_model_are_those_of_the_text.ensures.part f inputs limit (end_of limit horizon) (owned job p) writable fine)
    ∙ c.parts_of_processes_are_the_trace.ensures.entries limit (network_of limit f) (outside f limit inputs) owner (end_of limit horizon) p

pub returns-clause-outer : goal.returns-clause-outer
returns-clause-outer c f inputs limit horizon processes capacity owner steps w writable fine given within run at =
    let job = job_of limit horizon f inputs processes owner in
    let good = c.texts_are_jobs.ensures f inputs limit horizon processes owner writable fine given within in
    same_lines (λ p. (part_by (share_of job p) (events_by (received_in w)) (end_of limit horizon)).outer)
    (λ p. (part_before (owned job p) limit (network_of limit f) (outside f limit inputs) (end_of limit horizon)).outer) processes
    (λ p lt. ap (λ (part : PartOf). part.outer)
    (c.a_whole_run_is_the_trace.ensures (fits_number (instances f)) job capacity steps w p good run (at p lt)
    ∙ c.parts_of_the_flat_model_are_those_of_the_text.ensures.part f inputs limit (end_of limit horizon) (owned job p) writable fine))
    ∙ c.parts_of_processes_are_the_trace.ensures.outer limit (network_of limit f) (outside f limit inputs) owner
    (end_of limit horizon) processes
    (c.networks_of_texts.ensures.ready limit f) (c.networks_of_texts.ensures.outputs limit f)
    (c.what_leaves_a_text_is_linear.ensures.linear limit f)
    (c.what_leaves_a_text_is_linear.ensures.bags limit f (outside f limit inputs) (end_of limit horizon)) within
