use Rattle.std.proofs.Common.{◌≡◌, ℕ, true, List, length, refl, sym, ◌∙◌}
use Rattle.std.proofs.lemmas.List.{length-map}
use Rattle.dv_time.specs.Time.{end_of}
use Rattle.dv_bag.specs.Bag.{Counts}
use Rattle.dv_devs.specs.Network.{Network}
use Rattle.dv_plain.specs.Source.{network_of, outside}
use Rattle.dv_conservative.specs.Flat.{Member, whole}
use Rattle.law_sound.specs.Jobs.{job_of}
use Rattle.law_sound.specs.Members.{flat_of}
use Rattle.law_sound.proofs.jobs.one_process_commits_the_trace_of_the_text.Goals as goal

pub returns-clause-incoming : goal.returns-clause-incoming
returns-clause-incoming c f inputs limit horizon owner = refl

pub returns-clause-outgoing : goal.returns-clause-outgoing
returns-clause-outgoing c f inputs limit horizon owner = refl

pub returns-clause-before : goal.returns-clause-before
returns-clause-before c f inputs limit horizon n owner events writable fine all =
    let comes : ℕ → List Counts = outside f limit inputs in
    let net : Network (List Counts) = whole (flat_of limit f) in
    let ready = c.networks_of_texts.ensures.ready limit f in
    let numbered : length net.numbers ≡ length net.behaviours =
    length-map (flat_of limit f).members (λ (m : Member). m.number)
    ∙ sym (length-map (flat_of limit f).members (λ (m : Member). m.behaviour)) in
    c.one_process_commits_the_trace.ensures (job_of limit horizon f inputs 1 owner) 0 n events all refl
    ∙ sym (c.parts_are_of_the_trace.ensures.all limit net comes n numbered)
    ∙ c.parts_of_the_flat_model_are_those_of_the_text.ensures.part f inputs limit n (λ k. true) writable fine
    ∙ c.parts_are_of_the_trace.ensures.all limit (network_of limit f) comes n ready.numbered

pub returns-clause-whole : goal.returns-clause-whole
returns-clause-whole c f inputs limit horizon owner events writable fine all =
    returns-clause-before c f inputs limit horizon (end_of limit horizon) owner events writable fine all
