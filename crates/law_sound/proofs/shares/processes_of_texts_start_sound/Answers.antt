use Rattle.std.proofs.Common.{◌≡◌, List, map, sym, subst, ap, ◌∙◌}
use Rattle.dv_devs.specs.Behaviour.{Component}
use Rattle.dv_devs.specs.NextTimes.{IsFrom, least_next}
use Rattle.dv_tree.specs.Instances.{instances}
use Rattle.dv_conservative.specs.Flat.{network}
use Rattle.dv_conservative.specs.Process.{Outgoing, Share}
use Rattle.dv_conservative.specs.World.{share_of}
use Rattle.law_sound.specs.Jobs.{fits_number, job_of}
use Rattle.law_sound.proofs.Starting.{members_later, rising_apart}
use Rattle.law_sound.proofs.shares.processes_of_texts_start_sound.Goals as goal

pub returns-clause-sound : goal.returns-clause-sound
returns-clause-sound c f inputs limit horizon processes p owner writable fine given within =
    c.processes_start_sound.ensures.sound (fits_number (instances f)) (job_of limit horizon f inputs processes owner) p
    (c.texts_are_jobs.ensures f inputs limit horizon processes owner writable fine given within)

pub returns-clause-begun : goal.returns-clause-begun
returns-clause-begun c f inputs limit horizon processes p owner v share components committed held =
    let starts : v.components ≡ (network (share_of (job_of limit horizon f inputs processes owner) p).flat).start =
    components ∙ ap (λ (s : Share). (network s.flat).start) share in
    record {
      components = components;
      committed = committed;
      held = held;
      later = subst (λ (cs : List Component). IsFrom 1 (least_next cs)) (sym starts)
          (c.processes_start_sound.ensures.later (job_of limit horizon f inputs processes owner) p 1
          (members_later c.holds_end_later.ensures limit 0 (instances f)));
    }

pub returns-clause-apart_in : goal.returns-clause-apart_in
returns-clause-apart_in c job p = rising_apart 0 (share_of job p).incoming (c.processes_start_sound.ensures.incoming job p)

pub returns-clause-apart_out : goal.returns-clause-apart_out
returns-clause-apart_out c job p =
    rising_apart 0 (map (λ (o : Outgoing). o.number) (share_of job p).outgoing) (c.processes_start_sound.ensures.outgoing job p)
