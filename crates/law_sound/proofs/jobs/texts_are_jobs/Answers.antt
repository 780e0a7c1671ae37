use Rattle.std.proofs.Common.{refl}
use Rattle.std.proofs.lemmas.List.Elements.{recursion_from_All}
use Rattle.dv_gen.specs.ModelCode.{IsCompilableModel}
use Rattle.law_compiled.proofs.Models.{models_of_components}
use Rattle.law_sound.specs.Jobs.{IsModelOfNumbers, job_of}
use Rattle.law_sound.proofs.Flattened.{all_lead, numbered}
use Rattle.law_sound.proofs.Jobbing.{all_sound, numbers_outside}
use Rattle.law_sound.proofs.jobs.texts_are_jobs.Goals as goal

pub returns : goal.returns
returns c f inputs limit horizon processes owner writable fine given within =
    let models = recursion_from_All IsCompilableModel f.models (c.accepted_files_are_compilable.ensures f writable fine) in
    let job = job_of limit horizon f inputs processes owner in
    record {
      numbered = numbered limit f;
      sound = all_sound limit owner f c.components_are_sound.ensures (models_of_components IsCompilableModel f models)
          (models_of_components IsModelOfNumbers f (c.files_are_of_numbers.ensures f writable));
      outside = numbers_outside limit f inputs given;
      lead = all_lead limit f;
      apart = λ q. c.channels_are_where_links_cross.ensures.apart job refl q;
      heard = λ q. c.channels_are_where_links_cross.ensures.heard job refl within q;
    }
