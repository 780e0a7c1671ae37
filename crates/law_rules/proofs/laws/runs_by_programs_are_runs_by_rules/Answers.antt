use Rattle.std.proofs.Common.{◌≡◌, ℕ, None}
use Rattle.std.proofs.lemmas.List.Elements.{recursion_from_All}
use Rattle.dv_syntax.specs.Trees.{FileTree}
use Rattle.dv_check.specs.Refusals.{refusal_of}
use Rattle.dv_check.specs.Writable.{IsWritable}
use Rattle.dv_conservative.specs.World.{new_world}
use Rattle.dv_gen.specs.ModelCode.{IsCompilableModel}
use Rattle.dv_tree.specs.Instances.{instances}
use Rattle.law_compiled.proofs.Alike.{all_faithful, anything}
use Rattle.law_compiled.proofs.Models.{models_of_components}
use Rattle.law_sound.specs.Members.{members_from}
use Rattle.law_rules.specs.Jobs.{job_by_rules, members_by_rules}
use Rattle.law_rules.proofs.Pairs.{AllPairs}
use Rattle.law_rules.proofs.Steps.{ends, runs}
use Rattle.law_rules.proofs.Texts.{pairs_from}
use Rattle.law_rules.proofs.laws.runs_by_programs_are_runs_by_rules.Goals as goal

pub returns : goal.returns
returns c =
    let pairs : (f : FileTree) (limit : ℕ) → IsWritable f → refusal_of f ≡ None
    → AllPairs (members_by_rules limit 0 (instances f)) (members_from limit 0 (instances f)) =
    λ f limit writable fine.
    let models = recursion_from_All IsCompilableModel f.models (c.accepted_files_are_compilable.ensures f writable fine) in
    pairs_from limit 0 (instances f)
    (all_faithful
    (λ m can. record {
      keeps = c.programs_behave_as_rules.ensures.keeps m anything can;
      agrees = c.programs_behave_as_rules.ensures.agrees m anything can;
      start = c.start_states_fit.ensures m can.accepted;
    }) (instances f) (models_of_components IsCompilableModel f models)) in
    record {
      rounds = λ f inputs limit horizon processes capacity rounds owner ended w writable fine h.
          ends (job_by_rules limit horizon f inputs processes owner) (members_from limit 0 (instances f)) (pairs f limit writable fine)
          rounds ended (new_world capacity) w h;
      steps = λ f inputs limit horizon processes capacity owner steps w writable fine h.
          runs (job_by_rules limit horizon f inputs processes owner) (members_from limit 0 (instances f)) (pairs f limit writable fine)
          steps (new_world capacity) w h;
    }
