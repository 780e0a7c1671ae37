-- The plan of an accepted text, from what its text is put together of.
use Rattle.std.proofs.Common.{◌≡◌, ℕ, List, map, Option, Ok, ap, ◌∙◌}
use Rattle.dv_syntax.specs.Trees.{file_of}
use Rattle.dv_tree.specs.Tables.{Source}
use Rattle.dv_flat.specs.Links.{direct_links, entry_links, exit_links, paths_of}
use Rattle.law_sound.specs.Members.{direct_of, entry_of, exit_of}
use Rattle.dv_partition.specs.Answers.{partition_answer}
use Rattle.dv_partition.specs.Groups.{Grouping}
use Rattle.dv_partition.specs.declared.choice.Partition.{Partition}
use Rattle.dv_plan.specs.Texts.{PlanLinks, plan_text}
use Rattle.dv_job.specs.Job.{IsModelOf}
use Rattle.dv_job.specs.Names.{plan_names}
use Rattle.dv_job.specs.Planned.{HasPlan, responses_in_plan}

-- a text that is put together of the names, the links, the groups and the responses of an accepted text is that of its plan
pub planned : (model : List ℕ) (partition : Partition) (tree named : Source) (links : PlanLinks) (groups : Grouping)
    (responses : List (Option ℕ)) (text : List ℕ) → IsModelOf model tree.names (file_of tree.file)
    → links.direct ≡ map direct_of (direct_links (file_of tree.file))
    → links.entrances ≡ map entry_of (entry_links (file_of tree.file))
    → links.exits ≡ map exit_of (exit_links (file_of tree.file))
    → partition_answer (paths_of tree.names (file_of tree.file)) partition ≡ Ok groups
    → responses ≡ responses_in_plan (file_of tree.file) groups
    → named ≡ tree
    → text ≡ plan_text (plan_names named.names (file_of named.file)) links groups responses
    → HasPlan model partition text
planned model partition tree named links groups responses text accepted direct entrances exits parted least same printed =
    let f = file_of tree.file in
    let names = plan_names tree.names f in record {
      names = tree.names;
      file = f;
      groups = groups;
      accepted = accepted;
      parted = parted;
      printed = printed
          ∙ (ap (λ (s : Source). plan_text (plan_names s.names (file_of s.file)) links groups responses) same
          ∙ (ap (λ ls. plan_text names (record { direct = ls; entrances = links.entrances; exits = links.exits }) groups responses) direct
          ∙ (ap (λ ls. plan_text names (record { direct = map direct_of (direct_links f); entrances = ls; exits = links.exits })
          groups responses) entrances
          ∙ (ap (λ ls. plan_text names (record {
            direct = map direct_of (direct_links f);
            entrances = map entry_of (entry_links f);
            exits = ls;
          }) groups responses) exits
          ∙ ap (plan_text names (record {
            direct = map direct_of (direct_links f);
            entrances = map entry_of (entry_links f);
            exits = map exit_of (exit_links f);
          }) groups) least))));
    }
