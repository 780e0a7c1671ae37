-- A text with its inputs, run in processes, by the rules of its models.
use Rattle.std.specs.Prelude.{ℕ, ◌+◌, List, [], ◌∷◌, length, map}
use Rattle.dv_syntax.specs.Trees.{AtomicTree, FileTree}
use Rattle.dv_bag.specs.declared.inputs.Input.{Input}
use Rattle.dv_tree.specs.Instances.{Instance, instances, root_outputs}
use Rattle.dv_flat.specs.Ends.{input_count}
use Rattle.dv_flat.specs.Links.{direct_links, entry_links, exit_links}
use Rattle.dv_plain.specs.Source.{behaviour_of, outside, start_of}
use Rattle.dv_conservative.specs.Channels.{all_channels}
use Rattle.dv_conservative.specs.Flat.{Flat, Member}
use Rattle.dv_conservative.specs.Responses.{least_response}
use Rattle.dv_conservative.specs.World.{Job}
use Rattle.law_sound.specs.Jobs.{responses_of}
use Rattle.law_sound.specs.Members.{direct_of, entry_of, exit_of}

-- a component, by its number
abbrev pub member_by_rules : ℕ → ℕ → AtomicTree → Member
member_by_rules limit k m = record { number = k; ports = input_count m; behaviour = behaviour_of m; start = start_of limit m }

-- components from a number on
abbrev pub members_by_rules : ℕ → ℕ → List Instance → List Member
members_by_rules limit k [] = []
members_by_rules limit k (i ∷ is) = member_by_rules limit k i.model ∷ members_by_rules limit (k + 1) is

-- a text as a flat model: its components, and its links
abbrev pub flat_by_rules : ℕ → FileTree → Flat
flat_by_rules limit f = record {
  members = members_by_rules limit 0 (instances f);
  links = map direct_of (direct_links f);
  entrances = map entry_of (entry_links f);
  exits = map exit_of (exit_links f);
  outputs = length (root_outputs f);
}

-- a text with inputs, to a horizon, under a microstep limit, with a number of processes and the process of each component
abbrev pub job_by_rules : (limit horizon : ℕ) → FileTree → List Input → (processes : ℕ) → (ℕ → ℕ) → Job
job_by_rules limit horizon f inputs processes owner = record {
  limit = limit;
  horizon = horizon;
  flat = flat_by_rules limit f;
  outside = outside f limit inputs;
  processes = processes;
  owner = owner;
  channels = all_channels owner (flat_by_rules limit f).links processes;
  responses = λ p. least_response owner p 0 (responses_of (instances f));
}
