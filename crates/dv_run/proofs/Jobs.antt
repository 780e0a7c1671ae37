-- What is planned of a text is the text's job.
use Rattle.std.proofs.Common.{◌≡◌, List, length, map}
use Rattle.dv_bag.specs.Inputs.{inputs_at}
use Rattle.dv_bag.specs.declared.inputs.Input.{Input}
use Rattle.dv_coded.specs.Lent.{behaviour_of_lent}
use Rattle.dv_coded.specs.declared.lent.Lent.{Lent}
use Rattle.dv_conservative.specs.Channels.{all_channels}
use Rattle.dv_conservative.specs.Responses.{least_response}
use Rattle.dv_partition.specs.Groups.{Grouping, owner_of}
use Rattle.dv_plan.specs.Wholes.{job_by}
use Rattle.dv_plan.specs.declared.whole.Whole.{Whole}
use Rattle.dv_bag.specs.Responses.{ticks_of}
use Rattle.dv_share.specs.Links.{links_of}
use Rattle.dv_share.specs.Share.{member_by}
use Rattle.law_sound.specs.Jobs.{job_of, responses_of}
use Rattle.law_sound.specs.Members.{direct_of, entry_of, exit_of, members_from}
use Rattle.dv_flat.specs.Links.{direct_links, entry_links, exit_links}
use Rattle.dv_syntax.specs.Trees.{FileTree}
use Rattle.dv_tree.specs.Instances.{instances, root_inputs, root_outputs}

-- a whole has the components, the links, the responses and the ports of a text
pub record IsWholeOf (f : FileTree) (w : Whole Lent) : Type 0 where
  pub members : map (member_by behaviour_of_lent w.limit w.models.items) w.members.items ≡ members_from w.limit 0 (instances f)
  pub direct : links_of w.links.direct.items ≡ map direct_of (direct_links f)
  pub entrances : links_of w.links.entrances.items ≡ map entry_of (entry_links f)
  pub exits : links_of w.links.exits.items ≡ map exit_of (exit_links f)
  pub responses : map ticks_of w.responses.items ≡ responses_of (instances f)
  pub ports : w.ports ≡ length (root_inputs f)
  pub outputs : w.outputs ≡ length (root_outputs f)

pub job_of_text : (f : FileTree) (w : Whole Lent) (inputs : List Input) (g : Grouping) → IsWholeOf f w →
    job_by behaviour_of_lent w inputs g ≡ job_of w.limit w.horizon f inputs g.processes (owner_of g)
job_of_text f w inputs g h =
    λ i. record {
      limit = w.limit;
      horizon = w.horizon;
      flat = record {
        members = h.members i;
        links = h.direct i;
        entrances = h.entrances i;
        exits = h.exits i;
        outputs = h.outputs i;
      };
      outside = inputs_at w.limit (h.ports i) inputs;
      processes = g.processes;
      owner = owner_of g;
      channels = all_channels (owner_of g) (h.direct i) g.processes;
      responses = λ p. least_response (owner_of g) p 0 (h.responses i);
    }
