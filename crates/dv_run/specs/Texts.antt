-- A text as a job, with its components as programs, and its links.
use Rattle.std.specs.Prelude.{◌≡◌, ℕ, List, None, map}
use Rattle.std.specs.List.{All}
use Rattle.dv_bag.specs.declared.response.Response.{Response}
use Rattle.dv_bag.specs.Responses.{ticks_of}
use Rattle.dv_bound.specs.Response.{response_of}
use Rattle.dv_bound.specs.Short.{IsShort}
use Rattle.dv_check.specs.Refusals.{refusal_of}
use Rattle.dv_check.specs.Writable.{IsWritable}
use Rattle.dv_coded.specs.Components.{StandsAmong}
use Rattle.dv_coded.specs.Models.{behaviour_of}
use Rattle.dv_coded.specs.declared.programs.Programs.{Programs}
use Rattle.dv_conservative.specs.World.{Job}
use Rattle.dv_flat.specs.Links.{direct_links, entry_links, exit_links}
use Rattle.dv_flat.specs.declared.flat.LinkLists.{LinkLists}
use Rattle.dv_partition.specs.Groups.{owner_of}
use Rattle.dv_share.specs.Indices.{AreRising}
use Rattle.dv_share.specs.Share.{member_by, numbers_of}
use Rattle.dv_share.specs.declared.tables.Member.{Member}
use Rattle.law_sound.specs.Jobs.{AllInputNumbers, job_of}
use Rattle.law_sound.specs.Members.{members_from}
use Rattle.dv_syntax.specs.Trees.{FileTree, file_of}
use Rattle.dv_tree.specs.Instances.{Instance, instances}
use Rattle.dv_run.specs.declared.text_job.TextJob.{TextJob}

-- the job of a text with its inputs, in the processes of its groups
abbrev pub text_job : TextJob → Job
text_job j = job_of j.limit j.horizon (file_of j.tree.now.file) j.inputs.now j.groups.now.processes (owner_of j.groups.now)

-- The components of a file as programs and starting states, and the response of each.
pub record AreComponentsOf (f : FileTree) (limit : ℕ) (models : List Programs) (components : List Member) (answers : List Response)
    : Type 0 where
  pub members : map (member_by behaviour_of limit models) components ≡ members_from limit 0 (instances f)
  pub rise : AreRising (numbers_of components)
  pub among : All (StandsAmong limit models) components
  pub responses : map ticks_of answers ≡ map (λ (i : Instance). response_of i.model) (instances f)
  pub short : All (λ (r : Response). IsShort (ticks_of r)) answers

-- the links of a file, without its tree
pub record AreLinksOf (f : FileTree) (links : LinkLists) : Type 0 where
  pub direct : links.direct.items ≡ direct_links f
  pub entries : links.entries.items ≡ entry_links f
  pub exits : links.exits.items ≡ exit_links f

-- A text is ready to be run with these links: its file is accepted and could be written down, the values of its inputs are numbers, and
-- the links are those of its file.
pub record IsReady (j : TextJob) (given : LinkLists) : Type 0 where
  pub writable : IsWritable (file_of j.tree.now.file)
  pub accepted : refusal_of (file_of j.tree.now.file) ≡ None
  pub numbers : AllInputNumbers j.inputs.now
  pub links : AreLinksOf (file_of j.tree.now.file) given
