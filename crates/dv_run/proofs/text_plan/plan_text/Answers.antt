use Rattle.std.proofs.Common.{[], map, ap, sym, ◌∙◌, subst, arith}
use Rattle.std.specs.Prelude.{IfOk}
use Rattle.dv_conservative.specs.World.{Job}
use Rattle.dv_coded.specs.Lent.{behaviour_of_lent, lent_takes}
use Rattle.dv_coded.specs.declared.lent.Lent.{Lent}
use Rattle.dv_plan.specs.Plans.{IsPlanOf}
use Rattle.dv_plan.specs.declared.whole.Whole.{Whole}
use Rattle.dv_share.specs.Links.{RiseByPort, RiseBySource}
use Rattle.law_sound.specs.Members.{direct_of, entry_of, exit_of}
use Rattle.dv_syntax.specs.Trees.{file_of}
use Rattle.dv_tree.specs.Instances.{instances}
use Rattle.dv_tree.proofs.Limits.{few_components, few_leave, length-leaves}
use Rattle.dv_run.proofs.Jobs.{job_of_text}
use Rattle.dv_run.proofs.Lent.{all_lent, as_many, members_lent}
use Rattle.dv_run.proofs.Lists.{as_many_responses, holds}
use Rattle.dv_run.proofs.text_plan.plan_text.Goals as goal

-- an accepted text has few output ports
pub overflow_cast-whole-2 : goal.overflow_cast-whole-2
overflow_cast-whole-2 c =
    let f = file_of c.args.job.now.tree.now.file in
    omega (
      arith,
      few_leave f [] (c.checked_files.ensures f c.requires.accepted),
      length-leaves f [],
      c.output_count.ensures,
    )

pub new-requires : goal.new-requires
new-requires c =
    let f = file_of c.args.job.now.tree.now.file in
    let few = few_components f (c.checked_files.ensures f c.requires.accepted) in
    let members = c.args.members.items in
    let count = as_many c.args.job.now.limit c.args.models.now members (instances f) c.requires.components.members in
    let answers = as_many_responses c.args.responses.items (instances f) c.requires.components.responses in
    record {
      members = record {
        rise = c.requires.components.rise;
        each = all_lent c.args.job.now.limit c.in_ok-lent.lent.items c.args.models.now members c.in_ok-lent.ensures
            c.requires.components.among;
      };
      few = omega (arith, few, count);
      direct =
          subst RiseBySource (sym (c.in_ok-between.ensures.direct ∙ ap (map direct_of) c.requires.links.direct))
          (c.links_rise.ensures.direct f);
      entrances =
          subst RiseByPort (sym (c.in_ok-between.ensures.entrances ∙ ap (map entry_of) c.requires.links.entries))
          (c.links_rise.ensures.entrances f);
      exits =
          subst RiseBySource (sym (c.in_ok-between.ensures.exits ∙ ap (map exit_of) c.requires.links.exits))
          (c.links_rise.ensures.exits f);
      holds = holds c.args.responses.items c.requires.components.short;
      responses = omega (arith, few, answers);
      limit = c.args.job.now.limit_in_range;
      horizon = c.args.job.now.horizon_in_range;
    }

pub returns : goal.returns
returns c =
    let f = file_of c.args.job.now.tree.now.file in
    let whole : Whole Lent = record {
      limit = c.args.job.now.limit;
      horizon = c.args.job.now.horizon;
      members = c.args.members;
      models = c.in_ok-lent.lent;
      responses = c.args.responses;
      links = c.in_ok-between.between;
      ports = c.input_count.result;
      outputs = c.output_count.result;
    } in
    subst (λ (job : Job). IfOk c.new.result (IsPlanOf behaviour_of_lent lent_takes job))
    (job_of_text f whole c.args.job.now.inputs.now c.args.job.now.groups.now (record {
      members = members_lent c.args.job.now.limit c.in_ok-lent.lent.items c.args.models.now c.args.members.items c.in_ok-lent.ensures
          ∙ c.requires.components.members;
      direct = c.in_ok-between.ensures.direct ∙ ap (map direct_of) c.requires.links.direct;
      entrances = c.in_ok-between.ensures.entrances ∙ ap (map entry_of) c.requires.links.entries;
      exits = c.in_ok-between.ensures.exits ∙ ap (map exit_of) c.requires.links.exits;
      responses = c.requires.components.responses;
      ports = c.input_count.ensures.value;
      outputs = c.output_count.ensures;
    })) c.new.ensures
