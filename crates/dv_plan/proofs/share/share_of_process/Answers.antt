use Rattle.std.proofs.Common.{List, ap, refl, sym, ◌∙◌}
use Rattle.std.proofs.lemmas.List.{get_or-map}
use Rattle.dv_bag.specs.declared.response.Response.TheVariants.{Ticks}
use Rattle.dv_conservative.specs.Links.{Link}
use Rattle.dv_share.specs.Links.{links_of}
use Rattle.dv_share.specs.declared.tables.Member.{Member}
use Rattle.dv_bag.specs.Responses.{ticks_of}
use Rattle.dv_plan.specs.Steps.{led_inputs}
use Rattle.dv_plan.proofs.share.share_of_process.Goals as goal

pub returns : goal.returns
returns g c =
    let common = c.args.common.now in
    let p = c.args.process in
    let tables = c.in_ok-tables.ensures in
    record {
      limit = tables.limit;
      horizon = refl;
      members = tables.members;
      models = tables.models;
      links = tables.links;
      entrances = tables.entrances;
      exits = tables.exits;
      outputs = tables.outputs;
      ports = refl;
      response = λ d. sym (get_or-map ticks_of common.responses.now p (Ticks 0) d c.requires.response);
      sources = c.in_ok-sources.ensures;
      ways = c.in_ok-ways.ensures;
      inputs =
          c.in_ok-inputs.ensures
          ∙ ap (λ (ms : List Member).
          led_inputs common.limit common.ports ms (links_of c.entrances.result.now) common.inputs.now) c.deref.ensures.value
          ∙ ap (λ (ls : List Link). led_inputs common.limit common.ports c.args.members.items ls common.inputs.now)
          c.entrances.ensures;
    }
