use Rattle.std.proofs.lemmas.List.Elements.{recursion_from_All}
use Rattle.std.specs.Prelude.{length}
use Rattle.std.proofs.Common.{ℕ, sym}
use Rattle.dv_time.specs.Time.{end_of}
use Rattle.dv_devs.specs.Network.{emissions_at}
use Rattle.dv_tree.specs.Instances.{instances, root_inputs}
use Rattle.dv_gen.specs.ModelCode.{IsCompilableModel}
use Rattle.dv_plain.specs.Source.{network_of, outside}
use Rattle.law_compiled.specs.Networks.{compiled_network}
use Rattle.law_compiled.proofs.Alike.{all_faithful, anything, anything_comes, fits_at, networks_alike}
use Rattle.law_compiled.proofs.Emissions.{components_send_bags}
use Rattle.law_compiled.proofs.Models.{models_of_components}
use Rattle.law_compiled.proofs.laws.the_compiled_model_is_the_model.Goals as goal

pub returns : goal.returns
returns c = λ f inputs horizon limit writable fine.
    let net = network_of limit f in
    let comes = outside f limit inputs in
    let models = recursion_from_All IsCompilableModel f.models (c.accepted_files_are_compilable.ensures f writable fine) in
    let faithful = all_faithful
    (λ m can. record {
      keeps = c.programs_behave_as_rules.ensures.keeps m anything can;
      agrees = c.programs_behave_as_rules.ensures.agrees m anything can;
      start = c.start_states_fit.ensures m can.accepted;
    }) (instances f) (models_of_components IsCompilableModel f models) in
    let sent = components_send_bags c.rules_send_bags.ensures limit f comes in
    let come = λ (n : ℕ). c.what_comes_in_stands_in_bags.ensures limit (length (root_inputs f)) n inputs in
    let alike = networks_alike limit f comes faithful
    (λ n. c.links_route_as_the_tree.ensures.all_arrive f (emissions_at limit net comes n) (comes n) (sent n) (come n))
    (λ n. c.links_route_as_the_tree.ensures.all_leave f (emissions_at limit net comes n) (sent n)) in
    sym (c.alike_networks_run_alike.ensures.trace (fits_at (instances f)) anything limit net (compiled_network limit f) comes
    (end_of limit horizon) alike (anything_comes limit net comes (end_of limit horizon)))
