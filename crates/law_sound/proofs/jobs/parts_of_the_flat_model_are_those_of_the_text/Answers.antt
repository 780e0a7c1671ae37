use Rattle.std.proofs.Common.{◌≡◌, ℕ, List, length, None, sym, ◌∙◌}
use Rattle.std.proofs.lemmas.List.Elements.{recursion_from_All}
use Rattle.dv_syntax.specs.Trees.{FileTree}
use Rattle.dv_bag.specs.BagLists.{AllAreBags}
use Rattle.dv_bag.specs.declared.inputs.Input.{Input}
use Rattle.dv_check.specs.Refusals.{refusal_of}
use Rattle.dv_check.specs.Writable.{IsWritable}
use Rattle.dv_devs.specs.Fits.{AreAlike}
use Rattle.dv_devs.specs.Network.{emissions_at}
use Rattle.dv_devs.specs.Parts.{sent_among}
use Rattle.dv_tree.specs.Instances.{instances, root_inputs}
use Rattle.dv_gen.specs.ModelCode.{IsCompilableModel}
use Rattle.dv_plain.specs.Source.{network_of, outside}
use Rattle.law_compiled.specs.Networks.{compiled_network}
use Rattle.law_compiled.proofs.Alike.{all_faithful, anything, anything_comes, fits_at, networks_alike}
use Rattle.law_compiled.proofs.Emissions.{components_send_bags}
use Rattle.law_compiled.proofs.Models.{models_of_components}
use Rattle.law_sound.proofs.Flattened.{bags_among, components_same, emissions_same, parts_same}
use Rattle.law_sound.proofs.jobs.parts_of_the_flat_model_are_those_of_the_text.Goals as goal

pub returns : goal.returns
returns c =
    let bags : (f : FileTree) (inputs : List Input) (limit n : ℕ) →
    AllAreBags (emissions_at limit (network_of limit f) (outside f limit inputs) n) =
    λ f inputs limit. components_send_bags c.rules_send_bags.ensures limit f (outside f limit inputs) in
    let alike : (f : FileTree) (inputs : List Input) (limit : ℕ) → IsWritable f → refusal_of f ≡ None →
    AreAlike (fits_at (instances f)) anything limit (network_of limit f) (compiled_network limit f) (outside f limit inputs) =
    λ f inputs limit writable fine.
    let models = recursion_from_All IsCompilableModel f.models (c.accepted_files_are_compilable.ensures f writable fine) in
    let faithful = all_faithful
    (λ m can. record {
      keeps = c.programs_behave_as_rules.ensures.keeps m anything can;
      agrees = c.programs_behave_as_rules.ensures.agrees m anything can;
      start = c.start_states_fit.ensures m can.accepted;
    }) (instances f) (models_of_components IsCompilableModel f models) in
    networks_alike limit f (outside f limit inputs) faithful
    (λ n. c.links_route_as_the_tree.ensures.all_arrive f (emissions_at limit (network_of limit f) (outside f limit inputs) n)
    (outside f limit inputs n) (bags f inputs limit n)
    (c.what_comes_in_stands_in_bags.ensures limit (length (root_inputs f)) n inputs))
    (λ n. c.links_route_as_the_tree.ensures.all_leave f (emissions_at limit (network_of limit f) (outside f limit inputs) n)
    (bags f inputs limit n)) in
    record {
      components = λ f inputs limit n writable fine.
          let comes = outside f limit inputs in
          components_same limit f comes n
          ∙ sym (c.alike_networks_run_alike.ensures.components (fits_at (instances f)) anything limit (network_of limit f)
          (compiled_network limit f) comes n (alike f inputs limit writable fine) (anything_comes limit (network_of limit f) comes n));
      emissions = λ f inputs limit n writable fine.
          let comes = outside f limit inputs in
          emissions_same limit f comes n
          ∙ sym (c.alike_networks_run_alike.ensures.emissions (fits_at (instances f)) anything limit (network_of limit f)
          (compiled_network limit f) comes n (alike f inputs limit writable fine) (anything_comes limit (network_of limit f) comes n));
      part = λ f inputs limit n who writable fine.
          let net = network_of limit f in
          let comes = outside f limit inputs in
          parts_same limit f comes who n
          ∙ sym (c.alike_networks_run_alike.ensures.part (fits_at (instances f)) anything limit net (compiled_network limit f) comes who n
          (alike f inputs limit writable fine) (anything_comes limit net comes n)
          (λ k lt. sym (c.links_route_as_the_tree.ensures.all_leave f (sent_among who net.numbers (emissions_at limit net comes k))
          (bags_among who net.numbers (emissions_at limit net comes k) (bags f inputs limit k)))));
    }
