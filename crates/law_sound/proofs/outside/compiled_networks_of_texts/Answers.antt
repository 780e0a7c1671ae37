use Rattle.law_sound.proofs.Networks.{compiled_brings_nothing, compiled_leaves_nothing, compiled_ready}
use Rattle.law_sound.proofs.outside.compiled_networks_of_texts.Goals as goal

pub returns-clause-ready : goal.returns-clause-ready
returns-clause-ready c = compiled_ready

pub returns-clause-inputs : goal.returns-clause-inputs
returns-clause-inputs c limit f =
    compiled_brings_nothing limit f (c.links_route_as_the_tree.ensures.all_arrive f) (c.networks_of_texts.ensures.inputs limit f)

pub returns-clause-outputs : goal.returns-clause-outputs
returns-clause-outputs c limit f =
    compiled_leaves_nothing limit f (c.links_route_as_the_tree.ensures.all_leave f) (c.networks_of_texts.ensures.outputs limit f)
