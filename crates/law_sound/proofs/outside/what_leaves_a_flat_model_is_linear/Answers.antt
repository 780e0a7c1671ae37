use Rattle.std.proofs.Common.{sym, subst}
use Rattle.dv_devs.specs.Outside.{AllBags}
use Rattle.dv_plain.specs.Source.{outside}
use Rattle.law_sound.specs.Members.{flat_of}
use Rattle.law_sound.proofs.Outsides.{flat_leaves_linearly, flat_ready, flat_rises}
use Rattle.law_sound.proofs.outside.what_leaves_a_flat_model_is_linear.Goals as goal

pub returns-clause-ready : goal.returns-clause-ready
returns-clause-ready c = flat_ready

pub returns-clause-numbers : goal.returns-clause-numbers
returns-clause-numbers c limit f = flat_rises limit f c.counted_numbers_rise.ensures

pub returns-clause-outputs : goal.returns-clause-outputs
returns-clause-outputs c limit f = c.nothing_comes_of_nothing.ensures.leaves (flat_of limit f)

pub returns-clause-linear : goal.returns-clause-linear
returns-clause-linear c limit f =
    flat_leaves_linearly limit f (c.what_leaves_a_text_is_linear.ensures.linear limit f) (c.links_route_as_the_tree.ensures.all_leave f)

pub returns-clause-bags : goal.returns-clause-bags
returns-clause-bags c f inputs limit n writable fine k lt =
    subst AllBags (sym (c.parts_of_the_flat_model_are_those_of_the_text.ensures.emissions f inputs limit k writable fine))
    (c.what_leaves_a_text_is_linear.ensures.bags limit f (outside f limit inputs) n k lt)
