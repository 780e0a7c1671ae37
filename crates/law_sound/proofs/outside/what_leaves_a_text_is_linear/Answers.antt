use Rattle.law_compiled.proofs.Emissions.{components_send_bags}
use Rattle.law_sound.proofs.Linear.{all_sent_bags, leaves_linearly}
use Rattle.law_sound.proofs.outside.what_leaves_a_text_is_linear.Goals as goal

pub returns-clause-linear : goal.returns-clause-linear
returns-clause-linear c limit f = leaves_linearly limit f c.routing_is_linear.ensures.leaves

pub returns-clause-bags : goal.returns-clause-bags
returns-clause-bags c limit f inputs n k lt = all_sent_bags _ (components_send_bags c.rules_send_bags.ensures limit f inputs k)
