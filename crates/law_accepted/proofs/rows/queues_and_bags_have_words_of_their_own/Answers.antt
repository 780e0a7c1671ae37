use Rattle.std.proofs.Common.{refl}
use Rattle.law_accepted.proofs.Computing.{computing}
use Rattle.law_accepted.proofs.rows.queues_and_bags_have_words_of_their_own.Goals as goal

pub returns-clause-size : goal.returns-clause-size
unfolding computing
returns-clause-size c = refl

pub returns-clause-front : goal.returns-clause-front
unfolding computing
returns-clause-front c = refl

pub returns-clause-push : goal.returns-clause-push
unfolding computing
returns-clause-push c = refl

pub returns-clause-pop : goal.returns-clause-pop
unfolding computing
returns-clause-pop c = refl

pub returns-clause-sum_of_queue : goal.returns-clause-sum_of_queue
unfolding computing
returns-clause-sum_of_queue c = refl

pub returns-clause-front_of_bag : goal.returns-clause-front_of_bag
unfolding computing
returns-clause-front_of_bag c = refl

pub returns-clause-add_to_queue : goal.returns-clause-add_to_queue
unfolding computing
returns-clause-add_to_queue c = refl

pub returns-clause-push_to_bag : goal.returns-clause-push_to_bag
unfolding computing
returns-clause-push_to_bag c = refl

pub returns-clause-pop_of_bag : goal.returns-clause-pop_of_bag
unfolding computing
returns-clause-pop_of_bag c = refl
