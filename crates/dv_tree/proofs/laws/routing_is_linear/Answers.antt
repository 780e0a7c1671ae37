use Rattle.dv_tree.proofs.Linear.{leaves_united, arrives_united}
use Rattle.dv_tree.proofs.laws.routing_is_linear.Goals as goal

pub returns : goal.returns
returns c =
    let monoid = c.bags_are_a_commutative_monoid.ensures in
    record {
      leaves = leaves_united monoid.bag monoid.commutative monoid.associative;
      arrives = λ f x y input a b both e h. arrives_united monoid.bag monoid.commutative monoid.associative f x y input a b both e h;
    }
