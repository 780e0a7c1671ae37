use Rattle.dv_conservative.proofs.Order.{in_order_delivers}
use Rattle.dv_conservative.proofs.events.deliveries_in_order_deliver_the_same.Goals as goal

pub returns : goal.returns
returns c who ds k port bag here = in_order_delivers k port ds bag
