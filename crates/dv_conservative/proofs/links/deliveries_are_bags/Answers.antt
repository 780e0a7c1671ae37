use Rattle.std.proofs.Common.{refl}
use Rattle.dv_conservative.specs.Links.{delivered}
use Rattle.dv_conservative.proofs.Bags.{any_order}
use Rattle.dv_conservative.proofs.Delivered.{deliveries_join}
use Rattle.dv_conservative.proofs.links.deliveries_are_bags.Goals as goal

pub returns-clause-order : goal.returns-clause-order
returns-clause-order c = any_order

pub returns-clause-joined : goal.returns-clause-joined
returns-clause-joined c who k port v n m ds i q bag here =
    deliveries_join i q (record { component = k; port = port; value = v; copies = n })
    (record { component = k; port = port; value = v; copies = m }) (delivered i q ds bag) refl refl refl
