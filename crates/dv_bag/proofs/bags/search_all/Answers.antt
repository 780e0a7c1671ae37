use Rattle.std.proofs.Common.{rules}
use Rattle.std.proofs.lemmas.List.Sorted.{answers_always}
use Rattle.dv_bag.proofs.PortBags.{searched}
use Rattle.dv_bag.proofs.bags.search_all.Goals as goal

-- the closure gives the port of a bag
pub returns : goal.returns
returns c =
    let facts = c.binary_search_by_key.ensures in
    let by_port = facts.position (λ h. h.port) (answers_always _ _ _ (λ f a r g called. search rules)) in
    let ends = searched c.args.port c.args.held.now c.binary_search_by_key.result c.requires facts.bound by_port in
    record { found = ends.found; absent = ends.absent }
