use Rattle.std.proofs.Common.{rules}
use Rattle.std.proofs.lemmas.Fn.{always_returns_same}
use Rattle.std.proofs.lemmas.Int.{to_z-of_z}
use Rattle.dv_bag.specs.Sent.{sending_cmp}
use Rattle.dv_bag.specs.declared.sent.Sending.{Sending}
use Rattle.dv_bag.proofs.SendingOrder.{searched_sendings}
use Rattle.dv_bag.proofs.sent.search_all.Goals as goal

-- the closure compares a sending by port and then by value
pub returns : goal.returns
returns c =
    let facts = c.binary_search_by.ensures in
    let number = to_z-of_z _ _ c.ranges.value in
    let by_order = λ (s : Sending). sending_cmp s.port s.value c.args.port c.args.value in
    let compared = facts.position by_order (always_returns_same _ _ _ (λ a r g called. simp number (search rules))) in
    let ends = searched_sendings _ _ c.args.sendings.now c.binary_search_by.result c.requires facts.bound compared in
    record { found = ends.found; absent = ends.absent }
