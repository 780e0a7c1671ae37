use Rattle.std.proofs.Common.{rules}
use Rattle.std.proofs.lemmas.Int.{to_z-of_z}
use Rattle.std.proofs.lemmas.List.Sorted.{answers_always}
use mir.Syntax.{w64}
use mir.Val.{SFits}
use Rattle.dv_bag.proofs.Pairs.{searched}
use Rattle.dv_bag.proofs.bag.search_all.Goals as goal

-- the closure gives a pair's value
pub returns : goal.returns
returns c =
    let facts = c.binary_search_by_key.ensures in
    let by_value = facts.position (λ pair. pair.0) (answers_always _ _ _ (λ f a r g called. search rules)) in
    let fits : SFits w64 c.args.value = c.ranges.value in
    let by_number = simp to_z-of_z at by_value in
    let found = searched c.args.pairs.now c.requires c.args.value c.binary_search_by_key.result facts.bound by_number in
    record { found = found.found; absent = found.absent }
