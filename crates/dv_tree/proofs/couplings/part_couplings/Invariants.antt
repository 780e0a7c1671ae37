use Rattle.std.proofs.Common.{◌≡◌, drop, map, replicate, []}
use Rattle.std.specs.Prelude.{fold}
use Rattle.dv_tree.specs.Tables.{with_link}
use Rattle.dv_tree.proofs.couplings.part_couplings.Given as goal

abbrev pub invariant-loop-link : goal.invariant-loop-link
invariant-loop-link l =
    fold with_link (map (λ list. list.items) l.lists.items) (drop l.link-index l.links) ≡ fold with_link (replicate l.parts []) l.links
