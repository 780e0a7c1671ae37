use Rattle.std.proofs.Common.{◌≡◌, map, take}
use Rattle.std.specs.Prelude.{Some, slice_get}
use Rattle.dv_bag.specs.declared.response.Response.{Response}
use Rattle.dv_share.specs.declared.tables.Member.{Member}
use Rattle.dv_coded.proofs.components.responses_of.Given as goal

abbrev pub invariant-loop-member : goal.invariant-loop-member
invariant-loop-member l =
    map (λ (r : Response). Some r) l.all.items
    ≡ map (λ (x : Member). slice_get l.responses x.model) (take l.member-index l.members)
