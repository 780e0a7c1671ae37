use Rattle.std.proofs.Common.{List, subst, sym}
use Rattle.dv_share.specs.Links.{RiseBySource, links_of}
use Rattle.dv_share.specs.declared.link.Link.{Link}
use Rattle.dv_plan.proofs.share.routes.Goals as goal

pub new-requires : goal.new-requires
new-requires c = subst (λ (ls : List Link). RiseBySource (links_of ls)) (sym c.in_ok-copies.ensures) c.requires
