use Rattle.std.proofs.Common.{List, subst, sym}
use Rattle.std.specs.List.Sorted.{IsNonDecreasingBy}
use Rattle.dv_conservative.specs.Links.{Link as Meant}
use Rattle.dv_share.specs.Links.{link_of}
use Rattle.dv_share.specs.declared.link.Link.{Link}
use Rattle.dv_share.proofs.Rising.{rises_before}
use Rattle.dv_share.proofs.routes.Routes.new.Goals as goal

pub starts_of-requires : goal.starts_of-requires
starts_of-requires c =
    subst (λ (ls : List Link). IsNonDecreasingBy (λ (l : Link). l.from) ls) (sym c.deref.ensures.value)
    (rises_before link_of (λ (l : Meant). l.from) c.args.links.items c.requires.senders)
