use Rattle.std.proofs.Common.{◌≡◌, List, Some, slice_index_or, sym, subst}
use Rattle.std.specs.List.{slice_get}
use Rattle.std.proofs.lemmas.Option.{slice_get-get_or}
use Rattle.dv_share.specs.declared.tables.Member.{Member}
use Rattle.dv_local.proofs.Ports.{none_here, port_at}
use Rattle.dv_local.proofs.state.LocalState.is_port.Goals as goal

pub returns-in-Some : goal.returns-in-Some
returns-in-Some g c =
    let t = c.args.self.now.share.tables in
    let ms = c.as_slice-members.result.now in
    let p = c.in-Some.index in
    let d = c.index-members-index.result in
    let same : ms ≡ t.members.items = c.as_slice-members.ensures.value in
    let m = slice_index_or ms p d in
    let there : slice_get t.members.items p ≡ Some m =
    subst (λ (xs : List Member). slice_get xs p ≡ Some m) same (slice_get-get_or ms p d c.in-Some.ensures.0) in
    sym (port_at g.A.Atomic.behaviour t.limit t.models.items c.args.component c.args.port p m t.members.items
    c.requires.share.tables.rise there (c.in-Some.ensures.1 d))

pub returns-in-None : goal.returns-in-None
returns-in-None g c =
    let t = c.args.self.now.share.tables in
    sym (none_here g.A.Atomic.behaviour t.limit t.models.items c.args.component c.args.port t.members.items
    (λ p m e. c.in-None.ensures p m (subst (λ (xs : List Member). slice_get xs p ≡ Some m) (sym c.as_slice-members.ensures.value) e)))
