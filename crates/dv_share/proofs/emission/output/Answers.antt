use Rattle.std.proofs.Common.{◌≡◌, ◌∙◌, ◌<◌, Option, Some, Result, Ok, Err, OnOk, length, slice_get, ap, sym, subst, refl}
use Rattle.std.proofs.lemmas.Option.{same_Some, slice_get_read}
use Rattle.dv_share.specs.Share.{behaviour_of}
use Rattle.dv_share.specs.declared.tables.Member.{Member}
use Rattle.dv_share.proofs.emission.output.Goals as goal

on_ok : {X E : Type 0} (P Q : Type 0) (r : Result X E) → OnOk r P → (P → Q) → OnOk r Q
on_ok P Q (Ok x) p f = f p
on_ok P Q (Err e) p f = tt

pub returns : goal.returns
returns g c =
    let b = g.A.Atomic.behaviour in
    let t = c.args.tables.now in
    let r = c.args.component.now in
    let p = c.args.index in
    let m = c.index-member.result.now in
    let a = c.index-atomic.result.now in
    let at-m : slice_get t.members.items p ≡ Some m =
    slice_get_read t.members.items (length t.members.items) p m refl c.requires.index c.index-member.ensures in
    let there-a : m.model < length t.models.items =
    subst (λ (m : Member). m.model < length t.models.items) (sym c.index-member.ensures) (c.requires.tables.models p m c.requires.index) in
    let at-a : slice_get t.models.items m.model ≡ Some a =
    slice_get_read t.models.items (length t.models.items) m.model a refl there-a c.index-atomic.ensures in
    on_ok _
    ((n : Member) → slice_get t.members.items p ≡ Some n → _ ≡ (behaviour_of b (slice_get t.models.items n.model)).output r.state)
    c.output.result c.output.ensures
    (λ is n at-n.
    sym is
    ∙ ap (λ (o : Option _). (behaviour_of b o).output r.state) (sym at-a)
    ∙ ap (λ (n : Member). (behaviour_of b (slice_get t.models.items n.model)).output r.state) (same_Some m n (sym at-m ∙ at-n)))
