use Rattle.std.proofs.Common.{◌≡◌, ◌∙◌, ◌<◌, Option, Some, Result, Ok, Err, IfOk, length, slice_get, ap, sym, subst, refl}
use Rattle.std.proofs.lemmas.Option.{slice_get_read}
use Rattle.dv_devs.specs.Behaviour.{emission}
use Rattle.dv_react.specs.Components.{component_of, rank_of}
use Rattle.dv_react.specs.Outcomes.{fault_of}
use Rattle.dv_share.specs.Share.{behaviour_of}
use Rattle.dv_share.specs.declared.tables.Member.{Member}
use Rattle.dv_share.proofs.reaction.react_member.Goals as goal

-- three facts of what is answered make a fourth
joined : {X E : Type 0} (P Q R T : X → Type 0) (r : Result X E) → IfOk r P → IfOk r Q → IfOk r R → ((x : X) → P x → Q x → R x → T x)
    → IfOk r T
joined P Q R T (Ok x) p q s f = f x p q s
joined P Q R T (Err e) p q s f = tt

pub react_component-requires-clause-fault : goal.react_component-requires-clause-fault
react_component-requires-clause-fault g c =
    let b = g.A.Atomic.behaviour in
    let t = c.args.tables.now in
    let now = rank_of c.args.instant.now in
    let r = c.args.component.now in
    let p = c.args.visit.now.arrival.now.index in
    let m = c.index-member.result.now in
    let a = c.index-atomic.result.now in
    let at-m : slice_get t.members.items p ≡ Some m =
    slice_get_read t.members.items (length t.members.items) p m refl c.requires.index c.index-member.ensures in
    let there-a : m.model < length t.models.items =
    subst (λ (m : Member). m.model < length t.models.items) (sym c.index-member.ensures) (c.requires.tables.models p m c.requires.index) in
    let at-a : slice_get t.models.items m.model ≡ Some a =
    slice_get_read t.models.items (length t.models.items) m.model a refl there-a c.index-atomic.ensures in
    ap (λ limit. fault_of (emission (b a) now (component_of limit r))) c.requires.limit
    ∙ ap (λ (o : Option _). fault_of (emission (behaviour_of b o) now (component_of t.limit r))) (sym at-a)
    ∙ ap fault_of (sym (c.requires.given m at-m))
    ∙ sym c.fault_at-fault.ensures
