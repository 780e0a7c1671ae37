use Rattle.std.proofs.Common.{◌≡◌, List, [], length, sym, subst, ◌∙◌}
use Rattle.std.proofs.lemmas.Bool.{eqb-true}
use Rattle.std.proofs.lemmas.List.{nil_from_length}
use Rattle.std.proofs.lemmas.Result.{on_ok_weaker}
use Rattle.dv_time.specs.Time.{rank}
use Rattle.dv_bag.specs.Bag.{Counts}
use Rattle.dv_bag.specs.Inputs.{inputs_at}
use Rattle.dv_share.specs.Links.{deliveries_of}
use Rattle.dv_share.specs.Share.{AreReceived, coming}
use Rattle.dv_share.specs.declared.link.Delivery.{Delivery}
use Rattle.dv_bag.specs.declared.inputs.Input.{Input}
use Rattle.dv_local.proofs.Entering.{nothing_enters}
use Rattle.dv_local.proofs.arriving.arrive.Goals as goal

pub returns-then-is_empty-2-clause-received : goal.returns-then-is_empty-2-clause-received
returns-then-is_empty-2-clause-received g c =
    let share = c.args.share.now in
    let t = share.tables in
    let es = c.args.emitted.now in
    let xs = c.arrivals_inside.new.received.items in
    let all = c.as_slice.result.now in
    let none : share.inputs ≡ [] =
    sym c.as_slice.ensures.inputs ∙ nil_from_length all (eqb-true (length all) 0 (sym c.is_empty.ensures ∙ c.if-is_empty.true)) in
    let ds = c.args.deliveries.now in
    let nothing : ds ≡ [] =
    nil_from_length ds (eqb-true (length ds) 0 (sym c.is_empty-then-is_empty.ensures ∙ c.if-is_empty-2.true)) in
    on_ok_weaker c.arrivals_inside.result
    (λ h limit run.
    subst (λ (inputs : List Input). AreReceived t.members.items
    (coming t es (inputs_at limit share.ports inputs (rank limit c.args.now)) (deliveries_of c.args.deliveries.now)) xs) (sym none)
    (subst (λ (ds : List Delivery). AreReceived t.members.items
    (coming t es (inputs_at limit share.ports [] (rank limit c.args.now)) (deliveries_of ds)) xs) (sym nothing)
    (subst (λ (bags : List Counts). AreReceived t.members.items (coming t es bags []) xs) (sym (nothing_enters _ share.ports))
    (h share.ports))))
    c.arrivals_inside.ensures.received
