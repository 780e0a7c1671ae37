use Rattle.std.proofs.Common.{◌≡◌, ◌∙◌, ◌++◌, [], List, replicate, sym, ap, subst}
use Rattle.std.proofs.lemmas.List.{append-nil}
use Rattle.std.proofs.lemmas.Result.{on_ok_weaker}
use Rattle.dv_conservative.specs.Links.{Delivery as Meant, carried}
use Rattle.dv_share.specs.Links.{deliveries_of}
use Rattle.dv_share.specs.Share.{AreReceived, sent_in}
use Rattle.dv_share.specs.declared.link.Delivery.{Delivery}
use Rattle.dv_share.specs.declared.tables.Member.{Member}
use Rattle.dv_share.proofs.Senders.{carried_empty}
use Rattle.dv_share.proofs.arrival.arrivals_inside.Goals as goal

-- what comes from inside is all that comes
from_inside : (entered led : List Meant) → entered ≡ [] → led ≡ entered ++ (led ++ [])
from_inside entered led none = sym (ap (λ (es : List Meant). es ++ (led ++ [])) none ∙ append-nil led)

pub returns-then-are_few-clause-received : goal.returns-then-are_few-clause-received
returns-then-are_few-clause-received g c =
    let t = c.args.tables.now in
    let ms = t.members.items in
    let es = c.args.emitted.now in
    let xs = c.gather_inside.new.self.items in
    on_ok_weaker c.gather_inside.result
    (λ h ports.
    subst (λ (ds : List Meant). AreReceived ms ds xs)
    (from_inside (carried t.entrances (λ k. replicate ports [])) (carried t.links (sent_in ms es)) (carried_empty t.entrances ports))
    (subst (λ (ms : List Member). AreReceived ms (carried t.links (sent_in ms es)) xs) c.deref.ensures.value h))
    c.gather_inside.ensures.received

pub returns-clause-received : goal.returns-clause-received
returns-clause-received g c =
    let t = c.args.tables.now in
    let ms = t.members.items in
    let es = c.args.emitted.now in
    let xs = c.gather_many.new.received.items in
    let led = carried t.links (sent_in ms es) in
    on_ok_weaker c.gather_many.result
    (λ h ports.
    subst (λ (ds : List Meant). AreReceived ms (ds ++ (led ++ [])) xs) (sym (carried_empty t.entrances ports))
    (subst (λ (ds : List Delivery). AreReceived ms (deliveries_of ds ++ (led ++ [])) xs) c.clear.ensures.items h))
    c.gather_many.ensures.received
