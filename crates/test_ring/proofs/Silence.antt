-- Without components nothing is received and nothing is sent.
use Rattle.std.proofs.Common.{◌≡◌, true, List, [], ◌∷◌, ◌++◌, append-nil, map, refl, ap, sym, ◌∙◌}
use Rattle.dv_time.specs.declared.time.Time.{Time}
use Rattle.dv_conservative.specs.Events.{Event, deliveries_at, event_of, in_order}
use Rattle.dv_conservative.specs.Links.{Delivery, delivered, sent_of}
use Rattle.dv_conservative.specs.Process.{Outgoing}
use Rattle.dv_proc.proofs.Silent.{nothing_carried}
use Rattle.dv_proc.specs.Local.{IsAfterEvents, are_for_ports, carried_away}
use Rattle.test_ring.specs.Ring.{view_of}
use Rattle.test_ring.specs.declared.silent.Silent.{Silent}

nothing_for : (n : Silent) (es : List Event) → are_for_ports (view_of n).share es ≡ true → es ≡ []
nothing_for n [] h = refl
nothing_for n (e ∷ es) h = absurd (cc)

pub kept : (n : Silent) (es : List Event) → are_for_ports (view_of n).share es ≡ true → IsAfterEvents es (view_of n) (view_of n)
kept n es h = record {
  share = refl;
  components = refl;
  committed = refl;
  held = λ m k port bag. ap (λ (fs : List Event). delivered k port (deliveries_at n.frame.limit fs m) bag) (sym (nothing_for n es h));
}

pub sends : (n : Silent) (now : Time) (out : Outgoing) (es : List Event) →
    es ≡ es ++ map (event_of now) (carried_away (view_of n) out.links [])
sends n now out es =
    sym (ap (λ (ds : List Delivery). es ++ map (event_of now) (in_order ds)) (nothing_carried out.links (sent_of [] []) (λ k. refl))
    ∙ append-nil es)
