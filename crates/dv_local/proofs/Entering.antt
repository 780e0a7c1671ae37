-- What comes in at a time is what inputs deliver to the outside.
use Rattle.std.proofs.Common.{◌≡◌, inl, inr, ℕ, zero, suc, ◌+◌, List, [], ◌∷◌, ◌++◌}
use Rattle.std.proofs.Common.{filter, map, replicate, refl, sym, ap, ◌∙◌}
use Rattle.std.proofs.lemmas.List.{append-nil, append_assoc}
use Rattle.dv_time.specs.declared.time.Time.{Time}
use Rattle.dv_bag.specs.Bag.{Counts}
use Rattle.dv_bag.specs.Inputs.{bags_at, bags_from, is_at, values_into}
use Rattle.dv_bag.specs.declared.inputs.Input.{Input}
use Rattle.dv_conservative.specs.Links.{Delivery as Meant, delivered, inbox}
use Rattle.dv_share.specs.Links.{delivery_of}
use Rattle.dv_share.proofs.Inboxes.{delivered_more, inbox_nothing}
use Rattle.dv_share.proofs.Indices.{yes_or_no}
use Rattle.dv_local.specs.Arrivals.{entered_by}

abbrev pub entered : Input → Meant
entered i = delivery_of (entered_by i)

abbrev pub all_entered : Time → List Input → List Meant
all_entered t inputs = map entered (filter (is_at t) inputs)

-- the values of inputs, beside those of deliveries
into_delivered : (t : Time) (port : ℕ) (inputs : List Input) (ds : List Meant) →
    values_into t port inputs (delivered 0 port ds []) ≡ delivered 0 port (ds ++ all_entered t inputs) []
into_delivered t port [] ds = ap (λ (es : List Meant). delivered 0 port es []) (sym (append-nil ds))
into_delivered t port (i ∷ inputs) ds = elim (yes_or_no (is_at t i)) [
  | inl e ↦
      let rest = all_entered t inputs in
      rw e
      (ap (values_into t port inputs) (sym (delivered_more 0 port ds (entered i)))
      ∙ into_delivered t port inputs (ds ++ entered i ∷ [])
      ∙ ap (λ (es : List Meant). delivered 0 port es []) (append_assoc ds (entered i ∷ []) rest))
  | inr e ↦ rw e (into_delivered t port inputs ds)
]

-- the bags of so many ports
pub entered_bags : (t : Time) (port n : ℕ) (inputs : List Input) → inbox 0 (all_entered t inputs) port n ≡ bags_from port n inputs t
entered_bags t port zero inputs = refl
entered_bags t port (suc n) inputs =
    ap (λ (b : Counts). b ∷ inbox 0 (all_entered t inputs) (port + 1) n) (sym (into_delivered t port inputs []))
    ∙ ap (λ (bs : List Counts). values_into t port inputs [] ∷ bs) (entered_bags t (port + 1) n inputs)

-- without inputs nothing comes in
pub nothing_enters : (t : Time) (ports : ℕ) → bags_at ports [] t ≡ replicate ports []
nothing_enters t ports = sym (entered_bags t 0 ports []) ∙ inbox_nothing 0 0 ports
