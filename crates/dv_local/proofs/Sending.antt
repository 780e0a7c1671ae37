-- The events that deliveries are.
use Rattle.std.proofs.Common.{◌≡◌, ℕ, zero, suc, List, [], ◌∷◌, ◌++◌, map, Some, refl, sym, ap, ◌∙◌, append_assoc}
use Rattle.std.specs.List.{slice_get}
use Rattle.std.proofs.lemmas.List.{map-append}
use Rattle.dv_devs.specs.Behaviour.{Behaviour}
use Rattle.dv_conservative.specs.Events.{Event}
use Rattle.dv_conservative.specs.Flat.{numbers}
use Rattle.dv_conservative.specs.Process.{Outgoing}
use Rattle.dv_proc.specs.Packets.{meant_event, meant_events}
use Rattle.dv_proc.specs.declared.packet.Event.{Event as EventOfCode}
use Rattle.dv_share.specs.Share.{member_by, numbers_of}
use Rattle.dv_share.specs.declared.tables.Member.{Member}
use Rattle.dv_local.specs.Shares.{outgoing_of}
use Rattle.dv_local.specs.declared.share.Way.{Way}

-- one event more, of those that are left to add
pub one_added : (news olds : List EventOfCode) (e : EventOfCode) (rest all : List Event) → news ≡ olds ++ (e ∷ [])
    → meant_events olds ++ (meant_event e ∷ rest) ≡ all → meant_events news ++ rest ≡ all
one_added news olds e rest all n h =
    ap (λ (es : List EventOfCode). meant_events es ++ rest) n
    ∙ ap (λ (es : List Event). es ++ rest) (map-append meant_event olds (e ∷ []))
    ∙ append_assoc (meant_events olds) (meant_event e ∷ []) rest
    ∙ h

pub same_numbers : {S : Type 0} (behaviour : S → Behaviour) (limit : ℕ) (models : List S) (ms : List Member)
    → numbers (map (member_by behaviour limit models) ms) ≡ numbers_of ms
same_numbers behaviour limit models [] = refl
same_numbers behaviour limit models (m ∷ ms) = ap (λ (ks : List ℕ). m.number ∷ ks) (same_numbers behaviour limit models ms)

-- the way at an index is what the share has there
pub way_at : (ways : List Way) (index : ℕ) (w : Way) (out : Outgoing) → slice_get ways index ≡ Some w
    → slice_get (map outgoing_of ways) index ≡ Some out
    → out ≡ outgoing_of w
way_at [] index w out h g = absurd (cc)
way_at (v ∷ vs) zero w out h g = let same : v ≡ w = cc in let there : outgoing_of v ≡ out = cc in sym there ∙ ap outgoing_of same
way_at (v ∷ vs) (suc index) w out h g = way_at vs index w out h g
