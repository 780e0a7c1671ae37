-- Components as they start.
use Rattle.std.proofs.Common.{◌≡◌, ℕ, List, [], ◌∷◌, map, refl, ap}
use Rattle.dv_devs.specs.Behaviour.{Behaviour, Component}
use Rattle.dv_conservative.specs.Flat.{Member as Meant}
use Rattle.dv_conservative.specs.Process.{Outgoing}
use Rattle.dv_react.specs.Components.{component_of, components_of}
use Rattle.dv_share.specs.Share.{member_by, starts_of}
use Rattle.dv_share.specs.declared.tables.Member.{Member}
use Rattle.dv_local.specs.Shares.{numbers_of_ways, outgoing_of}
use Rattle.dv_local.specs.declared.share.Way.{Way}

pub starts_are : {S : Type 0} (behaviour : S → Behaviour) (limit : ℕ) (models : List S) (ms : List Member)
    → components_of limit (starts_of ms) ≡ map (λ (m : Meant). m.start) (map (member_by behaviour limit models) ms)
starts_are behaviour limit models [] = refl
starts_are behaviour limit models (m ∷ ms) =
    ap (λ (cs : List Component). component_of limit m.start ∷ cs) (starts_are behaviour limit models ms)

pub away_numbers : (ws : List Way) → map (λ (o : Outgoing). o.number) (map outgoing_of ws) ≡ numbers_of_ways ws
away_numbers [] = refl
away_numbers (w ∷ ws) = ap (λ (ks : List ℕ). w.number ∷ ks) (away_numbers ws)
