-- Runs of a network, by induction over ranks. No rule, fault or kind is opened here.
use Rattle.std.proofs.Common.{◌≡◌, ℕ, ◌<◌, List, map, refl, ap, arith, ◌∙◌}
use Rattle.std.specs.Prelude.{suc, zero}
use Rattle.dv_bag.specs.Bag.{Counts}
use Rattle.dv_bag.specs.Part.{PartOf, joined}
use Rattle.dv_devs.specs.Behaviour.{Reaction}
use Rattle.dv_devs.specs.Inputs.{ArriveAlike}
use Rattle.dv_devs.specs.Network.{Network, components_at, components_after, emissions, emissions_at, entries_by, outer_from}
use Rattle.dv_devs.specs.Network.{part_of_instant, reactions, trace_at, trace_before}

module _ {I : Type 0} (limit : ℕ) (net : Network I) (i j : ℕ → I) where
  -- inputs that arrive alike before a rank
  abbrev AlikeBefore : ℕ → Type 0
  AlikeBefore n = (k : ℕ) → k < n → ArriveAlike net (i k) (j k)

  -- what is before a rank depends on what arrives before it
  pub components_agree : (n : ℕ) → AlikeBefore n → components_at limit net i n ≡ components_at limit net j n
  components_agree zero h = refl
  components_agree (suc n) h =
      let cs = components_at limit net j n in
      ap (components_after limit net n (i n)) (components_agree n (λ k lt. h k (omega arith)))
      ∙ ap (λ (received : List (List Counts)). map (λ (r : Reaction). r.component) (reactions limit net.behaviours n cs received))
      (h n (omega arith) (emissions net.behaviours n cs))

  -- what is sent at a rank depends on what arrives strictly before it
  pub emissions_agree : (n : ℕ) → AlikeBefore n → emissions_at limit net i n ≡ emissions_at limit net j n
  emissions_agree n h = ap (emissions net.behaviours n) (components_agree n h)

  instants_agree : (n : ℕ) → AlikeBefore (suc n) → trace_at limit net i n ≡ trace_at limit net j n
  instants_agree n h =
      let cs = components_at limit net j n in
      ap (part_of_instant limit net n (i n)) (components_agree n (λ k lt. h k (omega arith)))
      ∙ ap (λ (received : List (List Counts)). let p : PartOf = record {
        entries = entries_by limit n net.numbers
            (reactions limit net.behaviours n cs received);
        outer = outer_from limit n 0 (net.leaves (emissions net.behaviours n cs));
      } in p)
      (h n (omega arith) (emissions net.behaviours n cs))

  pub traces_agree : (n : ℕ) → AlikeBefore n → trace_before limit net i n ≡ trace_before limit net j n
  traces_agree zero h = refl
  traces_agree (suc n) h =
      ap (λ (p : PartOf). joined p (trace_at limit net i n)) (traces_agree n (λ k lt. h k (omega arith)))
      ∙ ap (joined (trace_before limit net j n)) (instants_agree n h)
