-- What leaves of all processes is what leaves the model.
use Rattle.std.proofs.Common.{◌≡◌, ℕ, suc, zero, ◌+◌, ◌<◌, Bool, true, false, ◌||◌, cond, nat_eq, nat_lt, List, [], ◌∷◌, ◌++◌}
use Rattle.std.proofs.Common.{length, map, IsTrue, refl, sym, ap, ◌∙◌, arith}
use Rattle.std.specs.List.{filter}
use Rattle.std.proofs.lemmas.Bool.{and_parts}
use Rattle.std.proofs.lemmas.Bool.Decides.{nat_tests}
use Rattle.dv_bag.specs.Bag.{Counts, size}
use Rattle.dv_bag.specs.Part.{PartOf}
use Rattle.dv_bag.specs.declared.entry.Entry.{Entry}
use Rattle.dv_bag.specs.declared.entry.Outer.{Outer}
use Rattle.dv_bag.proofs.Monoid.{size_0, size_union, union_unit}
use Rattle.dv_devs.specs.Behaviour.{Behaviour, Component, all_empty}
use Rattle.dv_devs.specs.Idle.{LeavesOnlyWhatIsSent, nothing_sent}
use Rattle.dv_devs.specs.Network.{Network, components_at, emissions, emissions_at, outer_from, trace_at, trace_before}
use Rattle.dv_devs.specs.NextTimes.{IsReady}
use Rattle.dv_devs.specs.Outside.{LeavesLinearly, SendsBags, union_of_lines}
use Rattle.dv_devs.specs.Parts.{part_at, part_before, sent_among}
use Rattle.dv_devs.proofs.NextTimes.{matched_at}
use Rattle.dv_devs.proofs.Outside.{part_united}
use Rattle.dv_devs.proofs.Parts.{all_same, part_of_all, same_part}
use Rattle.dv_conservative.specs.True.{united}

-- sets of the same components have the same part
module _ (one other : ℕ → Bool) (same : (k : ℕ) → one k ≡ other k) where
  filter_same : (es : List Entry) → filter (λ (e : Entry). one e.component) es ≡ filter (λ (e : Entry). other e.component) es
  filter_same [] = refl
  filter_same (e ∷ es) =
      ap (λ (t : Bool). cond t (e ∷ filter (λ (e : Entry). one e.component) es) (filter (λ (e : Entry). one e.component) es))
      (same e.component)
      ∙ ap (λ (xs : List Entry). cond (other e.component) (e ∷ xs) xs) (filter_same es)

  among_same : (ks : List ℕ) (sent : List (List Counts)) → sent_among one ks sent ≡ sent_among other ks sent
  among_same [] sent = refl
  among_same (k ∷ ks) [] = refl
  among_same (k ∷ ks) (bags ∷ rest) =
      ap (λ (t : Bool). cond t bags [] ∷ sent_among one ks rest) (same k)
      ∙ ap (λ (xs : List (List Counts)). cond (other k) bags [] ∷ xs) (among_same ks rest)

  pub part_same : {I : Type 0} (limit : ℕ) (net : Network I) (inputs : ℕ → I) (n : ℕ) →
      part_before one limit net inputs n ≡ part_before other limit net inputs n
  part_same limit net inputs n =
      all_same (part_at one limit net inputs) (part_at other limit net inputs) n (λ k lt.
      same_part _ _ _ _ (filter_same (trace_at limit net inputs k).entries)
      (ap (λ (sent : List (List Counts)). outer_from limit k 0 (net.leaves sent))
      (among_same net.numbers (emissions_at limit net inputs k))))

-- nobody's part has no lines
among_nobody : (ks : List ℕ) (bs : List Behaviour) (now : ℕ) (cs : List Component) → length ks ≡ length bs → length bs ≡ length cs →
    sent_among (λ k. false) ks (emissions bs now cs) ≡ map (λ (b : Behaviour). []) bs
among_nobody [] [] now cs e d = refl
among_nobody [] (b ∷ bs) now cs e d = absurd (omega arith)
among_nobody (k ∷ ks) [] now cs e d = absurd (omega arith)
among_nobody (k ∷ ks) (b ∷ bs) now [] e d = absurd (omega arith)
among_nobody (k ∷ ks) (b ∷ bs) now (c ∷ cs) e d =
    ap (λ (rest : List (List Counts)). [] ∷ rest) (among_nobody ks bs now cs (omega arith) (omega arith))

none_out : (limit now port : ℕ) (bags : List Counts) → IsTrue (all_empty bags) → outer_from limit now port bags ≡ []
none_out limit now port [] h = refl
none_out limit now port (b ∷ bs) h =
    let parts = and_parts (nat_eq (size b) 0) (all_empty bs) h in rw parts.0 (none_out limit now (port + 1) bs parts.1)

module _ {I : Type 0} (limit : ℕ) (net : Network I) (inputs : ℕ → I) (ready : IsReady net) (outputs : LeavesOnlyWhatIsSent net) where
  nobody_leaves : (n : ℕ) → (part_before (λ k. false) limit net inputs n).outer ≡ []
  nobody_leaves zero = refl
  nobody_leaves (suc n) =
      let cs = components_at limit net inputs n in
      let none : sent_among (λ k. false) net.numbers (emissions_at limit net inputs n) ≡ nothing_sent net
      = among_nobody net.numbers net.behaviours n cs ready.numbered (matched_at limit net inputs ready n) in
      ap (λ (os : List Outer). os ++ (part_at (λ k. false) limit net inputs n).outer) (nobody_leaves n)
      ∙ none_out limit n 0 (net.leaves (sent_among (λ k. false) net.numbers (emissions_at limit net inputs n)))
      (ap (λ (sent : List (List Counts)). all_empty (net.leaves sent)) none ∙ outputs)

  module _ (owner : ℕ → ℕ) (n : ℕ) (linear : LeavesLinearly net) (bags : SendsBags limit net inputs n) where
    abbrev below : ℕ → ℕ → Bool
    below p k = nat_lt (owner k) p

    abbrev owns : ℕ → ℕ → Bool
    owns p k = nat_eq (owner k) p

    apart : (p k : ℕ) → IsTrue (below p k) → owns p k ≡ false
    apart p k h = grind (arith, nat_tests)

    next_below : (p k : ℕ) → (below p k || owns p k) ≡ below (suc p) k
    next_below p k = by_tests (nat_lt (owner k) p) (nat_eq (owner k) p) refl refl
      where
        by_tests : (t u : Bool) → nat_lt (owner k) p ≡ t → nat_eq (owner k) p ≡ u → (t || u) ≡ nat_lt (owner k) (suc p)
        by_tests true u e d = grind (arith, nat_tests)
        by_tests false true e d = grind (arith, nat_tests)
        by_tests false false e d = grind (arith, nat_tests)

    nobody_below : (k : ℕ) → below 0 k ≡ false
    nobody_below k = grind (arith, nat_tests)

    united_below : (p : ℕ) →
        united (λ p. (part_before (owns p) limit net inputs n).outer) p ≡ (part_before (below p) limit net inputs n).outer
    united_below zero =
        sym (ap (λ (part : PartOf). part.outer) (part_same (below 0) (λ k. false) nobody_below limit net inputs n) ∙ nobody_leaves n)
    united_below (suc p) =
        ap (λ (os : List Outer). union_of_lines os (part_before (owns p) limit net inputs n).outer) (united_below p)
        ∙ part_united size_union size_0 union_unit limit net inputs linear (below p) (owns p) (apart p) n bags
        ∙ ap (λ (part : PartOf). part.outer) (part_same (λ k. below p k || owns p k) (below (suc p)) (next_below p) limit net inputs n)

    pub all_united : (count : ℕ) → ((k : ℕ) → owner k < count) →
        united (λ p. (part_before (owns p) limit net inputs n).outer) count ≡ (trace_before limit net inputs n).outer
    all_united count within =
        united_below count
        ∙ ap (λ (part : PartOf). part.outer)
        (part_same (below count) (λ k. true) (λ k. let lt : owner k < count = within k in grind (arith, nat_tests)) limit net inputs n
        ∙ part_of_all limit net inputs ready.numbered n)
