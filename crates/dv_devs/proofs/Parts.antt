-- Parts of a trace: of all components, of a set, and cut at a time.
use Rattle.std.proofs.Common.{◌≡◌, ℕ, suc, zero, ◌<◌, ◌≤◌, Bool, true, List, [], ◌∷◌, ◌++◌, length, refl, sym, ap, ◌∙◌, arith}
use Rattle.std.specs.List.{filter}
use Rattle.std.proofs.lemmas.List.Elements.{filter-append}
use Rattle.dv_bag.specs.Bag.{Counts}
use Rattle.dv_bag.specs.Part.{PartOf, joined}
use Rattle.dv_devs.specs.Behaviour.{Behaviour, Component}
use Rattle.dv_devs.specs.Network.{Network, all_before, components_at, emissions, emissions_at, outer_from, trace_at, trace_before}
use Rattle.dv_devs.specs.Parts.{part_at, part_before, sent_among}
use Rattle.dv_bag.specs.declared.entry.Entry.{Entry}
use Rattle.dv_bag.specs.declared.entry.Outer.{Outer}

abbrev pub part_of : List Entry → List Outer → PartOf
part_of es os = record { entries = es; outer = os }

pub same_part : (es fs : List Entry) (os ps : List Outer) → es ≡ fs → os ≡ ps → part_of es os ≡ part_of fs ps
same_part es fs os ps e o = ap (λ (xs : List Entry). part_of xs os) e ∙ ap (part_of fs) o

-- what the set of all components sends
pub sent_by_all : (ks : List ℕ) (sent : List (List Counts)) → length sent ≤ length ks → sent_among (λ k. true) ks sent ≡ sent
sent_by_all [] [] le = refl
sent_by_all [] (bags ∷ rest) le = absurd (omega arith)
sent_by_all (k ∷ ks) [] le = refl
sent_by_all (k ∷ ks) (bags ∷ rest) le = ap (λ (xs : List (List Counts)). bags ∷ xs) (sent_by_all ks rest (omega arith))

pub emissions_short : (bs : List Behaviour) (now : ℕ) (cs : List Component) → length (emissions bs now cs) ≤ length bs
emissions_short [] now cs = omega arith
emissions_short (b ∷ bs) now [] = omega arith
emissions_short (b ∷ bs) now (c ∷ cs) = let rest = emissions_short bs now cs in omega arith

all_pass : {X : Type 0} (xs : List X) → filter (λ x. true) xs ≡ xs
all_pass [] = refl
all_pass (x ∷ xs) = ap (λ (ys : List _). x ∷ ys) (all_pass xs)

-- parts that are the same at each rank
pub all_same : (p q : ℕ → PartOf) (n : ℕ) → ((k : ℕ) → k < n → p k ≡ q k) → all_before p n ≡ all_before q n
all_same p q zero h = refl
all_same p q (suc n) h =
    ap (λ (x : PartOf). joined x (p n)) (all_same p q n (λ k lt. h k (omega arith))) ∙ ap (joined (all_before q n)) (h n (omega arith))

module _ {I : Type 0} (limit : ℕ) (net : Network I) (inputs : ℕ → I) where
  instant_of_all : length net.numbers ≡ length net.behaviours → (n : ℕ) →
      part_at (λ k. true) limit net inputs n ≡ trace_at limit net inputs n
  instant_of_all numbered n =
      let sent = emissions_at limit net inputs n in
      let short : length sent ≤ length net.numbers = omega (arith, emissions_short net.behaviours n (components_at limit net inputs n)) in
      same_part _ (trace_at limit net inputs n).entries _ _ (all_pass (trace_at limit net inputs n).entries)
      (ap (λ (xs : List (List Counts)). outer_from limit n 0 (net.leaves xs)) (sent_by_all net.numbers sent short))

  -- the part of all components is the trace
  pub part_of_all : length net.numbers ≡ length net.behaviours → (n : ℕ) →
      part_before (λ k. true) limit net inputs n ≡ trace_before limit net inputs n
  part_of_all numbered n = all_same (part_at (λ k. true) limit net inputs) (trace_at limit net inputs) n (λ k lt. instant_of_all numbered k)

  -- the entries of a part are those of the trace whose component is in the set
  pub part_entries : (who : ℕ → Bool) (n : ℕ) →
      (part_before who limit net inputs n).entries ≡ filter (λ (e : Entry). who e.component) (trace_before limit net inputs n).entries
  part_entries who zero = refl
  part_entries who (suc n) =
      ap (λ (es : List Entry). es ++ (part_at who limit net inputs n).entries) (part_entries who n)
      ∙ sym (filter-append (λ (e : Entry). who e.component) (trace_before limit net inputs n).entries (trace_at limit net inputs n).entries)
