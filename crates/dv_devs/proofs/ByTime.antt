-- Traces and parts stand by time.
use Rattle.std.proofs.Common.{◌≡◌, ℕ, suc, zero, Bool, false, List, [], ◌∷◌, ◌++◌, ap, ◌∙◌, arith}
use Rattle.std.specs.List.{All, AllPairs}
use Rattle.std.specs.Ordering.{is_lt}
use Rattle.std.specs.declared.cmp.Ordering.TheVariants.{Less}
use Rattle.std.proofs.lemmas.Bool.Decides.{nat_tests}
use Rattle.std.proofs.lemmas.List.Elements.{All-append, All-head, All-tail, All-weaker}
use Rattle.std.proofs.lemmas.List.Kept.{AllPairs-cons}
use Rattle.dv_time.specs.Time.{time_cmp, time_of}
use Rattle.dv_time.specs.declared.time.Time.{Time}
use Rattle.dv_bag.specs.Part.{PartOf, IsByTime}
use Rattle.dv_bag.specs.declared.entry.Entry.{Entry}
use Rattle.dv_bag.specs.declared.entry.Outer.{Outer}
use Rattle.dv_devs.specs.Cuts.{IsAllAt}
use Rattle.dv_devs.specs.Network.{Network, all_before, trace_at, trace_before}
use Rattle.dv_devs.specs.Parts.{part_at, part_before}
use Rattle.dv_devs.proofs.Cuts.{all_are_before, parts_at, traces_at}

not_before : (a b : Time) → time_cmp a b ≡ Less → is_lt (time_cmp b a) ≡ false
not_before a b h = grind (arith, nat_tests)

not_before_itself : (a : Time) → is_lt (time_cmp a a) ≡ false
not_before_itself a = grind (arith, nat_tests)

module _ {X : Type 0} (time : X → Time) where
  abbrev Follows : X → X → Type 0
  Follows a b = is_lt (time_cmp (time b) (time a)) ≡ false

  pairs_of_none : AllPairs Follows []
  pairs_of_none i j d lt within = absurd (omega arith)

  first_pairs : (x : X) (xs : List X) → AllPairs Follows (x ∷ xs) → All (Follows x) xs
  first_pairs x xs h k d within = h 0 (suc k) d (omega arith) (omega arith)

  other_pairs : (x : X) (xs : List X) → AllPairs Follows (x ∷ xs) → AllPairs Follows xs
  other_pairs x xs h i j d lt within = h (suc i) (suc j) d (omega arith) (omega arith)

  -- what is at one time stands by time
  pairs_at : (t : Time) (ys : List X) → All (λ y. time y ≡ t) ys → AllPairs Follows ys
  pairs_at t [] h = pairs_of_none
  pairs_at t (y ∷ ys) h =
      let here = All-head (λ z. time z ≡ t) y ys h in
      let rest = All-tail (λ z. time z ≡ t) y ys h in
      AllPairs-cons Follows y ys
      (All-weaker (λ z. time z ≡ t) (Follows y)
      (λ z e. ap (λ (u : Time). is_lt (time_cmp u (time y))) e ∙ ap (λ (u : Time). is_lt (time_cmp t u)) here
      ∙ not_before_itself t) ys rest)
      (pairs_at t ys rest)

  -- and so it does after what is before that time
  pub pairs_after : (t : Time) (xs ys : List X) → AllPairs Follows xs → All (λ x. time_cmp (time x) t ≡ Less) xs →
      All (λ y. time y ≡ t) ys → AllPairs Follows (xs ++ ys)
  pairs_after t [] ys pairs early h = pairs_at t ys h
  pairs_after t (x ∷ xs) ys pairs early h =
      let less = All-head (λ z. time_cmp (time z) t ≡ Less) x xs early in
      AllPairs-cons Follows x (xs ++ ys)
      (All-append (Follows x) xs ys (first_pairs x xs pairs)
      (All-weaker (λ z. time z ≡ t) (Follows x)
      (λ z e. ap (λ (u : Time). is_lt (time_cmp u (time x))) e ∙ not_before (time x) t less) ys h))
      (pairs_after t xs ys (other_pairs x xs pairs) (All-tail (λ z. time_cmp (time z) t ≡ Less) x xs early) h)

module _ (limit : ℕ) (parts : ℕ → PartOf) (at : (k : ℕ) → IsAllAt (time_of limit k) (parts k)) where
  all_by_time : (n : ℕ) → IsByTime (all_before parts n)
  all_by_time zero = (pairs_of_none (λ (e : Entry). e.time), pairs_of_none (λ (o : Outer). o.time))
  all_by_time (suc n) =
      let rest = all_by_time n in
      let early = all_are_before limit parts at n n (omega arith) in
      let here = at n in (
        pairs_after (λ (e : Entry). e.time) (time_of limit n) (all_before parts n).entries (parts n).entries rest.0 early.0 here.0,
        pairs_after (λ (o : Outer). o.time) (time_of limit n) (all_before parts n).outer (parts n).outer rest.1 early.1 here.1,
      )

module _ {I : Type 0} (limit : ℕ) (net : Network I) (inputs : ℕ → I) where
  pub trace_by_time : (n : ℕ) → IsByTime (trace_before limit net inputs n)
  trace_by_time = all_by_time limit (trace_at limit net inputs) (traces_at limit net inputs)

  pub part_by_time : (who : ℕ → Bool) (n : ℕ) → IsByTime (part_before who limit net inputs n)
  part_by_time who = all_by_time limit (part_at who limit net inputs) (parts_at limit net inputs who)
