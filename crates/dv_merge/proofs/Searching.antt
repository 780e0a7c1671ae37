-- What stands by time, cut by a binary search.
use Rattle.std.proofs.Common.{◌≡◌, ℕ, ◌+◌, ◌<◌, ◌≤◌, Bool, true, false, not, List, ◌++◌, length, take, drop, slice_index_or}
use Rattle.std.proofs.Common.{sym, ap, ap₂, subst, ◌∙◌, arith, ⊎_elim, append-nil}
use Rattle.std.specs.List.{All, AllPairs, filter}
use Rattle.std.specs.List.Sorted.{IsPartitionPoint, IsPartitionedBy}
use Rattle.std.proofs.lemmas.Bool.{cases_eq}
use Rattle.std.proofs.lemmas.Bool.Decides.{nat_tests}
use Rattle.std.proofs.lemmas.List.{get_or-drop, get_or-take, length-drop, length-take, take-append-drop}
use Rattle.std.proofs.lemmas.List.Elements.{All-weaker, filter-append}
use Rattle.dv_time.specs.Time.{is_before}
use Rattle.dv_time.specs.declared.time.Time.{Time}
use Rattle.dv_devs.proofs.Cuts.{filter_drops, filter_keeps}

-- what stands no later than what is before a time is before it too
sooner_still : (a b t : Time) → is_before b a ≡ false → is_before b t ≡ true → is_before a t ≡ true
sooner_still a b t le h = grind (arith, nat_tests)

module _ {X : Type 0} (time : X → Time) (t : Time) where
  abbrev pub early : X → Bool
  early x = is_before (time x) t

  pub early_first : (xs : List X) → AllPairs (λ (a b : X). is_before (time b) (time a) ≡ false) xs → IsPartitionedBy early xs
  early_first xs h i j d le lt e = ⊎_elim
      (λ same. subst (λ (k : ℕ). early (slice_index_or xs k d) ≡ true) (sym same) e)
      (λ other. sooner_still (time (slice_index_or xs i d)) (time (slice_index_or xs j d)) t (h i j d (omega (arith, other)) lt) e)
      (cases_eq i j)

module _ {X : Type 0} (test : X → Bool) (xs : List X) (i : ℕ) (bound : i ≤ length xs)
    (h : IsPartitionPoint (λ x. test x ≡ true) (λ x. test x ≡ false) xs i) where
  passes : All (λ x. test x ≡ true) (take i xs)
  passes k d lt =
      let few = length-take i xs in
      let within : k < i = omega (arith, few) in
      subst (λ (x : X). test x ≡ true) (sym (get_or-take i xs k d within)) (h.0 k d (omega arith) within)

  fails : All (λ x. test x ≡ false) (drop i xs)
  fails k d lt =
      let few = length-drop i xs in
      subst (λ (x : X). test x ≡ false) (sym (get_or-drop i xs k d)) (h.1 (i + k) d (omega arith) (omega (arith, few)))

  -- what is in front of the point passes the test, and the rest does not
  pub front_passes : take i xs ≡ filter test xs
  front_passes = sym (
      ap (filter test) (sym (take-append-drop i xs))
      ∙ (filter-append test (take i xs) (drop i xs)
      ∙ (ap₂ (λ (a b : List X). a ++ b) (filter_keeps test (take i xs) passes) (filter_drops test (drop i xs) fails)
      ∙ append-nil (take i xs))))

  pub rest_fails : drop i xs ≡ filter (λ x. not (test x)) xs
  rest_fails = sym (
      ap (filter (λ x. not (test x))) (sym (take-append-drop i xs))
      ∙ (filter-append (λ x. not (test x)) (take i xs) (drop i xs)
      ∙ ap₂ (λ (a b : List X). a ++ b)
      (filter_drops (λ x. not (test x)) (take i xs)
      (All-weaker (λ x. test x ≡ true) (λ x. not (test x) ≡ false) (λ x e. ap not e) (take i xs) passes))
      (filter_keeps (λ x. not (test x)) (drop i xs)
      (All-weaker (λ x. test x ≡ false) (λ x. not (test x) ≡ true) (λ x e. ap not e) (drop i xs) fails))))
