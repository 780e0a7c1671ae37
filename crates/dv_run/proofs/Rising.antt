-- The links of a text stand in the order of the ports that they lead from.
use Rattle.std.proofs.Common.{◌≡◌, inl, inr, ℕ, zero, suc, ◌+◌, ◌<◌, ◌≤◌, Bool, true, false, cond, nat_eq, List, [], ◌∷◌, ◌++◌}
use Rattle.std.proofs.Common.{append-nil, filter, length, map, get_or, refl, ap, sym, ◌∙◌, subst, arith}
use Rattle.std.specs.List.{AllByRecursion, cons_option, filter_map, flat_map, range_with_len}
use Rattle.std.specs.List.Sorted.{IsNonDecreasingBy}
use Rattle.std.proofs.lemmas.Bool.{eq-eqb, ne_eqb, cases_Bool, eqb-true, eqb-false}
use Rattle.std.proofs.lemmas.List.Elements.{filter-append}
use Rattle.dv_syntax.specs.Trees.{AtomicTree}
use Rattle.dv_conservative.specs.Links.{Link as Meant}
use Rattle.dv_tree.specs.Instances.{Instance}
use Rattle.dv_flat.specs.Ends.{port_at, ports_from}
use Rattle.dv_flat.specs.Links.{link, links_from}
use Rattle.dv_flat.specs.declared.link.ComponentPort.{ComponentPort}
use Rattle.dv_flat.specs.declared.link.Link.{Link as TextLink}
use Rattle.dv_share.specs.Links.{RiseByPort, RiseBySource, leads_from}
use Rattle.dv_share.proofs.Ranges.{filter_map as filtered_map}
use Rattle.dv_share.proofs.Rising.{Rise, rises_after}

-- keys that do not fall
module _ {X : Type 0} (key : X → ℕ) where
  lower : (low high : ℕ) (xs : List X) → low ≤ high → Rise key high xs → Rise key low xs
  lower low high [] le h = tt
  lower low high (x ∷ xs) le h = (omega (arith, h.0), h.1)

  not_below : (low : ℕ) (xs : List X) (j : ℕ) (d : X) → Rise key low xs → j < length xs → low ≤ key (get_or xs j d)
  not_below low [] j d h lt = absurd (omega arith)
  not_below low (x ∷ xs) zero d h lt = h.0
  not_below low (x ∷ xs) (suc j) d h lt =
      let rest = not_below (key x) xs j d h.1 (omega arith) in omega (arith, h.0, rest)

  pub rises : (low : ℕ) (xs : List X) → Rise key low xs → IsNonDecreasingBy key xs
  rises low [] h i j d le lt = absurd (omega arith)
  rises low (x ∷ xs) h zero zero d le lt = omega arith
  rises low (x ∷ xs) h zero (suc j) d le lt = not_below (key x) xs j d h.1 (omega arith)
  rises low (x ∷ xs) h (suc i) zero d le lt = absurd (omega arith)
  rises low (x ∷ xs) h (suc i) (suc j) d le lt = rises (key x) xs h.1 i j d (omega arith) (omega arith)

  -- a list behind one all of whose keys are its bound
  same_first : (k : ℕ) (xs ys : List X) → AllByRecursion (λ x. key x ≡ k) xs → Rise key k ys → Rise key k (xs ++ ys)
  same_first k [] ys all h = h
  same_first k (x ∷ xs) ys all h =
      (omega (arith, all.0), let R : ℕ → Type 0 = λ n. Rise key n (xs ++ ys) in subst R (sym all.0) (same_first k xs ys all.1 h))

module _ {From To : Type 0} (copies : From → To → ℕ) (tos : List To) where
  -- the links of one end lead from it
  lead_from : (from : From) (ts : List To) → AllByRecursion (λ l. l.from ≡ from) (filter_map (λ to. link from to (copies from to)) ts)
  lead_from from [] = tt
  lead_from from (t ∷ ts) = one_more (copies from t) (lead_from from ts)
    where
      one_more : (n : ℕ) → AllByRecursion (λ l. l.from ≡ from) (filter_map (λ to. link from to (copies from to)) ts) →
          AllByRecursion (λ l. l.from ≡ from) (cons_option (link from t n) (filter_map (λ to. link from to (copies from to)) ts))
      one_more zero rest = rest
      one_more (suc n) rest = (refl, rest)

  -- links rise as their first ends do
  pub rise_with_ends : (key : From → ℕ) (low : ℕ) (froms : List From) → Rise key low froms →
      Rise (λ (l : TextLink From To). key l.from) low (flat_map (links_from copies tos) froms)
  rise_with_ends key low [] h = tt
  rise_with_ends key low (from ∷ froms) h =
      lower (λ (l : TextLink From To). key l.from) low (key from) (flat_map (links_from copies tos) (from ∷ froms)) h.0
      (same_first (λ (l : TextLink From To). key l.from) (key from) (links_from copies tos from) (flat_map (links_from copies tos) froms)
      (keys (links_from copies tos from) (lead_from from tos)) (rise_with_ends key (key from) froms h.1))
    where
      keys : (ls : List (TextLink From To)) → AllByRecursion (λ l. l.from ≡ from) ls → AllByRecursion (λ l. key l.from ≡ key from) ls
      keys [] all = tt
      keys (l ∷ ls) all = (ap key all.0, keys ls all.1)

  -- the links that lead from ends which pass a test
  pub links_that_pass : (test : From → Bool) (froms : List From) →
      filter (λ (l : TextLink From To). test l.from) (flat_map (links_from copies tos) froms)
      ≡ flat_map (links_from copies tos) (filter test froms)
  links_that_pass test [] = refl
  links_that_pass test (from ∷ froms) =
      filter-append (λ (l : TextLink From To). test l.from) (links_from copies tos from) (flat_map (links_from copies tos) froms)
      ∙ ap (λ (ls : List (TextLink From To)). filter (λ (l : TextLink From To). test l.from) (links_from copies tos from) ++ ls)
      (links_that_pass test froms)
      ∙ first (test from) refl
    where
      every : (t : Bool) (ls : List (TextLink From To)) → test from ≡ t → AllByRecursion (λ l. l.from ≡ from) ls →
          filter (λ (l : TextLink From To). test l.from) ls ≡ cond t ls []
      every true [] e all = refl
      every false [] e all = refl
      every true (l ∷ ls) e all = rw (ap test all.0 ∙ e) (ap (λ (rest : List (TextLink From To)). l ∷ rest) (every true ls e all.1))
      every false (l ∷ ls) e all = rw (ap test all.0 ∙ e) (every false ls e all.1)

      first : (t : Bool) → test from ≡ t →
          filter (λ (l : TextLink From To). test l.from) (links_from copies tos from)
          ++ flat_map (links_from copies tos) (filter test froms)
          ≡ flat_map (links_from copies tos) (cond (test from) (from ∷ filter test froms) (filter test froms))
      first true e = rw e (ap (λ (ls : List (TextLink From To)). ls ++ flat_map (links_from copies tos) (filter test froms))
          (every true (links_from copies tos from) e (lead_from from tos)))
      first false e = rw e (ap (λ (ls : List (TextLink From To)). ls ++ flat_map (links_from copies tos) (filter test froms))
          (every false (links_from copies tos from) e (lead_from from tos)))

-- indices rise
pub indices_rise : (first count : ℕ) → Rise (λ (n : ℕ). n) first (range_with_len first count)
indices_rise first zero = tt
indices_rise first (suc count) = (
  omega arith,
  lower (λ (n : ℕ). n) first (first + 1) (range_with_len (first + 1) count) (omega arith)
      (indices_rise (first + 1) count),
)

-- the ports of components rise by component, and those of one by port
module _ (count : AtomicTree → ℕ) where
  all_of : (k : ℕ) (indices : List ℕ) → AllByRecursion (λ (p : ComponentPort). p.component ≡ k) (map (port_at k) indices)
  all_of k [] = tt
  all_of k (p ∷ ps) = (refl, all_of k ps)

  pub components_rise : (k : ℕ) (is : List Instance) → Rise (λ (p : ComponentPort). p.component) k (ports_from k count is)
  components_rise k [] = tt
  components_rise k (i ∷ is) =
      same_first (λ (p : ComponentPort). p.component) k (map (port_at k) (range_with_len 0 (count i.model))) (ports_from (suc k) count is)
      (all_of k (range_with_len 0 (count i.model)))
      (lower (λ (p : ComponentPort). p.component) k (suc k) (ports_from (suc k) count is) (omega arith) (components_rise (suc k) is))

  own_ports : (k low : ℕ) (indices : List ℕ) → Rise (λ (n : ℕ). n) low indices →
      Rise (λ (p : ComponentPort). p.port) low (map (port_at k) indices)
  own_ports k low [] h = tt
  own_ports k low (p ∷ ps) h = (h.0, own_ports k p ps h.1)

  of_component : (n : ℕ) (ps : List ComponentPort) → AllByRecursion (λ (p : ComponentPort). p.component ≡ n) ps →
      filter (λ (p : ComponentPort). nat_eq p.component n) ps ≡ ps
  of_component n [] all = refl
  of_component n (p ∷ ps) all =
      rw (eq-eqb p.component n all.0) (ap (λ (qs : List ComponentPort). p ∷ qs) (of_component n ps all.1))

  of_others : (k n : ℕ) (ps : List ComponentPort) → (k ≡ n → ⊥) → AllByRecursion (λ (p : ComponentPort). p.component ≡ k) ps →
      filter (λ (p : ComponentPort). nat_eq p.component n) ps ≡ []
  of_others k n [] apart all = refl
  of_others k n (p ∷ ps) apart all =
      rw (ne_eqb p.component n (λ e. apart (sym all.0 ∙ e))) (of_others k n ps apart all.1)

  of_later : (n low : ℕ) (ps : List ComponentPort) → Rise (λ (p : ComponentPort). p.component) low ps → n < low →
      filter (λ (p : ComponentPort). nat_eq p.component n) ps ≡ []
  of_later n low [] rise lt = refl
  of_later n low (p ∷ ps) rise lt =
      rw (ne_eqb p.component n (λ e. absurd (omega (arith, e, rise.0, lt)))) (of_later n p.component ps rise.1 (omega (arith, lt, rise.0)))

  pub ports_rise : (n k : ℕ) (is : List Instance) →
      Rise (λ (p : ComponentPort). p.port) 0 (filter (λ (p : ComponentPort). nat_eq p.component n) (ports_from k count is))
  ports_rise n k [] = tt
  ports_rise n k (i ∷ is) =
      let here = map (port_at k) (range_with_len 0 (count i.model)) in
      let rest = ports_from (suc k) count is in
      let test : ComponentPort → Bool = λ p. nat_eq p.component n in
      let R : List ComponentPort → Type 0 = λ ps. Rise (λ (p : ComponentPort). p.port) 0 ps in
      subst R (sym (filter-append test here rest))
      (elim (cases_Bool (nat_eq k n)) [
        | inl own ↦
            let same : k ≡ n = eqb-true k n own in
            let all : AllByRecursion (λ (p : ComponentPort). p.component ≡ n) here
            = subst (λ (j : ℕ). AllByRecursion (λ (p : ComponentPort). p.component ≡ j) here) same
            (all_of k (range_with_len 0 (count i.model))) in
            subst R
            (sym (ap (λ (ps : List ComponentPort). ps ++ filter test rest) (of_component n here all)
            ∙ ap (λ (ps : List ComponentPort). here ++ ps) (of_later n (suc k) rest (components_rise (suc k) is) (omega (arith, same)))
            ∙ append-nil here))
            (own_ports k 0 (range_with_len 0 (count i.model)) (indices_rise 0 (count i.model)))
        | inr other ↦
            subst R
            (sym (ap (λ (ps : List ComponentPort). ps ++ filter test rest)
            (of_others k n here (eqb-false k n other) (all_of k (range_with_len 0 (count i.model))))))
            (ports_rise n (suc k) is)
      ])

-- what links of component ports stand for
module _ {To : Type 0} (copies : ComponentPort → To → ℕ) (tos : List To) (meant : TextLink ComponentPort To → Meant)
    (component : (l : TextLink ComponentPort To) → (meant l).from ≡ l.from.component)
    (port : (l : TextLink ComponentPort To) → (meant l).from_port ≡ l.from.port) where
  abbrev all_links : (AtomicTree → ℕ) → List Instance → List (TextLink ComponentPort To)
  all_links count is = flat_map (links_from copies tos) (ports_from 0 count is)

  same_key : {X : Type 0} (f g : X → ℕ) (low : ℕ) (xs : List X) → ((x : X) → f x ≡ g x) → Rise g low xs → Rise f low xs
  same_key f g low [] same h = tt
  same_key f g low (x ∷ xs) same h =
      (omega (arith, h.0, same x), same_key f g (f x) xs same (lower g (f x) (g x) xs (omega (arith, same x)) h.1))

  same_test : {X : Type 0} (p q : X → Bool) (xs : List X) → ((x : X) → p x ≡ q x) → filter p xs ≡ filter q xs
  same_test p q [] same = refl
  same_test {X} p q (x ∷ xs) same =
      ap (λ (t : Bool). cond t (x ∷ filter p xs) (filter p xs)) (same x)
      ∙ ap (λ (ys : List X). cond (q x) (x ∷ ys) ys) (same_test p q xs same)

  pub rise_by_source : (count : AtomicTree → ℕ) (is : List Instance) → RiseBySource (map meant (all_links count is))
  rise_by_source count is =
      let ls = all_links count is in
      record {
        senders =
            rises_after meant (λ (l : Meant). l.from) ls
            (rises (λ l. (meant l).from) 0 ls
            (same_key (λ l. (meant l).from) (λ l. l.from.component) 0 ls component
            (rise_with_ends copies tos (λ (p : ComponentPort). p.component) 0 (ports_from 0 count is) (components_rise count 0 is))));
        ports = λ n.
            let own = filter (λ (p : ComponentPort). nat_eq p.component n) (ports_from 0 count is) in
            let kept : filter (λ l. leads_from n (meant l)) ls ≡ flat_map (links_from copies tos) own
            = same_test (λ l. leads_from n (meant l)) (λ l. nat_eq l.from.component n) ls (λ l. ap (λ (k : ℕ). nat_eq k n) (component l))
            ∙ links_that_pass copies tos (λ (p : ComponentPort). nat_eq p.component n) (ports_from 0 count is) in
            subst RiseByPort
            (sym (filtered_map (leads_from n) meant ls ∙ ap (map meant) kept))
            (rises_after meant (λ (l : Meant). l.from_port) (flat_map (links_from copies tos) own)
            (rises (λ l. (meant l).from_port) 0 (flat_map (links_from copies tos) own)
            (same_key (λ l. (meant l).from_port) (λ l. l.from.port) 0 (flat_map (links_from copies tos) own) port
            (rise_with_ends copies tos (λ (p : ComponentPort). p.port) 0 own (ports_rise count n 0 is)))));
      }
