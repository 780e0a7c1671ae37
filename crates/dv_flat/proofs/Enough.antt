-- Sources that have as many links as all have, each counted as often as it has copies, have all links.
use Rattle.std.proofs.Common.{◌≡◌, ℕ, zero, suc, ◌+◌, ◌<◌, ◌≤◌, Bool, true, false, cond, List, [], ◌∷◌}
use Rattle.std.proofs.Common.{◌++◌, drop, length, get_or, refl, ap, sym, ◌∙◌, arith}
use Rattle.std.specs.List.{All, cons_option, flat_map, sum_by}
use Rattle.std.proofs.Math.Seq.{drop-cons}
use Rattle.std.proofs.lemmas.List.{append_assoc}
use Rattle.std.proofs.lemmas.List.Elements.{All-cons, All-head, All-nil, All-tail}
use Rattle.std.proofs.lemmas.List.Sums.{sum_by-append, sum_by-cons}
use Rattle.dv_syntax.specs.Trees.{FileTree}
use Rattle.dv_bag.specs.Bag.{capped}
use Rattle.dv_tree.specs.Instances.{root_outputs}
use Rattle.dv_flat.specs.Ends.{input_ports, output_ports}
use Rattle.dv_flat.specs.Limit.{link_count}
use Rattle.dv_flat.specs.Links.{copies_of, direct_copies, direct_links, entry_links, exit_copies, exit_links, link, links_from, root_ports}
use Rattle.dv_flat.specs.Probes.{chosen_from, direct_from, exit_from}
use Rattle.dv_flat.specs.declared.link.ComponentPort.{ComponentPort}
use Rattle.dv_flat.specs.declared.link.Link.{Link}

-- what holds of all sources holds of those that are chosen
pub all_chosen : (P : ComponentPort → Type 0) (k : ℕ) (flags : List Bool) (froms : List ComponentPort) → All P froms →
    All P (chosen_from k flags froms)
all_chosen P k flags [] h = All-nil P
all_chosen P k flags (from ∷ froms) h =
    step (get_or flags k false) (all_chosen P (suc k) flags froms (All-tail P from froms h))
  where
    step : (b : Bool) → All P (chosen_from (suc k) flags froms) →
        All P (cond b (from ∷ chosen_from (suc k) flags froms) (chosen_from (suc k) flags froms))
    step true rest = All-cons P from (chosen_from (suc k) flags froms) (All-head P from froms h) rest
    step false rest = rest

-- a step of the loop that chooses
next : (k : ℕ) (flags : List Bool) (froms : List ComponentPort) (d : ComponentPort) → k < length froms →
    chosen_from k flags (drop k froms)
    ≡ cond (get_or flags k false) (get_or froms k d ∷ chosen_from (k + 1) flags (drop (k + 1) froms))
    (chosen_from (k + 1) flags (drop (k + 1) froms))
next k flags froms d within =
    let rest : ℕ → List ComponentPort = λ n. chosen_from n flags (drop n froms) in
    ap (chosen_from k flags) (drop-cons froms k d within)
    ∙ ap (λ n. cond (get_or flags k false) (get_or froms k d ∷ rest n) (rest n)) (let same : suc k ≡ k + 1 = omega arith in same)

module _ (k : ℕ) (flags : List Bool) (froms before after all : List ComponentPort) (d : ComponentPort) (within : k < length froms)
    (so_far : before ++ chosen_from k flags (drop k froms) ≡ all) where
  pub one_chosen : get_or flags k false ≡ true → after ≡ before ++ get_or froms k d ∷ [] →
      after ++ chosen_from (k + 1) flags (drop (k + 1) froms) ≡ all
  one_chosen set added =
      let rest = chosen_from (k + 1) flags (drop (k + 1) froms) in
      ap (λ xs. xs ++ rest) added
      ∙ (append_assoc before (get_or froms k d ∷ []) rest
      ∙ (ap (λ xs. before ++ xs)
      (sym (next k flags froms d within ∙ ap (λ b. cond b (get_or froms k d ∷ rest) rest) set)) ∙ so_far))

  pub none_chosen : get_or flags k false ≡ false → after ≡ before → after ++ chosen_from (k + 1) flags (drop (k + 1) froms) ≡ all
  none_chosen unset same =
      let rest = chosen_from (k + 1) flags (drop (k + 1) froms) in
      ap (λ xs. xs ++ rest) same
      ∙ (ap (λ xs. before ++ xs)
      (sym (next k flags froms d within ∙ ap (λ b. cond b (get_or froms k d ∷ rest) rest) unset)) ∙ so_far)

-- ---- Lists in which nothing counts

module _ {L : Type 0} (copies : L → ℕ) where
  none_left : (links : List L) → All (λ l. 0 < copies l) links → sum_by copies links ≡ 0 → links ≡ []
  none_left [] some none = refl
  none_left (l ∷ links) some none =
      absurd (omega (arith, All-head (λ x. 0 < copies x) l links some, none, sum_by-cons copies l links))

  module _ (of : ComponentPort → List L) (some : (from : ComponentPort) → All (λ l. 0 < copies l) (of from)) (flags : List Bool)
    where
      abbrev total : List ComponentPort → ℕ
      total froms = sum_by copies (flat_map of froms)

      first_total : (from : ComponentPort) (froms : List ComponentPort) →
          total (from ∷ froms) ≡ sum_by copies (of from) + total froms
      first_total from froms = sum_by-append copies (of from) (flat_map of froms)

      pub fewer : (k : ℕ) (froms : List ComponentPort) → total (chosen_from k flags froms) ≤ total froms
      fewer k [] = omega arith
      fewer k (from ∷ froms) = step (get_or flags k false) (fewer (suc k) froms)
        where
          step : (b : Bool) → total (chosen_from (suc k) flags froms) ≤ total froms →
              total (cond b (from ∷ chosen_from (suc k) flags froms) (chosen_from (suc k) flags froms)) ≤ total (from ∷ froms)
          step true rest = omega (arith, rest, first_total from froms, first_total from (chosen_from (suc k) flags froms))
          step false rest = omega (arith, rest, first_total from froms)

      pub enough : (k : ℕ) (froms : List ComponentPort) → total (chosen_from k flags froms) ≡ total froms →
          flat_map of (chosen_from k flags froms) ≡ flat_map of froms
      enough k [] same = refl
      enough k (from ∷ froms) same = step (get_or flags k false) same (enough (suc k) froms)
        where
          step : (b : Bool) →
              total (cond b (from ∷ chosen_from (suc k) flags froms) (chosen_from (suc k) flags froms)) ≡ total (from ∷ froms) →
              (total (chosen_from (suc k) flags froms) ≡ total froms →
              flat_map of (chosen_from (suc k) flags froms) ≡ flat_map of froms) →
              flat_map of (cond b (from ∷ chosen_from (suc k) flags froms) (chosen_from (suc k) flags froms))
              ≡ flat_map of (from ∷ froms)
          step true both rest =
              ap (λ links. of from ++ links)
              (rest (omega (arith, both, first_total from froms, first_total from (chosen_from (suc k) flags froms))))
          step false both rest =
              let few = fewer (suc k) froms in
              let none = none_left (of from) (some from) (omega (arith, both, few, first_total from froms)) in
              rest (omega (arith, both, few, first_total from froms)) ∙ ap (λ links. links ++ flat_map of froms) (sym none)

-- ---- Every link counts

every_counts : {From To : Type 0} (copies : From → To → ℕ) (from : From) (tos : List To) →
    All (λ (l : Link From To). 0 < l.copies) (links_from copies tos from)
every_counts {From = From} {To = To} copies from [] = All-nil (λ (l : Link From To). 0 < l.copies)
every_counts {From = From} {To = To} copies from (to ∷ tos) = step (copies from to) (every_counts copies from tos)
  where
    step : (n : ℕ) → All (λ (l : Link From To). 0 < l.copies) (links_from copies tos from) →
        All (λ (l : Link From To). 0 < l.copies) (cons_option (link from to n) (links_from copies tos from))
    step zero h = h
    step (suc n) h =
        All-cons (λ (l : Link From To). 0 < l.copies) (record { from = from; to = to; copies = suc n })
        (links_from copies tos from) (omega arith) h

module _ {To : Type 0} (copies : ComponentPort → To → ℕ) (tos : List To) (flags : List Bool) (froms : List ComponentPort) where
  abbrev all_links : List ComponentPort → List (Link ComponentPort To)
  all_links = flat_map (links_from copies tos)

  chosen_fewer : copies_of (all_links (chosen_from 0 flags froms)) ≤ copies_of (all_links froms)
  chosen_fewer =
      fewer (λ (l : Link ComponentPort To). l.copies) (links_from copies tos) (λ from. every_counts copies from tos) flags 0 froms

  chosen_enough : copies_of (all_links (chosen_from 0 flags froms)) ≡ copies_of (all_links froms) →
      all_links (chosen_from 0 flags froms) ≡ all_links froms
  chosen_enough =
      enough (λ (l : Link ComponentPort To). l.copies) (links_from copies tos) (λ from. every_counts copies from tos) flags 0 froms

-- ---- All links of a text

module _ (f : FileTree) (flags : List Bool) (sources : List ComponentPort) (links : List (Link ComponentPort ComponentPort))
    (entries : List (Link ℕ ComponentPort)) (exits : List (Link ComponentPort ℕ))
    (chosen : sources ≡ chosen_from 0 flags (output_ports f)) (links_are : links ≡ flat_map (direct_from f) sources)
    (entries_are : entries ≡ entry_links f) (exits_are : exits ≡ flat_map (exit_from f) sources)
    (as_many : link_count f ≡ capped (copies_of links + (copies_of entries + copies_of exits))) where
  from_chosen : links ≡ flat_map (direct_from f) (chosen_from 0 flags (output_ports f))
  from_chosen = links_are ∙ ap (flat_map (direct_from f)) chosen

  out_chosen : exits ≡ flat_map (exit_from f) (chosen_from 0 flags (output_ports f))
  out_chosen = exits_are ∙ ap (flat_map (exit_from f)) chosen

  all_copies : (copies_of links ≡ copies_of (direct_links f)) × (copies_of exits ≡ copies_of (exit_links f))
  all_copies =
      let direct_fewer = chosen_fewer (direct_copies f) (input_ports f) flags (output_ports f) in
      let exit_fewer = chosen_fewer (exit_copies f) (root_ports (root_outputs f)) flags (output_ports f) in
      let direct_is = ap copies_of from_chosen in
      let exit_is = ap copies_of out_chosen in
      let entry_is = ap copies_of entries_are in (
        omega (arith, direct_fewer, exit_fewer, direct_is, exit_is, entry_is, as_many),
        omega (arith, direct_fewer, exit_fewer, direct_is, exit_is, entry_is, as_many),
      )

  pub direct_enough : links ≡ direct_links f
  direct_enough =
      from_chosen
      ∙ chosen_enough (direct_copies f) (input_ports f) flags (output_ports f) (sym (ap copies_of from_chosen) ∙ all_copies.0)

  pub exit_enough : exits ≡ exit_links f
  exit_enough =
      out_chosen
      ∙ chosen_enough (exit_copies f) (root_ports (root_outputs f)) flags (output_ports f)
      (sym (ap copies_of out_chosen) ∙ all_copies.1)
