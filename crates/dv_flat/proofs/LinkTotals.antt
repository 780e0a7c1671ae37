-- A sum over links, each pair of ends once: one over the ports from which they lead and those to which they lead.
use Rattle.std.proofs.Common.{◌≡◌, ℕ, zero, suc, ◌+◌, ◌^◌, ◌<◌, ◌≤◌, List, length}
use Rattle.std.proofs.Common.{drop, refl, sym, ◌∙◌, arith}
use Rattle.std.specs.List.{cons_option, flat_map, sum_by}
use Rattle.dv_bag.specs.Bag.{capped}
use Rattle.dv_flat.specs.Links.{copies_of, link, links_from}
use Rattle.dv_flat.specs.declared.link.Link.{Link}
use Rattle.dv_flat.proofs.Capped.{sum_is_total, total_by, total_by-filter_map, total_by-flat_map, total_by-same}
use Rattle.dv_flat.proofs.Loops.{summed_up}

module _ {From To : Type 0} (copies : From → To → ℕ) (count : Link From To → ℕ)
    (nothing : (from : From) (to : To) → count (record { from = from; to = to; copies = 0 }) ≡ 0) where
  -- what the link of two ends counts, if there is one
  abbrev counted : From → To → ℕ
  counted from to = count (record { from = from; to = to; copies = copies from to })

  with_one : (from : From) (to : To) (n : ℕ) (links : List (Link From To)) →
      total_by count (cons_option (link from to n) links)
      ≡ count (record { from = from; to = to; copies = n }) + total_by count links
  with_one from to zero links = omega (arith, nothing from to)
  with_one from to (suc n) links = refl

  pub links_total : (froms : List From) (tos : List To) →
      total_by count (flat_map (links_from copies tos) froms) ≡ total_by (λ from. total_by (counted from) tos) froms
  links_total froms tos =
      total_by-flat_map count (links_from copies tos) froms
      ∙ total_by-same (λ from. total_by count (links_from copies tos from)) (λ from. total_by (counted from) tos)
      (λ from. total_by-filter_map count (λ to. link from to (copies from to)) (counted from)
      (λ to links. with_one from to (copies from to) links) tos) froms

-- how many copies they have
pub copies_total : {From To : Type 0} (copies at : From → To → ℕ) → ((from : From) (to : To) → copies from to ≡ at from to) →
    (froms : List From) (tos : List To) →
    copies_of (flat_map (links_from copies tos) froms) ≡ sum_by (λ from. sum_by (at from) tos) froms
copies_total {From = From} {To = To} copies at same froms tos =
    let count : Link From To → ℕ = λ l. l.copies in
    sum_is_total count (flat_map (links_from copies tos) froms) ∙ links_total copies count (λ from to. refl) froms tos
    ∙ total_by-same (λ from. total_by (copies from) tos) (λ from. sum_by (at from) tos)
    (λ from. total_by-same (copies from) (at from) (same from) tos ∙ sym (sum_is_total (at from) tos)) froms
    ∙ sym (sum_is_total (λ from. sum_by (at from) tos) froms)

-- a sum of copies that is kept, at the end of its loop
pub copies_summed : {From To : Type 0} (links : List (Link From To)) (i total : ℕ) → total < 2 ^ 64 →
    capped (total + copies_of (drop i links)) ≡ capped (copies_of links) → length links ≤ i → total ≡ capped (copies_of links)
copies_summed {From = From} {To = To} = summed_up (λ (l : Link From To). l.copies)
