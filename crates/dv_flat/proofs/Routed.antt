-- Routing by links gives the lists that routing by the tree gives.
use Rattle.std.proofs.Common.{◌≡◌, ℕ, suc, ◌+◌, ◌<◌, List, [], ◌∷◌, length, map, get_or, sym, ap, ◌∙◌, arith}
use Rattle.std.specs.List.{range_with_len}
use Rattle.std.proofs.lemmas.List.{get_or_default, same_lists}
use Rattle.std.proofs.lemmas.List.FromFn.{length-map-range_with_len, get_or-map-range_with_len}
use Rattle.dv_syntax.specs.Trees.{FileTree}
use Rattle.dv_bag.specs.Bag.{Counts, bag_at}
use Rattle.dv_bag.specs.BagLists.{AllAreBags, AreBags}
use Rattle.dv_tree.specs.Instances.{Instance, instances, root_outputs}
use Rattle.dv_tree.specs.Routing.{arrives, leaves}
use Rattle.dv_tree.proofs.Limits.{length-leaves}
use Rattle.dv_tree.proofs.Received.{port_counts, ports_received}
use Rattle.dv_flat.specs.Carried.{arrives_by_links, carried_from, carried_out, carried_to, leaves_by_links}
use Rattle.dv_flat.specs.Ends.{input_count, port_at}
use Rattle.dv_flat.proofs.LinkSums.{links_arrive, links_leave}

-- a list of bags that has so many, made port by port
bags_made : (bag : ℕ → Counts) (n : ℕ) (bags : List Counts) → length bags ≡ n →
    ((port : ℕ) → bag port ≡ bag_at bags port) → map bag (range_with_len 0 n) ≡ bags
bags_made bag n bags long same =
    let made = map bag (range_with_len 0 n) in
    let made_long = length-map-range_with_len bag 0 n in
    same_lists made bags (made_long ∙ sym long)
    (λ port d within.
    let below : port < n = omega (arith, within, made_long) in
    get_or-map-range_with_len bag 0 n port port d below (omega arith)
    ∙ (same port ∙ get_or_default bags port [] d (omega (arith, below, long))))

module _ (f : FileTree) (sent : List (List Counts)) (input : List Counts) where
  all_made : (is : List Instance) (all : List (List Counts)) (k : ℕ) → map length all ≡ port_counts is →
      ((j component port : ℕ) → component ≡ k + j →
      carried_to f sent input (port_at component port) ≡ bag_at (get_or all j []) port) →
      carried_from f sent input k is ≡ all
  all_made [] [] k long same = sym (ap (λ (ns : List ℕ). []) long)
  all_made [] (bags ∷ all) k long same = absurd (cc)
  all_made (i ∷ is) [] k long same = absurd (cc)
  all_made (i ∷ is) (bags ∷ all) k long same =
      let first : length bags ≡ input_count i.model = cc in
      let others : map length all ≡ port_counts is = cc in
      let here =
      bags_made (λ port. carried_to f sent input (port_at k port)) (input_count i.model) bags first
      (λ port. same 0 k port (omega arith)) in
      let rest = all_made is all (suc k) others (λ j component port e. same (suc j) component port (omega (arith, e))) in
      ap (λ b. b ∷ carried_from f sent input (suc k) is) here ∙ ap (λ bs. bags ∷ bs) rest

pub all_arrive : (f : FileTree) (sent : List (List Counts)) (input : List Counts) → AllAreBags sent → AreBags input →
    arrives_by_links f sent input ≡ arrives f sent input
all_arrive f sent input sent_bags input_bags =
    all_made f sent input (instances f) (arrives f sent input) 0 (ports_received f sent input)
    (λ j component port e.
    links_arrive f sent input sent_bags input_bags component port
    ∙ ap (λ k. bag_at (get_or (arrives f sent input) k []) port) (let same : component ≡ j = omega (arith, e) in same))

pub all_leave : (f : FileTree) (sent : List (List Counts)) → AllAreBags sent → leaves_by_links f sent ≡ leaves f sent
all_leave f sent sent_bags =
    bags_made (carried_out f sent) (length (root_outputs f)) (leaves f sent) (length-leaves f sent) (links_leave f sent sent_bags)
