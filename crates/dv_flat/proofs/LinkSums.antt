-- What links carry, as sums over the ports from which they lead.
use Rattle.std.proofs.Common.{◌≡◌, ℕ, zero, suc, ◌+◌, ◌*◌, ◌<◌, ◌≤◌, Bool, true, false, cond, eqb, ltb, List, []}
use Rattle.std.proofs.Common.{◌∷◌, length, map, get_or, ℤ}
use Rattle.std.proofs.Common.{refl, ap, sym, ◌∙◌, subst, arith, ⊎_elim}
use Rattle.std.specs.Prelude.{fold, filter}
use Rattle.std.specs.List.{flat_map}
use Rattle.std.specs.Ordering.{int_cmp, match_ordering}
use Rattle.std.specs.declared.cmp.Ordering.{Ordering}
use Rattle.std.specs.declared.cmp.Ordering.TheVariants.{Less, Equal, Greater}
use Rattle.std.proofs.lemmas.Bool.{cases_lt, eqb-true}
use Rattle.std.proofs.lemmas.Bool.Decides.{nat_tests}
use Rattle.std.proofs.lemmas.List.{get_or_past}
use Rattle.dv_syntax.specs.Trees.{FileTree}
use Rattle.dv_bag.specs.Bag.{Counts, IsAbove, IsBag, bag_at, capped, count_of, total, union}
use Rattle.dv_bag.specs.BagLists.{AllAreBags, AreBags}
use Rattle.dv_bag.proofs.Monoid.{count_kept, count_union, same_counts_same_bag, union_bag}
use Rattle.dv_tree.specs.Instances.{instances, root_inputs, root_outputs}
use Rattle.dv_tree.specs.Routing.{arrives, leaves}
use Rattle.dv_tree.proofs.Along.{union_none}
use Rattle.dv_tree.proofs.Limits.{length-leaves}
use Rattle.dv_tree.proofs.Received.{port_counts, ports_received}
use Rattle.dv_flat.specs.Carried.{carried_out, carried_to, same_port, sent_at, times, with_link}
use Rattle.dv_flat.specs.Ends.{input_count, input_ports, output_ports, port_at}
use Rattle.dv_flat.specs.Links.{direct_copies, entry_copies, exit_copies, links_from, root_ports}
use Rattle.dv_flat.specs.declared.link.ComponentPort.{ComponentPort}
use Rattle.dv_flat.specs.declared.link.Link.{Link}
use Rattle.dv_flat.proofs.Capped.{total_by, total_by-same, total_by-times}
use Rattle.dv_flat.proofs.LinkTotals.{links_total}
use Rattle.dv_flat.proofs.Picked.{occurs_once, picked, same_port-true, tick, ticks_within}
use Rattle.dv_flat.proofs.Superposed.{everybody, arrives_superposed, leaves_superposed}

-- each value so many times
times_first : (o : Ordering) (n count more less : ℕ) → more ≡ capped (less * n) →
    match_ordering o 0 (capped (count * n)) more ≡ capped (match_ordering o 0 count less * n)
times_first Less n count more less e = omega arith
times_first Equal n count more less e = refl
times_first Greater n count more less e = e

count_times : (v : ℤ) (n : ℕ) (b : Counts) → count_of v (times n b) ≡ capped (count_of v b * n)
count_times v n [] = omega arith
count_times v n (p ∷ ps) = times_first (int_cmp v p.0) n p.1 (count_of v (times n ps)) (count_of v ps) (count_times v n ps)

times_above : (low : ℤ) (n : ℕ) (b : Counts) → IsAbove low b → IsAbove low (times (suc n) b)
times_above low n [] h = tt
times_above low n (p ∷ ps) h = (h.0, omega (arith, h.1), omega arith, times_above p.0 n ps h.3)

times_bag : (n : ℕ) (b : Counts) → IsBag b → IsBag (times (suc n) b)
times_bag n [] h = tt
times_bag n (p ∷ ps) h = (omega (arith, h.0), omega arith, times_above p.0 n ps h.2)

times_none : (b : Counts) → total (times 0 b) ≡ 0
times_none [] = refl
times_none (p ∷ ps) = omega (arith, times_none ps)

-- a bag with more of each value than another
pub record IsMore (both a : Counts) (more : ℤ → ℕ) : Type 0 where
  pub bag : IsBag both
  pub counts : (v : ℤ) → count_of v both ≡ capped (count_of v a + more v)

with_times : (a b : Counts) (n : ℕ) → IsBag a → IsBag b → IsMore (union a (times n b)) a (λ v. n * count_of v b)
with_times a b zero h k =
    let none = union_none a (times 0 b) (times_none b) in
    record {
      bag = subst IsBag (sym none) h;
      counts = λ v. ap (count_of v) none ∙ (let kept = count_kept v a h in omega arith);
    }
with_times a b (suc n) h k =
    let made = times_bag n b k in
    record {
      bag = union_bag a (times (suc n) b) h made;
      counts = λ v. omega (arith, count_union v a (times (suc n) b) h made, count_times v (suc n) b);
    }

-- the sum over links to a port is one over the ports from which they lead
module _ {From To : Type 0} (copies : From → To → ℕ) (test : To → Bool) (to : To) (is : (x : To) → test x ≡ true → x ≡ to)
    (weight : From → ℕ) where
  sum_of_links : (froms : List From) (tos : List To) →
      total_by (λ (l : Link From To). tick (test l.to) * (l.copies * weight l.from)) (flat_map (links_from copies tos) froms)
      ≡ total_by (λ x. tick (test x)) tos * total_by (λ from. copies from to * weight from) froms
  sum_of_links froms tos =
      let ticks = total_by (λ x. tick (test x)) tos in
      links_total copies (λ (l : Link From To). tick (test l.to) * (l.copies * weight l.from)) (λ from x. omega arith) froms tos
      ∙ total_by-same (λ from. total_by (λ x. tick (test x) * (copies from x * weight from)) tos)
      (λ from. ticks * (copies from to * weight from))
      (λ from. picked test to is (λ x. copies from x * weight from) tos) froms
      ∙ total_by-times ticks (λ from. copies from to * weight from) froms

-- what links to ends that pass a test carry, one after the other
module _ {From To : Type 0} (sent : From → Counts) (are_bags : (from : From) → IsBag (sent from)) (test : To → Bool) where
  abbrev passing : List (Link From To) → List (Link From To)
  passing links = filter (λ (l : Link From To). test l.to) links

  abbrev carried_along : Counts → List (Link From To) → Counts
  carried_along a links = fold (with_link sent) a (passing links)

  abbrev brought : List (Link From To) → ℤ → ℕ
  brought links v = total_by (λ (l : Link From To). tick (test l.to) * (l.copies * count_of v (sent l.from))) links

  carried_first : (b : Bool) (l : Link From To) (links : List (Link From To)) (a : Counts) → test l.to ≡ b → IsBag a →
      ((c : Counts) → IsBag c → IsMore (carried_along c links) c (brought links)) →
      IsMore (carried_along a (l ∷ links)) a (brought (l ∷ links))
  carried_first true l links a e h rest =
      let first = with_times a (sent l.from) l.copies h (are_bags l.from) in
      let more = rest (with_link sent a l) first.bag in
      let passed : passing (l ∷ links) ≡ l ∷ passing links = ap (λ t. cond t (l ∷ passing links) (passing links)) e in
      record {
        bag = subst (λ (ls : List (Link From To)). IsBag (fold (with_link sent) a ls)) (sym passed) more.bag;
        counts =
            λ v. ap (λ (ls : List (Link From To)). count_of v (fold (with_link sent) a ls)) passed
            ∙ omega (
              arith,
              more.counts v,
              first.counts v,
              ap (λ t. tick t * (l.copies * count_of v (sent l.from))) e,
            );
      }
  carried_first false l links a e h rest =
      let more = rest a h in
      let passed : passing (l ∷ links) ≡ passing links = ap (λ t. cond t (l ∷ passing links) (passing links)) e in
      record {
        bag = subst (λ (ls : List (Link From To)). IsBag (fold (with_link sent) a ls)) (sym passed) more.bag;
        counts =
            λ v. ap (λ (ls : List (Link From To)). count_of v (fold (with_link sent) a ls)) passed
            ∙ omega (arith, more.counts v, ap (λ t. tick t * (l.copies * count_of v (sent l.from))) e);
      }

  all_carried : (links : List (Link From To)) (a : Counts) → IsBag a → IsMore (carried_along a links) a (brought links)
  all_carried [] a h = record { bag = h; counts = λ v. let kept = count_kept v a h in omega arith }
  all_carried (l ∷ links) a h = carried_first (test l.to) l links a refl h (all_carried links)

  -- all links from some ports to others
  carried : (copies : From → To → ℕ) (to : To) → ((x : To) → test x ≡ true → x ≡ to) → (froms : List From) (tos : List To)
      (a : Counts) → IsBag a →
      IsMore (carried_along a (flat_map (links_from copies tos) froms)) a
      (λ v. total_by (λ x. tick (test x)) tos * total_by (λ from. copies from to * count_of v (sent from)) froms)
  carried copies to is froms tos a h =
      let all = all_carried (flat_map (links_from copies tos) froms) a h in
      record {
        bag = all.bag;
        counts =
            λ v. all.counts v
            ∙ ap (λ n. capped (count_of v a + n)) (sum_of_links copies test to is (λ from. count_of v (sent from)) froms tos);
      }

-- a test, by cases
tick_cases : (p n : ℕ) {G : Type 0} → (p < n → tick (ltb p n) ≡ 1 → G) → (n ≤ p → tick (ltb p n) ≡ 0 → G) → G
tick_cases p n yes_case no_case =
    ⊎_elim (λ (lt : p < n). yes_case lt (grind (arith, nat_tests)))
    (λ (le : n ≤ p). no_case le (grind (arith, nat_tests))) (cases_lt p n)

-- where there is no port, nothing arrives and nothing leaves
past_ports : (f : FileTree) (sent : List (List Counts)) (input : List Counts) (k port : ℕ) →
    get_or (port_counts (instances f)) k 0 ≤ port → bag_at (get_or (arrives f sent input) k []) port ≡ []
past_ports f sent input k port past =
    get_or_past (get_or (arrives f sent input) k []) port []
    (let long : length (get_or (arrives f sent input) k []) ≡ get_or (port_counts (instances f)) k 0 =
    lengths (arrives f sent input) k ∙ ap (λ ns. get_or ns k 0) (ports_received f sent input) in omega (arith, past, long))
  where
    lengths : (all : List (List Counts)) (j : ℕ) → length (get_or all j []) ≡ get_or (map length all) j 0
    lengths [] j = refl
    lengths (bags ∷ all) zero = refl
    lengths (bags ∷ all) (suc j) = lengths all j

pub links_arrive : (f : FileTree) (sent : List (List Counts)) (input : List Counts) → AllAreBags sent → AreBags input →
    (component port : ℕ) →
    carried_to f sent input (port_at component port) ≡ bag_at (get_or (arrives f sent input) component []) port
links_arrive f sent input sent_bags input_bags k port =
    let to = port_at k port in
    let put = arrives_superposed f sent sent_bags input input_bags k port in
    let test : ComponentPort → Bool = λ x. same_port x to in
    let is : (x : ComponentPort) → test x ≡ true → x ≡ to = λ x e. same_port-true x to e in
    let direct =
    carried (sent_at sent) (λ from. sent_bags from.component from.port) test (direct_copies f) to is (output_ports f)
    (input_ports f) [] tt in
    let entries =
    carried (bag_at input) input_bags test (entry_copies f) to is (root_ports (root_inputs f)) (input_ports f) _ direct.bag in
    same_counts_same_bag (carried_to f sent input to) (bag_at (get_or (arrives f sent input) k []) port) entries.bag
    (put.bags everybody)
    (λ v.
    let occurs = occurs_once input_count (instances f) k port in
    let direct_total = total_by (λ from. direct_copies f from to * count_of v (sent_at sent from)) (output_ports f) in
    let entry_total =
    total_by (λ from. entry_copies f from to * count_of v (bag_at input from)) (root_ports (root_inputs f)) in
    tick_cases port (get_or (port_counts (instances f)) k 0)
    (λ within one.
    omega (
      arith,
      entries.counts v,
      direct.counts v,
      put.counts v,
      ap (λ n. n * direct_total) (occurs ∙ one),
      ap (λ n. n * entry_total) (occurs ∙ one),
    ))
    (λ past none.
    omega (
      arith,
      entries.counts v,
      direct.counts v,
      ap (count_of v) (past_ports f sent input k port past),
      ap (λ n. n * direct_total) (occurs ∙ none),
      ap (λ n. n * entry_total) (occurs ∙ none),
    )))

pub links_leave : (f : FileTree) (sent : List (List Counts)) → AllAreBags sent → (port : ℕ) →
    carried_out f sent port ≡ bag_at (leaves f sent) port
links_leave f sent sent_bags port =
    let put = leaves_superposed f sent sent_bags port in
    let exits =
    carried (sent_at sent) (λ from. sent_bags from.component from.port) (λ x. eqb x port) (exit_copies f) port
    (λ x e. eqb-true x port e) (output_ports f) (root_ports (root_outputs f)) [] tt in
    same_counts_same_bag (carried_out f sent port) (bag_at (leaves f sent) port) exits.bag (put.bags everybody)
    (λ v.
    let occurs = ticks_within 0 (length (root_outputs f)) port port (omega arith) in
    let exit_total = total_by (λ from. exit_copies f from port * count_of v (sent_at sent from)) (output_ports f) in
    tick_cases port (length (root_outputs f))
    (λ within one. omega (arith, exits.counts v, put.counts v, ap (λ n. n * exit_total) (occurs ∙ one)))
    (λ past none.
    let nothing = get_or_past (leaves f sent) port [] (omega (arith, past, length-leaves f sent)) in
    omega (arith, exits.counts v, ap (count_of v) nothing, ap (λ n. n * exit_total) (occurs ∙ none))))
