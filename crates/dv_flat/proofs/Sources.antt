-- What is linear in what is sent: of all sources together it is the sum of what it is of each alone.
use Rattle.std.proofs.Common.{◌≡◌, ℕ, zero, suc, ◌+◌, List, [], ◌∷◌, ◌++◌, map, get_or, replicate, refl, ap, sym}
use Rattle.std.proofs.Common.{add-one, arith, lit<}
use Rattle.std.specs.List.{range_with_len, sum_by}
use Rattle.std.proofs.lemmas.List.Sums.{sum_by-append, sum_by-cons}
use Rattle.dv_bag.specs.Bag.{Counts, IsBag, bag_at, union}
use Rattle.dv_bag.specs.BagLists.{AllAreBags, AreBags}
use Rattle.dv_bag.proofs.Monoid.{union_unit}
use Rattle.dv_tree.specs.Instances.{Instance}
use Rattle.dv_tree.specs.Unions.{AllUnite, Unite}
use Rattle.dv_flat.specs.Ends.{output_count, port_at, ports_from}
use Rattle.dv_flat.specs.Links.{alone_at, sent_alone}
use Rattle.dv_flat.proofs.Alike.{Alike}
use Rattle.dv_flat.proofs.Sums.{sum_by-map}
use Rattle.dv_flat.proofs.Trees.{one_at_each, one_value}

-- ---- Unions of what is sent

pub one_is_bag : IsBag one_value
one_is_bag = (lit< tt, lit< tt, tt)

unite_cons : {x y z : Counts} {xs ys zs : List Counts} → IsBag x → IsBag y → z ≡ union x y → Unite xs ys zs →
    Unite (x ∷ xs) (y ∷ ys) (z ∷ zs)
unite_cons {x} {y} {z} {xs} {ys} {zs} first second both rest = record {
  left = left;
  right = right;
  together = together;
}
  where
    left : (port : ℕ) → IsBag (bag_at (x ∷ xs) port)
    left zero = first
    left (suc port) = rest.left port

    right : (port : ℕ) → IsBag (bag_at (y ∷ ys) port)
    right zero = second
    right (suc port) = rest.right port

    together : (port : ℕ) → bag_at (z ∷ zs) port ≡ union (bag_at (x ∷ xs) port) (bag_at (y ∷ ys) port)
    together zero = both
    together (suc port) = rest.together port

pub unite_left : (bags : List Counts) → AreBags bags → Unite bags [] bags
unite_left bags are = record { left = are; right = λ port. tt; together = λ port. refl }

pub unite_right : (bags : List Counts) → AreBags bags → Unite [] bags bags
unite_right bags are = record { left = λ port. tt; right = are; together = λ port. sym (union_unit (bag_at bags port) (are port)) }

all_cons : {x y z : List Counts} (xs ys zs : List (List Counts)) → Unite x y z → AllUnite xs ys zs →
    AllUnite (x ∷ xs) (y ∷ ys) (z ∷ zs)
all_cons xs ys zs first rest zero = first
all_cons xs ys zs first rest (suc k) = rest k

pub all_left : (all : List (List Counts)) → AllAreBags all → AllUnite all [] all
all_left all are k = unite_left (get_or all k []) (are k)

pub all_right : (all : List (List Counts)) → AllAreBags all → AllUnite [] all all
all_right all are k = unite_right (get_or all k []) (are k)

bags_none : Unite [] [] []
bags_none = unite_left [] (λ port. tt)

-- ---- What is sent are bags

pub ones_are_bags : (n : ℕ) → AreBags (replicate n one_value)
ones_are_bags zero port = tt
ones_are_bags (suc n) zero = one_is_bag
ones_are_bags (suc n) (suc port) = ones_are_bags n port

pub all_ones_are_bags : (is : List Instance) → AllAreBags (one_at_each is)
all_ones_are_bags [] k port = tt
all_ones_are_bags (i ∷ is) zero port = ones_are_bags (output_count i.model) port
all_ones_are_bags (i ∷ is) (suc k) port = all_ones_are_bags is k port

pub alone_are_bags : (port : ℕ) → AreBags (alone_at port)
alone_are_bags zero zero = one_is_bag
alone_are_bags zero (suc other) = tt
alone_are_bags (suc port) zero = tt
alone_are_bags (suc port) (suc other) = alone_are_bags port other

pub sent_are_bags : (component port : ℕ) → AllAreBags (sent_alone (port_at component port))
sent_are_bags zero port zero other = alone_are_bags port other
sent_are_bags zero port (suc k) other = tt
sent_are_bags (suc component) port zero other = tt
sent_are_bags (suc component) port (suc k) other = sent_are_bags component port k other

-- ---- No values

abbrev pub IsSilent : List Counts → Type 0
IsSilent bags = (port : ℕ) → bag_at bags port ≡ []

abbrev pub AllSilent : List (List Counts) → Type 0
AllSilent all = (k : ℕ) → IsSilent (get_or all k [])

silent_ports : (n : ℕ) → IsSilent (replicate n [] ++ [])
silent_ports zero port = refl
silent_ports (suc n) zero = refl
silent_ports (suc n) (suc port) = silent_ports n port

all_silent : (n : ℕ) (rest : List (List Counts)) → AllSilent rest → AllSilent (replicate n [] ++ rest)
all_silent zero rest silent k port = silent k port
all_silent (suc n) rest silent zero port = refl
all_silent (suc n) rest silent (suc k) port = all_silent n rest silent k port

first_silent : (bags : List Counts) → IsSilent bags → AllSilent (bags ∷ [])
first_silent bags silent zero port = silent port
first_silent bags silent (suc k) port = refl

-- ---- One port after the other

ports_apart : (j : ℕ) (rest : List Counts) → AreBags rest →
    Unite (alone_at j) (replicate (suc j) [] ++ rest) (replicate j [] ++ one_value ∷ rest)
ports_apart zero rest are = unite_cons one_is_bag tt refl (unite_right rest are)
ports_apart (suc j) rest are = unite_cons tt tt refl (ports_apart j rest are)

module _ (G : List Counts → ℕ) (linear : (a b c : List Counts) → Unite a b c → Alike (G c) (G a + G b))
    (silent : (bags : List Counts) → IsSilent bags → Alike (G bags) 0) where
  ports_from_on : (n j : ℕ) →
      Alike (sum_by (λ p. G (alone_at p)) (range_with_len j n)) (G (replicate j [] ++ replicate n one_value))
  ports_from_on zero j = sym (silent (replicate j [] ++ []) (silent_ports j))
  ports_from_on (suc n) j =
      let first = sum_by-cons (λ p. G (alone_at p)) j (range_with_len (j + 1) n) in
      let rest = ports_from_on n (j + 1) in
      let next = ap (λ k. G (replicate k [] ++ replicate n one_value)) (add-one j) in
      let both = linear (alone_at j) (replicate (suc j) [] ++ replicate n one_value) (replicate j [] ++ one_value ∷ replicate n one_value)
      (ports_apart j (replicate n one_value) (ones_are_bags n)) in
      omega (arith, first, rest, next, both)

  pub all_ports : (n : ℕ) → Alike (sum_by (λ p. G (alone_at p)) (range_with_len 0 n)) (G (replicate n one_value))
  all_ports n = ports_from_on n 0

-- ---- One component after the other

behind_silent : (k : ℕ) (a b c : List (List Counts)) → AllUnite a b c →
    AllUnite (replicate k [] ++ a) (replicate k [] ++ b) (replicate k [] ++ c)
behind_silent zero a b c both = both
behind_silent (suc k) a b c both =
    all_cons (replicate k [] ++ a) (replicate k [] ++ b) (replicate k [] ++ c) bags_none (behind_silent k a b c both)

components_apart : (k : ℕ) (bags : List Counts) (rest : List (List Counts)) → AreBags bags → AllAreBags rest →
    AllUnite (replicate k [] ++ bags ∷ []) (replicate (suc k) [] ++ rest) (replicate k [] ++ bags ∷ rest)
components_apart zero bags rest are all = all_cons [] rest rest (unite_left bags are) (all_right rest all)
components_apart (suc k) bags rest are all =
    all_cons (replicate k [] ++ bags ∷ []) (replicate (suc k) [] ++ rest) (replicate k [] ++ bags ∷ rest) bags_none
    (components_apart k bags rest are all)

module _ (F : List (List Counts) → ℕ) (linear : (a b c : List (List Counts)) → AllUnite a b c → Alike (F c) (F a + F b))
    (silent : (all : List (List Counts)) → AllSilent all → Alike (F all) 0) where
  outputs_from_on : (is : List Instance) (k : ℕ) →
      Alike (sum_by (λ from. F (sent_alone from)) (ports_from k output_count is)) (F (replicate k [] ++ one_at_each is))
  outputs_from_on [] k = sym (silent (replicate k [] ++ []) (all_silent k [] (λ j port. refl)))
  outputs_from_on (i ∷ is) k =
      let n = output_count i.model in
      let at : List Counts → List (List Counts) = λ bags. replicate k [] ++ bags ∷ [] in
      let apart =
      sum_by-append (λ from. F (sent_alone from)) (map (port_at k) (range_with_len 0 n)) (ports_from (suc k) output_count is) in
      let moved = sum_by-map (λ from. F (sent_alone from)) (port_at k) (range_with_len 0 n) in
      let here =
      all_ports (λ bags. F (at bags))
      (λ a b c both.
      linear (at a) (at b) (at c) (behind_silent k (a ∷ []) (b ∷ []) (c ∷ []) (all_cons [] [] [] both (λ j. bags_none))))
      (λ bags quiet. silent (at bags) (all_silent k (bags ∷ []) (first_silent bags quiet))) n in
      let rest = outputs_from_on is (suc k) in
      let ones = replicate n one_value in
      let both =
      linear (at ones) (replicate (suc k) [] ++ one_at_each is) (replicate k [] ++ ones ∷ one_at_each is)
      (components_apart k ones (one_at_each is) (ones_are_bags n) (all_ones_are_bags is)) in
      omega (arith, apart, moved, here, rest, both)

  pub all_outputs : (is : List Instance) →
      Alike (sum_by (λ from. F (sent_alone from)) (ports_from 0 output_count is)) (F (one_at_each is))
  all_outputs is = outputs_from_on is 0
