-- What leaves a text is linear in what its components send.
use Rattle.std.proofs.Common.{◌≡◌, ℕ, zero, suc, List, [], ◌∷◌, length, refl, sym, ap, ◌∙◌, arith}
use Rattle.std.specs.Prelude.{slice_index_or}
use Rattle.std.specs.List.{All}
use Rattle.std.proofs.lemmas.List.Elements.{All-cons, All-head, All-nil, All-tail}
use Rattle.dv_syntax.specs.Trees.{FileTree}
use Rattle.dv_bag.specs.Bag.{Counts, IsBag, bag_at, union}
use Rattle.dv_bag.specs.BagLists.{AllAreBags, AreBags}
use Rattle.dv_bag.proofs.Monoid.{union_unit}
use Rattle.dv_devs.specs.Outside.{AllBags, LeavesLinearly, union_of_bags, union_of_sent}
use Rattle.dv_tree.specs.Routing.{leaves}
use Rattle.dv_tree.specs.Unions.{AllUnite, Unite}
use Rattle.dv_tree.proofs.Limits.{length-leaves}
use Rattle.dv_plain.specs.Source.{network_of}

no_bag : (port : ℕ) → IsBag (bag_at [] port)
no_bag zero = tt
no_bag (suc port) = tt

-- bags by index, and all of a list
bags_all : (bags : List Counts) → AreBags bags → All IsBag bags
bags_all [] h = All-nil IsBag
bags_all (b ∷ bs) h = All-cons IsBag b bs (h 0) (bags_all bs (λ port. h (suc port)))

bags_at : (bags : List Counts) → All IsBag bags → AreBags bags
bags_at [] h port = no_bag port
bags_at (b ∷ bs) h zero = All-head IsBag b bs h
bags_at (b ∷ bs) h (suc port) = bags_at bs (All-tail IsBag b bs h) port

pub all_sent_bags : (sent : List (List Counts)) → AllAreBags sent → AllBags sent
all_sent_bags [] h = All-nil (All IsBag)
all_sent_bags (x ∷ xs) h = All-cons (All IsBag) x xs (bags_all x (h 0)) (all_sent_bags xs (λ k. h (suc k)))

pub all_sent_at : (sent : List (List Counts)) → AllBags sent → AllAreBags sent
all_sent_at [] h zero port = no_bag port
all_sent_at [] h (suc k) port = no_bag port
all_sent_at (x ∷ xs) h zero port = bags_at x (All-head (All IsBag) x xs h) port
all_sent_at (x ∷ xs) h (suc k) port = all_sent_at xs (All-tail (All IsBag) x xs h) k port

-- unions, index by index
nothing_at : (k : ℕ) → slice_index_or [] k (let none : List Counts = [] in none) ≡ []
nothing_at zero = refl
nothing_at (suc k) = refl

no_values_at : (port : ℕ) → bag_at [] port ≡ []
no_values_at zero = refl
no_values_at (suc port) = refl

with_nothing : (x : List Counts) → union_of_bags x [] ≡ x
with_nothing [] = refl
with_nothing (b ∷ bs) = refl

bag_united : (x y : List Counts) (port : ℕ) → AreBags y → bag_at (union_of_bags x y) port ≡ union (bag_at x port) (bag_at y port)
bag_united [] y port h = sym (ap (λ (b : Counts). union b (bag_at y port)) (no_values_at port) ∙ union_unit (bag_at y port) (h port))
bag_united (a ∷ rest) [] port h = sym (ap (union (bag_at (a ∷ rest) port)) (no_values_at port))
bag_united (a ∷ rest) (b ∷ bs) zero h = refl
bag_united (a ∷ rest) (b ∷ bs) (suc port) h = bag_united rest bs port (λ q. h (suc q))

sent_united : (a b : List (List Counts)) (k : ℕ) →
    slice_index_or (union_of_sent a b) k [] ≡ union_of_bags (slice_index_or a k []) (slice_index_or b k [])
sent_united [] b k = sym (ap (λ (x : List Counts). union_of_bags x (slice_index_or b k [])) (nothing_at k))
sent_united (x ∷ xs) [] k =
    sym (ap (union_of_bags (slice_index_or (x ∷ xs) k [])) (nothing_at k) ∙ with_nothing (slice_index_or (x ∷ xs) k []))
sent_united (x ∷ xs) (y ∷ ys) zero = refl
sent_united (x ∷ xs) (y ∷ ys) (suc k) = sent_united xs ys k

-- lists of as many bags that are the same at each index
same_bags : (x y : List Counts) → length x ≡ length y → ((port : ℕ) → bag_at x port ≡ bag_at y port) → x ≡ y
same_bags [] [] e h = refl
same_bags [] (b ∷ bs) e h = absurd (omega arith)
same_bags (a ∷ rest) [] e h = absurd (omega arith)
same_bags (a ∷ rest) (b ∷ bs) e h =
    ap (λ (c : Counts). c ∷ rest) (h 0) ∙ ap (λ (cs : List Counts). b ∷ cs) (same_bags rest bs (omega arith) (λ port. h (suc port)))

united_length : (x y : List Counts) → length x ≡ length y → length (union_of_bags x y) ≡ length x
united_length [] [] e = refl
united_length [] (b ∷ bs) e = absurd (omega arith)
united_length (a ∷ rest) [] e = absurd (omega arith)
united_length (a ∷ rest) (b ∷ bs) e = let later = united_length rest bs (omega arith) in omega arith

module _ (limit : ℕ) (f : FileTree)
    (linear : (f : FileTree) (a b both : List (List Counts)) → AllUnite a b both → Unite (leaves f a) (leaves f b) (leaves f both)) where
  unite : (a b : List (List Counts)) → AllBags a → AllBags b → AllUnite a b (union_of_sent a b)
  unite a b h k n = record {
    left = all_sent_at a h n;
    right = all_sent_at b k n;
    together = λ port.
        ap (λ (bags : List Counts). bag_at bags port) (sent_united a b n)
        ∙ bag_united (slice_index_or a n []) (slice_index_or b n []) port (all_sent_at b k n);
  }

  left_united : (a b : List (List Counts)) → AllBags a → AllBags b → Unite (leaves f a) (leaves f b) (leaves f (union_of_sent a b))
  left_united a b h k = linear f a b (union_of_sent a b) (unite a b h k)

  pub leaves_linearly : LeavesLinearly (network_of limit f)
  leaves_linearly = record {
    bags = λ sent h. bags_all (leaves f sent) (left_united sent sent h h).left;
    union = λ a b h k.
        let united = left_united a b h k in
        let lengths : length (leaves f a) ≡ length (leaves f b) = length-leaves f a ∙ sym (length-leaves f b) in
        same_bags (leaves f (union_of_sent a b)) (union_of_bags (leaves f a) (leaves f b))
        (length-leaves f (union_of_sent a b) ∙ sym (united_length (leaves f a) (leaves f b) lengths ∙ length-leaves f a))
        (λ port. united.together port ∙ sym (bag_united (leaves f a) (leaves f b) port united.right));
  }
