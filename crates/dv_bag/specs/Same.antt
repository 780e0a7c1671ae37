-- Equality of bags, collections and variables, as functions.
use Rattle.std.specs.Prelude.{◌≡◌, ℕ, Bool, true, false, ◌&&◌, List, [], ℤ, pos, nat_eq, refl}
use Rattle.std.specs.Bool.{Decides}
use Rattle.std.specs.Ordering.{int_eq}
use Rattle.std.specs.Cmp.Lexicographic.{pointwise, pointwise_decides}
use Rattle.std.proofs.Common.{ap, sym, ◌∙◌}
use Rattle.std.proofs.lemmas.Bool.{false≢true}
use Rattle.std.proofs.lemmas.Bool.Decides.{Decides-and, Decides-eqb, Decides-int_eq, Decides-like}
use Rattle.dv_bag.specs.Bag.{Counts}
use Rattle.dv_bag.specs.declared.collection.Collection.{Collection}
use Rattle.dv_bag.specs.declared.collection.Collection.TheVariants as collection
use Rattle.dv_bag.specs.declared.state.Datum.{Datum}
use Rattle.dv_bag.specs.declared.state.Datum.TheVariants as datum
use mathlib.Core.Bool.{beq}

-- whether two pairs have the same value and the same count
abbrev pub same_pair : ℤ × ℕ → ℤ × ℕ → Bool
same_pair p q = int_eq p.0 q.0 && nat_eq p.1 q.1

-- whether two bags have the same values with the same counts
abbrev pub same_bag : Counts → Counts → Bool
same_bag = pointwise same_pair

abbrev pub same_bags : List Counts → List Counts → Bool
same_bags = pointwise same_bag

-- whether two queues have the same values in the same order
abbrev pub same_values : List ℤ → List ℤ → Bool
same_values = pointwise int_eq

-- whether two collections have the same discipline and the same values
abbrev pub same_collection : Collection → Collection → Bool
same_collection (collection.Bag a) (collection.Bag b) = same_bag a b
same_collection (collection.Bag a) (collection.Queue b) = false
same_collection (collection.Queue a) (collection.Bag b) = false
same_collection (collection.Queue a) (collection.Queue b) = same_values a b

-- whether two data are the same number, flag or collection
abbrev pub same_datum : Datum → Datum → Bool
same_datum (datum.Number a) (datum.Number b) = int_eq a b
same_datum (datum.Number a) (datum.Flag b) = false
same_datum (datum.Number a) (datum.Held b) = false
same_datum (datum.Flag a) (datum.Number b) = false
same_datum (datum.Flag a) (datum.Flag b) = beq a b
same_datum (datum.Flag a) (datum.Held b) = false
same_datum (datum.Held a) (datum.Number b) = false
same_datum (datum.Held a) (datum.Flag b) = false
same_datum (datum.Held a) (datum.Held b) = same_collection a b

abbrev pub same_variables : List Datum → List Datum → Bool
same_variables = pointwise same_datum

pub same_pair-decides : (p q : ℤ × ℕ) → Decides (same_pair p q) (p ≡ q)
same_pair-decides p q = Decides-like (same_pair p q)
    (λ both. ap (λ (v : ℤ). (v, p.1)) both.0 ∙ ap (λ (n : ℕ). (q.0, n)) both.1)
    (λ same. (ap (λ (r : ℤ × ℕ). r.0) same, ap (λ (r : ℤ × ℕ). r.1) same))
    (Decides-and (int_eq p.0 q.0) (nat_eq p.1 q.1) (Decides-int_eq p.0 q.0) (Decides-eqb p.1 q.1))

pub same_bag-decides : (a b : Counts) → Decides (same_bag a b) (a ≡ b)
same_bag-decides = pointwise_decides same_pair-decides

pub same_bags-decides : (a b : List Counts) → Decides (same_bags a b) (a ≡ b)
same_bags-decides = pointwise_decides same_bag-decides

-- what distinguishes the kinds of data, and what each holds
number_in : Datum → ℤ
number_in (datum.Number n) = n
number_in (datum.Flag b) = pos 0
number_in (datum.Held b) = pos 0

flag_in : Datum → Bool
flag_in (datum.Number n) = false
flag_in (datum.Flag b) = b
flag_in (datum.Held b) = false

held_in : Datum → Collection
held_in (datum.Number n) = collection.Bag []
held_in (datum.Flag b) = collection.Bag []
held_in (datum.Held c) = c

bag_in : Collection → Counts
bag_in (collection.Bag b) = b
bag_in (collection.Queue q) = []

queue_in : Collection → List ℤ
queue_in (collection.Bag b) = []
queue_in (collection.Queue q) = q

is_bag : Collection → Bool
is_bag (collection.Bag b) = true
is_bag (collection.Queue q) = false

is_number : Datum → Bool
is_number (datum.Number n) = true
is_number (datum.Flag b) = false
is_number (datum.Held b) = false

is_flag : Datum → Bool
is_flag (datum.Number n) = false
is_flag (datum.Flag b) = true
is_flag (datum.Held b) = false

same_flag-decides : (a b : Bool) → Decides (beq a b) (a ≡ b)
same_flag-decides true true = (λ e. refl, λ same. refl)
same_flag-decides true false = (λ e. absurd (false≢true e), λ same. absurd (false≢true (sym same)))
same_flag-decides false true = (λ e. absurd (false≢true e), λ same. absurd (false≢true same))
same_flag-decides false false = (λ e. refl, λ same. refl)

differs : (d e : Datum) (is : Datum → Bool) → is d ≡ false → is e ≡ true → Decides false (d ≡ e)
differs d e is here there = (λ x. absurd (false≢true x), λ same. absurd (false≢true (sym here ∙ ap is same ∙ there)))

pub same_values-decides : (q r : List ℤ) → Decides (same_values q r) (q ≡ r)
same_values-decides = pointwise_decides Decides-int_eq

pub same_collection-decides : (c d : Collection) → Decides (same_collection c d) (c ≡ d)
unfolding bag_in queue_in is_bag
same_collection-decides (collection.Bag a) (collection.Bag b) =
    Decides-like (same_bag a b) (ap collection.Bag) (ap bag_in) (same_bag-decides a b)
same_collection-decides (collection.Bag a) (collection.Queue b) =
    (λ x. absurd (false≢true x), λ same. absurd (false≢true (ap is_bag (sym same))))
same_collection-decides (collection.Queue a) (collection.Bag b) =
    (λ x. absurd (false≢true x), λ same. absurd (false≢true (ap is_bag same)))
same_collection-decides (collection.Queue a) (collection.Queue b) =
    Decides-like (same_values a b) (ap collection.Queue) (ap queue_in) (same_values-decides a b)

pub same_datum-decides : (d e : Datum) → Decides (same_datum d e) (d ≡ e)
unfolding number_in flag_in held_in is_number is_flag
same_datum-decides (datum.Number a) (datum.Number b) = Decides-like (int_eq a b) (ap datum.Number) (ap number_in) (Decides-int_eq a b)
same_datum-decides (datum.Number a) (datum.Flag b) = differs (datum.Number a) (datum.Flag b) is_flag refl refl
same_datum-decides (datum.Number a) (datum.Held b) = (λ x. absurd (false≢true x), λ same. absurd (false≢true (ap is_number (sym same))))
same_datum-decides (datum.Flag a) (datum.Number b) = differs (datum.Flag a) (datum.Number b) is_number refl refl
same_datum-decides (datum.Flag a) (datum.Flag b) = Decides-like (beq a b) (ap datum.Flag) (ap flag_in) (same_flag-decides a b)
same_datum-decides (datum.Flag a) (datum.Held b) = (λ x. absurd (false≢true x), λ same. absurd (false≢true (ap is_flag (sym same))))
same_datum-decides (datum.Held a) (datum.Number b) = differs (datum.Held a) (datum.Number b) is_number refl refl
same_datum-decides (datum.Held a) (datum.Flag b) = differs (datum.Held a) (datum.Flag b) is_flag refl refl
same_datum-decides (datum.Held a) (datum.Held b) =
    Decides-like (same_collection a b) (ap datum.Held) (ap held_in) (same_collection-decides a b)

pub same_variables-decides : (v w : List Datum) → Decides (same_variables v w) (v ≡ w)
same_variables-decides = pointwise_decides same_datum-decides
