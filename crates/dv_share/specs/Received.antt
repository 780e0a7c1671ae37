-- What arrives at components by index, while deliveries are put in one after the other.
use Rattle.std.specs.Prelude.{◌≡◌, ℕ, ◌<◌, ◌≤◌, false, if◌then◌else◌, nat_eq, List, [], ◌∷◌, ◌++◌, length, map, replicate, slice_get}
use Rattle.std.specs.Prelude.{slice_index_or, slice_set, Some}
use Rattle.std.specs.List.{All, sum_by}
use Rattle.dv_bag.specs.Bag.{Counts, bag_at, with_copies}
use Rattle.dv_conservative.specs.Links.{Delivery}
use Rattle.dv_share.specs.Indices.{is_in, indices_of}
use Rattle.dv_share.specs.Share.{AreAmong, AreTouched, inbox_of}
use Rattle.dv_share.specs.declared.index.Indexed.{Indexed}
use Rattle.dv_share.specs.declared.received.Receipt.{Receipt}
use Rattle.dv_share.specs.declared.tables.Member.{Member}

abbrev pub nowhere : Receipt
nowhere = record { indexed = record { index = 0; what = [] }; is_met = false }

-- the receipt at an index
abbrev pub receipt_at : List Receipt → ℕ → Receipt
receipt_at receipts p = slice_index_or receipts p nowhere

-- what comes to the components at some indices
abbrev pub indexed_at : List Receipt → List ℕ → List (Indexed (List Counts))
indexed_at receipts ps = map (λ p. (receipt_at receipts p).indexed) ps

-- for how many indices there is room, and what comes to the components at some of them
pub record ReceivedOf : Type 0 where
  pub room : ℕ
  pub items : List (Indexed (List Counts))

-- how often a number is in a list
abbrev pub count_in : ℕ → List ℕ → ℕ
count_in p ps = sum_by (λ q. if nat_eq q p then 1 else 0) ps

-- the indices of the receipts that are met, in the order of the receipts
abbrev pub met_of : List Receipt → List ℕ
met_of [] = []
met_of (r ∷ rs) = if r.is_met then r.indexed.index ∷ met_of rs else met_of rs

-- Each receipt is at its own index. The indices are those of the receipts that are met, each once.
pub record AreMet (receipts : List Receipt) (ps : List ℕ) : Type 0 where
  pub own : (p : ℕ) → p < length receipts → (receipt_at receipts p).indexed.index ≡ p
  pub once : (p : ℕ) → p < length receipts → count_in p ps ≡ (if (receipt_at receipts p).is_met then 1 else 0)
  pub within : All (λ p. p < length receipts) ps

-- with empty bags for so many ports at an index, if it has no item yet
abbrev pub with_index : ℕ → ℕ → List (Indexed (List Counts)) → List (Indexed (List Counts))
with_index p ports xs = if is_in p (indices_of xs) then xs else xs ++ record { index = p; what = replicate ports [] } ∷ []

-- a delivery put into the bags at an index
abbrev pub with_delivery_at : ℕ → Delivery → Indexed (List Counts) → Indexed (List Counts)
with_delivery_at p d x =
    if nat_eq x.index p
    then record { index = x.index; what = slice_set x.what d.port (with_copies d.value d.copies (bag_at x.what d.port)) } else x

-- Each item has the bags that the deliveries so far make at its index; elsewhere nothing is delivered.
pub record AreGathered (ms : List Member) (ds : List Delivery) (xs : List (Indexed (List Counts))) : Type 0 where
  pub within : All (λ (x : Indexed (List Counts)). x.index < length ms) xs
  pub bags : All (λ (x : Indexed (List Counts)). (m : Member) → slice_get ms x.index ≡ Some m → x.what ≡ inbox_of m ds) xs
  pub rest : (p : ℕ) (m : Member) → slice_get ms p ≡ Some m → is_in p (indices_of xs) ≡ false → inbox_of m ds ≡ replicate m.inputs []

-- there is room for each component, and some deliveries were gathered
pub record IsReady (ms : List Member) (r : ReceivedOf) : Type 0 where
  pub room : length ms ≤ r.room
  pub gathered : (ds : List Delivery) × AreGathered ms ds r.items

-- Deliveries are put in beside those that were gathered before. No index goes, and one that comes was touched.
pub record HasTaken (ms : List Member) (ds : List Delivery) (old new : ReceivedOf) : Type 0 where
  pub room : new.room ≡ old.room
  pub gathered : (es : List Delivery) → AreGathered ms es old.items → AreGathered ms (es ++ ds) new.items
  pub among : AreAmong (indices_of old.items) (indices_of new.items)
  pub touched : (ps : List ℕ) → AreTouched ps old.items → AreTouched ps new.items
