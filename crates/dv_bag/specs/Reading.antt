-- Reading a state.
use Rattle.std.specs.Prelude.{◌≡◌, ℕ, ◌≤◌, List, [], Option, Some, None, slice_get}
use Rattle.dv_bag.specs.Collections.{count_in}
use Rattle.dv_bag.specs.Limits.{greatest_count}
use Rattle.dv_bag.specs.declared.collection.Collection.{Collection}
use Rattle.dv_bag.specs.declared.collection.Collection.TheVariants as collection
use Rattle.dv_bag.specs.declared.state.Datum.{Datum}
use Rattle.dv_bag.specs.declared.state.Datum.TheVariants as datum
use Rattle.dv_bag.specs.declared.state.DatumView.{DatumView}
use Rattle.dv_bag.specs.declared.state.DatumView.TheVariants as view

-- the datum that is read
abbrev pub datum_of : DatumView → Datum
datum_of (view.Number n) = datum.Number n
datum_of (view.Flag b) = datum.Flag b
datum_of (view.Held c) = datum.Held c.now

-- a collection that is read has at most the greatest count of values
abbrev pub HoldsFew : DatumView → Type 0
HoldsFew (view.Number n) = Unit {0}
HoldsFew (view.Flag b) = Unit {0}
HoldsFew (view.Held c) = count_in c.now ≤ greatest_count

-- the collection of a datum; the empty bag if it is none
abbrev pub held_of_datum : Option Datum → Collection
held_of_datum None = collection.Bag []
held_of_datum (Some (datum.Number n)) = collection.Bag []
held_of_datum (Some (datum.Flag b)) = collection.Bag []
held_of_datum (Some (datum.Held c)) = c

-- the collection at an index
abbrev pub held_at : List Datum → ℕ → Collection
held_at contents index = held_of_datum (slice_get contents index)

-- there is a collection at an index
abbrev pub HasHeldAt : ℕ → List Datum → Type 0
HasHeldAt index contents = slice_get contents index ≡ Some (datum.Held (held_at contents index))
