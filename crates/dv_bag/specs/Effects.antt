-- What assignments and changes of collections do to an effect, and when a number may be assigned.
use Rattle.std.specs.Prelude.{ℕ, ℤ, Bool, not, ◌&&◌, int_lt, slice_set}
use Rattle.dv_bag.specs.declared.collection.Collection.{Collection}
use Rattle.dv_bag.specs.declared.state.Datum.{Datum}
use Rattle.dv_bag.specs.declared.state.Datum.TheVariants as datum
use Rattle.dv_bag.specs.declared.state.State.{State}
use Rattle.dv_bag.specs.declared.state.Effect.{Effect}

-- a number within a range
abbrev pub is_within : ℤ → ℤ → ℤ → Bool
is_within low high n = not (int_lt n low) && not (int_lt high n)

abbrev pub with_state : Effect → State → Effect
with_state e s = record { state = s; sent = e.sent; goto = e.goto }

-- another datum at an index
abbrev pub with_datum : State → ℕ → Datum → State
with_datum s index d = record { phase = s.phase; variables = slice_set s.variables index d }

-- another collection at an index
abbrev pub with_collection : Effect → ℕ → Collection → Effect
with_collection e index c = with_state e (with_datum e.state index (datum.Held c))
