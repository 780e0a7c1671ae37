-- Tables of names as functions from numbers.
use Rattle.std.specs.Prelude.{ℕ, ◌==◌, Bool, nat_eq, nat_lt, if◌then◌else◌, slice_get, is_some, List, Option, Some, None}
use Rattle.std.specs.Option.{option_flatten, option_or}
use Rattle.std.specs.HashMap.{get}
use Rattle.dv_check.specs.declared.name_set.NameSet.{NameSet}
use Rattle.dv_check.specs.declared.name_set.NameSet.TheVariants as names
use Rattle.dv_check.specs.declared.number_set.NumberSet.{NumberSet}
use Rattle.dv_check.specs.declared.directory.Directory.{Directory}
use Rattle.dv_check.specs.declared.directory.Directory.TheVariants.{Few, Many}
use Rattle.dv_check.specs.declared.table.Table.{Table}
use Rattle.dv_check.specs.Names.{among, first_of}

-- the first value of a number in a list of values by their numbers
unfoldable pub entry_for : {V : Type 0} → List (ℕ × V) → ℕ → Option V
entry_for {V} entries q = first_of (λ (e : ℕ × V). e.0) (λ (e : ℕ × V). e.1) entries q

-- the value at an index of a list in which values may be missing
unfoldable pub value_at : {V : Type 0} → List (Option V) → ℕ → Option V
value_at offsets index = option_flatten (slice_get offsets index)

-- the value that a table has for a number
unfoldable pub table_value : {V : Type 0} → Table V → ℕ → Option V
table_value t q = if nat_lt q t.limit then value_at t.low.items q else get nat_eq t.high q

-- the value that a directory has for a number
unfoldable pub value_for : {V : Type 0} → Directory V → ℕ → Option V
value_for (Few entries) q = entry_for entries.items q
value_for (Many table) q = table_value table.value q

-- whether a set has a number
unfoldable pub has : NumberSet → ℕ → Bool
has s q = is_some (value_for s.numbers q)

-- whether a set of names has a name with a number
unfoldable pub has_name : NameSet → ℕ → Bool
has_name (names.Few few) q = among few.items q
has_name (names.Many numbers) q = has numbers q

-- the empty table, and one with another value: the first of a number counts
unfoldable pub no_value : {V : Type 0} → ℕ → Option V
no_value q = None

unfoldable pub with_first : {V : Type 0} → (ℕ → Option V) → ℕ → V → ℕ → Option V
with_first f number value q = option_or (f q) (if number == q then Some value else None)
