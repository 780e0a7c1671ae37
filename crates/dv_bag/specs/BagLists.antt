-- Lists of bags, by port and by component; past the last there are no values.
use Rattle.std.specs.Prelude.{ℕ, List, [], slice_index_or}
use Rattle.dv_bag.specs.Bag.{Counts, IsBag, bag_at}

-- there is a bag at every port
abbrev pub AreBags : List Counts → Type 0
AreBags bags = (port : ℕ) → IsBag (bag_at bags port)

-- the same for every component
abbrev pub AllAreBags : List (List Counts) → Type 0
AllAreBags sent = (component : ℕ) → AreBags (slice_index_or sent component [])
