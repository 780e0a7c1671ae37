-- The steps of a loop over inputs.
use Rattle.std.specs.Prelude.{List, [], ◌∷◌, slice_set}
use Rattle.dv_bag.specs.Bag.{Counts, bag_at, with_copies}
use Rattle.dv_bag.specs.declared.inputs.Input.{Input}

-- bags by port with one more value; it is dropped if there is no bag of its port
abbrev pub with_input : Input → List Counts → List Counts
with_input i bags = slice_set bags i.port (with_copies i.value 1 (bag_at bags i.port))

-- bags by port with the values of inputs, one after the other
abbrev pub with_inputs : List Input → List Counts → List Counts
with_inputs [] bags = bags
with_inputs (i ∷ inputs) bags = with_inputs inputs (with_input i bags)
