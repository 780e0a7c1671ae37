-- What has to compute for the worked rows of the checks: an answer that unfolds one of these unfolds what it unfolds.
use Rattle.dv_check.specs.Names.{among, excess_past, first_of, no_number, with_number, within_limit}
use Rattle.dv_check.specs.Models.{faces_in}
use Rattle.dv_check.specs.Rules.{is_start_known}
use Rattle.dv_check.specs.Couplings.{parts_in}
use Rattle.dv_check.specs.LinkSets.{no_link, with_link}
use Rattle.dv_check.specs.Cycles.{containment, cycle_refusals, position_of}

-- the refusals of an atomic model
unfoldable pub atomic_rows : Unit {0}
unfolding among excess_past no_number with_number within_limit first_of is_start_known
atomic_rows = tt

-- those of the links of a coupled model
unfoldable pub link_rows : Unit {0}
unfolding excess_past no_number with_number first_of faces_in parts_in no_link with_link
link_rows = tt

-- those of models that contain themselves
unfoldable pub cycle_rows : Unit {0}
unfolding no_number with_number containment cycle_refusals position_of
cycle_rows = tt
