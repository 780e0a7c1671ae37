-- What has to compute for the worked rows of the checks: an answer that unfolds this unfolds it all.
use Rattle.dv_check.specs.Names.{among, excess_past, first_of, no_number, with_number, within_limit}
use Rattle.dv_check.specs.LinkSets.{no_link, with_link}
use Rattle.dv_check.specs.Models.{faces_in}
use Rattle.dv_check.specs.Rules.{is_start_known}
use Rattle.dv_check.specs.Cycles.{containment, cycle_refusals, position_of}
use Rattle.dv_check.specs.Couplings.{parts_in}

unfoldable pub computing : Unit {0}
unfolding among excess_past within_limit no_number with_number first_of is_start_known no_link with_link faces_in parts_in
    containment cycle_refusals position_of
computing = tt
