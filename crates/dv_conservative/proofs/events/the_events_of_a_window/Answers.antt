use Rattle.std.proofs.Common.{◌-◌}
use Rattle.dv_conservative.proofs.Windows.{after_window, before_window, window_has_copies, window_in_order, within_window}
use Rattle.dv_conservative.proofs.events.the_events_of_a_window.Goals as goal

pub returns-clause-order : goal.returns-clause-order
returns-clause-order c limit stream from upto = window_in_order limit stream from (upto - from)

pub returns-clause-copies : goal.returns-clause-copies
returns-clause-copies c limit stream from upto = window_has_copies limit stream from (upto - from)

pub returns-clause-within : goal.returns-clause-within
returns-clause-within c = within_window

pub returns-clause-before : goal.returns-clause-before
returns-clause-before c = before_window

pub returns-clause-after : goal.returns-clause-after
returns-clause-after c = after_window
