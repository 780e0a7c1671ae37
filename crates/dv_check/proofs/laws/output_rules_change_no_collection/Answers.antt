use Rattle.std.proofs.Common.{refl}
use Rattle.dv_check.proofs.Computing.{atomic_rows}
use Rattle.dv_check.proofs.laws.output_rules_change_no_collection.Goals as goal

pub returns-clause-added : goal.returns-clause-added
unfolding atomic_rows
returns-clause-added c = refl

pub returns-clause-added_outside : goal.returns-clause-added_outside
unfolding atomic_rows
returns-clause-added_outside c = refl

pub returns-clause-dropped_outside : goal.returns-clause-dropped_outside
unfolding atomic_rows
returns-clause-dropped_outside c = refl

pub returns-clause-popped_outside : goal.returns-clause-popped_outside
unfolding atomic_rows
returns-clause-popped_outside c = refl

pub returns-clause-pushed_outside : goal.returns-clause-pushed_outside
unfolding atomic_rows
returns-clause-pushed_outside c = refl
