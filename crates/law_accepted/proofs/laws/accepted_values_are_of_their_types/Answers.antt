use Rattle.std.specs.Prelude.{[]}
use Rattle.std.proofs.lemmas.Result.{IfOk-at_ok}
use Rattle.law_accepted.proofs.Typed.{OfType, index_typed, value_typed}
use Rattle.law_accepted.proofs.laws.accepted_values_are_of_their_types.Goals as goal

pub returns-clause-typed : goal.returns-clause-typed
returns-clause-typed c = index_typed

pub returns-clause-value : goal.returns-clause-value
returns-clause-value c = λ m rule arrivals s e t v fit typed is.
    IfOk-at_ok (OfType t) is (value_typed m rule arrivals [] s fit e t typed)

pub returns-clause-in_loops : goal.returns-clause-in_loops
returns-clause-in_loops c = λ m rule arrivals bound s e t v fit typed is.
    IfOk-at_ok (OfType t) is (value_typed m rule arrivals bound s fit e t typed)
