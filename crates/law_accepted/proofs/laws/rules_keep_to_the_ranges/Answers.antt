use Rattle.std.proofs.lemmas.Result.{IfOk-at_ok}
use Rattle.dv_eval.specs.Scope.{scope_of}
use Rattle.law_accepted.proofs.Effects.{Fits, effect_fits, phase_fits}
use Rattle.law_accepted.proofs.laws.rules_keep_to_the_ranges.Goals as goal

pub returns-clause-state : goal.returns-clause-state
returns-clause-state c = λ m body arrivals s e fit is.
    (IfOk-at_ok (Fits (scope_of m)) is (effect_fits (scope_of m) body arrivals s fit)).state

pub returns-clause-goto : goal.returns-clause-goto
returns-clause-goto c = λ m body arrivals s e fit is.
    (IfOk-at_ok (Fits (scope_of m)) is (effect_fits (scope_of m) body arrivals s fit)).goto

pub returns-clause-phase : goal.returns-clause-phase
returns-clause-phase c = λ m s index fit within. phase_fits (scope_of m) s index fit within
