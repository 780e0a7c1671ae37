use Rattle.std.proofs.lemmas.Result.{IfOk-at_ok}
use Rattle.dv_eval.specs.Scope.{scope_of}
use Rattle.law_accepted.proofs.Sendings.{SendsBags, effect_sends_bags}
use Rattle.law_accepted.proofs.laws.rules_send_bags.Goals as goal

pub returns : goal.returns
returns c = λ m body arrivals s e is. IfOk-at_ok SendsBags is (effect_sends_bags (scope_of m) body arrivals s)
