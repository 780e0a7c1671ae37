use Rattle.law_sound.proofs.Rules.{effect_kept, effect_sends}
use Rattle.law_sound.proofs.numbers.rules_keep_numbers.Goals as goal

pub returns-clause-state : goal.returns-clause-state
returns-clause-state c = effect_kept

pub returns-clause-sent : goal.returns-clause-sent
returns-clause-sent c = effect_sends
