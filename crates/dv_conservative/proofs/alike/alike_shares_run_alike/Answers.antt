use Rattle.dv_conservative.proofs.SameRuns.{alike_itself, same_answer, same_components, same_packet, same_part, same_promise}
use Rattle.dv_conservative.proofs.SameRuns.{same_refusal, same_sent, same_turn, still_settled}
use Rattle.dv_conservative.proofs.alike.alike_shares_run_alike.Goals as goal

pub returns-clause-components : goal.returns-clause-components
returns-clause-components c = λ s t events n alike. same_components s t alike events n

pub returns-clause-part : goal.returns-clause-part
returns-clause-part c = λ s t events n alike. same_part s t alike events n

pub returns-clause-sent : goal.returns-clause-sent
returns-clause-sent c = λ s t events out n alike. same_sent s t alike events out n

pub returns-clause-packet : goal.returns-clause-packet
returns-clause-packet c = λ s t events out from upto alike. same_packet s t alike events out from upto

pub returns-clause-settled : goal.returns-clause-settled
returns-clause-settled c = λ s t received out upto alike settled. still_settled s t alike received out upto settled

pub returns-clause-promise : goal.returns-clause-promise
returns-clause-promise c = λ s t received k alike. same_promise s t alike received k

pub returns-clause-refusal : goal.returns-clause-refusal
returns-clause-refusal c = λ s t received p alike. same_refusal s t alike received p

pub returns-clause-itself : goal.returns-clause-itself
returns-clause-itself c = alike_itself

pub returns-clause-turn : goal.returns-clause-turn
returns-clause-turn c = λ s t received x y alike turn. same_turn s t alike received x y turn

pub returns-clause-answer : goal.returns-clause-answer
returns-clause-answer c = λ s t x y alike. same_answer s t alike x y
