use Rattle.dv_agenda.proofs.Sets.{remove_gone, remove_others}
use Rattle.dv_agenda.proofs.bits.remove.Goals as goal

pub returns-clause-gone : goal.returns-clause-gone
returns-clause-gone c = remove_gone c.args.words.now c.args.number c.requires

pub returns-clause-others : goal.returns-clause-others
returns-clause-others c = λ p ne. remove_others c.args.words.now c.args.number p c.requires ne
