use Rattle.dv_agenda.proofs.Sets.{insert_others, insert_there}
use Rattle.dv_agenda.proofs.bits.insert.Goals as goal

pub returns-clause-there : goal.returns-clause-there
returns-clause-there c = insert_there c.args.words.now c.args.number c.requires

pub returns-clause-others : goal.returns-clause-others
returns-clause-others c = λ p ne. insert_others c.args.words.now c.args.number p c.requires ne
