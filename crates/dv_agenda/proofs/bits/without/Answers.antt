use Rattle.dv_agenda.proofs.Sets.{without_gone, without_less, without_others}
use Rattle.dv_agenda.proofs.bits.without.Goals as goal

pub returns-clause-gone : goal.returns-clause-gone
returns-clause-gone c = without_gone c.args.word c.args.number c.requires

pub returns-clause-others : goal.returns-clause-others
returns-clause-others c = λ p lt ne. without_others c.args.word c.args.number p c.requires lt ne

pub returns-clause-less : goal.returns-clause-less
returns-clause-less c = λ one. without_less c.args.word c.args.number c.requires one
