use Rattle.dv_bag.proofs.InputLists.{bags_from_length, copies_at}
use Rattle.dv_bag.proofs.inputs.laws.equal_inputs_are_copies.Goals as goal

pub returns-clause-ports : goal.returns-clause-ports
returns-clause-ports c = λ ports t inputs. bags_from_length 0 ports inputs t

pub returns-clause-copies : goal.returns-clause-copies
returns-clause-copies c = λ ports port t value inputs lt. copies_at ports t port value inputs lt
