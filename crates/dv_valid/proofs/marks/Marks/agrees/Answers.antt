use Rattle.dv_valid.proofs.marks.Marks.agrees.Goals as goal

pub returns-in-Combine : goal.returns-in-Combine
returns-in-Combine c = rw c.in-Combine.is (c.combine_agrees.ensures c.args.shape.now)

pub returns-in-Jump : goal.returns-in-Jump
returns-in-Jump c = rw c.in-Jump.is (c.jump_agrees.ensures c.args.shape.now)

pub returns-in-JumpFalse : goal.returns-in-JumpFalse
returns-in-JumpFalse c = rw c.in-JumpFalse.is (c.jump_false_agrees.ensures c.args.shape.now)

pub returns-in-FalseKeep : goal.returns-in-FalseKeep
returns-in-FalseKeep c = rw c.in-FalseKeep.is (c.keep_agrees.ensures.false_keep c.args.shape.now)

pub returns-in-TrueKeep : goal.returns-in-TrueKeep
returns-in-TrueKeep c = rw c.in-TrueKeep.is (c.keep_agrees-in-TrueKeep.ensures.true_keep c.args.shape.now)

pub returns-in-Next : goal.returns-in-Next
returns-in-Next c = rw c.in-Next.is (c.next_agrees.ensures c.args.shape.now)
