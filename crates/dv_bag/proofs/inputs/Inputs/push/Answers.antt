use Rattle.dv_bag.proofs.InputLists.{by_time_push}
use Rattle.dv_bag.proofs.inputs.Inputs.push.Goals as goal

pub invariant_of-self-2 : goal.invariant_of-self-2
invariant_of-self-2 c =
    let last = rw (← c.self.view_is) at c.requires.not_before in
    by_time_push c.self.inside.inputs.items c.push.new.self.items c.args.input c.self.invariant last c.requires.within
    c.in_ok-push.ensures.items
