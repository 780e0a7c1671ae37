use Rattle.std.proofs.Common.{◌≡◌, ◌-◌, take, subst}
use Rattle.dv_cycles.proofs.Lists.{pass_lists}
use Rattle.dv_cycles.proofs.search.Search.pass.Goals as goal

pub returns-clause-search : goal.returns-clause-search
returns-clause-search c = λ graph h.
    let s = c.args.self.now in
    let less = c.pop.new.self.items in
    let rest = subst (λ n. less ≡ take (n - 1) s.pending.items) s.pending.ok.0 c.pop.ensures.rest in
    record {
      marked = h.marked;
      counted = h.counted;
      state = pass_lists graph s h.state less c.requires.edge c.requires.held rest;
    }
