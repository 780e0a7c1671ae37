use Rattle.std.proofs.Common.{◌≡◌, ℕ, ◌^◌, ◌<◌, false, length, map, replicate, ap, subst, sym, ◌∙◌, rules}
use Rattle.dv_core.specs.Kept.{Kept, world_of}
use Rattle.dv_core.specs.Standing.{IsReached, StandsFor}
use Rattle.dv_proc.specs.Packets.{meant_packets}
use Rattle.dv_core.proofs.Making.{fresh_world, kept_new, reached_new, stands_new}
use Rattle.dv_core.proofs.state.WorldState.new.Goals as goal

pub returns-clause-fresh : goal.returns-clause-fresh
returns-clause-fresh g c =
    let job = g.J.PlannedJob.means c.args.job in
    let states = map g.P.LogicalProcess.state c.args.processes.items in
    let flags : c.in_ok-stopped.stopped.items ≡ replicate c.len.result false = search rules in
    let same = kept_new c.args.capacity states (length c.args.processes.items) (length c.args.channels.items) c.len.result c.len-2.result
    c.in_ok-stopped.stopped.items (map (λ q. meant_packets q.items) c.in_ok-queues.queues.items) flags
    (c.len.ensures ∙ c.args.processes.ok.0) c.in_ok-queues.ensures (c.len-2.ensures ∙ c.args.channels.ok.0) in
    ap (world_of job) same ∙ fresh_world c.args.job c.args.channels.items c.args.processes.items c.requires c.args.capacity

pub returns-clause-stands : goal.returns-clause-stands
returns-clause-stands g c =
    let job = g.J.PlannedJob.means c.args.job in
    let states = map g.P.LogicalProcess.state c.args.processes.items in
    let flags : c.in_ok-stopped.stopped.items ≡ replicate c.len.result false = search rules in
    let same = kept_new c.args.capacity states (length c.args.processes.items) (length c.args.channels.items) c.len.result c.len-2.result
    c.in_ok-stopped.stopped.items (map (λ q. meant_packets q.items) c.in_ok-queues.queues.items) flags
    (c.len.ensures ∙ c.args.processes.ok.0) c.in_ok-queues.ensures (c.len-2.ensures ∙ c.args.channels.ok.0) in
    record {
      valid = c.requires.valid;
      kept = subst (StandsFor job) (sym same) (stands_new c.args.job c.args.channels.items c.args.processes.items c.requires
          c.args.capacity);
      reached = subst (λ (k : Kept). IsReached job (world_of job k)) (sym same)
          (reached_new c.args.job c.args.channels.items c.args.processes.items c.requires c.args.capacity);
      channels = c.requires.links;
      few = (
        subst (λ (n : ℕ). n < 2 ^ 32) (sym c.args.processes.ok.0) c.requires.few.0,
        subst (λ (n : ℕ). n < 2 ^ 32) (sym c.args.channels.ok.0) c.requires.few.1,
      );
    }
