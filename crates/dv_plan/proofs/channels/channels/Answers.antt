use Rattle.std.proofs.Common.{◌∙◌, ◌+◌, ◌-◌, ◌++◌, ap, append_assoc, map, sym}
use Rattle.dv_proc.specs.Channels.{meant_channel}
use Rattle.dv_plan.specs.Keys.{all_sent, sends, sent_by}
use Rattle.dv_plan.proofs.Sent.{one_source}
use Rattle.dv_plan.proofs.channels.channels.Goals as goal

pub loop-source-preserved : goal.loop-source-preserved
loop-source-preserved c =
    let n = c.args.processes in
    let p = c.loop-source.source in
    let s = sends n (map (λ list. list.items) c.args.pairs.now) in
    let old = map meant_channel c.loop-source.found.items in
    let rest = all_sent s n (p + 1) (n - (p + 1)) in
    ap (λ xs. xs ++ rest) c.in_ok-add_channels.ensures
    ∙ append_assoc old (sent_by s p 0 n) rest
    ∙ ap (λ r. old ++ r) (sym (one_source s p n c.loop-source-test.true))
    ∙ c.loop-source.invariant
