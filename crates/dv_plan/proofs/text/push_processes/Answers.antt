use Rattle.std.proofs.Common.{◌∙◌, ℕ, ◌++◌, ◌<◌, List, ap, map, string_bytes, subst}
use Rattle.std.specs.Prelude.{Option}
use Rattle.dv_partition.specs.Groups.{members_of}
use Rattle.dv_bag.specs.Responses.{ticks_of}
use Rattle.dv_plan.specs.Texts.{process_text}
use Rattle.dv_plan.proofs.Texts.{here, next_process, with_value}
use Rattle.dv_plan.proofs.text.push_processes.Goals as goal

pub loop-process-preserved : goal.loop-process-preserved
loop-process-preserved g c =
    let names = g.N.Names.names c.args.names.now in
    let p = c.loop-process.process in
    let within = subst (λ (n : ℕ). p < n) c.processes-process-end.ensures.exact c.loop-process-test.true in
    with_value _ _ _ _ _ c.in_ok-push_front.ensures
    (here _ _ _ (here _ _ _ c.in_ok-push_process.ensures
    (ap (λ (members : List ℕ). process_text names members c.known-ticks.result) c.members.ensures))
    (ap (λ (response : Option ℕ). process_text names (members_of c.args.groups.now p) response) c.known-ticks.ensures))
    (ap (λ rest. string_bytes c.loop-process.text ++ rest)
    (next_process names c.args.groups.now (map ticks_of c.args.responses.now) p c.args.groups.now.processes within)
    ∙ c.loop-process.invariant)
