use Rattle.std.proofs.Common.{◌<◌, ◌+◌, ◌++◌, ◌∙◌, length, map, ap, arith}
use Rattle.dv_react.specs.Components.{rank_of}
use Rattle.dv_syntax.specs.Trees.{atomic_of, file_of}
use Rattle.dv_tree.specs.Instances.{instances}
use Rattle.dv_react.specs.Outcomes.{fault_of, sent_of}
use Rattle.dv_plain.proofs.Steps.{one_more, outputs_from, outputs_from-step, wait-at}
use Rattle.dv_plain.proofs.network.emit_all.Goals as goal

pub emit-requires-clause-wait : goal.emit-requires-clause-wait
emit-requires-clause-wait c =
    wait-at c.args.instant.now.limit c.args.components.now c.loop-k.k c.index-components-k.result
    (omega arith) c.index-components-k.is c.requires.waits

pub loop-k-preserved : goal.loop-k-preserved
loop-k-preserved c =
    let is = instances (file_of c.args.tree.now.file) in
    let limit = c.args.instant.now.limit in
    let now = rank_of c.args.instant.now in
    let rs = c.args.components.now in
    let k = c.loop-k.k in
    let within : k < length rs = omega arith in
    let step =
    outputs_from-step limit is now rs k
    (atomic_of c.of.result.model.now) c.index-components-k.result c.in_ok-output.output c.of.ensures within
    c.index-components-k.is c.in_ok-output.ensures in
    let rest = outputs_from limit is now rs (k + 1) in
    record {
      sent =
          ap (λ xs. xs ++ map sent_of rest) c.in_ok-push.ensures.sent
          ∙ one_more sent_of c.loop-k.emitted.sent.items (map sent_of (outputs_from limit is now rs 0))
          (outputs_from limit is now rs k) rest c.in_ok-output.output step c.loop-k.invariant.sent;
      faults =
          ap (λ xs. xs ++ map fault_of rest) c.in_ok-push.ensures.faults
          ∙ one_more fault_of c.loop-k.emitted.faults.items (map fault_of (outputs_from limit is now rs 0))
          (outputs_from limit is now rs k) rest c.in_ok-output.output step c.loop-k.invariant.faults;
    }
