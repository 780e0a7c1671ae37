use Rattle.std.proofs.Common.{[], get_or, length, map, ap, arith, ◌∙◌}
use Rattle.std.proofs.lemmas.Int.{ints}
use Rattle.std.proofs.lemmas.List.{get_or_default}
use Rattle.dv_syntax.specs.Trees.{file_of}
use Rattle.dv_tree.specs.Instances.{instances}
use Rattle.dv_flat.specs.Ends.{port_at}
use Rattle.dv_flat.specs.Probes.{with_probes}
use Rattle.dv_flat.proofs.ProbeCounts.{component_within, port_there, probe_lengths, probe_sent, silence_lengths}
use Rattle.dv_flat.proofs.probes.sent_probes.Goals as goal

pub loop-probe-init : goal.loop-probe-init
loop-probe-init c = record {
  so_far = ap (with_probes 0 c.args.sources.now) c.in_ok-sent.ensures;
  ports = ap (map length) c.in_ok-sent.ensures ∙ silence_lengths (instances (file_of c.args.tree.now.file));
}

pub index_mut-values-requires : goal.index_mut-values-requires
index_mut-values-requires c =
    let at = c.loop-probe in
    let there = c.requires.outputs at.probe (port_at 0 0) c.loop-probe-test.true in
    let long = port_there at.sent.items _ _ at.invariant.ports there in
    omega (arith, component_within at.sent.items _ _ long)

pub loop-probe-preserved : goal.loop-probe-preserved
loop-probe-preserved c =
    let at = c.loop-probe in
    let sources = c.args.sources.now in
    let from = get_or sources at.probe (port_at 0 0) in
    let values = c.index_mut-values.result.now in
    let there = c.requires.outputs at.probe (port_at 0 0) c.loop-probe-test.true in
    let long = component_within at.sent.items from.component _ (port_there at.sent.items _ from at.invariant.ports there) in
    let old = c.index_mut-values.ensures.value ∙ get_or_default at.sent.items from.component values [] long in
    record {
      so_far =
          probe_sent sources at.probe (port_at 0 0) at.sent.items values c.insert.new.self _ c.loop-probe-test.true
          (omega (arith, ints)) old c.in_ok-insert.ensures.ok ∙ at.invariant.so_far;
      ports =
          probe_lengths sources at.probe (port_at 0 0) at.sent.items values c.insert.new.self _ c.loop-probe-test.true
          (omega (arith, ints)) old c.in_ok-insert.ensures.ok ∙ at.invariant.ports;
    }
