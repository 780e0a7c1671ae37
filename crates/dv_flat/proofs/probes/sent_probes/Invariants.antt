use Rattle.std.proofs.Common.{◌≡◌, drop, length, map}
use Rattle.dv_syntax.specs.Trees.{file_of}
use Rattle.dv_tree.specs.Instances.{Instance, instances}
use Rattle.dv_flat.specs.Ends.{output_count}
use Rattle.dv_flat.specs.Probes.{sent_probes, with_probes}
use Rattle.dv_flat.proofs.probes.sent_probes.Given as goal

abbrev pub invariant-loop-probe : goal.invariant-loop-probe
invariant-loop-probe l = record {
  so_far : with_probes l.probe (drop l.probe l.sources) l.sent.items ≡ sent_probes (file_of l.tree.file) l.sources;
  ports : map length l.sent.items ≡ map (λ (i : Instance). output_count i.model) (instances (file_of l.tree.file));
}
