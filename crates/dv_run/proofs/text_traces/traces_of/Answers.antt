use Rattle.std.proofs.Common.{ℕ, ◌<◌, subst}
use Rattle.dv_partition.specs.Groups.{owner_of}
use Rattle.dv_syntax.specs.Trees.{file_of}
use Rattle.dv_run.proofs.Merging.{Leaves, merges}
use Rattle.dv_run.proofs.text_traces.traces_of.Goals as goal

pub returns-clause-laws : goal.returns-clause-laws
returns-clause-laws c =
    let j = c.args.job.now in
    let f = file_of j.tree.now.file in
    record {
      parts = c.parts_of_the_flat_model_are_those_of_the_text.ensures.part;
      all = c.parts_are_of_the_trace.ensures.all;
      lines = c.a_trace_is_its_instants.ensures.lines;
      flat = c.what_leaves_a_flat_model_is_linear.ensures.ready j.limit f;
      ready = c.networks_of_texts.ensures.ready j.limit f;
    }

pub returns-clause-merges : goal.returns-clause-merges
returns-clause-merges c =
    let j = c.args.job.now in
    let f = file_of j.tree.now.file in
    let leaves : Leaves f j.limit = record {
      ready = c.what_leaves_a_flat_model_is_linear.ensures.ready j.limit f;
      rise = c.what_leaves_a_flat_model_is_linear.ensures.numbers j.limit f;
      outputs = c.what_leaves_a_flat_model_is_linear.ensures.outputs j.limit f;
      linear = c.what_leaves_a_flat_model_is_linear.ensures.linear j.limit f;
      bags = λ inputs n. c.what_leaves_a_flat_model_is_linear.ensures.bags f inputs j.limit n;
    } in
    let owned : (k : ℕ) → owner_of j.groups.now k < j.groups.now.processes =
    λ k. subst (λ (n : ℕ). owner_of j.groups.now k < n) c.processes-processes.ensures.exact (c.processes-processes.ensures.owned k) in
    merges j c.requires.writable c.requires.accepted leaves owned
