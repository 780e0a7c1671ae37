use Rattle.std.proofs.Common.{ap, arith, length}
use Rattle.std.specs.Prelude.{string_bytes}
use Rattle.dv_syntax.specs.Trees.{file_of}
use Rattle.dv_job.proofs.Loading.{few_paths}
use Rattle.dv_job.proofs.load.load_groups.Goals as goal

pub partition-requires : goal.partition-requires
partition-requires c =
    let f = file_of c.args.tree.now.file in
    let few = few_paths string_bytes c.in_ok-paths-in-Json.paths.items _ f (c.checked_files.ensures f c.requires.checked)
    c.in_ok-paths-in-Json.ensures in
    record { fit = omega (arith, few, ap length c.deref.ensures.value) }
