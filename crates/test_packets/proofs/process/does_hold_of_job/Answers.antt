use Rattle.std.proofs.Common.{◌<◌, ℕ, subst, sym}
use Rattle.dv_partition.specs.Groups.{owner_of}
use Rattle.dv_run.proofs.Shares.{can_begin}
use Rattle.law_sound.specs.Jobs.{AllInputNumbers}
use Rattle.dv_syntax.specs.Trees.{file_of}
use Rattle.test_packets.proofs.process.does_hold_of_job.Goals as goal

pub components_of-requires : goal.components_of-requires
components_of-requires c = record {
  compilable =
      c.accepted_files_are_compilable.ensures (file_of c.args.job.now.tree.now.file) c.requires.writable
      c.requires.accepted;
}

pub last_process-requires : goal.last_process-requires
last_process-requires c =
    let j = c.args.job.now in
    let laws = c.processes_of_texts_start_sound.ensures in
    let owned : (k : ℕ) → owner_of j.groups.now k < j.groups.now.processes =
    λ k. subst (λ (n : ℕ). owner_of j.groups.now k < n) c.processes-processes.ensures.exact (c.processes-processes.ensures.owned k) in
    let none = subst AllInputNumbers (sym c.requires.inputs) tt in
    record {
      begin = λ p s at empty.
          can_begin (file_of j.tree.now.file) j.inputs.now j.horizon j.limit j.groups.now.processes (owner_of j.groups.now)
          c.requires.writable c.requires.accepted none owned laws.sound laws.begun laws.apart_in laws.apart_out
          p s (c.in_ok-plan.ensures.shares p s at) (subst AllInputNumbers (sym empty) tt);
    }
