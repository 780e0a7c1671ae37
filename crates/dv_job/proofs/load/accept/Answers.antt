use Rattle.dv_syntax.specs.Trees.{file_of}
use Rattle.dv_job.proofs.Loading.{accepted, answered, crowded, still_checked}
use Rattle.dv_job.proofs.load.accept.Goals as goal

pub returns-in-Ok-clause-accepted : goal.returns-in-Ok-clause-accepted
returns-in-Ok-clause-accepted c =
    let same = c.in_ok-tree.ensures in
    accepted _ _ _ (still_checked file_of _ _ _ _ _ same.0 same.1 c.requires.checked) c.in-Ok.ensures.few

pub returns-clause-refused : goal.returns-clause-refused
returns-clause-refused c =
    let same = c.in_ok-tree.ensures in
    let checked = still_checked file_of _ _ _ _ _ same.0 same.1 c.requires.checked in
    rw c.unloaded.ensures (answered c.in-Err.error _ (crowded c.in-Err.error _ _ _ checked c.in-Err.ensures.refused))
