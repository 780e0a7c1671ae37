use Rattle.std.proofs.Common.{subst}
use Rattle.std.specs.Prelude.{OnOk}
use Rattle.dv_time.specs.Time.{rank}
use Rattle.dv_proc.specs.Accesses.{CountsInstant}
use Rattle.dv_local.specs.States.{view_by}
use Rattle.dv_local.specs.declared.state.LocalState.{LocalState}
use Rattle.dv_local.proofs.local_run.LocalRunLocal.react.Goals as goal

pub returns-clause-visits : goal.returns-clause-visits
returns-clause-visits g c =
    let b = g.A.Atomic.behaviour in
    let told = g.R.Record.told in
    subst (λ (y : LocalState _ _).
    OnOk c.react_components.result
    (CountsInstant (rank y.share.tables.limit c.args.now) (view_by b told y) y.components.visits
    c.react_components.new.self.components.visits))
    c.self.view_is c.react_components.ensures.visits
