-- The conservative process as a process of a world.
use Rattle.std.specs.Prelude.{◌≡◌}
use Rattle.dv_proc.specs.Arriving.{received_by}
use Rattle.dv_proc.specs.Leaving.{position_by}
use Rattle.dv_proc.specs.Local.{View}
use Rattle.dv_proc.specs.Standing.{IsProcess}
use Rattle.dv_proc.specs.declared.process.Process.{Process}
use Rattle.dv_core.specs.ProcessState.{ProcessState}

-- what it is to the world
abbrev pub state_by : {L W R : Type 0} → (L → View) → Process L W R → ProcessState
state_by view p = record {
  share = (view p.local).share;
  components = (view p.local).components;
  received = received_by p.incoming.items;
  position = position_by p.clock p.outgoing.items;
  part = (view p.local).committed;
}

-- its components, its links and its clock agree, and nothing that was done to its components is still to be settled
pub record IsConservative {L W R : Type 0} (view settled : L → View) (p : Process L W R) : Type 0 where
  pub process : IsProcess (view p.local) p.incoming.items p.outgoing.items p.clock
  pub at_rest : settled p.local ≡ view p.local
