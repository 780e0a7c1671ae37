use Rattle.dv_plan.proofs.processes.begin_one.Goals as goal

pub returns-clause-begun : goal.returns-clause-begun
returns-clause-begun g c =
    let h = c.in_ok-process.ensures in
    record {
      valid = record { process = h.process; at_rest = h.settled };
      share = h.share;
      new = record {
        received = h.received;
        clock = h.clock;
        standing = h.standing;
        promised = h.promised;
        committed = h.process.run.committed;
        components = h.process.run.components;
      };
    }
