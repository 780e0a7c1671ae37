use Rattle.std.proofs.Common.{◌∷◌, [], map, sym, ap, subst, ◌∙◌}
use Rattle.std.specs.List.{AllByRecursion}
use Rattle.dv_local.specs.Shares.{share_by}
use Rattle.dv_local.specs.States.{settled_by, view_by}
use Rattle.dv_plan.specs.Beginning.{AllBegun, CanBegin}
use Rattle.dv_plan.proofs.Beginning.{made_for}
use Rattle.dv_plan.proofs.alone.world_alone.Goals as goal

pub begin-requires : goal.begin-requires
begin-requires g c =
    let all = subst (AllByRecursion (CanBegin g.A.Atomic.behaviour g.A.Atomic.fits)) c.only.ensures c.requires.run.begin in
    let can = all.0 in
    record {
      few = can.few;
      comes = c.requires.comes;
      share = can.share;
      later = can.later;
      sound = can.sound;
      apart_in = can.apart_in;
      apart_out = can.apart_out;
      told = c.requires.told;
      at_rest = c.requires.at_rest;
    }

pub world_of_one-requires : goal.world_of_one-requires
world_of_one-requires g c =
    let view = view_by g.A.Atomic.behaviour g.R.Record.told in
    let settled = settled_by g.A.Atomic.behaviour g.R.Record.settled in
    let h = c.in_ok-process.ensures in
    let processes = c.in_ok-process.process ∷ [] in
    made_for view settled c.args.job c.args.plan c.requires.run processes
    (subst (λ shares. AllBegun view settled (map (share_by g.A.Atomic.behaviour) shares) processes) (sym c.only.ensures) (
      record {
        valid = record { process = h.process; at_rest = h.settled };
        share = h.share;
        new = record {
          received = h.received;
          clock = h.clock;
          standing = h.standing;
          promised = h.promised;
          committed = h.process.run.committed;
          components = h.process.run.components;
        };
      },
      tt,
    ))

pub returns-clause-handed : goal.returns-clause-handed
returns-clause-handed g c =
    ap (λ ps. map (λ p. g.R.Record.handed p.local.record) ps) c.in_ok-world.ensures.processes
    ∙ ap (λ h. h ∷ []) c.in_ok-process.ensures.handed
