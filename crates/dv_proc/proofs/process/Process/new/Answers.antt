use Rattle.std.proofs.Common.{ℕ, List, map, subst, sym, ◌∙◌}
use Rattle.dv_conservative.specs.Process.{Outgoing as OutgoingAsMeant}
use Rattle.dv_proc.specs.Arriving.{AreApart, AreNewIncoming}
use Rattle.dv_proc.specs.Leaving.{AreNewOutgoing}
use Rattle.dv_proc.proofs.Beginning.{none_promised, none_received, none_stand, process_begun}
use Rattle.dv_proc.proofs.process.Process.new.Goals as goal

pub returns-clause-process : goal.returns-clause-process
returns-clause-process g c =
    process_begun c.requires.sound.0 (g.L.Local.view c.args.local) c.in_ok-incoming.incoming.items c.in_ok-outgoing.outgoing.items
    c.requires.begun
    c.requires.sound.1
    (subst (λ (ns : List ℕ). AreNewIncoming ns c.in_ok-incoming.incoming.items) (sym c.requires.linked) c.in_ok-incoming.ensures)
    (subst (λ (ns : List ℕ). AreNewOutgoing ns c.in_ok-outgoing.outgoing.items) (sym c.requires.away) c.in_ok-outgoing.ensures)
    (subst AreApart (sym c.requires.linked) c.requires.apart_in) (subst AreApart (sym c.requires.away) c.requires.apart_out)

pub returns-clause-received : goal.returns-clause-received
returns-clause-received g c = none_received c.args.incoming.now c.in_ok-incoming.incoming.items c.in_ok-incoming.ensures

pub returns-clause-standing : goal.returns-clause-standing
returns-clause-standing g c = none_stand c.args.outgoing.now c.in_ok-outgoing.outgoing.items c.in_ok-outgoing.ensures

pub returns-clause-promised : goal.returns-clause-promised
returns-clause-promised g c = none_promised c.args.outgoing.now c.in_ok-outgoing.outgoing.items c.in_ok-outgoing.ensures
