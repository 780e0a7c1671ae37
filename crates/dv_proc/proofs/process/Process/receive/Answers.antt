use Rattle.std.proofs.Common.{List, ap, subst, sym, ◌∙◌}
use Rattle.dv_conservative.specs.Sound.{AllNumbers}
use Rattle.dv_proc.specs.Local.{IsAfterEvents, View, are_for_ports}
use Rattle.dv_proc.specs.declared.packet.Event.{Event}
use Rattle.dv_proc.specs.Packets.{meant_events, meant_packet}
use Rattle.dv_proc.specs.Standing.{IsProcess}
use Rattle.dv_proc.proofs.Receiving.{process_with, received_now}
use Rattle.dv_proc.proofs.process.Process.receive.Goals as goal

pub returns-in_default-clause-process : goal.returns-in_default-clause-process
returns-in_default-clause-process g c =
    subst (λ (v : View). IsProcess v c.args.self.now.incoming.items c.args.self.now.outgoing.items c.args.self.now.clock)
    (sym c.in_default.ensures.err) c.requires.process

pub returns-clause-process : goal.returns-clause-process
returns-clause-process g c =
    process_with (g.L.Local.view c.args.self.now.local) (g.L.Local.view c.keep.new.self) c.args.self.now.incoming.items
    c.args.self.now.outgoing.items c.args.self.now.clock c.requires.process
    c.in-Ok.index c.index_mut.result.now c.take.new.self (meant_packet c.args.packet) c.in-Ok.ensures.at c.index_mut.ensures.value
    c.take.ensures.number c.take.ensures.received c.take.ensures.clock c.in-Ok.ensures.of_run c.in-Ok.ensures.fine
    (subst (λ (es : List Event). AllNumbers (meant_events es)) c.as_slice.ensures.value c.of_numbers.ensures)
    (subst (λ (es : List Event). IsAfterEvents (meant_events es) (g.L.Local.view c.args.self.now.local)
    (g.L.Local.view c.keep.new.self)) c.as_slice-2.ensures.value c.in-Ok-keep.ensures.kept)

pub returns-clause-taken : goal.returns-clause-taken
returns-clause-taken g c =
    received_now (g.L.Local.view c.args.self.now.local).share c.args.self.now.incoming.items c.args.self.now.outgoing.items
    c.args.self.now.clock c.requires.process.standing
    c.in-Ok.index c.index_mut.result.now c.take.new.self (meant_packet c.args.packet) c.in-Ok.ensures.at c.index_mut.ensures.value
    c.take.ensures.number c.take.ensures.received c.take.ensures.clock c.in-Ok.ensures.of_run c.in-Ok.ensures.fine
    (subst (λ (es : List Event). AllNumbers (meant_events es)) c.as_slice.ensures.value c.of_numbers.ensures)

pub keep-requires-clause-ports : goal.keep-requires-clause-ports
keep-requires-clause-ports g c =
    ap (λ (es : List Event). are_for_ports (g.L.Local.view c.args.self.now.local).share (meant_events es)) c.as_slice-2.ensures.value
    ∙ c.in-Ok.ensures.ports
