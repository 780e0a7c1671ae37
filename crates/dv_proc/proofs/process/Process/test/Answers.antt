use Rattle.std.proofs.Common.{List, ap, ◌∙◌}
use Rattle.dv_conservative.specs.Process.{are_in_order}
use Rattle.dv_proc.specs.Packets.{meant_events, meant_packet}
use Rattle.dv_proc.specs.declared.packet.Event.{Event}
use Rattle.dv_proc.proofs.Receiving.{found_fine, found_none, found_of_run, found_other, found_outside, found_unordered}
use Rattle.dv_proc.proofs.process.Process.test.Goals as goal

pub returns-then-not-is_same : goal.returns-then-not-is_same
returns-then-not-is_same g c =
    found_other (g.L.Local.view c.args.self.now.local).share c.args.self.now.incoming.items c.as_slice.result.now
    c.args.self.now.outgoing.items
    c.args.self.now.clock c.requires (meant_packet c.args.packet.now) c.in-Some.index c.index.result.now c.as_slice.ensures.value
    c.in-Some.ensures
    c.index.ensures c.frame-frame.result.limit c.frame-frame.result.horizon c.frame-frame.ensures.limit c.frame-frame.ensures.horizon
    c.is_same.result
    c.is_same.ensures c.if-not-is_same.true

pub is_window-requires : goal.is_window-requires
is_window-requires g c =
    found_of_run (g.L.Local.view c.args.self.now.local).share c.args.self.now.incoming.items c.as_slice.result.now
    c.args.self.now.outgoing.items
    c.args.self.now.clock c.requires (meant_packet c.args.packet.now) c.in-Some.index c.index.result.now c.as_slice.ensures.value
    c.in-Some.ensures
    c.index.ensures c.frame-frame.result.limit c.frame-frame.result.horizon c.frame-frame.ensures.limit c.frame-frame.ensures.horizon
    c.is_same.result
    c.is_same.ensures c.if-not-is_same.false

pub returns-then-not-is_window : goal.returns-then-not-is_window
returns-then-not-is_window g c =
    found_none (g.L.Local.view c.args.self.now.local).share c.args.self.now.incoming.items c.as_slice.result.now
    c.args.self.now.outgoing.items
    c.args.self.now.clock c.requires (meant_packet c.args.packet.now) c.in-Some.index c.index.result.now c.as_slice.ensures.value
    c.in-Some.ensures
    c.index.ensures c.frame-frame.result.limit c.frame-frame.result.horizon c.frame-frame.ensures.limit c.frame-frame.ensures.horizon
    c.is_same.result
    c.is_same.ensures c.if-not-is_same.false c.is_window.result c.is_window.ensures c.if-not-is_window.true

pub returns-then-not-are_in_order : goal.returns-then-not-are_in_order
returns-then-not-are_in_order g c =
    found_unordered (g.L.Local.view c.args.self.now.local).share c.args.self.now.incoming.items c.as_slice.result.now
    c.args.self.now.outgoing.items
    c.args.self.now.clock c.requires (meant_packet c.args.packet.now) c.in-Some.index c.index.result.now c.as_slice.ensures.value
    c.in-Some.ensures
    c.index.ensures c.frame-frame.result.limit c.frame-frame.result.horizon c.frame-frame.ensures.limit c.frame-frame.ensures.horizon
    c.is_same.result
    c.is_same.ensures c.if-not-is_same.false c.is_window.result c.is_window.ensures c.if-not-is_window.false
    c.are_in_order.result (c.are_in_order.ensures ∙ ap (λ (es : List Event). are_in_order (meant_events es)) c.as_slice-2.ensures.value)
    c.if-not-are_in_order.true

pub are_of_window-requires-clause-from : goal.are_of_window-requires-clause-from
are_of_window-requires-clause-from g c =
    found_of_run (g.L.Local.view c.args.self.now.local).share c.args.self.now.incoming.items c.as_slice.result.now
    c.args.self.now.outgoing.items
    c.args.self.now.clock c.requires (meant_packet c.args.packet.now) c.in-Some.index c.index.result.now c.as_slice.ensures.value
    c.in-Some.ensures
    c.index.ensures c.frame-frame.result.limit c.frame-frame.result.horizon c.frame-frame.ensures.limit c.frame-frame.ensures.horizon
    c.is_same.result
    c.is_same.ensures c.if-not-is_same.false

pub returns-then-not-are_of_window : goal.returns-then-not-are_of_window
returns-then-not-are_of_window g c =
    found_outside (g.L.Local.view c.args.self.now.local).share c.args.self.now.incoming.items c.as_slice.result.now
    c.args.self.now.outgoing.items
    c.args.self.now.clock c.requires (meant_packet c.args.packet.now) c.in-Some.index c.index.result.now c.as_slice.ensures.value
    c.in-Some.ensures
    c.index.ensures c.frame-frame.result.limit c.frame-frame.result.horizon c.frame-frame.ensures.limit c.frame-frame.ensures.horizon
    c.is_same.result
    c.is_same.ensures c.if-not-is_same.false c.is_window.result c.is_window.ensures c.if-not-is_window.false
    c.are_in_order.result (c.are_in_order.ensures ∙ ap (λ (es : List Event). are_in_order (meant_events es)) c.as_slice-2.ensures.value)
    c.if-not-are_in_order.false c.are_of_window.result c.are_of_window.ensures c.if-not-are_of_window.true

pub returns : goal.returns
returns g c =
    found_fine (g.L.Local.view c.args.self.now.local).share c.args.self.now.incoming.items c.as_slice.result.now
    c.args.self.now.outgoing.items
    c.args.self.now.clock c.requires (meant_packet c.args.packet.now) c.in-Some.index c.index.result.now c.as_slice.ensures.value
    c.in-Some.ensures
    c.index.ensures c.frame-frame.result.limit c.frame-frame.result.horizon c.frame-frame.ensures.limit c.frame-frame.ensures.horizon
    c.is_same.result
    c.is_same.ensures c.if-not-is_same.false c.is_window.result c.is_window.ensures c.if-not-is_window.false
    c.are_in_order.result (c.are_in_order.ensures ∙ ap (λ (es : List Event). are_in_order (meant_events es)) c.as_slice-2.ensures.value)
    c.if-not-are_in_order.false c.are_of_window.result c.are_of_window.ensures c.if-not-are_of_window.false
