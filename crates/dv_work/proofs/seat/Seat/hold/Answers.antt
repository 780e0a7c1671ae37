use Rattle.std.proofs.Common.{◌≡◌, List, [], ◌∷◌, ◌++◌, append-nil, length, refl, sym, ap, ◌∙◌}
use Rattle.std.proofs.lemmas.Option.{slice_get_read}
use Rattle.dv_conservative.specs.Process.{Packet}
use Rattle.dv_proc.specs.Packets.{meant_packet, meant_packets}
use Rattle.dv_link.specs.Ends.{sender}
use Rattle.dv_work.specs.Ends.{packets_held}
use Rattle.dv_core.proofs.Lookups.{set_other}
use Rattle.dv_work.proofs.Keeping.{kept_where_free, none_new}
use Rattle.dv_work.proofs.Sitting.{sent_sits}
use Rattle.dv_work.proofs.seat.Seat.hold.Goals as goal

pub returns-clause-sits : goal.returns-clause-sits
returns-clause-sits g c =
    let s = c.args.self.now in
    let sits = c.requires.sits in
    let xs = s.outs.items in
    let o = c.index_mut-end.result.now in
    let read = slice_get_read xs (length xs) c.args.index o refl c.requires.index c.index_mut-end.ensures.value in
    let end = sits.outs.ends c.args.index o read in
    let put = meant_packets (sender o.pass).put in
    let packet = meant_packet c.sent.result in
    let before : (put ++ packets_held o.held) ++ packet ∷ [] ≡ put ++ packet ∷ []
    = ap (λ h. (put ++ packets_held h) ++ packet ∷ []) c.in-None.is ∙ ap (λ (l : List Packet). l ++ packet ∷ []) (append-nil put) in
    sent_sits g.N.OfJob.job g.P.LogicalProcess.state g.P.LogicalProcess.handed g.P.LogicalProcess.valid c.args.floor.now.links.now s sits
    c.args.index o _ read refl
    (record { at = end.at; is_at = end.is_at; pass_of = end.pass_of; link_is = end.link_is })
    c.sent.new.self packet c.sent.ensures.sent c.sent.ensures.packet (sym before) c.sent.ensures.valid c.sent.ensures.handed
    _ refl

pub returns-clause-others : goal.returns-clause-others
returns-clause-others g c = λ i other.
    set_other c.args.self.now.outs.items c.args.index i _ other

pub returns-clause-standing : goal.returns-clause-standing
returns-clause-standing g c =
    none_new (g.P.LogicalProcess.state c.args.self.now.process) (g.P.LogicalProcess.state c.sent.new.self) c.index_mut-end.result.now.number
    c.sent.ensures.sent

pub returns-clause-kept : goal.returns-clause-kept
returns-clause-kept g c =
    let s = c.args.self.now in
    let xs = s.outs.items in
    let o = c.index_mut-end.result.now in
    let read = slice_get_read xs (length xs) c.args.index o refl c.requires.index c.index_mut-end.ensures.value in
    kept_where_free s c.args.index o _ read refl (g.P.LogicalProcess.state c.sent.new.self) c.sent.ensures.sent.free
