use Rattle.std.proofs.Common.{◌+◌, drop, true, ap, arith, rules, sym, ◌∙◌}
use Rattle.std.specs.List.{slice_range}
use Rattle.std.proofs.lemmas.Bool.{eq-eqb}
use Rattle.std.proofs.lemmas.Int.{to_z-of_z}
use Rattle.std.proofs.lemmas.List.{at_drop_all}
use mir.Syntax.{w64}
use mir.Val.{SFits}
use Rattle.dv_bag.specs.Bag.{bag_at}
use Rattle.dv_bag.specs.Sent.{sent_at, sent_into}
use Rattle.dv_bag.proofs.Sendings.{all_in_part, bag_of_port, port_in_part, read_step, value_of}
use Rattle.dv_bag.proofs.sent.Sent.bag.Goals as goal

pub loop-sending-preserved : goal.loop-sending-preserved
loop-sending-preserved c =
    let port = c.args.port in
    let all = c.as_slice-sendings.result.now in
    let indices = c.indices_of-first.ensures in
    let items = slice_range all c.indices_of-first.result.0 c.indices_of-first.result.1 in
    let i = c.loop-sending.sending-index in
    let early = c.loop-sending-test.true in
    let number : SFits w64 (value_of items i) = search rules in
    let added = simp to_z-of_z at c.in_ok-insert_copies.ensures.ok in
    let here = port_in_part port all _ _ i _ indices.order indices.within indices.there early in
    ap (sent_into port (drop (i + 1) items)) added
    ∙ read_step port i items c.loop-sending.bag true early (eq-eqb _ _ here) ∙ c.loop-sending.invariant

pub returns : goal.returns
returns c =
    let port = c.args.port in
    let all = c.as_slice-sendings.result.now in
    let indices = c.indices_of-first.ensures in
    let items = slice_range all c.indices_of-first.result.0 c.indices_of-first.result.1 in
    let read = at_drop_all (λ ss. sent_into port ss c.loop-sending.bag) items c.loop-sending.sending-index (omega arith) in
    sym read ∙ c.loop-sending.invariant
    ∙ all_in_part port all _ _ indices.order indices.within indices.before indices.behind
    ∙ ap (sent_at port) c.as_slice-sendings.ensures
    ∙ sym (bag_of_port c.self.inside.ports port c.self.inside.sendings.items c.self.invariant.0)
    ∙ ap (λ bags. bag_at bags port) c.self.view_is
