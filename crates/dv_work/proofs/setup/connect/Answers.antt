use Rattle.std.proofs.Common.{◌≡◌, ℕ, ◌+◌, ◌<◌, List, [], ◌∷◌, ◌++◌, get_or, length, Some, refl, sym, ap, ◌∙◌, subst, arith, length-append}
use Rattle.std.specs.List.{slice_get}
use Rattle.std.proofs.Math.ListN.{length-set, set}
use Rattle.std.proofs.lemmas.Option.{slice_get_read}
use Rattle.dv_proc.specs.Channels.{meant_channel}
use Rattle.dv_proc.specs.declared.channel.Channel.{Channel}
use Rattle.dv_link.specs.declared.link.Link.{Link}
use Rattle.dv_work.specs.Making.{AreSeated, IsSeat, NamesWorkers, no_links}
use Rattle.dv_link.specs.Ends.{capacity}
use Rattle.std.specs.List.{All}
use Rattle.std.proofs.lemmas.List.Elements.{All-push, All-same, All-set}
use Rattle.dv_work.specs.declared.seat.Seat.{Seat}
use Rattle.dv_work.proofs.ByWorker.{in_more, names_none, out_more}
use Rattle.dv_work.proofs.Lists.{at_index}
use Rattle.dv_work.proofs.Making.{channel_at, new_in, new_out, seated_more, seats_grown}
use Rattle.dv_work.proofs.setup.connect.Goals as goal

pub loop-channel-init : goal.loop-channel-init
loop-channel-init g c =
    let none = c.in_ok-links.ensures.items in (
      ap length none,
      subst (λ (ls : List (Link g.row.N.Denot)). AreSeated g.N.OfJob.job g.P.LogicalProcess.state g.P.LogicalProcess.handed
          g.P.LogicalProcess.valid ls 0 0 c.args.seats.now.items) (sym none) c.requires.seats,
      (λ k d lt. let z = ap length none in absurd (omega arith)),
      names_none g.N.OfJob.job c.args.workers g.P.LogicalProcess.state g.P.LogicalProcess.handed g.P.LogicalProcess.valid
          (no_links {N = g.row.N.Denot}) c.args.seats.now.items c.requires.seats,
    )

pub new-requires-clause-channel : goal.new-requires-clause-channel
new-requires-clause-channel g c =
    let n = c.loop-channel.channel-index in
    let d : Channel = record { source = 0; target = 0 } in
    let ch = get_or c.args.channels.now n d in
    let inv = c.loop-channel.invariant in
    let there = channel_at g.N.OfJob.job c.args.channels.now c.requires.links n d (omega (arith, c.loop-channel-test.true)) in
    let number : c.len-number.result ≡ n = omega (arith, c.len-number.ensures, c.loop-channel.links.ok.0, inv.0) in
    record {
      channel = meant_channel ch;
      there = subst (λ (m : ℕ). slice_get g.N.OfJob.job.channels m ≡ Some (meant_channel ch)) (sym number) there;
    }

pub index_mut-requires : goal.index_mut-requires
index_mut-requires g c =
    let n = c.loop-channel.channel-index in
    let d : Channel = record { source = 0; target = 0 } in
    let ch = get_or c.args.channels.now n d in
    let inv = c.loop-channel.invariant in
    let there = channel_at g.N.OfJob.job c.args.channels.now c.requires.links n d (omega (arith, c.loop-channel-test.true)) in
    let ends = c.requires.ends n (meant_channel ch) there in
    let count = inv.1.count in
    omega (arith, ends.0, count, c.loop-channel.seats.ok.0)

pub add_out-requires-clause-seat : goal.add_out-requires-clause-seat
add_out-requires-clause-seat g c =
    let n = c.loop-channel.channel-index in
    let d : Channel = record { source = 0; target = 0 } in
    let ch = get_or c.args.channels.now n d in
    let inv = c.loop-channel.invariant in
    let there = channel_at g.N.OfJob.job c.args.channels.now c.requires.links n d (omega (arith, c.loop-channel-test.true)) in
    let ends = c.requires.ends n (meant_channel ch) there in
    let count = inv.1.count in
    let old = c.loop-channel.links.items in
    let seats = c.loop-channel.seats.items in
    let link = c.in_ok-link.link in
    let number : c.len-number.result ≡ n = omega (arith, c.len-number.ensures, c.loop-channel.links.ok.0, inv.0) in
    let last : c.len-number.result ≡ length old = omega (arith, c.len-number.ensures, c.loop-channel.links.ok.0) in
    let more : c.deref.result.now ≡ old ++ link ∷ [] = c.deref.ensures.value ∙ c.in_ok-push.ensures.items in
    let grown : AreSeated g.N.OfJob.job g.P.LogicalProcess.state g.P.LogicalProcess.handed g.P.LogicalProcess.valid c.deref.result.now n n
    seats
    = subst (λ (ls : List (Link g.row.N.Denot)). AreSeated g.N.OfJob.job g.P.LogicalProcess.state g.P.LogicalProcess.handed
    g.P.LogicalProcess.valid ls n n seats)
    (sym more) (seats_grown g.N.OfJob.job g.P.LogicalProcess.state g.P.LogicalProcess.handed g.P.LogicalProcess.valid old link n n seats
    inv.1) in
    let named = subst (λ (m : ℕ). slice_get g.N.OfJob.job.channels m ≡ Some (meant_channel ch)) (sym number) there in
    let s = c.index_mut.result.now in
    let inside : ch.source < length seats = omega (arith, ends.0, count) in
    let at = slice_get_read seats (length seats) ch.source s refl inside c.index_mut.ensures.value in
    subst (λ (k : ℕ). IsSeat g.N.OfJob.job g.P.LogicalProcess.state g.P.LogicalProcess.handed g.P.LogicalProcess.valid c.deref.result.now k
    k s) (sym number)
    (grown.each ch.source s at)

pub add_out-requires-clause-out : goal.add_out-requires-clause-out
add_out-requires-clause-out g c =
    let n = c.loop-channel.channel-index in
    let d : Channel = record { source = 0; target = 0 } in
    let ch = get_or c.args.channels.now n d in
    let inv = c.loop-channel.invariant in
    let there = channel_at g.N.OfJob.job c.args.channels.now c.requires.links n d (omega (arith, c.loop-channel-test.true)) in
    let ends = c.requires.ends n (meant_channel ch) there in
    let count = inv.1.count in
    let old = c.loop-channel.links.items in
    let seats = c.loop-channel.seats.items in
    let link = c.in_ok-link.link in
    let number : c.len-number.result ≡ n = omega (arith, c.len-number.ensures, c.loop-channel.links.ok.0, inv.0) in
    let last : c.len-number.result ≡ length old = omega (arith, c.len-number.ensures, c.loop-channel.links.ok.0) in
    let more : c.deref.result.now ≡ old ++ link ∷ [] = c.deref.ensures.value ∙ c.in_ok-push.ensures.items in
    let grown : AreSeated g.N.OfJob.job g.P.LogicalProcess.state g.P.LogicalProcess.handed g.P.LogicalProcess.valid c.deref.result.now n n
    seats
    = subst (λ (ls : List (Link g.row.N.Denot)). AreSeated g.N.OfJob.job g.P.LogicalProcess.state g.P.LogicalProcess.handed
    g.P.LogicalProcess.valid ls n n seats)
    (sym more) (seats_grown g.N.OfJob.job g.P.LogicalProcess.state g.P.LogicalProcess.handed g.P.LogicalProcess.valid old link n n seats
    inv.1) in
    let named = subst (λ (m : ℕ). slice_get g.N.OfJob.job.channels m ≡ Some (meant_channel ch)) (sym number) there in
    let s = c.index_mut.result.now in
    let inside : ch.source < length seats = omega (arith, ends.0, count) in
    let at = slice_get_read seats (length seats) ch.source s refl inside c.index_mut.ensures.value in
    new_out g.N.OfJob.job old c.deref.result.now link more c.len-number.result last s.number (meant_channel ch) named
    (sym (grown.numbers ch.source s at)) c.in_ok-link.send _ c.in_ok-link.ensures.sender.0 c.in_ok-link.ensures.sender.1

pub index_mut-requires-in-loop-channel : goal.index_mut-requires-in-loop-channel
index_mut-requires-in-loop-channel g c =
    let n = c.loop-channel.channel-index in
    let d : Channel = record { source = 0; target = 0 } in
    let ch = get_or c.args.channels.now n d in
    let inv = c.loop-channel.invariant in
    let there = channel_at g.N.OfJob.job c.args.channels.now c.requires.links n d (omega (arith, c.loop-channel-test.true)) in
    let ends = c.requires.ends n (meant_channel ch) there in
    let count = inv.1.count in
    omega (arith, ends.1, count, c.loop-channel.seats.ok.0)

pub add_in-requires-clause-seat : goal.add_in-requires-clause-seat
add_in-requires-clause-seat g c =
    let n = c.loop-channel.channel-index in
    let d : Channel = record { source = 0; target = 0 } in
    let ch = get_or c.args.channels.now n d in
    let inv = c.loop-channel.invariant in
    let there = channel_at g.N.OfJob.job c.args.channels.now c.requires.links n d (omega (arith, c.loop-channel-test.true)) in
    let ends = c.requires.ends n (meant_channel ch) there in
    let count = inv.1.count in
    let old = c.loop-channel.links.items in
    let seats = c.loop-channel.seats.items in
    let link = c.in_ok-link.link in
    let number : c.len-number.result ≡ n = omega (arith, c.len-number.ensures, c.loop-channel.links.ok.0, inv.0) in
    let last : c.len-number.result ≡ length old = omega (arith, c.len-number.ensures, c.loop-channel.links.ok.0) in
    let more : c.deref.result.now ≡ old ++ link ∷ [] = c.deref.ensures.value ∙ c.in_ok-push.ensures.items in
    let grown : AreSeated g.N.OfJob.job g.P.LogicalProcess.state g.P.LogicalProcess.handed g.P.LogicalProcess.valid c.deref.result.now n n
    seats
    = subst (λ (ls : List (Link g.row.N.Denot)). AreSeated g.N.OfJob.job g.P.LogicalProcess.state g.P.LogicalProcess.handed
    g.P.LogicalProcess.valid ls n n seats)
    (sym more) (seats_grown g.N.OfJob.job g.P.LogicalProcess.state g.P.LogicalProcess.handed g.P.LogicalProcess.valid old link n n seats
    inv.1) in
    let named = subst (λ (m : ℕ). slice_get g.N.OfJob.job.channels m ≡ Some (meant_channel ch)) (sym number) there in
    let s = c.index_mut.result.now in
    let inside : ch.source < length seats = omega (arith, ends.0, count) in
    let at = slice_get_read seats (length seats) ch.source s refl inside c.index_mut.ensures.value in
    let links2 = c.deref-in-loop-channel.result.now in
    let same : c.deref.result.now ≡ links2 = c.deref.ensures.value ∙ sym c.deref-in-loop-channel.ensures.value in
    let t = c.add_out.new.seat in
    let got = c.in_ok-add_out.ensures in
    let next : c.len-number.result + 1 ≡ n + 1 = omega (arith, number) in
    let first : IsSeat g.N.OfJob.job g.P.LogicalProcess.state g.P.LogicalProcess.handed g.P.LogicalProcess.valid c.deref.result.now (n + 1)
    n t
    = subst (λ (y : ℕ × ℕ). IsSeat g.N.OfJob.job g.P.LogicalProcess.state g.P.LogicalProcess.handed g.P.LogicalProcess.valid
    c.deref.result.now y.0 y.1 t)
    (λ i. (next i, number i)) got.seat in
    let one : AreSeated g.N.OfJob.job g.P.LogicalProcess.state g.P.LogicalProcess.handed g.P.LogicalProcess.valid c.deref.result.now
    (n + 1) n (set seats ch.source t)
    = seated_more g.N.OfJob.job g.P.LogicalProcess.state g.P.LogicalProcess.handed g.P.LogicalProcess.valid c.deref.result.now n n (n + 1)
    n (omega arith)
    (omega arith) seats grown ch.source s t at got.number first in
    let two : AreSeated g.N.OfJob.job g.P.LogicalProcess.state g.P.LogicalProcess.handed g.P.LogicalProcess.valid links2 (n + 1) n
    (set seats ch.source t)
    = subst (λ (ls : List (Link g.row.N.Denot)). AreSeated g.N.OfJob.job g.P.LogicalProcess.state g.P.LogicalProcess.handed
    g.P.LogicalProcess.valid ls (n + 1) n
    (set seats ch.source t)) same one in
    let u = c.index_mut-in-loop-channel.result.now in
    let below : ch.target < length (set seats ch.source t) = omega (arith, ends.1, count, length-set seats ch.source t) in
    let at2 = slice_get_read (set seats ch.source t) (length (set seats ch.source t)) ch.target u refl below
    c.index_mut-in-loop-channel.ensures.value in
    subst (λ (y : ℕ × ℕ). IsSeat g.N.OfJob.job g.P.LogicalProcess.state g.P.LogicalProcess.handed g.P.LogicalProcess.valid links2 y.0 y.1 u)
    (λ i. (sym next i, sym number i)) (two.each ch.target u at2)

pub add_in-requires-clause-end : goal.add_in-requires-clause-end
add_in-requires-clause-end g c =
    let n = c.loop-channel.channel-index in
    let d : Channel = record { source = 0; target = 0 } in
    let ch = get_or c.args.channels.now n d in
    let inv = c.loop-channel.invariant in
    let there = channel_at g.N.OfJob.job c.args.channels.now c.requires.links n d (omega (arith, c.loop-channel-test.true)) in
    let ends = c.requires.ends n (meant_channel ch) there in
    let count = inv.1.count in
    let old = c.loop-channel.links.items in
    let seats = c.loop-channel.seats.items in
    let link = c.in_ok-link.link in
    let number : c.len-number.result ≡ n = omega (arith, c.len-number.ensures, c.loop-channel.links.ok.0, inv.0) in
    let last : c.len-number.result ≡ length old = omega (arith, c.len-number.ensures, c.loop-channel.links.ok.0) in
    let more : c.deref.result.now ≡ old ++ link ∷ [] = c.deref.ensures.value ∙ c.in_ok-push.ensures.items in
    let grown : AreSeated g.N.OfJob.job g.P.LogicalProcess.state g.P.LogicalProcess.handed g.P.LogicalProcess.valid c.deref.result.now n n
    seats
    = subst (λ (ls : List (Link g.row.N.Denot)). AreSeated g.N.OfJob.job g.P.LogicalProcess.state g.P.LogicalProcess.handed
    g.P.LogicalProcess.valid ls n n seats)
    (sym more) (seats_grown g.N.OfJob.job g.P.LogicalProcess.state g.P.LogicalProcess.handed g.P.LogicalProcess.valid old link n n seats
    inv.1) in
    let named = subst (λ (m : ℕ). slice_get g.N.OfJob.job.channels m ≡ Some (meant_channel ch)) (sym number) there in
    let more2 : c.deref-in-loop-channel.result.now ≡ old ++ link ∷ []
    = c.deref-in-loop-channel.ensures.value ∙ c.in_ok-push.ensures.items in
    new_in g.N.OfJob.job old c.deref-in-loop-channel.result.now link more2 c.len-number.result last (meant_channel ch) named
    c.in_ok-link.take _ c.in_ok-link.ensures.receiver.0 c.in_ok-link.ensures.receiver.1

pub loop-channel-preserved : goal.loop-channel-preserved
loop-channel-preserved g c =
    let n = c.loop-channel.channel-index in
    let d : Channel = record { source = 0; target = 0 } in
    let ch = get_or c.args.channels.now n d in
    let inv = c.loop-channel.invariant in
    let there = channel_at g.N.OfJob.job c.args.channels.now c.requires.links n d (omega (arith, c.loop-channel-test.true)) in
    let ends = c.requires.ends n (meant_channel ch) there in
    let count = inv.1.count in
    let old = c.loop-channel.links.items in
    let seats = c.loop-channel.seats.items in
    let link = c.in_ok-link.link in
    let number : c.len-number.result ≡ n = omega (arith, c.len-number.ensures, c.loop-channel.links.ok.0, inv.0) in
    let last : c.len-number.result ≡ length old = omega (arith, c.len-number.ensures, c.loop-channel.links.ok.0) in
    let more : c.deref.result.now ≡ old ++ link ∷ [] = c.deref.ensures.value ∙ c.in_ok-push.ensures.items in
    let grown : AreSeated g.N.OfJob.job g.P.LogicalProcess.state g.P.LogicalProcess.handed g.P.LogicalProcess.valid c.deref.result.now n n
    seats
    = subst (λ (ls : List (Link g.row.N.Denot)). AreSeated g.N.OfJob.job g.P.LogicalProcess.state g.P.LogicalProcess.handed
    g.P.LogicalProcess.valid ls n n seats)
    (sym more) (seats_grown g.N.OfJob.job g.P.LogicalProcess.state g.P.LogicalProcess.handed g.P.LogicalProcess.valid old link n n seats
    inv.1) in
    let named = subst (λ (m : ℕ). slice_get g.N.OfJob.job.channels m ≡ Some (meant_channel ch)) (sym number) there in
    let s = c.index_mut.result.now in
    let inside : ch.source < length seats = omega (arith, ends.0, count) in
    let at = slice_get_read seats (length seats) ch.source s refl inside c.index_mut.ensures.value in
    let links2 = c.deref-in-loop-channel.result.now in
    let same : c.deref.result.now ≡ links2 = c.deref.ensures.value ∙ sym c.deref-in-loop-channel.ensures.value in
    let t = c.add_out.new.seat in
    let got = c.in_ok-add_out.ensures in
    let next : c.len-number.result + 1 ≡ n + 1 = omega (arith, number) in
    let first : IsSeat g.N.OfJob.job g.P.LogicalProcess.state g.P.LogicalProcess.handed g.P.LogicalProcess.valid c.deref.result.now (n + 1)
    n t
    = subst (λ (y : ℕ × ℕ). IsSeat g.N.OfJob.job g.P.LogicalProcess.state g.P.LogicalProcess.handed g.P.LogicalProcess.valid
    c.deref.result.now y.0 y.1 t)
    (λ i. (next i, number i)) got.seat in
    let one : AreSeated g.N.OfJob.job g.P.LogicalProcess.state g.P.LogicalProcess.handed g.P.LogicalProcess.valid c.deref.result.now
    (n + 1) n (set seats ch.source t)
    = seated_more g.N.OfJob.job g.P.LogicalProcess.state g.P.LogicalProcess.handed g.P.LogicalProcess.valid c.deref.result.now n n (n + 1)
    n (omega arith)
    (omega arith) seats grown ch.source s t at got.number first in
    let two : AreSeated g.N.OfJob.job g.P.LogicalProcess.state g.P.LogicalProcess.handed g.P.LogicalProcess.valid links2 (n + 1) n
    (set seats ch.source t)
    = subst (λ (ls : List (Link g.row.N.Denot)). AreSeated g.N.OfJob.job g.P.LogicalProcess.state g.P.LogicalProcess.handed
    g.P.LogicalProcess.valid ls (n + 1) n
    (set seats ch.source t)) same one in
    let u = c.index_mut-in-loop-channel.result.now in
    let below : ch.target < length (set seats ch.source t) = omega (arith, ends.1, count, length-set seats ch.source t) in
    let at2 = slice_get_read (set seats ch.source t) (length (set seats ch.source t)) ch.target u refl below
    c.index_mut-in-loop-channel.ensures.value in
    let v = c.add_in.new.seat in
    let got2 = c.in_ok-add_in.ensures in
    let second : IsSeat g.N.OfJob.job g.P.LogicalProcess.state g.P.LogicalProcess.handed g.P.LogicalProcess.valid links2 (n + 1) (n + 1) v
    = subst (λ (y : ℕ × ℕ). IsSeat g.N.OfJob.job g.P.LogicalProcess.state g.P.LogicalProcess.handed g.P.LogicalProcess.valid links2 y.0 y.1
    v)
    (λ i. (next i, next i)) got2.seat in
    let three = seated_more g.N.OfJob.job g.P.LogicalProcess.state g.P.LogicalProcess.handed g.P.LogicalProcess.valid links2 (n + 1) n
    (n + 1) (n + 1) (omega arith)
    (omega arith) (set seats ch.source t) two ch.target u v
    at2 got2.number second in
    let W : Seat g.row.P.Denot → Type 0 = λ z. NamesWorkers g.N.OfJob.job c.args.workers z in
    let C : Link g.row.N.Denot → Type 0 = λ z. capacity z ≡ c.args.capacity in
    let named_first : All W (set seats ch.source t)
    = All-set W seats ch.source t
    (out_more g.N.OfJob.job c.args.workers s t _ got.outs got.ins (record { channel = meant_channel ch; there = named; receiver = refl })
    (at_index W seats ch.source s inv.3 at)) inv.3 in
    let items = c.in_ok-push.ensures.items in (
      (let e = ap length items in let l = length-append old (link ∷ []) in let h = inv.0 in omega arith),
      subst (λ (ls : List (Link g.row.N.Denot)). AreSeated g.N.OfJob.job g.P.LogicalProcess.state g.P.LogicalProcess.handed
          g.P.LogicalProcess.valid ls (n + 1)
          (n + 1) (set (set seats ch.source t) ch.target v))
          c.deref-in-loop-channel.ensures.value three,
      All-same C c.push.new.self.items _ items (All-push C old link inv.2 c.in_ok-link.ensures.capacity),
      All-set W (set seats ch.source t) ch.target v
          (in_more g.N.OfJob.job c.args.workers u v _ got2.ins got2.outs
          (record { channel = meant_channel ch; there = named; sender = refl })
          (at_index W (set seats ch.source t) ch.target u named_first at2)) named_first,
    )
