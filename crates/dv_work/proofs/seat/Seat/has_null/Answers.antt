use Rattle.std.proofs.Common.{◌≡◌, ◌↔◌, Bool, nat_eq, IsTrue, List, [], ◌∷◌, length, Option, Some, refl, sym, ap, ◌∙◌, arith}
use Rattle.std.proofs.lemmas.Bool.{eqb-true}
use Rattle.std.proofs.lemmas.Option.{slice_get_read}
use Rattle.dv_conservative.specs.Process.{Packet}
use Rattle.dv_core.specs.ProcessState.{ProcessState}
use Rattle.dv_proc.specs.Packets.{meant_events, meant_packet}
use Rattle.dv_proc.specs.declared.packet.Event.{Event}
use Rattle.dv_work.specs.declared.seat.Out.{Out}
use Rattle.dv_work.proofs.seat.Seat.has_null.Goals as goal

-- a list is empty exactly where the list of what is meant is
meant_none : (es : List Event) (b : Bool) → b ≡ nat_eq (length es) 0 → IsTrue b ↔ (meant_events es ≡ [])
meant_none [] b e = (λ _. refl, λ _. e)
meant_none (x ∷ es) b e = (some, λ none. absurd (cc))
  where
    some : IsTrue b → meant_events (x ∷ es) ≡ []
    some is = let none = eqb-true (length (x ∷ es)) 0 (sym e ∙ is) in absurd (omega arith)

same_some : {o : Option Packet} {a b : Packet} → o ≡ Some a → o ≡ Some b → a ≡ b
same_some e d = cc

pub returns : goal.returns
returns g c = λ end at.
    let xs = c.args.self.now.outs.items in
    let o = c.index-end.result.now in
    let x : ProcessState = g.P.LogicalProcess.state c.args.self.now.process in
    let read : _ = slice_get_read xs (length xs) c.args.index o refl c.requires c.index-end.ensures in
    let same : o ≡ end = cc in
    let packet = c.in-Some.standing.now in
    let empty = meant_none packet.events.items c.is_empty.result (c.is_empty.ensures ∙ ap (λ n. nat_eq n 0) packet.events.ok.0) in (
      λ is. record {
        free = ap (λ (e : Out). e.held) (sym same) ∙ c.in-None.is;
        packet = meant_packet packet;
        stands = ap (λ (e : Out). x.position.standing e.number) (sym same) ∙ c.in-Some.ensures;
        silent = empty.0 is;
      },
      λ has.
          let stands = ap (λ (e : Out). x.position.standing e.number) same ∙ has.stands in
          let same_packet : meant_packet packet ≡ has.packet = same_some c.in-Some.ensures stands in
          empty.1 (ap (λ p. p.events) same_packet ∙ has.silent),
    )
