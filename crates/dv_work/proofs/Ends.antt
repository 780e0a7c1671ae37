-- What one take and one put leave of the end of a link.
use Rattle.std.proofs.Common.{◌≡◌, ℕ, ◌<◌, List, ◌++◌, length, Option, Some, None, MatchOption, refl, sym, ap, ◌∙◌, subst}
use Rattle.std.specs.Prelude.{slice_index_or}
use Rattle.std.proofs.lemmas.Option.{slice_get_read, slice_get_within}
use Rattle.dv_conservative.specs.Process.{first_time}
use Rattle.dv_conservative.specs.True.{AreTrue}
use Rattle.dv_conservative.specs.World.{Job}
use Rattle.dv_proc.specs.Packets.{meant_packet, meant_packets}
use Rattle.dv_proc.specs.declared.packet.Packet.{Packet}
use Rattle.dv_link.specs.Carries.{AreTrueOn, IsNextOn}
use Rattle.dv_link.specs.Ends.{IsSendPassOf, IsTakePassOf, after_take, receiver, sender}
use Rattle.dv_link.specs.declared.link.Link.{Link}
use Rattle.dv_link.specs.declared.link.SendPass.{SendPass}
use Rattle.dv_link.specs.declared.link.TakePass.{TakePass}
use Rattle.dv_link.specs.declared.rule.EndView.{EndView}
use Rattle.dv_work.specs.Ends.{IsIn, IsOut, given, packets_held}
use Rattle.dv_work.specs.declared.seat.In.{In}
use Rattle.dv_work.specs.declared.seat.Out.{Out}
use Rattle.dv_work.proofs.Packets.{last_of_true}

pub link_after_take : (p : Option Packet) (old new : EndView) → MatchOption p (new ≡ old) (λ q. new ≡ after_take old q)
    → new.link ≡ old.link
link_after_take None old new e = ap (λ (v : EndView). v.link) e
link_after_take (Some q) old new e = ap (λ (v : EndView). v.link) e

module _ {N : Type 0} (links : List (Link N)) where
  pub in_after : (e : In) (pass : TakePass) (at : Link N) → IsIn links e → at ≡ slice_index_or links e.number at → IsTakePassOf at pass
      → (receiver pass).link ≡ (receiver e.pass).link
      → IsIn links (let d : In = record { number = e.number; pass = pass; sender = e.sender } in d)
  in_after e pass at is at_is of same =
      let inside : e.number < length links = slice_get_within links e.number is.at is.is_at in record {
        at = at;
        is_at = slice_get_read links (length links) e.number at refl inside at_is;
        pass_of = of;
        link_is = same ∙ is.link_is;
      }

  pub out_after : (o : Out) (pass : SendPass) (held : Option Packet) (at : Link N) → IsOut links o → at ≡ slice_index_or links o.number at
      → IsSendPassOf at pass → (sender pass).link ≡ (sender o.pass).link
      → IsOut links (let q : Out = record { number = o.number; pass = pass; held = held; receiver = o.receiver } in q)
  out_after o pass held at is at_is of same =
      let inside : o.number < length links = slice_get_within links o.number is.at is.is_at in record {
        at = at;
        is_at = slice_get_read links (length links) o.number at refl inside at_is;
        pass_of = of;
        link_is = same ∙ is.link_is;
      }

-- all that was taken is true, by the number of the end
pub taken_is_true : (job : Job) (l : ℕ) (v : EndView) → v.link ≡ l → AreTrueOn job v.link (meant_packets v.taken)
    → AreTrueOn job l (meant_packets v.taken)
taken_is_true job l v is all = subst (λ (n : ℕ). AreTrueOn job n (meant_packets v.taken)) is all

-- the packet that is held is the next true one
pub held_is_next : (job : Job) (o : Out) (p : Packet) → (sender o.pass).link ≡ o.number → o.held ≡ Some p
    → AreTrueOn job o.number (given o) → IsNextOn job (sender o.pass).link (sender o.pass).put p
held_is_next job o p is held all =
    let put = meant_packets (sender o.pass).put in
    let last = last_of_true job o.number all.channel first_time put (meant_packet p)
    (subst (λ (h : Option Packet). AreTrue job o.number all.channel first_time (put ++ packets_held h)) held all.truth) in
    subst (λ (n : ℕ). IsNextOn job n (sender o.pass).put p) (sym is)
    (record { channel = all.channel; there = all.there; joins = last.0; truth = last.1 })
