-- What the two ends of a link know, and to which link they belong.
use Rattle.std.specs.Prelude.{◌≡◌, ℕ, true, false, [], ◌∷◌, ◌++◌}
use Rattle.crossbeam_queue.specs.Passes.{view, IsPassOf, ruled_capacity}
use Rattle.dv_proc.specs.declared.packet.Packet.{Packet}
use Rattle.dv_link.specs.declared.link.Link.{Link}
use Rattle.dv_link.specs.declared.link.SendPass.{SendPass}
use Rattle.dv_link.specs.declared.link.TakePass.{TakePass}
use Rattle.dv_link.specs.declared.rule.EndView.{EndView}
use Rattle.dv_link.specs.Views.{end_view}

abbrev pub sender : SendPass → EndView
sender s = view s.pass

abbrev pub receiver : TakePass → EndView
receiver t = view t.pass

-- those of a link that has carried nothing
abbrev pub new_sender : ℕ → EndView
new_sender link = end_view link true false [] []

abbrev pub new_receiver : ℕ → EndView
new_receiver link = end_view link false true [] []

abbrev pub after_put : EndView → Packet → EndView
after_put v p = end_view v.link v.puts v.takes (v.put ++ p ∷ []) v.taken

abbrev pub after_take : EndView → Packet → EndView
after_take v p = end_view v.link v.puts v.takes v.put (v.taken ++ p ∷ [])

-- how many packets may be on their way on a link
abbrev pub capacity : {N : Type 0} → Link N → ℕ
capacity link = ruled_capacity link.line

-- it is the pass of this link that may put
pub record IsSendPassOf {N : Type 0} (link : Link N) (s : SendPass) : Type 0 where
  pub of_link : IsPassOf link.line s.pass
  pub puts : (view s.pass).puts ≡ true

-- it is the pass of this link that may take
pub record IsTakePassOf {N : Type 0} (link : Link N) (t : TakePass) : Type 0 where
  pub of_link : IsPassOf link.line t.pass
  pub takes : (view t.pass).takes ≡ true
