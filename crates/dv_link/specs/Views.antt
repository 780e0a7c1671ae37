-- What an end of a link knows.
use Rattle.std.specs.Prelude.{ℕ, Bool, List}
use Rattle.dv_proc.specs.declared.packet.Packet.{Packet}
use Rattle.dv_link.specs.declared.rule.EndView.{EndView}

abbrev pub end_view : ℕ → Bool → Bool → List Packet → List Packet → EndView
end_view link puts takes put taken = record { link = link; puts = puts; takes = takes; put = put; taken = taken }
