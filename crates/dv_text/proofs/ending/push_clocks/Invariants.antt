use Rattle.std.proofs.Common.{◌≡◌, ◌++◌, drop, string_bytes}
use Rattle.dv_text.specs.Texts.{clocks_text}
use Rattle.dv_text.proofs.ending.push_clocks.Given as goal

abbrev pub invariant-loop-process : goal.invariant-loop-process
invariant-loop-process l =
    string_bytes l.line ++ clocks_text l.process (drop l.process l.clocks) ≡ string_bytes l.initial.line ++ clocks_text 0 l.clocks
