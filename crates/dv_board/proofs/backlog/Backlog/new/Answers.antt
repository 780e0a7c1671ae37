use Rattle.std.proofs.Common.{ap, ◌∙◌}
use Rattle.dv_board.specs.Stretches.{nothing_held}
use Rattle.dv_board.proofs.Indices.{clocks_new, clocks_of}
use Rattle.dv_board.proofs.backlog.Backlog.new.Goals as goal

pub returns-clause-clocks : goal.returns-clause-clocks
returns-clause-clocks g c =
    ap clocks_of c.in_ok-none_held.ensures ∙ clocks_new c.args.processes nothing_held
