use Rattle.std.proofs.Common.{◌∙◌, List, ap, map}
use Rattle.dv_board.specs.declared.posts.Piece.{Piece}
use Rattle.dv_board.proofs.Ends.{same_processes}
use Rattle.dv_board.proofs.board.Board.rest.Goals as goal

pub returns-clause-processes : goal.returns-clause-processes
returns-clause-processes g c =
    ap (λ (xs : List (Piece g.row.N.Denot)). map (λ (x : Piece g.row.N.Denot). x.process) xs) c.rest.ensures.rest
    ∙ same_processes c.deref.result.now.ends c.args.pieces.items
