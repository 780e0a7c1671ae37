-- Pieces that are joined in turn.
use Rattle.std.proofs.Common.{◌≡◌, List, [], ◌∷◌, ◌++◌, set, slice_index_or, ap}
use Rattle.dv_time.specs.declared.time.Time.{Time}
use Rattle.dv_conservative.specs.Process.{first_time}
use Rattle.dv_board.specs.declared.posts.Piece.{Piece}
use Rattle.dv_board.specs.Backlogs.{clocks_with}
use Rattle.dv_board.specs.Clocks.{later}

abbrev with_one : {N : Type 0} → List Time → Piece N → List Time
with_one clocks piece = set clocks piece.process (later (slice_index_or clocks piece.process first_time) piece.clock)

-- one piece more
pub clocks_with_one : {N : Type 0} (clocks now : List Time) (done : List (Piece N)) (piece : Piece N) → now ≡ clocks_with clocks done
    → with_one now piece ≡ clocks_with clocks (done ++ piece ∷ [])
clocks_with_one clocks now [] piece so_far = ap (λ (cs : List Time). with_one cs piece) so_far
clocks_with_one clocks now (p ∷ ps) piece so_far = clocks_with_one (with_one clocks p) now ps piece so_far
