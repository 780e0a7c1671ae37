-- The ends of what processes posted, and what is left of them besides.
use Rattle.std.proofs.Common.{◌≡◌, ℕ, ◌<◌, ◌≤◌, Bool, true, false, List, [], ◌∷◌, length, map, set, refl, sym, ap₂, subst, ◌∙◌, arith}
use Rattle.std.specs.List.{All}
use Rattle.std.proofs.lemmas.List.{length-set}
use Rattle.std.proofs.lemmas.List.Elements.{All-map, All-set, All-weaker}
use Rattle.dv_time.specs.Time.{IsOfRun, end_of, is_before, rank}
use Rattle.dv_time.specs.declared.time.Time.{Time}
use Rattle.dv_conservative.specs.World.{Job}
use Rattle.dv_board.specs.declared.posts.Piece.{Piece}
use Rattle.dv_board.specs.Clocks.{later}
use Rattle.dv_board.specs.Posts.{AreEnds, IsPiece, end_in, leaves_gap, without_gap}
use Rattle.dv_board.proofs.Between.{committed_none}

abbrev IsEnd : Job → Time → Type 0
IsEnd job t = IsOfRun job.limit t × (rank job.limit t ≤ end_of job.limit job.horizon)

of_later : (P : Time → Type 0) (a b : Time) (test : Bool) → is_before a b ≡ test → P a → P b → P (later a b)
of_later P a b true e here there = rw e there
of_later P a b false e here there = rw e here

-- ends stay ends where one becomes the later of itself and the clock of a piece
pub ends_after : {N : Type 0} (job : Job) (ends : List Time) (piece : Piece N) (end : Time) → AreEnds job ends → IsPiece job piece
    → end ≡ end_in ends piece.process → AreEnds job (set ends piece.process (later end piece.clock))
ends_after job ends piece end are is same =
    let p = piece.process in
    let inside : p < length ends = (let count = are.count in let there = is.process in omega arith) in
    let here : IsEnd job end = subst (IsEnd job) (sym same) (are.each p _ inside) in
    record {
      count = length-set ends p (later end piece.clock) ∙ are.count;
      each = All-set (IsEnd job) ends p (later end piece.clock)
          (of_later (IsEnd job) end piece.clock (is_before end piece.clock) refl here (is.of_run, is.within)) are.each;
    }

-- what is left of a process is a piece
piece_without_gap : {N : Type 0} (job : Job) (ends : List Time) → AreEnds job ends → (test : Bool) (piece : Piece N)
    → leaves_gap ends piece ≡ test → IsPiece job piece → IsPiece job (without_gap ends piece)
piece_without_gap job ends are true piece gap is =
    let p = piece.process in
    let inside : p < length ends = (let count = are.count in let there = is.process in omega arith) in
    let here = are.each p _ inside in
    rw gap record {
      process = is.process;
      from_of_run = here.0;
      of_run = here.0;
      within = here.1;
      order = omega arith;
      part = sym (committed_none job p (end_in ends p));
    }
piece_without_gap job ends are false piece gap is = rw gap is

pub pieces_without_gaps : {N : Type 0} (job : Job) (ends : List Time) (pieces : List (Piece N)) → AreEnds job ends
    → All (IsPiece job) pieces → All (IsPiece job) (map (without_gap ends) pieces)
pieces_without_gaps job ends pieces are all =
    All-map (IsPiece job) (without_gap ends) pieces
    (All-weaker (IsPiece job) (λ x. IsPiece job (without_gap ends x))
    (λ x is. piece_without_gap job ends are (leaves_gap ends x) x refl is) pieces all)

-- which is of the same process
same_process : {N : Type 0} (ends : List Time) (test : Bool) (piece : Piece N) → leaves_gap ends piece ≡ test
    → (without_gap ends piece).process ≡ piece.process
same_process ends true piece gap = rw gap refl
same_process ends false piece gap = rw gap refl

pub same_processes : {N : Type 0} (ends : List Time) (pieces : List (Piece N))
    → map (λ (x : Piece N). x.process) (map (without_gap ends) pieces) ≡ map (λ (x : Piece N). x.process) pieces
same_processes ends [] = refl
same_processes ends (x ∷ xs) = ap₂ (λ (p : ℕ) (ps : List ℕ). p ∷ ps) (same_process ends (leaves_gap ends x) x refl) (same_processes ends xs)
