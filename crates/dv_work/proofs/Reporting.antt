-- What a report has of each process.
use Rattle.std.proofs.Common.{◌≡◌, ℕ, ◌+◌, ◌-◌, ◌<◌, List, Some, length, map, option_map, slice_get, slice_index_or}
use Rattle.std.proofs.Common.{refl, sym, ap, subst, ◌∙◌, arith}
use Rattle.std.proofs.Math.ListN.{length-set, set}
use Rattle.std.specs.List.{All}
use Rattle.std.proofs.lemmas.List.{length-map}
use Rattle.std.proofs.lemmas.Option.{get_or_from_slice_get, same_Some, slice_get-get_or, slice_get-map, slice_get_within}
use Rattle.dv_time.specs.Time.{rank}
use Rattle.dv_bag.specs.Part.{PartOf, nothing}
use Rattle.dv_devs.specs.Network.{all_before}
use Rattle.dv_devs.specs.Parts.{part_at}
use Rattle.dv_conservative.specs.Flat.{whole}
use Rattle.dv_conservative.specs.Process.{first_time}
use Rattle.dv_conservative.specs.World.{Job, owned}
use Rattle.dv_core.proofs.Lookups.{set_each, some_at}
use Rattle.dv_board.specs.Jobs.{committed}
use Rattle.dv_board.specs.Posts.{IsPiece}
use Rattle.dv_board.specs.declared.posts.Piece.{Piece}
use Rattle.dv_work.specs.Reached.{AreReached}

-- nothing is committed before the first time
none_between : (job : Job) (p : ℕ) → nothing ≡ committed job p first_time first_time
none_between job p =
    let n = rank job.limit first_time in
    let gone : 0 ≡ n - n = omega arith in
    ap (all_before (λ k. part_at (owned job p) job.limit (whole job.flat) job.outside (n + k))) gone

pub none_is_piece : {N : Type 0} (job : Job) (p : ℕ) → p < job.processes → (part : PartOf) → part ≡ nothing
    → IsPiece {N = N} job (record { process = p; from = first_time; clock = first_time; part = part })
none_is_piece job p there part none = record {
  process = there;
  from_of_run = omega arith;
  of_run = omega arith;
  within = omega arith;
  order = omega arith;
  part = none ∙ none_between job p;
}

-- the piece of one process is entered
pub entered : {N : Type 0} (job : Job) (rest : List (Piece N)) → AreReached job rest → (x : Piece N) → IsPiece job x
    → AreReached job (set rest x.process x)
entered {N} job rest are x is =
    let inside = is.process in
    let count = are.count in
    let one = some_at rest x.process (omega (arith, inside, count)) in record {
      count = length-set rest x.process x ∙ are.count;
      numbers = set_each (λ (p : ℕ) (y : Piece N). y.process ≡ p) rest x.process one.0 x one.1 are.numbers refl;
      each = set_each (λ (p : ℕ) (y : Piece N). IsPiece job y) rest x.process one.0 x one.1 are.each is;
    }

abbrev processes_of : {N : Type 0} → List (Piece N) → List ℕ
processes_of {N} xs = map (λ (x : Piece N). x.process) xs

-- pieces of the same processes in the same places are those of the report, too
pub reached_again : {N : Type 0} (job : Job) (xs ys : List (Piece N)) → AreReached job xs → processes_of ys ≡ processes_of xs
    → All (IsPiece job) ys → AreReached job ys
reached_again {N} job xs ys are same each =
    let f : Piece N → ℕ = λ x. x.process in
    let many : length ys ≡ length xs = sym (length-map ys f) ∙ ap length same ∙ length-map xs f in record {
      count = many ∙ are.count;
      numbers = λ p y there.
          let x = some_at xs p (subst (λ (n : ℕ). p < n) many (slice_get_within ys p y there)) in
          let at : Some (f y) ≡ Some (f x.0) = sym (slice_get-map f ys p ∙ ap (option_map f) there)
          ∙ ap (λ (l : List ℕ). slice_get l p) same ∙ slice_get-map f xs p ∙ ap (option_map f) x.1 in
          same_Some (f y) (f x.0) at ∙ are.numbers p x.0 x.1;
      each = λ p y there.
          subst (IsPiece job) (get_or_from_slice_get ys p y y there) (each p y (slice_get_within ys p y there));
    }

-- all that was reached are pieces
pub pieces_reached : {N : Type 0} (job : Job) (xs : List (Piece N)) → AreReached job xs → All (IsPiece job) xs
pieces_reached job xs are = λ k d lt. are.each k (slice_index_or xs k d) (slice_get-get_or xs k d lt)
