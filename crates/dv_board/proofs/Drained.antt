-- A board, drained up to its least clock.
use Rattle.std.proofs.Common.{◌≡◌, ℕ, suc, ◌<◌, ◌≤◌, false, List, [], ◌∷◌, length, map, slice_get, slice_index_or, Some, refl}
use Rattle.std.proofs.Common.{sym, ap, ap₂, subst, ◌∙◌, arith}
use Rattle.std.specs.List.{All}
use Rattle.std.proofs.lemmas.List.{get_or-map, length-map}
use Rattle.std.proofs.lemmas.List.Elements.{All-contains, All-get_or, All-map}
use Rattle.std.proofs.lemmas.Option.{get_or_from_slice_get, slice_get-get_or, slice_get_within}
use Rattle.dv_time.specs.Time.{IsOfRun, end_of, is_before, rank, time_of}
use Rattle.dv_time.specs.declared.time.Time.{Time}
use Rattle.dv_time.proofs.Ranks.{time_of-rank}
use Rattle.dv_bag.specs.Part.{PartOf, before, since}
use Rattle.dv_devs.proofs.Cuts.{part_since, trace_since}
use Rattle.dv_conservative.specs.Flat.{whole}
use Rattle.dv_conservative.specs.Process.{first_time}
use Rattle.dv_conservative.specs.World.{Job, owned}
use Rattle.dv_merge.specs.Whole.{ArePartsOf}
use Rattle.dv_board.specs.Backlogs.{AreHeld, IsHeld}
use Rattle.dv_board.specs.Clocks.{IsLeast, IsNoLater}
use Rattle.dv_board.specs.Jobs.{trace}
use Rattle.dv_board.specs.Stretches.{AreByTime, HeldOf, part_of, rest_of}
use Rattle.dv_board.proofs.Between.{committed_before, committed_since}
use Rattle.dv_board.proofs.Indices.{clocks_of, rest_is_held}
use Rattle.dv_board.proofs.Stretches.{held_by_time, part_held}
use Rattle.dv_board.proofs.Times.{no_later}
use Rattle.dv_board.proofs.Wholes.{get_map, many_parts, part_at_index, part_of_process, parts_before, parts_of_trace}
use Rattle.dv_board.proofs.Wholes.{parts_since, trace_of_job}

-- lists that agree index by index
pub same_indices : {X : Type 0} (xs ys : List X) → length xs ≡ length ys
    → ((k : ℕ) (x y : X) → slice_get xs k ≡ Some x → slice_get ys k ≡ Some y → x ≡ y) → xs ≡ ys
same_indices [] [] len same = refl
same_indices [] (y ∷ ys) len same = absurd (omega arith)
same_indices (x ∷ xs) [] len same = absurd (omega arith)
same_indices {X} (x ∷ xs) (y ∷ ys) len same =
    ap₂ (λ (z : X) (zs : List X). z ∷ zs) (same 0 x y refl refl) (same_indices xs ys (omega arith) (λ k. same (suc k)))

module _ {N : Type 0} (job : Job) (mark : Time) (held : List (HeldOf N)) (all : AreHeld job mark held) where
  -- a fact of each index
  each_index : (P : HeldOf N → Type 0) → ((p : ℕ) (h : HeldOf N) → IsHeld job mark p h → P h) → All P held
  each_index P f k d lt = f k (slice_index_or held k d) (all.each k (slice_index_or held k d) (slice_get-get_or held k d lt))

  pub all_by_time : All (λ (h : HeldOf N). AreByTime h) held
  all_by_time = each_index (λ (h : HeldOf N). AreByTime h) (λ p h is. held_by_time job p mark h is)

  module _ (least : Time) (is_least : IsLeast least (clocks_of held)) where
    of_a_clock : (P : Time → Type 0) → ((p : ℕ) (h : HeldOf N) → IsHeld job mark p h → P h.clock) → P least
    of_a_clock P f =
        All-contains P (clocks_of held) least
        (All-map P (λ (h : HeldOf N). h.clock) held (each_index (λ (h : HeldOf N). P h.clock) f)) is_least.is

    pub least_of_run : IsOfRun job.limit least
    least_of_run = of_a_clock (IsOfRun job.limit) (λ p h is. is.of_run)

    pub least_within : rank job.limit least ≤ end_of job.limit job.horizon
    least_within = of_a_clock (λ (t : Time). rank job.limit t ≤ end_of job.limit job.horizon) (λ p h is. is.within)

    pub mark_no_later : IsNoLater job mark least
    mark_no_later = of_a_clock (IsNoLater job mark) (λ p h is. is.order)

    least_no_later : (p : ℕ) (h : HeldOf N) → slice_get held p ≡ Some h → IsNoLater job least h.clock
    least_no_later p h at =
        let lt = slice_get_within held p h at in
        let many = length-map held (λ (g : HeldOf N). g.clock) in
        let read : slice_index_or (clocks_of held) p first_time ≡ h.clock
        = get_or-map (λ (g : HeldOf N). g.clock) held p h first_time lt
        ∙ ap (λ (g : HeldOf N). g.clock) (get_or_from_slice_get held p h h at) in
        no_later job h.clock least (all.each p h at).of_run least_of_run
        (subst (λ (c : Time). is_before c least ≡ false) read
        (All-get_or (λ (c : Time). is_before c least ≡ false) (clocks_of held) p first_time (subst (λ (n : ℕ). p < n) (sym many) lt)
        is_least.none_before))

    -- what is left, from the least clock on
    pub rest_are_held : AreHeld job least (map (rest_of least) held)
    rest_are_held = record {
      merges = all.merges;
      some = all.some;
      of_run = least_of_run;
      many = length-map held (rest_of least) ∙ all.many;
      each = λ p h at.
          let found = get_map (rest_of least) held p h at in
          subst (IsHeld job least p) found.2
          (rest_is_held job mark least p found.0 (all.each p found.0 found.1) least_of_run mark_no_later
          (least_no_later p found.0 found.1));
    }

    -- what is drained, of each process
    abbrev pub drained_of : HeldOf N → PartOf
    drained_of h = since mark (before least (part_of h))

    abbrev pub pieces : List PartOf
    pieces = map drained_of held

    mark_of_run : time_of job.limit (rank job.limit mark) ≡ mark
    mark_of_run = time_of-rank job.limit mark all.of_run

    -- the rank of the least clock, and the parts before it
    abbrev end : ℕ
    end = rank job.limit least

    abbrev parts : List PartOf
    parts = parts_before job end

    pieces_since : pieces ≡ map (since mark) parts
    pieces_since =
        same_indices pieces (map (since mark) parts)
        (length-map held drained_of ∙ (all.many ∙ sym (length-map parts (since mark) ∙ many_parts job end)))
        (λ k x y at also.
        let one = get_map drained_of held k x at in
        let other = get_map (since mark) parts k y also in
        sym one.2 ∙ (piece_at k one.0 one.1 ∙ (ap (since mark) (sym (part_at_index job end k other.0 other.1)) ∙ other.2)))
      where
        piece_at : (p : ℕ) (h : HeldOf N) → slice_get held p ≡ Some h → drained_of h ≡ since mark (part_of_process job end p)
        piece_at p h at =
            let is = all.each p h at in
            let early = is.early in
            let low = mark_no_later in
            ap (since mark) (ap (before least) (part_held job p mark h is)
            ∙ committed_before job p h.from least h.clock (omega (arith, early, low)) (least_no_later p h at) least_of_run)
            ∙ (committed_since job p h.from mark least early low all.of_run
            ∙ (sym (part_since job.limit (whole job.flat) job.outside (owned job p) (rank job.limit mark) end mark_no_later)
            ∙ ap (λ (t : Time). since t (part_of_process job end p)) mark_of_run))

    -- it is the trace, in parts
    pub pieces_of_trace : ArePartsOf job.owner (trace job mark least) pieces
    pieces_of_trace =
        subst (ArePartsOf job.owner (trace job mark least)) (sym pieces_since)
        (subst (λ (t : PartOf). ArePartsOf job.owner t (map (since mark) parts))
        (ap (λ (t : Time). since t (trace_of_job job end)) (sym mark_of_run)
        ∙ trace_since job.limit (whole job.flat) job.outside (rank job.limit mark) end mark_no_later)
        (parts_since mark job.owner (trace_of_job job end) parts (parts_of_trace job end all.merges)))
