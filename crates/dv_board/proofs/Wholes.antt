-- Parts of a whole, cut since a time, are parts of the whole cut there.
use Rattle.std.proofs.Common.{◌≡◌, ℕ, zero, suc, ◌<◌, Bool, true, false, not, cond, nat_eq, List, [], ◌∷◌, length, map}
use Rattle.std.proofs.Common.{slice_get, Some, refl, sym, ap, subst, ◌∙◌, arith, ⊎_elim}
use Rattle.std.specs.List.{All, filter, range_with_len}
use Rattle.std.specs.Ordering.{match_ordering}
use Rattle.std.specs.declared.cmp.Ordering.{Ordering}
use Rattle.std.specs.declared.cmp.Ordering.TheVariants.{Less, Equal, Greater}
use Rattle.std.proofs.lemmas.Bool.{cases_Bool, cond_both}
use Rattle.std.proofs.lemmas.Bool.Decides.{nat_tests}
use Rattle.std.proofs.lemmas.List.{get_or-map, length-map}
use Rattle.std.proofs.lemmas.List.Elements.{All-filter}
use Rattle.std.proofs.lemmas.List.FromFn.{get_or-map-range_with_len, length-map-range_with_len}
use Rattle.std.proofs.lemmas.Option.{get_or_from_slice_get, none-some, same_Some, slice_get_within}
use Rattle.dv_time.specs.Time.{is_before}
use Rattle.dv_time.specs.declared.time.Time.{Time}
use Rattle.dv_bag.specs.Part.{PartOf, nothing, since}
use Rattle.dv_bag.specs.declared.entry.Entry.{Entry}
use Rattle.dv_bag.specs.declared.entry.Outer.{Outer}
use Rattle.dv_devs.specs.Network.{trace_before}
use Rattle.dv_devs.specs.Outside.{line_cmp, union_of_lines, with_line}
use Rattle.dv_devs.specs.Parts.{part_before}
use Rattle.dv_conservative.specs.Flat.{whole}
use Rattle.dv_conservative.specs.True.{united}
use Rattle.dv_conservative.specs.World.{Job, owned}
use Rattle.dv_merge.specs.Entries.{AreInOrder, precedes}
use Rattle.dv_merge.specs.Lines.{AreLines, lines_at, with_values}
use Rattle.dv_merge.specs.Whole.{ArePartsOf}
use Rattle.dv_merge.proofs.Uniting.{united_agree}
use Rattle.dv_merge.proofs.Wholes.{committed}
use Rattle.dv_board.specs.Jobs.{IsMergeable}
use Rattle.dv_board.proofs.Cutting.{filter_no, filter_yes, filters_swap}

-- ---- lines from a time on

later_line : (c : Time) (o p : Outer) → line_cmp o p ≡ Less → not (is_before o.time c) ≡ true → not (is_before p.time c) ≡ true
later_line c o p h k = grind (arith, nat_tests)

level_line : (c : Time) (o p : Outer) → line_cmp o p ≡ Equal → not (is_before o.time c) ≡ not (is_before p.time c)
level_line c o p h = grind (arith, nat_tests)

-- what stands at an index of a list that was mapped
pub get_map : {X Y : Type 0} (f : X → Y) (xs : List X) (k : ℕ) (y : Y) → slice_get (map f xs) k ≡ Some y
    → (x : X) × (slice_get xs k ≡ Some x) × (f x ≡ y)
get_map f [] k y at = absurd (none-some y at)
get_map f (x ∷ xs) zero y at = (x, refl, same_Some (f x) y at)
get_map f (x ∷ xs) (suc k) y at = get_map f xs k y at

module _ (c : Time) where
  abbrev stays : Outer → Bool
  stays o = not (is_before o.time c)

  -- a line joins the lines that stay
  with_line_stays : (o : Outer) (os : List Outer) → stays o ≡ true → filter stays (with_line o os) ≡ with_line o (filter stays os)
  with_line_stays o [] h = filter_yes stays o [] h
  with_line_stays o (p ∷ ps) h = by_order (line_cmp o p) refl (with_line_stays o ps h)
    where
      -- beside a line that stays
      beside : (r : Ordering) → line_cmp o p ≡ r → stays p ≡ true
          → match_ordering r (o ∷ p ∷ filter stays ps) (with_values p o ∷ filter stays ps) (p ∷ with_line o (filter stays ps))
          ≡ with_line o (filter stays (p ∷ ps))
      beside r e k =
          let rest = filter stays ps in
          ap (λ (r : Ordering). match_ordering r (o ∷ p ∷ rest) (with_values p o ∷ rest) (p ∷ with_line o rest)) (sym e)
          ∙ ap (with_line o) (sym (filter_yes stays p ps k))

      by_order : (r : Ordering) → line_cmp o p ≡ r → filter stays (with_line o ps) ≡ with_line o (filter stays ps)
          → filter stays (match_ordering r (o ∷ p ∷ ps) (with_values p o ∷ ps) (p ∷ with_line o ps))
          ≡ with_line o (filter stays (p ∷ ps))
      by_order Less e more =
          let k = later_line c o p e h in
          filter_yes stays o (p ∷ ps) h ∙ (ap (λ (l : List Outer). o ∷ l) (filter_yes stays p ps k) ∙ beside Less e k)
      by_order Equal e more =
          let k = sym (level_line c o p e) ∙ h in
          filter_yes stays (with_values p o) ps k ∙ beside Equal e k
      by_order Greater e more = ⊎_elim
          (λ k. filter_yes stays p (with_line o ps) k ∙ (ap (λ (l : List Outer). p ∷ l) more ∙ beside Greater e k))
          (λ k. filter_no stays p (with_line o ps) k ∙ (more ∙ ap (with_line o) (sym (filter_no stays p ps k))))
          (cases_Bool (stays p))

  -- and one that goes does not matter
  with_line_goes : (o : Outer) (os : List Outer) → stays o ≡ false → filter stays (with_line o os) ≡ filter stays os
  with_line_goes o [] h = filter_no stays o [] h
  with_line_goes o (p ∷ ps) h = by_order (line_cmp o p) refl (with_line_goes o ps h)
    where
      by_order : (r : Ordering) → line_cmp o p ≡ r → filter stays (with_line o ps) ≡ filter stays ps
          → filter stays (match_ordering r (o ∷ p ∷ ps) (with_values p o ∷ ps) (p ∷ with_line o ps)) ≡ filter stays (p ∷ ps)
      by_order Less e more = filter_no stays o (p ∷ ps) h
      by_order Equal e more =
          let k = sym (level_line c o p e) ∙ h in
          filter_no stays (with_values p o) ps k ∙ sym (filter_no stays p ps k)
      by_order Greater e more = ap (λ (l : List Outer). cond (stays p) (p ∷ l) l) more

  union_since : (os ps : List Outer) → filter stays (union_of_lines os ps) ≡ union_of_lines (filter stays os) (filter stays ps)
  union_since os [] = refl
  union_since os (p ∷ ps) = union_since (with_line p os) ps ∙ ⊎_elim
      (λ h. ap (λ (l : List Outer). union_of_lines l (filter stays ps)) (with_line_stays p os h)
      ∙ ap (union_of_lines (filter stays os)) (sym (filter_yes stays p ps h)))
      (λ h. ap (λ (l : List Outer). union_of_lines l (filter stays ps)) (with_line_goes p os h)
      ∙ ap (union_of_lines (filter stays os)) (sym (filter_no stays p ps h)))
      (cases_Bool (stays p))

  united_since : (lines : ℕ → List Outer) (n : ℕ) → united (λ p. filter stays (lines p)) n ≡ filter stays (united lines n)
  united_since lines zero = refl
  united_since lines (suc n) =
      ap (λ (l : List Outer). union_of_lines l (filter stays (lines n))) (united_since lines n)
      ∙ sym (union_since (united lines n) (lines n))

  lines_stay : (os : List Outer) → AreLines os → AreLines (filter stays os)
  lines_stay [] h = tt
  lines_stay (o ∷ os) h =
      let more = lines_stay os h.2 in
      cond_both (stays o) (o ∷ filter stays os) (filter stays os) AreLines
      (λ _. (h.0, All-filter stays (λ (p : Outer). line_cmp o p ≡ Less) os h.1, more)) (λ _. more)

  entries_stay : (test : Entry → Bool) (es : List Entry) → AreInOrder es → AreInOrder (filter test es)
  entries_stay test [] h = tt
  entries_stay test (e ∷ es) h =
      let more = entries_stay test es h.1 in
      cond_both (test e) (e ∷ filter test es) (filter test es) AreInOrder
      (λ _. (All-filter test (λ (f : Entry). precedes e f ≡ true) es h.0, more)) (λ _. more)

  -- ---- parts of a whole

  pub parts_since : (owner : ℕ → ℕ) (whole : PartOf) (parts : List PartOf) → ArePartsOf owner whole parts
      → ArePartsOf owner (since c whole) (map (since c) parts)
  parts_since owner whole parts h = record {
    order = entries_stay (λ (e : Entry). not (is_before e.time c)) whole.entries h.order;
    within = All-filter (λ (e : Entry). not (is_before e.time c)) (λ (e : Entry). owner e.component < length (map (since c) parts))
        whole.entries
        (subst (λ (n : ℕ). All (λ (e : Entry). owner e.component < n) whole.entries) (sym (length-map parts (since c))) h.within);
    entries = λ p x at.
        let found = get_map (since c) parts p x at in
        ap (λ (y : PartOf). y.entries) (sym found.2)
        ∙ (ap (filter (λ (e : Entry). not (is_before e.time c))) (h.entries p found.0 found.1)
        ∙ filters_swap (λ (e : Entry). not (is_before e.time c)) (λ (e : Entry). nat_eq (owner e.component) p) whole.entries);
    lines = λ p x at.
        let found = get_map (since c) parts p x at in
        subst (λ (y : PartOf). AreLines y.outer) found.2 (lines_stay found.0.outer (h.lines p found.0 found.1));
    outer =
        ap (united (lines_at (map (since c) parts))) (length-map parts (since c))
        ∙ (united_agree (lines_at (map (since c) parts)) (λ p. filter stays (lines_at parts p)) (length parts)
        (λ p lt. ap (λ (y : PartOf). y.outer) (get_or-map (since c) parts p nothing nothing lt))
        ∙ (united_since (lines_at parts) (length parts) ∙ ap (filter stays) h.outer));
  }

-- ---- parts of a job

-- the part of a process before a rank, those of all, and the trace
abbrev pub part_of_process : Job → ℕ → ℕ → PartOf
part_of_process job n p = part_before (owned job p) job.limit (whole job.flat) job.outside n

abbrev pub parts_before : Job → ℕ → List PartOf
parts_before job n = map (part_of_process job n) (range_with_len 0 job.processes)

abbrev pub trace_of_job : Job → ℕ → PartOf
trace_of_job job n = trace_before job.limit (whole job.flat) job.outside n

pub many_parts : (job : Job) (n : ℕ) → length (parts_before job n) ≡ job.processes
many_parts job n = length-map-range_with_len (part_of_process job n) 0 job.processes

pub part_at_index : (job : Job) (n p : ℕ) (x : PartOf) → slice_get (parts_before job n) p ≡ Some x → x ≡ part_of_process job n p
part_at_index job n p x at =
    let lt = slice_get_within (parts_before job n) p x at in
    sym (get_or_from_slice_get (parts_before job n) p x x at)
    ∙ get_or-map-range_with_len (part_of_process job n) 0 job.processes p p x
    (subst (λ (m : ℕ). p < m) (many_parts job n) lt) (omega arith)

pub parts_of_trace : (job : Job) (n : ℕ) → IsMergeable job → ArePartsOf job.owner (trace_of_job job n) (parts_before job n)
parts_of_trace job n h =
    committed job.limit (whole job.flat) job.outside job.owner n (parts_before job n) (record {
      ready = h.ready;
      rise = h.rise;
      outputs = h.outputs;
      linear = h.linear;
      bags = h.bags n;
      owned = λ k. subst (λ (m : ℕ). job.owner k < m) (sym (many_parts job n)) (h.owned k);
      each = part_at_index job n;
    })
