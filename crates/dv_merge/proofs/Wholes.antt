-- Parts of a run's trace.
use Rattle.std.proofs.Common.{◌≡◌, ℕ, zero, suc, ◌+◌, ◌<◌, Bool, true, false, ◌&&◌, nat_eq, nat_le, nat_lt, cond, List, [], ◌∷◌}
use Rattle.std.proofs.Common.{◌++◌, length, map, slice_get, slice_index_or, Option, None, Some, option_map, refl, sym, ap, ap₂}
use Rattle.std.proofs.Common.{◌∙◌, subst, arith}
use Rattle.std.specs.List.{All}
use Rattle.std.specs.Ordering.{is_lt, nat_cmp, ordering_then}
use Rattle.std.specs.declared.cmp.Ordering.{Ordering}
use Rattle.std.specs.declared.cmp.Ordering.TheVariants.{Less, Equal}
use Rattle.std.proofs.Math.ListN.{get_or-map}
use Rattle.std.proofs.lemmas.Bool.Decides.{nat_tests}
use Rattle.std.proofs.lemmas.List.{length-map}
use Rattle.std.proofs.lemmas.List.Elements.{All-append, All-cons, All-head, All-map, All-nil, All-tail, All-weaker}
use Rattle.std.proofs.lemmas.Option.{slice_get-get_or, slice_get-map, slice_get_within}
use Rattle.dv_time.specs.Time.{time_cmp, time_of}
use Rattle.dv_time.specs.declared.time.Time.{Time}
use Rattle.dv_bag.specs.Bag.{Counts, IsBag, size}
use Rattle.dv_bag.specs.Part.{PartOf, nothing}
use Rattle.dv_bag.specs.declared.entry.Entry.{Entry}
use Rattle.dv_bag.specs.declared.entry.Outer.{Outer}
use Rattle.dv_devs.specs.Cuts.{RiseFrom}
use Rattle.dv_devs.specs.Network.{Network, components_at, emissions_at, instant, outer_from, trace_at, trace_before}
use Rattle.dv_devs.specs.Outside.{AllBags, LeavesLinearly, SendsBags, line_cmp}
use Rattle.dv_devs.specs.Parts.{part_at, part_before, sent_among}
use Rattle.dv_devs.proofs.Cuts.{filter_keeps, numbers_rise, part_is_before, parts_at, ports_rise, trace_is_before, traces_at}
use Rattle.dv_devs.proofs.Parts.{part_entries}
use Rattle.dv_conservative.specs.True.{united}
use Rattle.dv_conservative.proofs.Wholes.{all_united}
use Rattle.dv_merge.specs.Entries.{AreInOrder, AreOwned, of_process, of_processes, precedes}
use Rattle.dv_merge.specs.Lines.{AllLines, AreLines, list_at, lines_at}
use Rattle.dv_merge.specs.Whole.{AreCommitted, ArePartsOf}
use Rattle.dv_merge.proofs.Uniting.{united_agree}
use Rattle.dv_devs.proofs.Cuts.{lines_at as lines_of_instant}

-- ---- parts of a whole

-- the lists of parts
abbrev pub entry_lists : List PartOf → List (List Entry)
entry_lists parts = map (λ (x : PartOf). x.entries) parts

abbrev pub line_lists : List PartOf → List (List Outer)
line_lists parts = map (λ (x : PartOf). x.outer) parts

pub are_owned : (owner : ℕ → ℕ) (whole : PartOf) (parts : List PartOf) → ArePartsOf owner whole parts
    → AreOwned owner 0 whole.entries (entry_lists parts)
are_owned owner whole parts h p es e =
    by_get (slice_get parts p) refl (sym (slice_get-map (λ (x : PartOf). x.entries) parts p) ∙ e)
  where
    by_get : (o : Option PartOf) → slice_get parts p ≡ o → option_map (λ (x : PartOf). x.entries) o ≡ Some es
        → es ≡ of_process owner (0 + p) whole.entries
    by_get None at is = absurd (cc)
    by_get (Some x) at is =
        let same : p ≡ 0 + p = omega arith in
        let entries : es ≡ x.entries = cc in
        entries ∙ (h.entries p x at ∙ ap (λ (n : ℕ). of_process owner n whole.entries) same)

pub are_lines : (parts : List PartOf) → AllLines parts → All AreLines (line_lists parts)
are_lines parts h =
    All-map AreLines (λ (x : PartOf). x.outer) parts
    (λ k d lt. h k (slice_index_or parts k d) (slice_get-get_or parts k d lt))

all_processes : (owner : ℕ → ℕ) (n : ℕ) (es : List Entry) → All (λ (e : Entry). owner e.component < n) es
    → of_processes owner 0 (0 + n) es ≡ es
all_processes owner n es h =
    filter_keeps (λ (e : Entry). nat_le 0 (owner e.component) && nat_lt (owner e.component) (0 + n)) es
    (All-weaker (λ (e : Entry). owner e.component < n) (λ (e : Entry). nat_le 0 (owner e.component) && nat_lt (owner e.component) (0 + n)
    ≡ true)
    (λ e lt. within (owner e.component) lt) es h)
  where
    within : (k : ℕ) → k < n → nat_le 0 k && nat_lt k (0 + n) ≡ true
    within k lt = grind (arith, nat_tests)

united_lists : (parts : List PartOf)
    → united (list_at (line_lists parts)) (length (line_lists parts)) ≡ united (lines_at parts) (length parts)
united_lists parts =
    ap (united (list_at (line_lists parts))) (length-map parts (λ (x : PartOf). x.outer))
    ∙ united_agree (list_at (line_lists parts)) (lines_at parts) (length parts)
    (λ p lt. get_or-map (λ (x : PartOf). x.outer) parts p nothing)

pub whole_again : (owner : ℕ → ℕ) (whole : PartOf) (parts : List PartOf) (es : List Entry) (os : List Outer)
    → ArePartsOf owner whole parts
    → es ≡ of_processes owner 0 (0 + length (entry_lists parts)) whole.entries
    → os ≡ united (list_at (line_lists parts)) (length (line_lists parts))
    → record { entries = es; outer = os } ≡ whole
whole_again owner whole parts es os h e o =
    ap₂ (λ (es : List Entry) (os : List Outer). record { entries = es; outer = os })
    (e ∙ (ap (λ (n : ℕ). of_processes owner 0 (0 + n) whole.entries) (length-map parts (λ (x : PartOf). x.entries))
    ∙ all_processes owner (length parts) whole.entries h.within))
    (o ∙ (united_lists parts ∙ h.outer))

-- no parts are of nothing
pub no_parts : (parts : List PartOf) → length parts ≡ 0 → ArePartsOf (λ k. 0) nothing parts
no_parts [] e = record {
  order = tt;
  within = All-nil (λ (e : Entry). 0 < 0);
  entries = λ p x at. absurd (none p x at);
  lines = λ p x at. absurd (none p x at);
  outer = refl;
}
  where
    none : (p : ℕ) (x : PartOf) → slice_get [] p ≡ Some x → ⊥
    none p x at = let lt = slice_get_within [] p x at in omega arith
no_parts (x ∷ xs) e = absurd (omega arith)

-- ---- the order of a trace

same_time : (t : Time) → time_cmp t t ≡ Equal
same_time t = grind (arith, nat_tests)

less_number : (a b : ℕ) → a < b → nat_cmp a b ≡ Less
less_number a b lt = grind (arith, nat_tests)

-- by time
earlier : (e f : Entry) (t : Time) → time_cmp e.time t ≡ Less → f.time ≡ t → precedes e f ≡ true
earlier e f t h s =
    ap (λ (u : Time). is_lt (ordering_then (time_cmp e.time u) (nat_cmp e.component f.component))) s
    ∙ ap (λ (r : Ordering). is_lt (ordering_then r (nat_cmp e.component f.component))) h

-- and at one time by component
lower : (e f : Entry) (t : Time) → e.time ≡ t → f.time ≡ t → e.component < f.component → precedes e f ≡ true
lower e f t h s lt =
    ap₂ (λ (u v : Time). is_lt (ordering_then (time_cmp u v) (nat_cmp e.component f.component))) h s
    ∙ (ap (λ (r : Ordering). is_lt (ordering_then r (nat_cmp e.component f.component))) (same_time t)
    ∙ ap is_lt (less_number e.component f.component lt))

abbrev IsAt : Time → Entry → Type 0
IsAt t e = e.time ≡ t

lower_all : (e : Entry) (es : List Entry) (t : Time) (low : ℕ) → e.time ≡ t → e.component < low → All (IsAt t) es
    → RiseFrom low (map (λ (f : Entry). f.component) es) → All (λ (f : Entry). precedes e f ≡ true) es
lower_all e [] t low s lt h r = All-nil (λ (f : Entry). precedes e f ≡ true)
lower_all e (f ∷ fs) t low s lt h r =
    All-cons (λ (f : Entry). precedes e f ≡ true) f fs (lower e f t s (All-head (IsAt t) f fs h) (omega (arith, r.0)))
    (lower_all e fs t (suc f.component) s (omega (arith, r.0)) (All-tail (IsAt t) f fs h) r.1)

instant_in_order : (t : Time) (low : ℕ) (es : List Entry) → All (IsAt t) es → RiseFrom low (map (λ (f : Entry). f.component) es)
    → AreInOrder es
instant_in_order t low [] h r = tt
instant_in_order t low (e ∷ es) h r = (
  lower_all e es t (suc e.component) (All-head (IsAt t) e es h) (omega arith) (All-tail (IsAt t) e es h) r.1,
  instant_in_order t (suc e.component) es (All-tail (IsAt t) e es h) r.1,
)

in_order_append : (xs ys : List Entry) (t : Time) → AreInOrder xs → AreInOrder ys → All (λ (e : Entry). time_cmp e.time t ≡ Less) xs
    → All (IsAt t) ys → AreInOrder (xs ++ ys)
in_order_append [] ys t h k early now = k
in_order_append (x ∷ xs) ys t h k early now = (
  All-append (λ (f : Entry). precedes x f ≡ true) xs ys h.0
      (All-weaker (IsAt t) (λ (f : Entry). precedes x f ≡ true)
      (λ f s. earlier x f t (All-head (λ (e : Entry). time_cmp e.time t ≡ Less) x xs early) s) ys now),
  in_order_append xs ys t h.1 k (All-tail (λ (e : Entry). time_cmp e.time t ≡ Less) x xs early) now,
)

-- ---- the order of lines

line_earlier : (o p : Outer) (t : Time) → time_cmp o.time t ≡ Less → p.time ≡ t → line_cmp o p ≡ Less
line_earlier o p t h s =
    ap (λ (u : Time). ordering_then (time_cmp o.time u) (nat_cmp o.port p.port)) s
    ∙ ap (λ (r : Ordering). ordering_then r (nat_cmp o.port p.port)) h

line_lower : (o p : Outer) (t : Time) → o.time ≡ t → p.time ≡ t → o.port < p.port → line_cmp o p ≡ Less
line_lower o p t h s lt =
    ap₂ (λ (u v : Time). ordering_then (time_cmp u v) (nat_cmp o.port p.port)) h s
    ∙ (ap (λ (r : Ordering). ordering_then r (nat_cmp o.port p.port)) (same_time t) ∙ less_number o.port p.port lt)

abbrev LeavesAt : Time → Outer → Type 0
LeavesAt t o = o.time ≡ t

lines_lower : (o : Outer) (os : List Outer) (t : Time) (low : ℕ) → o.time ≡ t → o.port < low → All (LeavesAt t) os
    → RiseFrom low (map (λ (p : Outer). p.port) os) → All (λ (p : Outer). line_cmp o p ≡ Less) os
lines_lower o [] t low s lt h r = All-nil (λ (p : Outer). line_cmp o p ≡ Less)
lines_lower o (p ∷ ps) t low s lt h r =
    All-cons (λ (p : Outer). line_cmp o p ≡ Less) p ps (line_lower o p t s (All-head (LeavesAt t) p ps h) (omega (arith, r.0)))
    (lines_lower o ps t (suc p.port) s (omega (arith, r.0)) (All-tail (LeavesAt t) p ps h) r.1)

lines_append : (xs ys : List Outer) (t : Time) → AreLines xs → AreLines ys → All (λ (o : Outer). time_cmp o.time t ≡ Less) xs
    → All (LeavesAt t) ys → AreLines (xs ++ ys)
lines_append [] ys t h k early now = k
lines_append (x ∷ xs) ys t h k early now = (
  h.0,
  All-append (λ (p : Outer). line_cmp x p ≡ Less) xs ys h.1
      (All-weaker (LeavesAt t) (λ (p : Outer). line_cmp x p ≡ Less)
      (λ p s. line_earlier x p t (All-head (λ (o : Outer). time_cmp o.time t ≡ Less) x xs early) s) ys now),
  lines_append xs ys t h.2 k (All-tail (λ (o : Outer). time_cmp o.time t ≡ Less) x xs early) now,
)

-- what leaves at an instant
instant_lines : (limit now port : ℕ) (bags : List Counts) → All IsBag bags → AreLines (outer_from limit now port bags)
instant_lines limit now port [] h = tt
instant_lines limit now port (b ∷ bs) h = by_test (nat_eq (size b) 0) (instant_lines limit now (port + 1) bs (All-tail IsBag b bs h))
  where
    by_test : (none : Bool) → AreLines (outer_from limit now (port + 1) bs)
        → AreLines (cond none [] (record { time = time_of limit now; port = port; values = b } ∷ []) ++ outer_from limit now (port + 1) bs)
    by_test true rest = rest
    by_test false rest = (
      All-head IsBag b bs h,
      lines_lower (record { time = time_of limit now; port = port; values = b }) (outer_from limit now (port + 1) bs) (time_of limit now)
          (port + 1) refl (omega arith)
          (lines_of_instant limit now (port + 1) bs) (ports_rise limit now (port + 1) bs),
      rest,
    )

bags_among : (who : ℕ → Bool) (ks : List ℕ) (sent : List (List Counts)) → AllBags sent → AllBags (sent_among who ks sent)
bags_among who [] sent h = All-nil (All IsBag)
bags_among who (k ∷ ks) [] h = All-nil (All IsBag)
bags_among who (k ∷ ks) (bags ∷ rest) h =
    All-cons (All IsBag) (cond (who k) bags []) (sent_among who ks rest) (by_test (who k))
    (bags_among who ks rest (All-tail (All IsBag) bags rest h))
  where
    by_test : (t : Bool) → All IsBag (cond t bags [])
    by_test true = All-head (All IsBag) bags rest h
    by_test false = All-nil IsBag

-- ---- a run

module _ {I : Type 0} (limit : ℕ) (net : Network I) (inputs : ℕ → I) where
  trace_in_order : RiseFrom 0 net.numbers → (n : ℕ) → AreInOrder (trace_before limit net inputs n).entries
  trace_in_order rise zero = tt
  trace_in_order rise (suc n) =
      let now = traces_at limit net inputs n in
      let early = trace_is_before limit net inputs n in
      in_order_append (trace_before limit net inputs n).entries (trace_at limit net inputs n).entries (time_of limit n)
      (trace_in_order rise n)
      (instant_in_order (time_of limit n) 0 (trace_at limit net inputs n).entries now.0
      (numbers_rise limit n 0 net.numbers (instant limit net n (inputs n) (components_at limit net inputs n)) rise))
      early.0 now.0

  part_lines : LeavesLinearly net → (who : ℕ → Bool) (n : ℕ) → SendsBags limit net inputs n
      → AreLines (part_before who limit net inputs n).outer
  part_lines linear who zero h = tt
  part_lines linear who (suc n) h =
      let now = parts_at limit net inputs who n in
      let early = part_is_before limit net inputs who n in
      let sent = sent_among who net.numbers (emissions_at limit net inputs n) in
      lines_append (part_before who limit net inputs n).outer (part_at who limit net inputs n).outer (time_of limit n)
      (part_lines linear who n (λ k lt. h k (omega arith)))
      (instant_lines limit n 0 (net.leaves sent)
      (linear.bags sent (bags_among who net.numbers (emissions_at limit net inputs n) (h n (omega arith)))))
      early.1 now.1

  pub committed : (owner : ℕ → ℕ) (n : ℕ) (parts : List PartOf) → AreCommitted limit net inputs owner n parts
      → ArePartsOf owner (trace_before limit net inputs n) parts
  committed owner n parts h = record {
    order = trace_in_order h.rise n;
    within = λ k d lt. h.owned (slice_index_or (trace_before limit net inputs n).entries k d).component;
    entries = λ p x e. ap (λ (y : PartOf). y.entries) (h.each p x e) ∙ part_entries limit net inputs (λ k. nat_eq (owner k) p) n;
    lines = λ p x e. subst (λ (y : PartOf). AreLines y.outer) (sym (h.each p x e)) (part_lines h.linear (λ k. nat_eq (owner k) p) n h.bags);
    outer =
        united_agree (lines_at parts) (λ p. (part_before (λ k. nat_eq (owner k) p) limit net inputs n).outer) (length parts)
        (λ p lt. ap (λ (y : PartOf). y.outer) (h.each p (slice_index_or parts p nothing) (slice_get-get_or parts p nothing lt)))
        ∙ all_united limit net inputs h.ready h.outputs owner n h.linear h.bags (length parts) h.owned;
  }
