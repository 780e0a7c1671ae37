-- The line of what leaves, by the bags with values.
use Rattle.std.proofs.Common.{◌≡◌, ℕ, ◌+◌, ◌<◌, ◌≤◌, ◌==◌, Bool, true, false, cond, List, [], ◌∷◌, ◌++◌}
use Rattle.std.proofs.Common.{length, map, refl, sym, ap, ◌∙◌, arith, append_assoc, append-nil, drop, get_or}
use Rattle.std.specs.Prelude.{codes, nat_eq}
use Rattle.std.specs.List.{All, flat_map}
use Rattle.std.proofs.lemmas.Bool.{eqb-true, ne_eqb}
use Rattle.std.proofs.lemmas.List.{at_drop_all, at_drop_more}
use Rattle.std.proofs.lemmas.List.Elements.{All-append, All-cons, All-nil}
use Rattle.dv_time.specs.Time.{time_text}
use Rattle.dv_time.specs.declared.time.Time.{Time}
use Rattle.dv_bag.specs.Bag.{Counts, size, total}
use Rattle.dv_bag.specs.Bags.{AreWithin, RiseFrom, by_port}
use Rattle.dv_bag.specs.declared.bags.PortBag.{PortBag}
use Rattle.dv_bag.specs.declared.entry.Outer.{Outer}
use Rattle.dv_bag.proofs.PortWalks.{through, through_all, through_held}
use Rattle.dv_tree.specs.Paths.{name_at}
use Rattle.dv_text.specs.Texts.{outer_text, outers_text}
use Rattle.dv_lines.specs.Tables.{with_ends}
use Rattle.dv_record.specs.Told.{line_at, lines_from}
use Rattle.dv_lines.specs.Words.{held_words, leaving_words, port_words}
use Rattle.dv_lines.proofs.Naming.{port, port_there}

-- one more port
pub port_step : (text : PortBag → List ℕ) (line new whole : List ℕ) (hs : List PortBag) (i : ℕ) (h : PortBag) → i < length hs →
    h ≡ get_or hs i h → line ++ flat_map text (drop i hs) ≡ whole → new ≡ line ++ text h →
    new ++ flat_map text (drop (i + 1) hs) ≡ whole
port_step text line new whole hs i h early is so_far more =
    let rest = flat_map text (drop (i + 1) hs) in
    ap (λ (x : List ℕ). x ++ rest) more
    ∙ append_assoc line (text h) rest
    ∙ ap (λ (g : PortBag). line ++ (text g ++ rest)) is
    ∙ ap (λ (x : List ℕ). line ++ x) (sym (at_drop_more (flat_map text) hs i h early))
    ∙ so_far

-- no port is left
pub ports_end : (text : PortBag → List ℕ) (line whole : List ℕ) (hs : List PortBag) (i : ℕ) → length hs ≤ i →
    line ++ flat_map text (drop i hs) ≡ whole → line ≡ whole
ports_end text line whole hs i past so_far =
    sym (append-nil line) ∙ sym (at_drop_all (λ (xs : List PortBag). line ++ flat_map text xs) hs i past) ∙ so_far

no_bags : (hs : List PortBag) → (length hs == 0) ≡ true → hs ≡ []
no_bags [] h = refl
no_bags (x ∷ hs) h = absurd (omega (arith, eqb-true (length (x ∷ hs)) 0 h))

-- the pieces of a line
pub pieces_of_line : (old front out ports end first second third : List ℕ) → first ≡ old ++ (front ++ out) → second ≡ first ++ ports →
    third ≡ second ++ end → third ≡ old ++ (front ++ (out ++ (ports ++ end)))
pieces_of_line old front out ports end first second third a b c =
    c
    ∙ ap (λ (x : List ℕ). x ++ end) b
    ∙ append_assoc first ports end
    ∙ ap (λ (x : List ℕ). x ++ (ports ++ end)) a
    ∙ append_assoc old (front ++ out) (ports ++ end)
    ∙ ap (λ (x : List ℕ). old ++ x) (append_assoc front out (ports ++ end))

module _ (t : Time) where
  abbrev port_line : PortBag → Outer
  port_line h = record { time = t; port = h.port; values = h.bag }

  abbrev line_before : ℕ → Counts → List Outer → List Outer
  line_before p b lines = line_at t p b ++ lines

  abbrev held_lines : List PortBag → List Outer
  held_lines hs = through_held line_before hs []

  lines_through : (p : ℕ) (bags : List Counts) → through line_before p bags [] ≡ lines_from t p bags
  lines_through p [] = refl
  lines_through p (b ∷ bs) = ap (line_before p b) (lines_through (p + 1) bs)

  all_lines : (ports : ℕ) (bags : List Counts) (hs : List PortBag) → by_port ports hs ≡ bags → AreWithin ports hs → RiseFrom 0 hs →
      held_lines hs ≡ lines_from t 0 bags
  all_lines ports bags hs are within rise =
      sym (through_all line_before (λ p lines. refl) ports bags hs [] are within rise) ∙ lines_through 0 bags

  -- a bag with values has its line
  one_line : (h : PortBag) → 0 < total h.bag → line_at t h.port h.bag ≡ port_line h ∷ []
  one_line h some =
      ap (λ (none : Bool). cond none [] (port_line h ∷ [])) (ne_eqb (size h.bag) 0 (λ e. absurd (omega (arith, e, some))))

  -- all of it left at that time
  pub left_then : (p : ℕ) (bags : List Counts) → All (λ (o : Outer). o.time ≡ t) (lines_from t p bags)
  left_then p [] = All-nil (λ (o : Outer). o.time ≡ t)
  left_then p (b ∷ bs) =
      All-append (λ (o : Outer). o.time ≡ t) (line_at t p b) (lines_from t (p + 1) bs) (one (nat_eq (size b) 0))
      (left_then (p + 1) bs)
    where
      line : Outer
      line = record { time = t; port = p; values = b }

      one : (none : Bool) → All (λ (o : Outer). o.time ≡ t) (cond none [] (line ∷ []))
      one true = All-nil (λ (o : Outer). o.time ≡ t)
      one false = All-cons (λ (o : Outer). o.time ≡ t) line [] refl (All-nil (λ (o : Outer). o.time ≡ t))

  module _ (outputs : List (List ℕ)) where
    abbrev words : List (List ℕ)
    words = map (with_ends (58 ∷ [])) outputs

    port_left : (h : PortBag) → outer_text outputs (port_line h) ≡ held_words words h
    port_left h =
        sym (port (name_at outputs h.port) h.bag) ∙ ap (λ (w : List ℕ). port_words w h.bag) (sym (port_there outputs h.port))

    ports_left : (ports : ℕ) (hs : List PortBag) → AreWithin ports hs →
        flat_map (outer_text outputs) (held_lines hs) ≡ flat_map (held_words words) hs
    ports_left ports [] within = refl
    ports_left ports (h ∷ hs) within =
        let rest = flat_map (outer_text outputs) (held_lines hs) in
        ap (λ (os : List Outer). flat_map (outer_text outputs) (os ++ held_lines hs)) (one_line h within.1)
        ∙ ap (λ (x : List ℕ). x ++ rest) (port_left h)
        ∙ ap (λ (x : List ℕ). held_words words h ++ x) (ports_left ports hs within.2)

    pub nothing_left : (ports : ℕ) (bags : List Counts) (hs : List PortBag) → (length hs == 0) ≡ true → by_port ports hs ≡ bags →
        AreWithin ports hs → RiseFrom 0 hs → outers_text outputs t (lines_from t 0 bags) ≡ []
    nothing_left ports bags hs none are within rise =
        ap (outers_text outputs t) (sym (all_lines ports bags hs are within rise) ∙ ap held_lines (no_bags hs none))

    line_of : (os : List Outer) (o : Outer) (rest : List Outer) → os ≡ o ∷ rest →
        outers_text outputs t os ≡ time_text t ++ (codes " out" ++ (flat_map (outer_text outputs) os ++ (10 ∷ [])))
    line_of os o rest e =
        ap (outers_text outputs t) e
        ∙ ap (λ (xs : List Outer). time_text t ++ (codes " out" ++ (flat_map (outer_text outputs) xs ++ (10 ∷ [])))) (sym e)

    -- the line by the words is the line by the names
    line_left : (ports : ℕ) (bags : List Counts) (h : PortBag) (hs : List PortBag) → by_port ports (h ∷ hs) ≡ bags →
        AreWithin ports (h ∷ hs) → RiseFrom 0 (h ∷ hs) →
        leaving_words words t (h ∷ hs) ≡ outers_text outputs t (lines_from t 0 bags)
    line_left ports bags h hs are within rise =
        ap (λ (x : List ℕ). time_text t ++ (codes " out" ++ (x ++ (10 ∷ [])))) (sym (ports_left ports (h ∷ hs) within))
        ∙ sym (line_of (held_lines (h ∷ hs)) (port_line h) (held_lines hs)
        (ap (λ (os : List Outer). os ++ held_lines hs) (one_line h within.1)))
        ∙ ap (outers_text outputs t) (all_lines ports bags (h ∷ hs) are within rise)

    pub some_left : (ports : ℕ) (bags : List Counts) (hs : List PortBag) → (length hs == 0) ≡ false → by_port ports hs ≡ bags →
        AreWithin ports hs → RiseFrom 0 hs → leaving_words words t hs ≡ outers_text outputs t (lines_from t 0 bags)
    some_left ports bags [] some are within rise = absurd (cc)
    some_left ports bags (h ∷ hs) some are within rise = line_left ports bags h hs are within rise
