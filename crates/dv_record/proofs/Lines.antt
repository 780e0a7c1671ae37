-- The lines of what leaves: one for each port with values.
use Rattle.std.proofs.Common.{◌≡◌, ℕ, ◌+◌, ◌<◌, Bool, cond, List, [], ◌∷◌, ◌++◌, length, get_or, drop, refl, sym, ap, ◌∙◌, subst, arith}
use Rattle.std.proofs.lemmas.Bool.{ne_eqb}
use Rattle.std.proofs.lemmas.List.{append_assoc, at_drop_more}
use Rattle.dv_time.specs.Time.{IsOfRun, rank}
use Rattle.dv_time.specs.declared.time.Time.{Time}
use Rattle.dv_time.proofs.Ranks.{time_of-rank}
use Rattle.dv_bag.specs.Bag.{Counts, size, total}
use Rattle.dv_bag.specs.Bags.{AreWithin, RiseFrom, by_port}
use Rattle.dv_bag.specs.declared.bags.PortBag.{PortBag}
use Rattle.dv_bag.specs.declared.entry.Outer.{Outer}
use Rattle.dv_bag.proofs.PortBags.{values_held}
use Rattle.dv_bag.proofs.PortWalks.{through, through_all, through_held}
use Rattle.dv_devs.specs.Network.{outer_from}
use Rattle.dv_record.specs.Told.{line_at, lines_from}

module _ (time : Time) where
  abbrev pub line_before : ℕ → Counts → List Outer → List Outer
  line_before port b lines = line_at time port b ++ lines

  abbrev pub held_lines : List PortBag → List Outer
  held_lines hs = through_held line_before hs []

  lines_through : (port : ℕ) (bags : List Counts) → through line_before port bags [] ≡ lines_from time port bags
  lines_through port [] = refl
  lines_through port (b ∷ bs) = ap (line_before port b) (lines_through (port + 1) bs)

  pub all_lines : (ports : ℕ) (bags : List Counts) (hs : List PortBag) → by_port ports hs ≡ bags → AreWithin ports hs → RiseFrom 0 hs →
      held_lines hs ≡ lines_from time 0 bags
  all_lines ports bags hs are within rise =
      sym (through_all line_before (λ port lines. refl) ports bags hs [] are within rise) ∙ lines_through 0 bags

  -- a port with values has its line
  pub one_more : (ports i : ℕ) (hs : List PortBag) (h : PortBag) (lines new all : List Outer) → AreWithin ports hs → i < length hs →
      h ≡ get_or hs i h → new ≡ lines ++ record { time = time; port = h.port; values = h.bag } ∷ [] →
      lines ++ held_lines (drop i hs) ≡ all → new ++ held_lines (drop (i + 1) hs) ≡ all
  one_more ports i hs h lines new all within early is more so_far =
      let line : List Outer = record { time = time; port = h.port; values = h.bag } ∷ [] in
      let some : 0 < total h.bag = subst (λ (g : PortBag). 0 < total g.bag) (sym is) (values_held ports i hs h within early) in
      let has = ne_eqb (size h.bag) 0 (λ e. absurd (omega (arith, e, some))) in
      ap (λ (os : List Outer). os ++ held_lines (drop (i + 1) hs)) more
      ∙ append_assoc lines line (held_lines (drop (i + 1) hs))
      ∙ ap (λ (t : Bool). lines ++ (cond t [] line ++ held_lines (drop (i + 1) hs))) (sym has)
      ∙ ap (λ (g : PortBag). lines ++ line_before g.port g.bag (held_lines (drop (i + 1) hs))) is
      ∙ ap (λ (os : List Outer). lines ++ os) (sym (at_drop_more held_lines hs i h early))
      ∙ so_far

-- what leaves at the rank of a time
pub lines_at_rank : (limit : ℕ) (time : Time) (port : ℕ) (bags : List Counts) → IsOfRun limit time →
    outer_from limit (rank limit time) port bags ≡ lines_from time port bags
lines_at_rank limit time port [] h = refl
lines_at_rank limit time port (b ∷ bs) h =
    ap (λ (t : Time). line_at t port b ++ outer_from limit (rank limit time) (port + 1) bs) (time_of-rank limit time h)
    ∙ ap (λ (os : List Outer). line_at time port b ++ os) (lines_at_rank limit time (port + 1) bs h)
