use Rattle.std.proofs.Common.{◌≡◌, ◌↔◌, ℕ, ◌<◌, ◌≤◌, ◌∙◌, Vec, Global, length, map, get_or, true, sym, ap, arith}
use Rattle.std.proofs.lemmas.List.{get_or-map}
use Rattle.std.proofs.lemmas.Result.{IfOk-weaker}
use Rattle.dv_cycles.specs.Ways.{has_way}
use Rattle.dv_cycles.specs.Search.{mark_at, number_of, state_of}
use Rattle.dv_cycles.specs.declared.search.Mark.TheVariants.{New}
use Rattle.dv_cycles.proofs.Ends.{numbers_together}
use Rattle.dv_cycles.proofs.components.strong_components.Goals as goal

pub loop-root-init : goal.loop-root-init
loop-root-init c = record {
  search = c.in_ok-search.ensures.search c.args.graph.now c.requires.graph (sym c.len.ensures);
  idle = c.in_ok-search.ensures.idle;
  reached = λ v l. absurd (omega arith);
}

pub returns-clause-together : goal.returns-clause-together
returns-clause-together c =
    let s = c.loop-root.search in
    let graph = c.args.graph.now in
    let h = c.loop-root.invariant in
    let size : length s.marks.items ≡ length graph = h.search.marked in
    let idle : length s.segments.items ≡ 0 = sym s.segments.ok.0 ∙ h.idle in
    let all : length graph ≤ c.loop-root.root = omega (arith, c.loop-root-test.false) in
    IfOk-weaker c.numbers.result (λ (numbers : Vec ℕ Global). numbers.items ≡ map number_of s.marks.items)
    (λ (numbers : Vec ℕ Global). (u v : ℕ) → u < length graph → v < length graph
    → (get_or numbers.items u 0 ≡ get_or numbers.items v 0) ↔ ((has_way graph u v ≡ true) × (has_way graph v u ≡ true)))
    (λ numbers e u v a b.
    let number_at : (w : ℕ) → w < length graph → get_or numbers.items w 0 ≡ number_of (mark_at s.marks.items w) =
    λ w l. ap (λ xs. get_or xs w 0) e ∙ get_or-map number_of s.marks.items w New 0 (omega arith) in
    let x = number_at u a in
    let y = number_at v b in
    let both = numbers_together graph (state_of s) h.search.state idle u v (h.reached u (omega arith)) (h.reached v (omega arith)) in
    ((λ same. both.0 (sym x ∙ same ∙ y)), (λ ways. x ∙ both.1 ways ∙ sym y)))
    c.numbers.ensures
