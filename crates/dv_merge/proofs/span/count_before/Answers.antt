use Rattle.std.proofs.Common.{◌≡◌, List, true, sym, ap, ◌∙◌, arith, subst, take, length}
use Rattle.std.specs.List.{All}
use Rattle.std.proofs.lemmas.List.Elements.{All-more}
use Rattle.dv_bag.specs.declared.entry.Entry.{Entry}
use Rattle.dv_merge.specs.Entries.{precedes}
use Rattle.dv_merge.proofs.span.count_before.Goals as goal

pub loop-index-preserved : goal.loop-index-preserved
loop-index-preserved g c =
    let es = c.args.entries.now in
    let bound = c.args.bound.now in
    let e = c.index-entries-index.result in
    All-more (λ (x : Entry). precedes x bound ≡ true) es c.loop-index.index e c.loop-index-test.true c.loop-index.invariant
    (ap (λ (x : Entry). precedes x bound) (sym c.index-entries-index.is) ∙ (sym c.precedes.ensures ∙ c.if-not-precedes.false))

pub returns-clause-before : goal.returns-clause-before
returns-clause-before g c =
    let es = c.args.entries.now in
    let at_end : c.loop-index.index ≡ length es = omega (arith, c.loop-index-test.false, c.loop-index.auto.index-end) in
    subst (λ (xs : List Entry). All (λ (e : Entry). precedes e c.args.bound.now ≡ true) xs) (ap (λ n. take n es) at_end)
    c.loop-index.invariant
