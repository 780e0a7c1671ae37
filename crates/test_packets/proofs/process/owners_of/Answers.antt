use Rattle.std.proofs.Common.{◌∙◌, ◌+◌, ◌<◌, ℕ, List, length, ap, sym, subst, arith}
use Rattle.std.specs.List.{AllByRecursion}
use Rattle.std.proofs.lemmas.List.{length_push}
use Rattle.dv_partition.proofs.Numbers.{all_more}
use Rattle.test_packets.proofs.process.owners_of.Goals as goal

pub loop-component-preserved : goal.loop-component-preserved
loop-component-preserved c =
    let old = c.loop-component.owners.items in
    record {
      owned =
          subst (AllByRecursion (λ p. p < 2)) (sym c.in_ok-push.ensures.items)
          (all_more (λ p. p < 2) old c.min.result c.loop-component.invariant.owned (omega (arith, c.min.ensures)));
      count =
          ap (λ (ps : List ℕ). length ps) c.in_ok-push.ensures.items ∙ length_push old c.min.result
          ∙ ap (λ n. n + 1) c.loop-component.invariant.count;
    }
