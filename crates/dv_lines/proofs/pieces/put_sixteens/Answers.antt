use Rattle.std.proofs.Common.{◌≡◌, ◌+◌, ◌++◌, ap, ◌∙◌, append-nil, arith, drop, sym, take, take-take}
use Rattle.dv_lines.proofs.Behind.{more_put, put_within}
use Rattle.dv_lines.proofs.pieces.put_sixteens.Goals as goal

pub loop-done-init : goal.loop-done-init
loop-done-init c =
    let at = c.args.at in
    let to = c.args.to.now in
    record {
      size = search;
      within = omega arith;
      text = ap (λ k. take k to) (let same : at + 0 ≡ at = omega arith in same) ∙ sym (append-nil (take at to));
    }

pub loop-done-preserved : goal.loop-done-preserved
loop-done-preserved c =
    let held = c.loop-done.invariant in
    let there = c.args.at + c.loop-done.done in
    let from = c.args.start + c.loop-done.done in
    let part = take-take 16 16 (drop from c.args.bytes.now) (omega arith) in
    let step = ap (take 16) c.sixteen_at.ensures in
    record {
      size = omega (arith, held.size, c.put_sixteen.ensures.size);
      within = omega (arith, c.loop-done-test.true);
      text =
          more_put (take c.args.at c.args.to.now) _ _ c.args.bytes.now c.args.at c.args.start c.loop-done.done 16 held.text
          (c.put_sixteen.ensures.text.1 ∙ ap (λ ys. take there c.loop-done.to ++ ys) (step ∙ part));
    }

pub returns-clause-text : goal.returns-clause-text
returns-clause-text c =
    let held = c.loop-done.invariant in (
      omega (arith, held.size, c.requires.room),
      put_within c.args.to.now _ (drop c.args.start c.args.bytes.now) c.args.at c.loop-done.done c.args.count
          (omega (arith, c.requires.room)) (omega (arith, c.loop-done-test.false)) held.text,
    )
