use Rattle.std.proofs.Common.{◌≤◌, arith, length, rules, sym}
use Rattle.std.proofs.lemmas.Int.{to_z-of_z}
use mir.Syntax.{w64}
use mir.Val.{SFits}
use Rattle.dv_text.proofs.Values.{queue_end, queue_step}
use Rattle.dv_lines.proofs.values.put_queue.Goals as goal

pub loop-number-preserved : goal.loop-number-preserved
loop-number-preserved c =
    let fits : SFits w64 c.in-Some.value = search rules in
    let more = (simp to_z-of_z at c.in_ok-at.ensures.text) in
    record {
      size = omega (arith, c.loop-number.invariant.size, c.put_value.ensures.size);
      at = more.0;
      text =
          queue_step _ _ _ c.loop-number.is_first c.args.values.now c.loop-number.number c.in-Some.value (sym c.in-Some.ensures)
          c.loop-number.invariant.text more.1;
    }

pub returns-clause-text : goal.returns-clause-text
returns-clause-text c =
    let q = c.args.values.now in
    let past : length q ≤ c.loop-number.number = omega (arith, c.len-number-end.ensures, c.loop-number-test.false) in
    (c.loop-number.invariant.at, queue_end _ _ c.loop-number.is_first q c.loop-number.number past c.loop-number.invariant.text)
