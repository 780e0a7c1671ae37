use Rattle.std.proofs.Common.{sym, ap, ◌∙◌, arith}
use Rattle.dv_text.specs.Merging.{groups_of}
use Rattle.dv_text.specs.Names.{tree_ports}
use Rattle.dv_text.proofs.Groups.{after_at-same, other_groups-at}
use Rattle.dv_lines.proofs.Rounds.{group_begun, group_further}
use Rattle.dv_lines.proofs.trace_writer.put_group.Goals as goal

pub loop-next-init : goal.loop-next-init
loop-next-init c =
    let names = tree_ports c.args.words.now in
    let first = c.in-Some.first.now in
    let cut = c.in-Some.ensures.cases.0 in
    record {
      text = group_begun names c.args.outer.now first c.in-Some.after.now cut _ _ _ c.in_ok-begin_left.ensures.ok c.in_ok-put_port.ensures.ok;
      left = other_groups-at names c.args.outer.now first c.in-Some.after.now cut;
      fewer = omega (arith, c.in-Some.ensures.cases.1);
    }

pub loop-next-preserved : goal.loop-next-preserved
loop-next-preserved c =
    let names = tree_ports c.args.words.now in
    let same = sym c.is_same.ensures ∙ c.if-is_same.true in
    let cut = c.in-Some-split_first.ensures.cases.0 in
    record {
      text = group_further names _ _ _ _ cut same _ _ _ c.in_ok-put_port-2.ensures.ok c.loop-next.invariant.text;
      left = ap (groups_of names) (after_at-same _ _ _ _ cut same) ∙ c.loop-next.invariant.left;
      fewer = omega (arith, c.in-Some-split_first.ensures.cases.1);
    }
