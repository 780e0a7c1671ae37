use Rattle.std.proofs.Common.{◌++◌, sym, ap, ◌∙◌}
use Rattle.std.specs.List.{flat_map}
use Rattle.dv_text.specs.Merging.{first_text, group_text, groups_of, other_groups}
use Rattle.dv_text.specs.Names.{tree_ports}
use Rattle.dv_text.proofs.Groups.{lines_of_groups}
use Rattle.dv_text.proofs.Taking.{AppendsBeginning-from, AppendsBeginning-handed, AppendsBeginning-short, OnErr-always}
use Rattle.dv_text.proofs.Taking.{TakesFront-handed, TakesFront-pushed}
use Rattle.dv_lines.proofs.trace_writer.write_groups.Goals as goal

pub returns-in_err-rest-clause-err : goal.returns-in_err-rest-clause-err
returns-in_err-rest-clause-err g c = OnErr-always _ (AppendsBeginning-from c.loop-rest.invariant)

pub returns-in_err-hand_over_if_long-clause-err : goal.returns-in_err-hand_over_if_long-clause-err
returns-in_err-hand_over_if_long-clause-err g c =
    let groups = groups_of (tree_ports c.args.words.now) c.loop-rest.rest.now in
    let behind = TakesFront-pushed c.loop-rest.lines c.put_group.new.lines (flat_map group_text groups) (first_text groups)
    (flat_map group_text (other_groups groups)) c.loop-rest.invariant (lines_of_groups groups) c.in_ok-rest.ensures.line in
    OnErr-always _ (AppendsBeginning-handed _ _ behind (AppendsBeginning-short c.in_err-hand_over_if_long.ensures.err))

pub loop-rest-preserved : goal.loop-rest-preserved
loop-rest-preserved g c =
    let groups = groups_of (tree_ports c.args.words.now) c.loop-rest.rest.now in
    let others = groups_of (tree_ports c.args.words.now) c.in_ok-rest.rest.now in
    let more = lines_of_groups groups ∙ ap (λ gs. first_text groups ++ flat_map group_text gs) (sym c.in_ok-rest.ensures.left) in
    let behind = TakesFront-pushed c.loop-rest.lines c.put_group.new.lines (flat_map group_text groups) (first_text groups)
    (flat_map group_text others) c.loop-rest.invariant more c.in_ok-rest.ensures.line in
    TakesFront-handed _ _ _ behind c.in_ok-hand_over_if_long.ensures.ok
