use Rattle.std.proofs.Common.{◌++◌, sym, ap, ◌∙◌}
use Rattle.dv_text.specs.Merging.{first_text, groups_before, groups_from, groups_of, other_groups}
use Rattle.dv_text.specs.Names.{tree_ports}
use Rattle.dv_text.proofs.Groups.{groups_before-more, groups_from-more}
use Rattle.dv_text.proofs.Taking.{AppendsBeginning-from, AppendsBeginning-handed, AppendsBeginning-short, OnErr-always}
use Rattle.dv_text.proofs.Taking.{TakesFront-handed, TakesFront-pushed}
use Rattle.dv_lines.proofs.trace_writer.write_before.Goals as goal

pub returns-in_err-rest-clause-err : goal.returns-in_err-rest-clause-err
returns-in_err-rest-clause-err g c = OnErr-always _ (AppendsBeginning-from c.loop-first.invariant.text)

pub returns-in_err-hand_over_if_long-clause-err : goal.returns-in_err-hand_over_if_long-clause-err
returns-in_err-hand_over_if_long-clause-err g c =
    let names = tree_ports c.args.words.now in
    let rest = c.loop-first.rest.now in
    let groups = groups_of names rest in
    let more =
    groups_before-more names c.args.time rest c.in-Some.first.now c.in-Some.field-0-1.now c.in-Some.ensures.cases.0
    (sym c.is_before.ensures.order ∙ c.if-is_before.true) in
    let behind = TakesFront-pushed c.loop-first.lines c.put_group.new.lines (groups_before c.args.time groups) (first_text groups)
    (groups_before c.args.time (other_groups groups)) c.loop-first.invariant.text more c.in_ok-rest.ensures.line in
    OnErr-always _ (AppendsBeginning-handed _ _ behind (AppendsBeginning-short c.in_err-hand_over_if_long.ensures.err))

pub loop-first-preserved : goal.loop-first-preserved
loop-first-preserved g c =
    let names = tree_ports c.args.words.now in
    let rest = c.loop-first.rest.now in
    let groups = groups_of names rest in
    let left = groups_of names c.in_ok-rest.rest.now in
    let before = sym c.is_before.ensures.order ∙ c.if-is_before.true in
    let more =
    groups_before-more names c.args.time rest c.in-Some.first.now c.in-Some.field-0-1.now c.in-Some.ensures.cases.0 before
    ∙ ap (λ gs. first_text groups ++ groups_before c.args.time gs) (sym c.in_ok-rest.ensures.left) in
    let behind = TakesFront-pushed c.loop-first.lines c.put_group.new.lines (groups_before c.args.time groups) (first_text groups)
    (groups_before c.args.time left) c.loop-first.invariant.text more c.in_ok-rest.ensures.line in
    record {
      text = TakesFront-handed _ _ _ behind c.in_ok-hand_over_if_long.ensures.ok;
      left =
          ap (groups_from c.args.time) c.in_ok-rest.ensures.left
          ∙ sym (groups_from-more names c.args.time rest c.in-Some.first.now c.in-Some.field-0-1.now c.in-Some.ensures.cases.0 before)
          ∙ c.loop-first.invariant.left;
    }
