use Rattle.std.proofs.Common.{ℕ, List, ◌++◌, refl, sym, ap, ◌∙◌, subst}
use Rattle.dv_bag.specs.declared.entry.Entry.{Entry}
use Rattle.dv_text.specs.Merging.{groups_of}
use Rattle.dv_text.specs.Names.{tree_names, tree_ports}
use Rattle.dv_text.proofs.Taking.{AppendsBeginning-short, OnErr-always}
use Rattle.dv_lines.specs.Spans.{SpanBegins}
use Rattle.dv_lines.proofs.Rounds.{entry_handed, fails_at_entry, fails_before_entry, fails_behind_entry}
use Rattle.dv_lines.proofs.Spans.{first_line, is_of_both, other_lines, within_both}
use Rattle.dv_lines.proofs.trace_writer.write_entries.Goals as goal

pub returns-in_err-rest-clause-err : goal.returns-in_err-rest-clause-err
returns-in_err-rest-clause-err g c =
    let names = tree_names c.args.words.now in
    let es = c.entries-entries.result.now in
    let i = c.loop-entry.entry-index in
    let e = c.entry-item.result in
    let groups = groups_of (tree_ports c.args.words.now) c.loop-entry.rest.now in
    let within = c.loop-entry-test.true in
    let is = c.entry-item.is in
    let begins =
    subst
    (λ (xs : List Entry). SpanBegins c.args.words.now xs
    (g.W.Write.contents c.args.writer.now) (g.W.Write.contents c.write_before.new.writer)
    c.args.lines.now c.args.outer.now)
    c.entries-entries.ensures (λ more. fails_before_entry names (es ++ more) i e groups _ (within_both es more i e within is)
    (is_of_both es more i e within is) refl c.loop-entry.lines (c.loop-entry.invariant.written more)
    (rw c.time.ensures at c.in_err-rest.ensures.err)) in
    OnErr-always _ begins

pub returns-in_err-put-clause-err : goal.returns-in_err-put-clause-err
returns-in_err-put-clause-err g c =
    let names = tree_names c.args.words.now in
    let es = c.entries-entries.result.now in
    let i = c.loop-entry.entry-index in
    let e = c.entry-item.result in
    let groups = groups_of (tree_ports c.args.words.now) c.loop-entry.rest.now in
    let within = c.loop-entry-test.true in
    let is = c.entry-item.is in
    let begins =
    subst
    (λ (xs : List Entry). SpanBegins c.args.words.now xs
    (g.W.Write.contents c.args.writer.now) (g.W.Write.contents c.write_before.new.writer)
    c.args.lines.now c.args.outer.now)
    c.entries-entries.ensures (λ more. fails_at_entry names (es ++ more) i e groups _ (within_both es more i e within is)
    (is_of_both es more i e within is) (rw c.time.ensures at c.in_ok-rest.ensures.left) c.loop-entry.lines
    (c.loop-entry.invariant.written more) c.write_before.new.lines (rw c.time.ensures at c.in_ok-rest.ensures.ok)) in
    OnErr-always _ begins

pub returns-in_err-hand_over_if_long-clause-err : goal.returns-in_err-hand_over_if_long-clause-err
returns-in_err-hand_over_if_long-clause-err g c =
    let names = tree_names c.args.words.now in
    let es = c.entries-entries.result.now in
    let i = c.loop-entry.entry-index in
    let e = c.entry-item.result in
    let groups = groups_of (tree_ports c.args.words.now) c.loop-entry.rest.now in
    let within = c.loop-entry-test.true in
    let is = c.entry-item.is in
    let own = first_line g.N.OfJob.line es i e c.loop-entry.text.now c.line_length.result within is c.loop-entry.invariant.text
    c.line_length.ensures in
    let put = c.in_ok-put.ensures.ok
    ∙ ap (λ (t : List ℕ). c.write_before.new.lines ++ t) (c.split_at.ensures.front ∙ (own ∙ sym (c.requires e))) in
    let begins =
    subst
    (λ (xs : List Entry). SpanBegins c.args.words.now xs
    (g.W.Write.contents c.args.writer.now) (g.W.Write.contents c.hand_over_if_long.new.writer)
    c.args.lines.now c.args.outer.now)
    c.entries-entries.ensures (λ more. fails_behind_entry names (es ++ more) i e groups _ (within_both es more i e within is)
    (is_of_both es more i e within is) (rw c.time.ensures at c.in_ok-rest.ensures.left) c.loop-entry.lines
    (c.loop-entry.invariant.written more) c.write_before.new.lines (rw c.time.ensures at c.in_ok-rest.ensures.ok)
    c.put.new.self put (AppendsBeginning-short c.in_err-hand_over_if_long.ensures.err)) in
    OnErr-always _ begins

pub loop-entry-preserved : goal.loop-entry-preserved
loop-entry-preserved g c =
    let names = tree_names c.args.words.now in
    let es = c.entries-entries.result.now in
    let i = c.loop-entry.entry-index in
    let e = c.entry-item.result in
    let groups = groups_of (tree_ports c.args.words.now) c.loop-entry.rest.now in
    let within = c.loop-entry-test.true in
    let is = c.entry-item.is in
    let own = first_line g.N.OfJob.line es i e c.loop-entry.text.now c.line_length.result within is c.loop-entry.invariant.text
    c.line_length.ensures in
    let put = c.in_ok-put.ensures.ok
    ∙ ap (λ (t : List ℕ). c.write_before.new.lines ++ t) (c.split_at.ensures.front ∙ (own ∙ sym (c.requires e))) in
    record {
      written = λ more.
          entry_handed names (es ++ more) i e groups _ (within_both es more i e within is)
          (is_of_both es more i e within is) (rw c.time.ensures at c.in_ok-rest.ensures.left) c.loop-entry.lines
          (c.loop-entry.invariant.written more) c.write_before.new.lines (rw c.time.ensures at c.in_ok-rest.ensures.ok)
          c.put.new.self put c.hand_over_if_long.new.lines c.in_ok-hand_over_if_long.ensures.ok;
      text =
          c.split_at.ensures.back
          ∙ other_lines g.N.OfJob.line es i e c.loop-entry.text.now c.line_length.result within is c.loop-entry.invariant.text
          c.line_length.ensures;
    }
