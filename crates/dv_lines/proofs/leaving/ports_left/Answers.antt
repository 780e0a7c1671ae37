use Rattle.dv_lines.specs.Tables.{ports_found}
use Rattle.dv_lines.specs.Words.{held_words}
use Rattle.dv_lines.proofs.LeftLines.{port_step, ports_end}
use Rattle.dv_lines.proofs.Tables.{extends_more, extends_then}
use Rattle.dv_lines.proofs.leaving.ports_left.Goals as goal

pub loop-held-preserved : goal.loop-held-preserved
loop-held-preserved c =
    let text = held_words (ports_found c.args.words.now) in
    let before = c.loop-held.lines in
    let new = c.port_left.new.lines in
    let h = c.held-item.result in
    let more = c.in_ok-port_left.ensures.ok in
    record {
      more = extends_then c.args.lines.now before new c.loop-held.invariant.more (extends_more before (text h) new more);
      text = port_step text before new _ c.args.bags.now c.loop-held.held-index h c.loop-held-test.true c.held-item.is
          c.loop-held.invariant.text more;
    }

pub returns-clause-ok : goal.returns-clause-ok
returns-clause-ok c =
    ports_end (held_words (ports_found c.args.words.now)) c.loop-held.lines _ c.args.bags.now c.loop-held.held-index
    c.loop-held-test.false c.loop-held.invariant.text
