use Rattle.std.proofs.Common.{◌≡◌, ◌++◌, ◌∷◌, [], List, ℕ, refl, subst}
use Rattle.std.specs.List.{flat_map}
use Rattle.std.specs.Prelude.{OnOk, codes}
use Rattle.dv_time.specs.Time.{time_text}
use Rattle.dv_lines.specs.Tables.{ports_found}
use Rattle.dv_lines.specs.Words.{held_words}
use Rattle.dv_lines.proofs.LeftLines.{pieces_of_line}
use Rattle.dv_lines.proofs.Tables.{extends_by, extends_more, extends_then}
use Rattle.dv_lines.proofs.leaving.line_left.Goals as goal

pub returns-clause-more : goal.returns-clause-more
returns-clause-more c =
    let old = c.args.lines.now in
    let first = c.begin_left.new.self in
    let second = c.ports_left.new.lines in
    let third = c.end_left.new.self in
    extends_then old first third (extends_more old _ first c.in_ok-begin_left.ensures.ok)
    (extends_then first second third c.ports_left.ensures.more
    (extends_by c.end_left.result second (10 ∷ []) third c.end_left.ensures.ok c.end_left.ensures.err))

pub returns-clause-ok : goal.returns-clause-ok
returns-clause-ok c =
    let old = c.args.lines.now in
    let ports = flat_map (held_words (ports_found c.args.words.now)) c.args.bags.now in
    let second = c.ports_left.new.lines in
    subst (λ (x : List ℕ). OnOk c.end_left.result (c.end_left.new.self ≡ x))
    (pieces_of_line old (time_text c.args.now) (codes " out") ports (10 ∷ []) c.begin_left.new.self second (second ++ (10 ∷ []))
    c.in_ok-begin_left.ensures.ok c.in_ok-ports_left.ensures.ok refl)
    c.end_left.ensures.ok
