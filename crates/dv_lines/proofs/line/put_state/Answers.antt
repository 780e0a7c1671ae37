use Rattle.std.proofs.Common.{◌≡◌, ◌+◌, ◌<◌, ◌∷◌, ◌++◌, List, ℕ, Some, ap, ap₂, arith, ◌∙◌, drop, length, length-drop, map, refl, rules, slice_get, subst, sym}
use Rattle.std.specs.Prelude.{IfSome}
use Rattle.std.proofs.lemmas.List.{length-map, length-take}
use Rattle.std.proofs.lemmas.Option.{slice_get_read}
use Rattle.dv_bag.specs.declared.state.Datum.{Datum}
use Rattle.dv_text.specs.Texts.{datum_text}
use Rattle.dv_written.specs.Rooms.{IsPut}
use Rattle.dv_lines.specs.Words.{led_words, own_phases, own_variables, plain_words, row_words, variables_words, word_text}
use Rattle.dv_lines.specs.declared.pieces.Word.{Word}
use Rattle.dv_lines.proofs.Behind.{put_behind}
use Rattle.dv_lines.proofs.Walks.{led_all, led_there}
use Rattle.dv_lines.proofs.line.put_state.Goals as goal

pub returns-clause-text : goal.returns-clause-text
returns-clause-text c =
    let words = c.args.words.now in
    let row = c.args.row.now in
    let values = c.args.state.now.variables in
    let text = word_text words.bytes in
    let leads = own_phases words.words row in
    let names = own_variables words.words row in
    let lead = c.in-Some-Some.lead.now in
    let first = c.in-Some-Some.first.now in
    let k = c.args.state.now.phase in
    let found = c.in-Some-Some.ensures.lookup in
    let phases = c.phases.result.now in
    let there = subst (λ (ws : List Word). slice_get ws k ≡ Some lead) c.phases.ensures
    (slice_get_read phases (length phases) k lead refl found.3.0 found.1) in
    let count = row.place.variables in
    let start = row.place.first + row.place.phases in
    let named : 0 < count = search rules in
    let many : 0 < length names =
    omega (arith, named, length-take count (drop start words.words), length-drop start words.words, c.requires.within) in
    let some : 0 < length (map text names) = omega (arith, many, length-map names text) in
    let one : values ≡ first ∷ drop 1 values = search rules in
    let words_left : c.rest_of.result.now ≡ drop 1 names = c.rest_of.ensures ∙ ap (λ (ws : List Word). drop 1 ws) c.variables.ensures in
    let data_left : c.rest_of-2.result.now ≡ drop 1 values = search rules in
    let front = text lead ++ datum_text first in
    let plain = plain_words (row_words words.bytes words.words row) c.args.state.now in
    let is =
    ap (λ (ps : List (List ℕ)). led_words (slice_get ps k) (drop 1 (map text names)) values plain)
    (led_all (map text leads) (map text names) some)
    ∙ led_there text leads names k lead values first plain there one
    ∙ ap₂ (λ (ws : List Word) (ds : List Datum). front ++ variables_words (map text ws) ds) (sym words_left) (sym data_left) in
    let middle = c.put_near_variable.new.to in
    let put =
    subst (λ (bytes : List ℕ). IsPut c.args.to.now c.args.at middle c.in_ok-at.at (word_text bytes lead ++ datum_text first))
    c.as_bytes.ensures c.in_ok-at.ensures.text in
    let rest =
    subst (λ (bytes : List ℕ).
    IfSome c.put_variables.result (λ end.
    IsPut middle c.in_ok-at.at c.put_variables.new.to end
    (variables_words (map (word_text bytes) c.rest_of.result.now) c.rest_of-2.result.now)))
    c.as_bytes-2.ensures c.put_variables.ensures.text in
    put_behind c.put_variables.result _ _ _ front (variables_words (map text c.rest_of.result.now) c.rest_of-2.result.now) _ c.args.at
    c.in_ok-at.at put is rest
