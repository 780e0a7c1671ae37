use Rattle.std.proofs.Common.{◌≡◌, List, ℕ, None, Some, length, refl, rules, slice_get, subst}
use Rattle.std.specs.Prelude.{IfSome}
use Rattle.std.proofs.lemmas.Option.{slice_get_read}
use Rattle.dv_written.specs.Rooms.{IsPut}
use Rattle.dv_lines.specs.Words.{own_phases, own_variables, without, word_text}
use Rattle.dv_lines.specs.declared.pieces.Word.{Word}
use Rattle.dv_lines.proofs.Behind.{put_same}
use Rattle.dv_lines.proofs.Walks.{phase_before, phase_only}
use Rattle.dv_lines.proofs.line.put_phase.Goals as goal

pub returns-in-Some-first-clause-text : goal.returns-in-Some-first-clause-text
returns-in-Some-first-clause-text c =
    let words = c.args.words.now in
    let row = c.args.row.now in
    let phase = c.in-Some.word.now in
    let first = c.in-Some-first.first.now in
    let k = c.args.phase in
    let found = c.in-Some.ensures.lookup in
    let phases = c.phases.result.now in
    let there = subst (λ (ws : List Word). slice_get ws k ≡ Some phase) c.phases.ensures
    (slice_get_read phases (length phases) k phase refl found.3.0 found.1) in
    let begin : slice_get c.variables.result.now 0 ≡ Some first = search rules in
    let ahead = subst (λ (ws : List Word). slice_get ws 0 ≡ Some first) c.variables.ensures begin in
    put_same c.put_without.result _ _ _ _ c.args.at
    (phase_before (word_text words.bytes) (own_phases words.words row) (own_variables words.words row) k phase first there ahead)
    (subst
    (λ (bytes : List ℕ).
    IfSome c.put_without.result (λ end.
    IsPut c.args.to.now c.args.at c.put_without.new.to end (without (word_text bytes first) (word_text bytes phase))))
    c.as_bytes.ensures c.put_without.ensures.text)

pub returns-in-None-clause-text : goal.returns-in-None-clause-text
returns-in-None-clause-text c =
    let words = c.args.words.now in
    let row = c.args.row.now in
    let phase = c.in-Some.word.now in
    let k = c.args.phase in
    let found = c.in-Some.ensures.lookup in
    let phases = c.phases.result.now in
    let there = subst (λ (ws : List Word). slice_get ws k ≡ Some phase) c.phases.ensures
    (slice_get_read phases (length phases) k phase refl found.3.0 found.1) in
    let begin : slice_get c.variables.result.now 0 ≡ None = search rules in
    let none = subst (λ (ws : List Word). slice_get ws 0 ≡ None) c.variables.ensures begin in
    put_same c.put_word.result _ _ _ _ c.args.at
    (phase_only (word_text words.bytes) (own_phases words.words row) (own_variables words.words row) k phase there none)
    (subst
    (λ (bytes : List ℕ). IfSome c.put_word.result (λ end. IsPut c.args.to.now c.args.at c.put_word.new.to end (word_text bytes phase)))
    c.as_bytes-in-None.ensures c.put_word.ensures.text)
