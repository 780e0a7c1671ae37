use Rattle.std.proofs.Common.{◌≡◌, ◌++◌, ◌∷◌, [], ap, ◌∙◌, append_assoc, refl, sym}
use Rattle.dv_bag.specs.Words.{kind_word}
use Rattle.dv_time.specs.Time.{time_text}
use Rattle.dv_lines.specs.Words.{no_words, sent_words, state_words}
use Rattle.dv_lines.proofs.Behind.{put_behind}
use Rattle.dv_lines.proofs.Unknown.{state_unknown}
use Rattle.dv_lines.proofs.line.TransitionLine.put_unknown.Goals as goal

pub returns-clause-text : goal.returns-clause-text
returns-clause-text c =
    let line = c.args.self.now in
    let time = time_text line.stamp.now in
    let letter = c.letter_of.result ∷ [] in
    let back = letter ++ (32 ∷ 10 ∷ []) in
    let state = state_words no_words line.state.now in
    let end = sent_words [] line.sent.now ++ (10 ∷ []) in
    let is : (kind_word line.kind ++ state) ++ end ≡ back =
    append_assoc (kind_word line.kind) state end
    ∙ ap (λ t. kind_word line.kind ++ t) (state_unknown line.state.now line.sent.now)
    ∙ ap (λ t. t ++ (32 ∷ 10 ∷ [])) (sym c.letter_of.ensures) in
    put_behind c.put_bytes-2.result c.args.to.now _ _ time (32 ∷ 32 ∷ back) _ 0 c.in_ok-at.at c.in_ok-at.ensures.text
    (ap (λ t. time ++ (32 ∷ 32 ∷ t)) is)
    (put_behind c.put_bytes-2.result _ _ _ (32 ∷ 32 ∷ []) back (32 ∷ 32 ∷ back) c.in_ok-at.at c.in_ok-at-2.at c.in_ok-at-2.ensures.text
    refl
    (put_behind c.put_bytes-2.result _ _ _ letter (32 ∷ 10 ∷ []) back c.in_ok-at-2.at c.in_ok-at-3.at c.in_ok-at-3.ensures.text refl
    c.put_bytes-2.ensures.text))
