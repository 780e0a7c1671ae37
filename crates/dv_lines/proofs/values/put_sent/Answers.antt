use Rattle.std.proofs.Common.{◌≡◌, ◌++◌, List, ℕ, ap, ap₂, append-nil, ◌∙◌, sym, length, get_or, pos, rules, take, true, arith, map}
use Rattle.std.proofs.lemmas.Int.{to_z-of_z}
use mir.Syntax.{w64}
use mir.Val.{SFits}
use Rattle.dv_bag.specs.declared.sent.Sending.{Sending}
use Rattle.dv_text.proofs.Sent.{nothing_between}
use Rattle.dv_lines.specs.Words.{own_outputs, sent_words, word_text}
use Rattle.dv_lines.specs.declared.pieces.Word.{Word}
use Rattle.dv_lines.proofs.Behind.{put_same}
use Rattle.dv_lines.proofs.Walks.{nothing_left, one_sent}
use Rattle.dv_lines.proofs.values.put_sent.Goals as goal

abbrev no_sending : Sending
no_sending = record { port = 0; value = pos 0; copies = 0 }

pub returns-then-is_empty-clause-text : goal.returns-then-is_empty-clause-text
returns-then-is_empty-clause-text c =
    let words = map (word_text c.args.all.now.bytes) (own_outputs c.args.all.now.words c.args.row.now) in
    let bags = c.args.sent.now in
    let ss = c.as_slice-sendings.result.now in
    let sent = c.as_slice-sendings.ensures in
    let front = take c.args.at c.args.to.now in
    let empty : length ss ≡ 0 = search rules in
    let none = nothing_left true words bags 0
    (λ x le. nothing_between ss sent.order bags sent.bags 0 0 x (λ k d lt. absurd (omega (arith, lt))) le
    (λ d early. absurd (omega (arith, early, empty)))) in
    (c.requires.at, sym (ap (λ t. front ++ t) none ∙ append-nil front))

pub returns-then-sendings-eq1-2-clause-text : goal.returns-then-sendings-eq1-2-clause-text
returns-then-sendings-eq1-2-clause-text c =
    let words = map (word_text c.as_bytes-bytes.result.now) c.outputs-words.result.now in
    let sent = c.as_slice-sendings.ensures in
    let ss = c.as_slice-sendings.result.now in
    let fits : SFits w64 (get_or ss 0 no_sending).value = search rules in
    let same =
    ap₂ (λ (bytes : List ℕ) (ws : List Word). map (word_text bytes) ws) (sym c.as_bytes-bytes.ensures) (sym c.outputs-words.ensures) in
    let put = (simp to_z-of_z at c.put_one.ensures.text) in
    put_same c.put_one.result _ _ _ _ c.args.at
    (ap (λ (ws : List (List ℕ)). sent_words ws c.args.sent.now) same
    ∙ one_sent words c.args.sent.now ss no_sending (omega (arith, c.if-sendings-eq1.true)) c.if-sendings-eq1-2.true sent.bags sent.within)
    put
