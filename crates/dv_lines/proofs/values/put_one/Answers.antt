use Rattle.std.proofs.Common.{◌∷◌, ◌++◌, ◌+◌, [], List, ℕ, Option, ap, ◌∙◌, refl, length, rules, unwrap_or}
use Rattle.std.proofs.lemmas.Int.{to_z-of_z}
use mir.Syntax.{w64}
use mir.Val.{SFits}
use Rattle.std.proofs.lemmas.Option.{slice_get-map, slice_get_read}
use Rattle.std.specs.Fmt.{signed_decimal}
use Rattle.std.specs.Option.{option_map}
use Rattle.dv_lines.specs.Words.{word_text}
use Rattle.dv_lines.proofs.Behind.{put_behind}
use Rattle.dv_lines.proofs.values.put_one.Goals as goal

pub returns-clause-text : goal.returns-clause-text
returns-clause-text c =
    let words = c.args.words.now in
    let text = word_text c.args.bytes.now in
    let word = text c.in-Some.word.now in
    let value = signed_decimal c.args.value in
    let found = c.in-Some.ensures.lookup in
    let there = slice_get_read words (length words) c.args.port c.in-Some.word.now refl found.3.0 found.1 in
    let whole = ap (λ (o : Option (List ℕ)). unwrap_or (option_map (λ (w : List ℕ). 32 ∷ 62 ∷ (w ++ value)) o) [])
    (slice_get-map text words c.args.port ∙ ap (option_map text) there) in
    let fits : SFits w64 c.args.value = search rules in
    let more = (simp to_z-of_z at c.put_number.ensures.text) in
    put_behind c.put_number.result _ _ _ (32 ∷ 62 ∷ []) (word ++ value) _ c.args.at (c.args.at + 2) c.put_near_bytes.ensures.text whole
    (put_behind c.put_number.result _ _ _ word value (word ++ value) (c.args.at + 2) c.in_ok-at.at c.in_ok-at.ensures.text refl more)
