use Rattle.std.proofs.Common.{◌≤◌, length, arith, sym, ap, ◌∙◌}
use Rattle.dv_lex.specs.Versions.{header_words, word_written}
use Rattle.dv_lex.proofs.Headers.{headed_alone}
use Rattle.dv_lex.proofs.versions.make_words.Goals as goal

pub returns-in_default-later_version : goal.returns-in_default-later_version
returns-in_default-later_version c =
    let items = c.args.tokens.now.items in
    let two : 2 ≤ length items = omega (arith, c.if-len-lt2.false, c.len.ensures) in
    let found = ap (word_written header_words) (sym c.text_of.ensures) ∙ sym c.header_word.ensures ∙ c.in-Some.is in
    headed_alone c.args.names.now items c.in-Some.word c.index-first.result.now c.index.result.now two c.index-first.ensures
    c.index.ensures found c.in_default-later_version.ensures
