use Rattle.std.proofs.Common.{◌≡◌, ◌+◌, ◌<◌, ◌≤◌, ap, arith, get_or, length, refl, set, sym, ◌∙◌}
use Rattle.std.proofs.lemmas.List.{length-set}
use Rattle.dv_lex.specs.declared.token.Token.{Token}
use Rattle.dv_lex.specs.Versions.{with_words, words_of}
use Rattle.dv_lex.proofs.Headers.{mapped_all, mapped_from, mapped_more}
use Rattle.dv_lex.proofs.versions.make_later_words.Goals as goal

pub loop-offset-init : goal.loop-offset-init
loop-offset-init c = (refl, refl)

pub loop-offset-preserved : goal.loop-offset-preserved
loop-offset-preserved c =
    let f = with_words c.args.names.now (words_of c.args.version) in
    let items = c.loop-offset.tokens.items in
    let same : c.with_later_word.result ≡ f (get_or items c.loop-offset.offset c.index.result.now) =
    c.with_later_word.ensures ∙ ap f c.index.ensures in
    let less : c.loop-offset.offset < length items =
    omega (arith, c.loop-offset-test.true, c.len-offset-end.ensures, c.loop-offset.invariant.1) in (
      ap (λ (t : Token). mapped_from f (set items c.loop-offset.offset t) (c.loop-offset.offset + 1)) same
          ∙ mapped_more f c.index.result.now items c.loop-offset.offset less ∙ c.loop-offset.invariant.0,
      length-set items c.loop-offset.offset c.with_later_word.result ∙ c.loop-offset.invariant.1,
    )

pub returns : goal.returns
returns c =
    let f = with_words c.args.names.now (words_of c.args.version) in
    let items = c.loop-offset.tokens.items in
    let past : length items ≤ c.loop-offset.offset =
    omega (arith, c.loop-offset-test.false, c.len-offset-end.ensures, c.loop-offset.invariant.1) in
    sym (mapped_all f items c.loop-offset.offset past) ∙ c.loop-offset.invariant.0
