use Rattle.std.proofs.Common.{◌≡◌, ◌<◌, ◌++◌, None, Some, ◌∙◌, arith, get_or, length, map, sym, subst}
use Rattle.std.proofs.lemmas.List.{get_or_default, length-map, length-set}
use Rattle.dv_lines.specs.Tables.{AreWords, own_texts, scope_names, texts_in}
use Rattle.dv_lines.specs.Words.{word_text}
use Rattle.dv_lines.proofs.Tables.{extends_more, known_more, known_there, own_last, own_there, words_texts}
use Rattle.dv_lines.proofs.words.place_of.Goals as goal

pub returns-in-Some-clause-place : goal.returns-in-Some-clause-place
returns-in-Some-clause-place c =
    let draft = c.args.draft.now in
    let known = draft.known.items in
    let m = c.model_index-model.result in
    let within : m < length known = omega (arith, c.requires.draft.size, c.model_index-model.ensures.within) in
    let here : get_or known m None ≡ Some c.in-Some.place =
    sym (c.index.ensures ∙ get_or_default known m c.index.result.now None within) ∙ c.in-Some.is in
    known_there (texts_in draft) known c.args.tree.now m c.in-Some.place c.args.component c.scope-scope.result.now c.requires.draft.known
    here c.model_index-model.ensures.model c.scope-scope.ensures

pub returns-clause-kept : goal.returns-clause-kept
returns-clause-kept c =
    let texts = texts_in c.args.draft.now in
    let own = own_texts (scope_names c.args.tree.now.names c.scope-scope.result.now) in
    let bytes = c.push_model.new.bytes.items in
    let words = c.push_model.new.words.items in
    extends_more texts own (map (word_text bytes) words)
    (words_texts bytes words (texts ++ own) (c.in_ok-place.ensures.words texts c.requires.draft.words))

pub returns-clause-draft : goal.returns-clause-draft
returns-clause-draft c =
    let draft = c.args.draft.now in
    let known = draft.known.items in
    let texts = texts_in draft in
    let scope = c.scope-scope.result.now in
    let names = scope_names c.args.tree.now.names scope in
    let bytes = c.push_model.new.bytes.items in
    let words = c.push_model.new.words.items in
    let m = c.model_index-model.result in
    let place = c.in_ok-place.place in
    let within : m < length known = omega (arith, c.requires.draft.size, c.model_index-model.ensures.within) in
    let are = c.in_ok-place.ensures.words texts c.requires.draft.words in
    let is = words_texts bytes words (texts ++ own_texts names) are in
    let own = own_last texts (map (word_text bytes) words) (length draft.words.items) place names is
    (length-map draft.words.items (word_text draft.bytes.items)) c.in_ok-place.ensures.place in
    record {
      words = subst (AreWords bytes words) (sym is) are;
      size = length-set known m (Some place) ∙ c.requires.draft.size;
      known =
          known_more texts (map (word_text bytes) words) known c.args.tree.now m place c.args.component scope within c.requires.draft.known
          (extends_more texts (own_texts names) (map (word_text bytes) words) is) own c.model_index-model.ensures.model
          c.scope-scope.ensures;
    }

pub returns-clause-place : goal.returns-clause-place
returns-clause-place c =
    let draft = c.args.draft.now in
    let texts = texts_in draft in
    let scope = c.scope-scope.result.now in
    let names = scope_names c.args.tree.now.names scope in
    let bytes = c.push_model.new.bytes.items in
    let words = c.push_model.new.words.items in
    let is = words_texts bytes words (texts ++ own_texts names) (c.in_ok-place.ensures.words texts c.requires.draft.words) in
    let own = own_last texts (map (word_text bytes) words) (length draft.words.items) c.in_ok-place.place names is
    (length-map draft.words.items (word_text draft.bytes.items)) c.in_ok-place.ensures.place in
    own_there (map (word_text bytes) words) c.in_ok-place.place c.args.tree.now c.args.component scope c.scope-scope.ensures own
