use Rattle.std.proofs.Common.{◌≡◌, ◌+◌, ◌<◌, ◌++◌, ◌∷◌, [], arith, length, map, sym, subst, take}
use Rattle.std.proofs.lemmas.List.{length-map}
use Rattle.dv_syntax.specs.Trees.{file_of}
use Rattle.dv_text.specs.Names.{instance_names, tree_names}
use Rattle.dv_text.specs.Texts.{names_at}
use Rattle.dv_tree.specs.Instances.{instances}
use Rattle.dv_lines.specs.Tables.{AreKnown, AreRows, AreWords, Extends, IsOwn, texts_in}
use Rattle.dv_lines.specs.Words.{word_text}
use Rattle.dv_lines.specs.declared.words.Row.{Row}
use Rattle.dv_lines.proofs.Tables.{extends_then, names_here, rows_kept, rows_push, texts_same, words_kept}
use Rattle.dv_lines.proofs.words.rows_of.Goals as goal

pub loop-component-preserved : goal.loop-component-preserved
loop-component-preserved c =
    let s = c.args.tree.now in
    let names = tree_names s in
    let i = c.loop-component.component in
    let before = c.loop-component.draft in
    let draft = c.place_of.new.draft in
    let words = draft.words.items in
    let middle = draft.bytes.items in
    let bytes = c.push_path.new.bytes.items in
    let texts = map (word_text bytes) words in
    let laid = c.in_ok-place.ensures.draft in
    let more = c.in_ok-path.ensures.more in
    let same : texts ≡ texts_in draft = texts_same middle bytes words more laid.words in
    let place = c.in_ok-place.place in
    let row : Row = record { path = c.in_ok-path.path; place = place } in
    let rows = c.loop-component.rows.items in
    let own = subst (λ ts. IsOwn ts place (names_at names i)) (sym same) c.in_ok-place.ensures.place in
    let kept =
    rows_kept before.bytes.items bytes (texts_in before) texts rows (take i names)
    (extends_then before.bytes.items middle bytes c.in_ok-place.ensures.more more)
    (subst (λ ts. Extends (texts_in before) ts) (sym same) c.in_ok-place.ensures.kept) c.loop-component.invariant.rows in
    let long = length-map (instances (file_of s.file)) (instance_names s.names) in
    let within : i < length names = omega (arith, long, c.component_count-component-end.ensures.value, c.loop-component-test.true) in
    record {
      draft = record {
        words = subst (AreWords bytes words) (sym same) (words_kept middle bytes words (texts_in draft) more laid.words);
        size = laid.size;
        known = subst (λ ts. AreKnown ts draft.known.items s) (sym same) laid.known;
      };
      rows =
          subst (λ xs. AreRows bytes texts xs (take (i + 1) names)) (sym c.in_ok-push.ensures.items)
          (subst (λ ns. AreRows bytes texts (rows ++ row ∷ []) ns) (sym (names_here names i within))
          (rows_push bytes texts rows (take i names) row (names_at names i) kept (c.in_ok-path.ensures.word, own)));
    }
