use Rattle.std.proofs.Common.{◌+◌, ◌++◌, ◌∷◌, [], List, ℕ, ap, ◌∙◌, sym, subst, map, take, take_all, length, arith}
use Rattle.std.proofs.lemmas.List.{length-map}
use Rattle.dv_syntax.specs.Trees.{file_of}
use Rattle.dv_tree.specs.Instances.{root_outputs}
use Rattle.dv_tree.specs.Paths.{name_at}
use Rattle.dv_text.specs.Names.{tree_names, tree_ports}
use Rattle.dv_lines.specs.Tables.{AreWords, texts_in, with_ends}
use Rattle.dv_lines.specs.Words.{word_text}
use Rattle.dv_lines.proofs.Tables.{extends_same, extends_then, ports_more, rows_kept, rows_texts, rows_within, words_kept, words_push, words_texts}
use Rattle.dv_lines.proofs.words.Words.of.Goals as goal

pub loop-port-init : goal.loop-port-init
loop-port-init c = record {
  extends = extends_same c.rows_of.new.draft.bytes.items;
  words = subst (λ ws. AreWords c.rows_of.new.draft.bytes.items ws []) (sym c.new-outputs.ensures.items) tt;
}

pub loop-port-preserved : goal.loop-port-preserved
loop-port-preserved c =
    let ports = tree_ports c.args.tree.now in
    let last : List ℕ = 58 ∷ [] in
    let i = c.loop-port.port in
    let old = c.loop-port.bytes.items in
    let new = c.push_word.new.bytes.items in
    let words = c.loop-port.outputs.items in
    let word = c.in_ok-push_word.field-0 in
    let more = c.in_ok-push_word.ensures.more in
    let before = map (with_ends last) (take i ports) in
    let name = c.output_name.result.now in
    let are = words_push new words before word (with_ends last name) (words_kept old new words before more c.loop-port.invariant.words)
    c.in_ok-push_word.ensures.word in
    record {
      extends = extends_then c.rows_of.new.draft.bytes.items old new c.loop-port.invariant.extends more;
      words =
          subst (λ xs. AreWords new xs (map (with_ends last) (take (i + 1) ports))) (sym c.in_ok-push.ensures.items)
          (subst (λ ts. AreWords new (words ++ word ∷ []) ts) (sym (ports_more last ports i name c.output_name.ensures)) are);
    }

pub returns-clause-components : goal.returns-clause-components
returns-clause-components c =
    let draft = c.rows_of.new.draft in
    let old = draft.bytes.items in
    let new = c.loop-port.bytes.items in
    let words = draft.words.items in
    let texts = texts_in draft in
    let rows = c.in_ok-rows.rows.items in
    let names = tree_names c.args.tree.now in
    let more = c.loop-port.invariant.extends in
    rows_texts new words texts rows names
    (words_texts new words texts (words_kept old new words texts more c.in_ok-rows.ensures.draft.words))
    (rows_kept old new texts texts rows names more (extends_same texts) c.in_ok-rows.ensures.rows)

pub invariant_of-result : goal.invariant_of-result
invariant_of-result c =
    let draft = c.rows_of.new.draft in
    rows_within draft.bytes.items (texts_in draft) c.in_ok-rows.rows.items (tree_names c.args.tree.now) (length draft.words.items)
    (sym (length-map draft.words.items (word_text draft.bytes.items))) c.in_ok-rows.ensures.rows

pub returns-clause-outputs : goal.returns-clause-outputs
returns-clause-outputs c =
    let s = c.args.tree.now in
    let ports = tree_ports s in
    let long = length-map (root_outputs (file_of s.file)) (name_at s.names) in
    words_texts c.loop-port.bytes.items c.loop-port.outputs.items (map (with_ends (58 ∷ [])) (take c.loop-port.port ports))
    c.loop-port.invariant.words
    ∙ ap (map (with_ends (58 ∷ []))) (take_all c.loop-port.port ports
    (omega (arith, long, c.output_count-port-end.ensures, c.loop-port-test.false)))
