use Rattle.std.proofs.Common.{◌≡◌, ◌∙◌, ◌+◌, ◌||◌, ◌∷◌, ◌++◌, ap, drop, get_or, is_some, map, sym}
use Rattle.std.specs.Option.{option_or}
use Rattle.std.proofs.lemmas.List.{at_drop_more}
use Rattle.std.proofs.lemmas.Result.{err_from_is_err_and}
use Rattle.dv_partition.specs.Answers.{first_refusal, in_reading_order, owner_from, stands}
use Rattle.dv_partition.specs.Steps.{is_in, number_at, texts_of}
use Rattle.dv_partition.proofs.ListedPaths.{accepted_more, list_seen, one_list, refused_more, refused_too, same_refusal}
use Rattle.dv_partition.proofs.listed.listed.Goals as goal

pub loop-process-preserved : goal.loop-process-preserved
loop-process-preserved c =
    let lists = c.args.lists.now in
    let i = c.loop-process.process in
    let item = c.index-lists-process.result in
    let texts = texts_of c.deref.result.now in
    let old = c.loop-process.listed in
    let new = c.list_paths.new.listed in
    let is_path = is_in c.args.known.now in
    let rest = map (λ list. texts_of list.items) (drop (i + 1) lists) in
    let here : texts_of (get_or lists i item).items ≡ texts =
    ap (λ v. texts_of v.items) (sym c.index-lists-process.is) ∙ ap texts_of (sym c.deref.ensures.value) in
    record {
      numbers = λ q.
          ap (λ o. option_or o (owner_from (i + 1) rest q)) (c.in_ok-list_paths.ensures.listed q)
          ∙ one_list (number_at old q) texts i rest q
          ∙ ap (λ ts. option_or (number_at old q) (owner_from i (ts ∷ rest) q)) (sym here)
          ∙ sym (at_drop_more (λ ls. option_or (number_at old q) (owner_from i (map (λ list. texts_of list.items) ls) q)) lists i item
          c.loop-process-test.true)
          ∙ c.loop-process.invariant.numbers q;
      refusal =
          same_refusal is_path (is_in new) (λ t. is_in old t || stands t texts) (in_reading_order rest)
          (λ t. ap is_some (c.in_ok-list_paths.ensures.listed t) ∙ list_seen (number_at old t) texts i t)
          ∙ sym (accepted_more is_path (is_in old) texts (in_reading_order rest) c.in_ok-list_paths.ensures.answer)
          ∙ ap (λ ts. first_refusal is_path (is_in old) (ts ++ in_reading_order rest)) (sym here)
          ∙ sym (at_drop_more (λ ls. first_refusal is_path (is_in old) (in_reading_order (map (λ list. texts_of list.items) ls))) lists i
          item c.loop-process-test.true)
          ∙ c.loop-process.invariant.refusal;
    }

pub returns-in_err-list_paths : goal.returns-in_err-list_paths
returns-in_err-list_paths c =
    let lists = c.args.lists.now in
    let i = c.loop-process.process in
    let item = c.index-lists-process.result in
    let texts = texts_of c.deref.result.now in
    let old = c.loop-process.listed in
    let is_path = is_in c.args.known.now in
    let rest = map (λ list. texts_of list.items) (drop (i + 1) lists) in
    let here : texts_of (get_or lists i item).items ≡ texts =
    ap (λ v. texts_of v.items) (sym c.index-lists-process.is) ∙ ap texts_of (sym c.deref.ensures.value) in
    let p = err_from_is_err_and c.from_residual.result c.from_residual.ensures.1 in
    rw (p.1, p.2)
    (refused_too c.in_err-list_paths.field-0.0 c.in_err-list_paths.ensures.answer
    (λ r h.
    sym c.loop-process.invariant.refusal
    ∙ at_drop_more (λ ls. first_refusal is_path (is_in old) (in_reading_order (map (λ list. texts_of list.items) ls))) lists i item
    c.loop-process-test.true
    ∙ ap (λ ts. first_refusal is_path (is_in old) (ts ++ in_reading_order rest)) here
    ∙ refused_more is_path (is_in old) texts (in_reading_order rest) r h))
