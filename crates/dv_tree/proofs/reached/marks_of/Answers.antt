use Rattle.std.proofs.Common.{◌≡◌, ℕ, ◌+◌, ◌<◌, Bool, false, List, ap, arith, length, replicate, subst, sym, ◌∙◌}
use Rattle.std.proofs.lemmas.List.{length-map, length_push, nil_from_length}
use Rattle.std.specs.Prelude.{Option}
use Rattle.dv_syntax.specs.Trees.{file_of, model_of}
use Rattle.dv_eval.specs.Scope.{index_of}
use Rattle.dv_tree.specs.Reached.{Marking, marking_of, parts_inside, with_mark, with_marks}
use Rattle.dv_tree.specs.Tables.{model_names}
use Rattle.dv_tree.proofs.Markings.{IsMarking, marking_done, marking_start, marking_step, marks_later, to_do, waits_within}
use Rattle.dv_tree.proofs.ReachedModels.{model_read_at}
use Rattle.dv_tree.proofs.reached.marks_of.Goals as goal

pub loop-index-init : goal.loop-index-init
loop-index-init c =
    let file = c.args.file.now in
    let f = file_of file in
    let name = f.root.number in
    let none = c.new.result.items in
    let At : Option ℕ → List Bool → List ℕ → Marking = λ o ms ws. with_mark o (record { marks = ms; waiting = ws }) in
    let as_many : c.len.result ≡ length f.models =
    omega (arith, c.len.ensures, file.models.ok.0, length-map file.models.items model_of) in
    let clear : c.in_ok-vec.field-0.items ≡ replicate (length f.models) false =
    c.in_ok-vec.ensures.items_if_clones_equal (λ y h. h) ∙ ap (λ n. replicate n false) as_many in
    let index : c.index_of.result ≡ index_of name (model_names f.models) = c.index_of.ensures ∙ ap (index_of name) c.requires.names in
    subst (IsMarking f) (sym (c.in_ok-mark.ensures
    ∙ (ap (λ o. At o c.in_ok-vec.field-0.items none) index
    ∙ (ap (λ ms. At (index_of name (model_names f.models)) ms none) clear
    ∙ ap (At (index_of name (model_names f.models)) (replicate (length f.models) false)) c.new.ensures.items))))
    (marking_start f)

pub index-requires : goal.index-requires
index-requires c =
    let file = c.args.file.now in
    let within = waits_within (file_of file) (marking_of c.loop-index.walk) c.pop.new.self.items c.in-Some.index
    c.loop-index.invariant c.in-Some.ensures.items in
    omega (arith, within, file.models.ok.0, length-map file.models.items model_of)

pub loop-index-preserved : goal.loop-index-preserved
loop-index-preserved c =
    let file = c.args.file.now in
    let f = file_of file in
    let walk = c.loop-index.walk in
    let index = c.in-Some.index in
    let rest = c.pop.new.self.items in
    let model = c.index.result.now in
    let from : Marking = record { marks = walk.marks.items; waiting = rest } in
    let waited = c.in-Some.ensures.items in
    let within : index < length file.models.items =
    omega (arith, waits_within f (marking_of walk) rest index c.loop-index.invariant waited, length-map file.models.items model_of) in
    subst (IsMarking f) (sym (c.in_ok-mark_parts.ensures
    ∙ (ap (λ parts. with_marks c.args.names.now parts from) c.parts_inside.ensures
    ∙ ap (λ names. with_marks names (parts_inside (model_of model)) from) c.requires.names)))
    (marking_step f (marking_of walk) rest index (model_of model) c.loop-index.invariant waited
    (model_read_at file.models.items index model model within c.index.ensures))

pub loop-index-smaller : goal.loop-index-smaller
loop-index-smaller c =
    let walk = c.loop-index.walk in
    let rest = c.pop.new.self.items in
    let from : Marking = record { marks = walk.marks.items; waiting = rest } in
    let same : to_do (marking_of c.mark_parts.new.self) ≡ to_do from =
    ap to_do c.in_ok-mark_parts.ensures ∙ (marks_later c.args.names.now c.parts_inside.result.now from).left in
    let one : length walk.waiting.items ≡ length rest + 1 =
    ap length c.in-Some.ensures.items ∙ length_push rest c.in-Some.index in
    let less : to_do (marking_of c.mark_parts.new.self) < to_do (marking_of walk) = omega (arith, same, one) in
    less

pub returns-clause-reached : goal.returns-clause-reached
returns-clause-reached c =
    let waiting = c.loop-index.walk.waiting in
    let none : length waiting.items ≡ 0 = omega (arith, c.in_default.ensures.cases.0, waiting.ok.0) in
    marking_done (file_of c.args.file.now) (marking_of c.loop-index.walk) c.loop-index.invariant (nil_from_length waiting.items none)
