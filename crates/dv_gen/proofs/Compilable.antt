-- The models of a file that is accepted are compilable.
use Rattle.std.proofs.Common.{◌≡◌, ◌≤◌, List, [], ◌∷◌, map, None, sym, ap, subst}
use Rattle.std.specs.List.{All, AllByRecursion}
use Rattle.std.proofs.lemmas.List.Elements.{All-from_recursion}
use Rattle.dv_syntax.specs.declared.tree.Name.{Name}
use Rattle.dv_syntax.specs.Grammar.{IsItem, IsModel, loop_depth, the_limits}
use Rattle.dv_syntax.specs.Trees.{FileTree, ModelTree, RuleTree}
use Rattle.dv_syntax.specs.Written.{AtomicItem, Declares, Lists, Starts, Holds, Rules, WrittenModel, WrittenAtomic}
use Rattle.dv_syntax.specs.Written.{WrittenCoupled, sorted_items, sorted_model}
use Rattle.dv_code.specs.Limits.{deepest_loops}
use Rattle.dv_check.specs.CheckedFiles.{IsCheckedModel}
use Rattle.dv_check.specs.Refusals.{refusal_of}
use Rattle.dv_check.specs.Writable.{IsWritable}
use Rattle.dv_check.proofs.CheckedFiles.{file_accepted}
use Rattle.dv_gen.specs.ModelCode.{IsCompilableModel}

-- a rule whose loops are not too deep
abbrev IsShallow : RuleTree → Type 0
IsShallow r = loop_depth r.body ≤ deepest_loops

shallow_items : (name : Name) (items : List AtomicItem) → AllByRecursion (IsItem the_limits) items
    → AllByRecursion IsShallow (sorted_items name items).rules
shallow_items name [] all = tt
shallow_items name (Declares d ∷ items) all = shallow_items name items all.1
shallow_items name (Lists p ∷ items) all = shallow_items name items all.1
shallow_items name (Starts s ∷ items) all = shallow_items name items all.1
shallow_items name (Holds h ∷ items) all = shallow_items name items all.1
shallow_items name (Rules r ∷ items) all = (all.0.2, shallow_items name items all.1)

compilable_models : (known : List ModelTree) (written : List WrittenModel) → AllByRecursion (IsModel the_limits) written
    → AllByRecursion (IsCheckedModel known) (map sorted_model written) → AllByRecursion IsCompilableModel (map sorted_model written)
compilable_models known [] within accepted = tt
compilable_models known (WrittenAtomic name items ∷ written) within accepted =
    let shallow = All-from_recursion IsShallow (sorted_items name items).rules (shallow_items name items within.0) in
    (record { accepted = accepted.0; shallow = shallow }, compilable_models known written within.1 accepted.1)
compilable_models known (WrittenCoupled name items ∷ written) within accepted = (tt, compilable_models known written within.1 accepted.1)

pub file_compilable : (f : FileTree) → IsWritable f → refusal_of f ≡ None
    → All (λ (m : ModelTree). IsCompilableModel m) f.models
file_compilable f writable fine =
    let written = writable.written in
    let tree = ap (λ (g : FileTree). g.models) writable.tree in
    let accepted = subst (λ models. AllByRecursion (IsCheckedModel f.models) models) tree (file_accepted f fine).models in
    let all = compilable_models f.models written.models writable.within accepted in
    All-from_recursion (λ (m : ModelTree). IsCompilableModel m) f.models
    (subst (λ models. AllByRecursion IsCompilableModel models) (sym tree) all)
