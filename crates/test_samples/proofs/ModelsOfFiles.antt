-- Each atomic model of a file that is taken can be compiled.
use Rattle.std.proofs.Common.{◌≡◌, ℕ, zero, suc, map, List, [], ◌∷◌, None, Some, Result, Ok, Err, IfOk, sym, subst}
use Rattle.std.specs.Prelude.{slice_get, OnOk}
use Rattle.std.specs.List.{All}
use Rattle.std.proofs.lemmas.List.Elements.{All-head, All-tail}
use Rattle.dv_syntax.specs.Trees.{FileTree, ModelTree, atomic_of, file_of, model_of}
use Rattle.dv_syntax.specs.declared.tree.File.{File}
use Rattle.dv_lex.specs.declared.error.LoadError.{LoadError}
use Rattle.dv_check.specs.declared.checked.Checked.{Checked}
use Rattle.dv_check.specs.Refusals.{refusal_of}
use Rattle.dv_check.specs.Writable.{IsWritable}
use Rattle.dv_syntax.specs.declared.tree.Atomic.{Atomic as DeclaredAtomic}
use Rattle.dv_syntax.specs.declared.tree.Model.{Model}
use Rattle.dv_syntax.specs.declared.tree.Model.TheVariants as model
use Rattle.dv_gen.specs.ModelCode.{IsCompilable, IsCompilableModel}

model_at : (models : List Model) → All IsCompilableModel (map model_of models) → (index : ℕ) (m : Model)
    → slice_get models index ≡ Some m → IsCompilableModel (model_of m)
model_at [] all index m is = absurd (cc)
model_at (x ∷ models) all zero m is =
    let same : x ≡ m = cc in
    subst (λ y. IsCompilableModel (model_of y)) same (All-head IsCompilableModel (model_of x) (map model_of models) all)
model_at (x ∷ models) all (suc index) m is =
    model_at models (All-tail IsCompilableModel (model_of x) (map model_of models) all) index m is

pub compilable_at : (models : List Model) (index : ℕ) (m : DeclaredAtomic) → All IsCompilableModel (map model_of models)
    → slice_get models index ≡ Some (model.Atomic m) → IsCompilable (atomic_of m)
compilable_at models index m all is = model_at models all index (model.Atomic m) is

pub all_compilable : (f : File) (found : Result Checked LoadError)
    → ((tree : FileTree) → IsWritable tree → refusal_of tree ≡ None
    → All (λ (m : ModelTree). IsCompilableModel m) tree.models)
    → IsWritable (file_of f) → IfOk found (λ c. c.file ≡ f) → OnOk found (refusal_of (file_of f) ≡ None)
    → IfOk found (λ c. All (λ (m : ModelTree). IsCompilableModel m) (file_of c.file).models)
all_compilable f (Ok c) law one same accepted =
    subst (λ g. All (λ (m : ModelTree). IsCompilableModel m) (file_of g).models) (sym same) (law (file_of f) one accepted)
all_compilable f (Err e) law one same accepted = tt
