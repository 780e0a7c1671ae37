-- The models of components are those of the text.
use Rattle.std.proofs.Common.{◌≡◌, ℕ, zero, suc, ◌<◌, List, [], ◌∷◌, length, map, refl, subst, arith}
use Rattle.std.specs.List.{All}
use Rattle.std.specs.Prelude.{Option, Some, None, slice_get}
use Rattle.dv_check.specs.Limits.{greatest_depth}
use Rattle.dv_gen.specs.ModelCode.{IsCompilable, IsCompilableModel}
use Rattle.dv_syntax.specs.Trees.{AtomicTree, CoupledTree, FileTree, ModelTree}
use Rattle.dv_tree.specs.Instances.{Instance, instances, instances_in, root_of, tree_in}
use Rattle.dv_tree.proofs.Mirrors.{mirrors_to}
use Rattle.dv_tree.proofs.Named.{AreNamed, all_named, no_more, one_more}
use Rattle.dv_coded.proofs.Standing.{compilable_at}

module _ (models : List ModelTree) (all : All (λ (t : ModelTree). IsCompilableModel t) models) where
  compilable_named : {cs : List (List ℕ × ℕ)} {is : List Instance} → AreNamed models cs is → (k : ℕ) (m : AtomicTree)
      → slice_get (map (λ (i : Instance). i.model) is) k ≡ Some m → IsCompilable m
  compilable_named no_more k m at = absurd (cc)
  compilable_named (one_more {c = c} {i = i} h rest) zero m at =
      let same : i.model ≡ m = cc in subst IsCompilable same (compilable_at models c.1 i.model all h.model)
  compilable_named (one_more h rest) (suc k) m at = compilable_named rest k m at

  compilable_in : (root : Option CoupledTree) (k : ℕ) (m : AtomicTree) →
      slice_get (map (λ (i : Instance). i.model) (instances_in [] (tree_in models root))) k ≡ Some m → IsCompilable m
  compilable_in None k m at = absurd (cc)
  compilable_in (Some root) k m at = compilable_named (all_named [] (mirrors_to greatest_depth models root)) k m at

-- the model of a component of a text whose models are compilable is so
pub component_compilable : (f : FileTree) (k : ℕ) (m : AtomicTree) → All (λ (t : ModelTree). IsCompilableModel t) f.models →
    slice_get (map (λ (i : Instance). i.model) (instances f)) k ≡ Some m → IsCompilable m
component_compilable f k m all at = compilable_in f.models all (root_of f) k m at

-- each component has a model
pub record HasModel (is : List Instance) (k : ℕ) : Type 0 where
  pub model : AtomicTree
  pub there : slice_get (map (λ (i : Instance). i.model) is) k ≡ Some model

pub has_model : (is : List Instance) (k : ℕ) → k < length is → HasModel is k
has_model [] k within = absurd (omega arith)
has_model (i ∷ is) zero within = record { model = i.model; there = refl }
has_model (i ∷ is) (suc k) within =
    let rest = has_model is k (omega arith) in record { model = rest.model; there = rest.there }
