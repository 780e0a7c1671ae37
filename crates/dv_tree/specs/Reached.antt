-- The models that the root of a text leads to. A tree keeps tables of these alone.
use Rattle.std.specs.Prelude.{◌≡◌, ◌↔◌, ℕ, Bool, true, false, if◌then◌else◌, List, [], ◌∷◌, ◌++◌, map, slice_get, slice_index_or, slice_set}
use Rattle.std.specs.Prelude.{Option, Some, None}
use Rattle.std.specs.Borrow.{Bor}
use Rattle.dv_syntax.specs.Trees.{ModelTree, AtomicModel, CoupledModel, FileTree, model_of}
use Rattle.dv_syntax.specs.declared.tree.Model.{Model}
use Rattle.dv_syntax.specs.declared.tree.Part.{Part}
use Rattle.dv_eval.specs.Scope.{index_of}
use Rattle.dv_tree.specs.Tables.{model_names}
use Rattle.dv_tree.specs.declared.reached.Walk.{Walk}

-- the text of these models, with the same root
abbrev pub text_of_reached : FileTree → List ModelTree → FileTree
text_of_reached f reached = record { models = reached; root = f.root }

-- the parts of a model; none if it is atomic
abbrev pub parts_inside : ModelTree → List Part
parts_inside (AtomicModel m) = []
parts_inside (CoupledModel m) = m.parts

-- models that are borrowed from a text
abbrev pub borrowed : List (Bor Model) → List Model
borrowed models = map (λ m. m.now) models

abbrev pub borrowed_models : List (Bor Model) → List ModelTree
borrowed_models models = map model_of (borrowed models)

-- the models with a mark, in the order of the text
abbrev pub marked : List Bool → List ModelTree → List ModelTree
marked marks [] = []
marked [] (m ∷ models) = []
marked (true ∷ marks) (m ∷ models) = m ∷ marked marks models
marked (false ∷ marks) (m ∷ models) = marked marks models

-- whether the model at an index has a mark
abbrev pub has_mark : List Bool → ℕ → Bool
has_mark marks index = slice_index_or marks index false

-- the index of the model of a name
abbrev pub model_index : FileTree → ℕ → Option ℕ
model_index f name = index_of name (model_names f.models)

-- The root leads to the model at an index: it is the root, or the model of a part of a model that the root leads to.
pub data IsReached (f : FileTree) : ℕ → Type 0 where
  AsRoot : {index : ℕ} → model_index f f.root.number ≡ Some index → IsReached f index
  AsPart : {outer index : ℕ} (m : ModelTree) (k : ℕ) (p : Part) → IsReached f outer → slice_get f.models outer ≡ Some m →
      slice_get (parts_inside m) k ≡ Some p → model_index f p.model.number ≡ Some index → IsReached f index

-- the models with a mark are those that the root leads to, and no others
abbrev pub AreMarks : FileTree → List Bool → Type 0
AreMarks f marks = (index : ℕ) → (has_mark marks index ≡ true) ↔ IsReached f index

-- the models of a text that its root leads to and no others, in the order of the text
pub record AreReached (f : FileTree) (reached : List ModelTree) : Type 0 where
  pub marks : List Bool
  pub are : reached ≡ marked marks f.models
  pub exactly : AreMarks f marks

-- marks so far, and the indices of marked models whose parts have not been marked yet
pub record Marking : Type 0 where
  pub marks : List Bool
  pub waiting : List ℕ

abbrev pub marking_of : Walk → Marking
marking_of w = record { marks = w.marks.items; waiting = w.waiting.items }

-- with a mark for the model at an index, if there is one without a mark, and its parts to be marked later
abbrev pub with_mark : Option ℕ → Marking → Marking
with_mark None m = m
with_mark (Some index) m =
    if slice_index_or m.marks index true then m else
    record { marks = slice_set m.marks index true; waiting = m.waiting ++ index ∷ [] }

-- with marks for the models of these parts, by the names of all models
abbrev pub with_marks : List ℕ → List Part → Marking → Marking
with_marks names [] m = m
with_marks names (p ∷ parts) m = with_marks names parts (with_mark (index_of p.model.number names) m)
