-- The components of a text, each with the index of its model among those that have programs.
use Rattle.std.specs.Prelude.{◌≡◌, ℕ, suc, ◌+◌, ◌<◌, List, [], ◌∷◌, ◌++◌, length, slice_get, Option, Some, None}
use Rattle.dv_bag.specs.declared.response.Response.{Response}
use Rattle.dv_bag.specs.Responses.{ticks_of}
use Rattle.dv_bound.specs.Response.{response_of}
use Rattle.dv_bound.specs.Short.{IsShort}
use Rattle.dv_code.specs.Shape.{Fits}
use Rattle.law_compiled.specs.Networks.{start_by}
use Rattle.dv_eval.specs.Scope.{scope_of}
use Rattle.dv_flat.specs.Ends.{input_count, output_count}
use Rattle.dv_gen.specs.Resolution.{tables_of}
use Rattle.dv_react.specs.Components.{IsWaitOfRun, component_of}
use Rattle.dv_share.specs.Share.{FitsAt}
use Rattle.dv_share.specs.declared.tables.Member.{Member}
use Rattle.dv_syntax.specs.Trees.{AtomicModel, AtomicTree, ModelTree}
use Rattle.dv_tree.specs.Instances.{Instance}
use Rattle.dv_coded.specs.Models.{AreProgramsOf, TakesState}
use Rattle.dv_coded.specs.declared.models.Models.{Models}
use Rattle.dv_coded.specs.declared.programs.Programs.{Programs}

-- its model is there, and accepts the state in which the component starts; its next time is of the run
pub record StandsAmong (limit : ℕ) (programs : List Programs) (x : Member) : Type 0 where
  pub model : x.model < length programs
  pub wait : IsWaitOfRun limit x.start.wait
  pub fits : FitsAt TakesState programs x.model x.start.state

-- the programs and the response of a model are at an index
pub record IsModelAt (all : List Programs) (answers : List Response) (k : ℕ) (m : AtomicTree) : Type 0 where
  pub programs : Programs
  pub response : Response
  pub there : slice_get all k ≡ Some programs
  pub of_model : AreProgramsOf m programs
  pub answer : slice_get answers k ≡ Some response
  pub soonest : ticks_of response ≡ response_of m
  pub short : IsShort (ticks_of response)

-- the same among the models of a text
abbrev pub HasModelAt : Models → ℕ → AtomicTree → Type 0
HasModelAt all k m = IsModelAt all.programs.items all.responses.items k m

-- how many models have an index
abbrev pub indexed_count : List (Option ℕ) → ℕ
indexed_count [] = 0
indexed_count (None ∷ indices) = indexed_count indices
indexed_count (Some k ∷ indices) = suc (indexed_count indices)

-- the models of a text: the programs and the response of each one that has an index, once
pub record AreModelsOf (models : List ModelTree) (all : Models) : Type 0 where
  pub count : length all.indices.items ≡ length models
  pub both : length all.responses.items ≡ length all.programs.items
  pub once : indexed_count all.indices.items ≡ length all.programs.items
  pub known : (index k : ℕ) (m : AtomicTree) → slice_get all.indices.items index ≡ Some (Some k)
      → slice_get models index ≡ Some (AtomicModel m) → HasModelAt all k m

-- a model more, at the end
pub record Adds (m : AtomicTree) (before after : Models) (k : ℕ) : Type 0 where
  pub programs : Programs
  pub response : Response
  pub index : k ≡ length before.programs.items
  pub pushed : after.programs.items ≡ before.programs.items ++ programs ∷ []
  pub of_model : AreProgramsOf m programs
  pub answered : after.responses.items ≡ before.responses.items ++ response ∷ []
  pub soonest : ticks_of response ≡ response_of m
  pub short : IsShort (ticks_of response)
  pub indices : after.indices.items ≡ before.indices.items

-- what was at an index is still there
abbrev pub KeepsModels : Models → Models → Type 0
KeepsModels before after = (k : ℕ) (m : AtomicTree) → HasModelAt before k m → HasModelAt after k m

-- a component of a model, with this number, whose model has this index
pub record IsMemberOf (limit number index : ℕ) (m : AtomicTree) (x : Member) : Type 0 where
  pub numbered : x.number ≡ number
  pub indexed : x.model ≡ index
  pub inputs : x.inputs ≡ input_count m
  pub outputs : x.outputs ≡ output_count m
  pub start : component_of limit x.start ≡ start_by limit m
  pub wait : IsWaitOfRun limit x.start.wait
  pub fits : Fits (tables_of (scope_of m)).slots x.start.state.variables

-- the components of a text from a number on, as far as they are made
abbrev pub AreMembersFrom : ℕ → List Programs → List Response → ℕ → List Member → List Instance → Type 0
AreMembersFrom limit all answers k [] is = Unit {0}
AreMembersFrom limit all answers k (x ∷ xs) [] = ⊥
AreMembersFrom limit all answers k (x ∷ xs) (i ∷ is) =
    IsMemberOf limit k x.model i.model x
    × (IsModelAt all answers x.model i.model × AreMembersFrom limit all answers (k + 1) xs is)
