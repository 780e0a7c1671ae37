-- A text with its inputs, run in processes.
use Rattle.std.specs.Prelude.{ℕ, zero, suc, Bool, true, IsTrue, List, [], ◌∷◌, map, Option}
use Rattle.dv_syntax.specs.Trees.{AtomicModel, CoupledModel, FileTree, ModelTree}
use Rattle.dv_bag.specs.Bag.{is_number}
use Rattle.dv_bag.specs.declared.inputs.Input.{Input}
use Rattle.dv_bag.specs.declared.state.State.{State}
use Rattle.dv_tree.specs.Instances.{Instance, instances}
use Rattle.dv_bound.specs.Response.{response_of}
use Rattle.dv_plain.specs.Source.{outside}
use Rattle.dv_conservative.specs.Channels.{all_channels}
use Rattle.dv_conservative.specs.Responses.{least_response}
use Rattle.dv_conservative.specs.World.{Job}
use Rattle.law_sound.specs.Kept.{IsOfNumbers, fits_kept}
use Rattle.law_sound.specs.Members.{flat_of}

-- the responses of components
abbrev pub responses_of : List Instance → List (Option ℕ)
responses_of is = map (λ (i : Instance). response_of i.model) is

-- a text with inputs, to a horizon, under a microstep limit, with a number of processes and the process of each component
abbrev pub job_of : (limit horizon : ℕ) → FileTree → List Input → (processes : ℕ) → (ℕ → ℕ) → Job
job_of limit horizon f inputs processes owner = record {
  limit = limit;
  horizon = horizon;
  flat = flat_of limit f;
  outside = outside f limit inputs;
  processes = processes;
  owner = owner;
  channels = all_channels owner (flat_of limit f).links processes;
  responses = λ p. least_response owner p 0 (responses_of (instances f));
}

-- the states that fit a component, by its number
abbrev pub fits_number : List Instance → ℕ → State → Bool
fits_number [] k s = true
fits_number (i ∷ is) zero s = fits_kept i.model s
fits_number (i ∷ is) (suc k) s = fits_number is k s

-- inputs of numbers of the language
abbrev pub AllInputNumbers : List Input → Type 0
AllInputNumbers [] = Unit {0}
AllInputNumbers (i ∷ is) = IsTrue (is_number i.value) × AllInputNumbers is

-- an atomic model of numbers of the language
abbrev pub IsModelOfNumbers : ModelTree → Type 0
IsModelOfNumbers (AtomicModel m) = IsOfNumbers m
IsModelOfNumbers (CoupledModel m) = Unit {0}
