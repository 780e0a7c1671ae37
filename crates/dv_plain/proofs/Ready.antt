-- A text's network as a run begins.
use Rattle.std.proofs.Common.{◌≡◌, ℕ, List, [], ◌∷◌, length, map, Option, None, Result, Ok, Err, IsTrue, refl, sym, ◌∙◌}
use Rattle.std.proofs.lemmas.List.{length-map}
use Rattle.std.proofs.lemmas.List.FromFn.{length-range_with_len}
use Rattle.dv_syntax.specs.Trees.{FileTree}
use Rattle.dv_devs.specs.Behaviour.{end_of_hold}
use Rattle.dv_bag.specs.Outcome.{◌>>=◌}
use Rattle.dv_devs.specs.NextTimes.{AllQuietForGood, IsReady}
use Rattle.dv_bag.specs.declared.fault.Fault.{Fault}
use Rattle.dv_bag.specs.declared.state.State.{State}
use Rattle.dv_eval.specs.Scope.{start_state}
use Rattle.dv_tree.specs.Instances.{Instance, instances}
use Rattle.dv_plain.specs.Source.{behaviour_of, first_component, network_of, start_of}

quiet-first_component : (s : State) (next : Result (Option ℕ) Fault) → IsTrue (first_component s next).quiet →
    (first_component s next).next ≡ None
quiet-first_component s (Ok next) h = absurd (cc)
quiet-first_component s (Err f) h = refl

quiet-starts : (limit : ℕ) (is : List Instance) → AllQuietForGood (map (λ (i : Instance). start_of limit i.model) is)
quiet-starts limit [] = tt
quiet-starts limit (i ∷ is) = (
  quiet-first_component (start_state i.model)
      ((behaviour_of i.model).hold (start_state i.model) >>= λ ticks. end_of_hold limit 0 ticks),
  quiet-starts limit is,
)

pub ready : (limit : ℕ) (f : FileTree) → IsReady (network_of limit f)
ready limit f = record {
  matched =
      length-map (instances f) (λ (i : Instance). behaviour_of i.model)
      ∙ sym (length-map (instances f) (λ (i : Instance). start_of limit i.model));
  numbered = length-range_with_len 0 (length (instances f)) ∙ sym (length-map (instances f) (λ (i : Instance). behaviour_of i.model));
  quiet = quiet-starts limit (instances f);
}
