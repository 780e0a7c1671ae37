-- How a component reacts in its place, and what it was before.
use Rattle.std.specs.Prelude.{◌≡◌, ℕ, List, [], ◌∷◌, ◌++◌, Option, Some, None, Result, slice_get, slice_set}
use Rattle.dv_bag.specs.Bag.{Counts}
use Rattle.dv_bag.specs.declared.fault.Fault.{Fault}
use Rattle.dv_bag.specs.declared.state.State.{State}
use Rattle.dv_devs.specs.Behaviour.{Behaviour}
use Rattle.dv_react.specs.Outcomes.{left_by, outcome_of}
use Rattle.dv_react.specs.declared.happened.Happened.{Happened}
use Rattle.dv_react.specs.declared.running.Running.{Running}
use Rattle.dv_share.specs.Outcomes.{IsOutcomeOf}
use Rattle.dv_share.specs.Share.{given_at}
use Rattle.dv_share.specs.declared.index.Indexed.{Indexed}
use Rattle.dv_share.specs.declared.tables.Tables.{Tables}

-- what a component was, at its index, if something happened to it
abbrev pub former_of : ℕ → Running → Option Happened → List (Indexed Running)
former_of p r None = []
former_of p r (Some h) = (record { index = p; what = r }) ∷ []

-- The component at the index of an arrival reacted in its place. The others are as they were, and what it was is logged if something
-- happened to it.
pub record ReactsAt {S : Type 0} (behaviour : S → Behaviour) (fits : S → State → Type 0) (t : Tables S) (now : ℕ)
    (es : List (Indexed (Result (List Counts) Fault))) (x : Indexed (List Counts)) (rs ss : List Running) (old new : List (Indexed Running))
    (h : Option Happened) : Type 0 where
  pub before : Running
  pub after : Running
  pub stood : slice_get rs x.index ≡ Some before
  pub outcome : IsOutcomeOf behaviour fits t now before (given_at x.index es) x (outcome_of after h)
  pub left : after ≡ left_by before (outcome_of after h)
  pub components : ss ≡ slice_set rs x.index after
  pub former : new ≡ old ++ former_of x.index before h
