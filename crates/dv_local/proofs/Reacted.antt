-- A component that reacts where it stands.
use Rattle.std.proofs.Common.{◌≡◌, ◌∙◌, ◌+◌, ◌<◌, ℕ, [], ◌∷◌, ◌++◌, List, Option, Some, None, Result, length, get_or, slice_get, slice_set}
use Rattle.std.proofs.Common.{append-nil, refl, sym, ap, subst, true}
use Rattle.std.specs.Option.{is_some}
use Rattle.std.proofs.lemmas.List.{get_or-set_same, length-append, length-set, set-get_or}
use Rattle.std.proofs.lemmas.Option.{get_or_from_slice_get, same_Some, slice_get_within}
use Rattle.dv_bag.specs.Bag.{Counts}
use Rattle.dv_bag.specs.declared.fault.Fault.{Fault}
use Rattle.dv_bag.specs.declared.state.State.{State}
use Rattle.dv_devs.specs.Behaviour.{Behaviour}
use Rattle.dv_react.specs.Components.{IsWaitOfRun}
use Rattle.dv_react.specs.Outcomes.{happened_in, left_by, outcome_of}
use Rattle.dv_react.specs.declared.happened.Happened.{Happened}
use Rattle.dv_react.specs.declared.happened.Happened.TheVariants as happened
use Rattle.dv_react.specs.declared.running.Running.{Running}
use Rattle.dv_share.specs.Outcomes.{IsOutcomeOf}
use Rattle.dv_share.specs.Share.{AreComponents, FitsAt, given_at}
use Rattle.dv_share.specs.declared.index.Indexed.{Indexed}
use Rattle.dv_share.specs.declared.tables.Tables.{Tables}
use Rattle.dv_local.specs.Commits.{what_by}
use Rattle.dv_local.specs.Reacting.{ReactsAt, former_of}
use Rattle.dv_local.specs.Undoing.{AreWithin, time_of_wait, undone, waits_of}
use Rattle.dv_local.proofs.Commits.{put_stays}
use Rattle.dv_local.proofs.Undoing.{all_end, undone-exchange, waits-set}

-- what happened, by the state after it
pub happened-what : (after : Running) (h : Happened) → happened_in (outcome_of after (Some h)) ≡ Some (what_by h after.state)
happened-what after (happened.Transition kind) = refl
happened-what after (happened.Fault fault) = refl

module _ {S : Type 0} (behaviour : S → Behaviour) (fits : S → State → Type 0) (t : Tables S) (now : ℕ)
    (es : List (Indexed (Result (List Counts) Fault))) (x : Indexed (List Counts)) (rs ss : List Running) (old new : List (Indexed Running))
  where
    module _ (h : Option Happened) (reacts : ReactsAt behaviour fits t now es x rs ss old new h) where
      pub within : x.index < length rs
      within = slice_get_within rs x.index reacts.before reacts.stood

      -- the components that there are then are components of the tables
      pub components_after : AreComponents fits t rs → AreComponents fits t ss
      components_after are =
          subst (AreComponents fits t) (sym reacts.components)
          (put_stays fits t rs x.index reacts.after are within
          (subst (λ (s : Running). IsWaitOfRun t.limit s.wait) (sym reacts.left) reacts.outcome.waits)
          (λ m at. subst (λ (s : Running). FitsAt fits t.models.items m.model s.state) (sym reacts.left) (reacts.outcome.fit m at)))

      -- what its outcome is, whichever component it is said to have been
      pub outcome_there : (r : Running) → slice_get rs x.index ≡ Some r
          → IsOutcomeOf behaviour fits t now r (given_at x.index es) x (outcome_of reacts.after h)
      outcome_there r at =
          subst (λ (u : Running). IsOutcomeOf behaviour fits t now u (given_at x.index es) x (outcome_of reacts.after h))
          (same_Some reacts.before r (sym reacts.stood ∙ at)) reacts.outcome

      pub components_there : (r : Running) → slice_get rs x.index ≡ Some r
          → ss ≡ slice_set rs x.index (left_by r (outcome_of reacts.after h))
      components_there r at =
          reacts.components
          ∙ ap (slice_set rs x.index)
          (reacts.left ∙ ap (λ (u : Running). left_by u (outcome_of reacts.after h)) (same_Some reacts.before r (sym reacts.stood ∙ at)))

      pub stood_there : (d : Running) → reacts.before ≡ get_or rs x.index d
      stood_there d = sym (get_or_from_slice_get rs x.index reacts.before d reacts.stood)

      -- it is the one that stands there then
      pub stands_there : (q : ℕ) (r : Running) → q ≡ x.index → slice_get ss q ≡ Some r → r ≡ reacts.after
      stands_there q r e at =
          let here : slice_get (slice_set rs x.index reacts.after) x.index ≡ Some r =
          ap (λ (us : List Running). slice_get us x.index) (sym reacts.components)
          ∙ ap (λ (k : ℕ). slice_get ss k) (sym e) ∙ at in
          sym (get_or_from_slice_get (slice_set rs x.index reacts.after) x.index r r here) ∙ get_or-set_same rs x.index reacts.after r within

      pub waits_after : waits_of ss ≡ slice_set (waits_of rs) x.index (time_of_wait reacts.after.wait)
      waits_after = ap (λ (us : List Running). waits_of us) reacts.components ∙ waits-set rs x.index reacts.after

      -- with what it was put back all stand as before
      pub taken_back : (q : ℕ) → q ≡ x.index → slice_set ss q reacts.before ≡ rs
      taken_back q e =
          ap (λ (k : ℕ). slice_set ss k reacts.before) e
          ∙ ap (λ (us : List Running). slice_set us x.index reacts.before) reacts.components
          ∙ undone-exchange [] rs x.index reacts.after reacts.before stood_there

    -- something happened to it
    module _ (h : Happened) (reacts : ReactsAt behaviour fits t now es x rs ss old new (Some h)) where
      pub within_after : AreWithin (length rs) old → AreWithin (length ss) new
      within_after all =
          let size : length ss ≡ length rs = ap (λ (us : List Running). length us) reacts.components ∙ length-set rs x.index reacts.after in
          subst (λ n. AreWithin n new) (sym size)
          (subst (λ (ys : List (Indexed Running)). AreWithin (length rs) ys) (sym reacts.former)
          (all_end (λ (y : Indexed Running). y.index < length rs) old _ all (within (Some h) reacts)))

      pub undone_after : undone new ss ≡ undone old rs
      undone_after =
          ap (λ (ys : List (Indexed Running)). undone ys ss) reacts.former
          ∙ ap (λ (us : List Running). undone (old ++ (record { index = x.index; what = reacts.before }) ∷ []) us) reacts.components
          ∙ undone-exchange old rs x.index reacts.after reacts.before (stood_there (Some h) reacts)

      pub count_after : length new ≡ length old + 1
      count_after = ap (λ (ys : List (Indexed Running)). length ys) reacts.former ∙ length-append old (_ ∷ [])

    -- nothing happened to it
    module _ (reacts : ReactsAt behaviour fits t now es x rs ss old new None) where
      pub same_components : ss ≡ rs
      same_components =
          reacts.components
          ∙ ap (slice_set rs x.index) (reacts.left ∙ stood_there None reacts reacts.before)
          ∙ set-get_or rs x.index reacts.before

      pub same_former : new ≡ old
      same_former = reacts.former ∙ append-nil old

-- what a component was is logged if something happened to it
pub one_former : (p : ℕ) (r : Running) (h : Option Happened)
    → is_some h ≡ true → former_of p r h ≡ (record { index = p; what = r }) ∷ []
one_former p r None is = absurd (cc)
one_former p r (Some h) is = refl
