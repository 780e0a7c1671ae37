-- The lines of a component that the tree doesn't have.
use Rattle.std.proofs.Common.{◌≡◌, List, [], ◌∷◌, ◌++◌, refl, ap}
use Rattle.dv_bag.specs.Bag.{Counts}
use Rattle.dv_bag.specs.declared.state.Datum.{Datum}
use Rattle.dv_bag.specs.declared.state.State.{State}
use Rattle.dv_lines.specs.Words.{no_words, sent_words, state_words, variables_words}

none_sent : (bags : List Counts) → sent_words [] bags ≡ []
none_sent [] = refl
none_sent (b ∷ bags) = refl

no_variables : (ds : List Datum) → variables_words [] ds ≡ []
no_variables [] = refl
no_variables (d ∷ ds) = refl

-- what stands behind the letter of a transition
pub state_unknown : (s : State) (bags : List Counts) → state_words no_words s ++ (sent_words [] bags ++ (10 ∷ [])) ≡ 32 ∷ 10 ∷ []
state_unknown s bags = rw (no_variables s.variables, none_sent bags) refl

-- what stands behind a fault
pub end_unknown : (bags : List Counts) → sent_words [] bags ++ (10 ∷ []) ≡ 10 ∷ []
end_unknown bags = ap (λ t. t ++ (10 ∷ [])) (none_sent bags)
