-- What a rule sends stands in bags, by port.
use Rattle.std.proofs.Common.{ℕ, ℤ, zero, suc, List, [], ◌∷◌, length, replicate, Option, Some, None, IfOk}
use Rattle.std.specs.Prelude.{slice_set}
use Rattle.dv_syntax.specs.Trees.{Statements}
use Rattle.dv_bag.specs.Arrivals.{Arrivals}
use Rattle.dv_bag.specs.Bag.{Counts, IsBag, bag_at, with_copies}
use Rattle.dv_bag.specs.BagLists.{AreBags}
use Rattle.dv_bag.specs.declared.state.State.{State}
use Rattle.dv_bag.specs.declared.state.Effect.{Effect}
use Rattle.dv_bag.proofs.InputBags.{nothing_are_bags}
use Rattle.dv_bag.proofs.Pairs.{with_copies_bag}
use Rattle.dv_eval.specs.Scope.{Scope, index_of}
use Rattle.dv_eval.specs.Meaning.{effect_of, outermost, with_goto, with_value_at}
use Rattle.law_accepted.proofs.Keeping.{keeps_in_any_state, run_keeps}

abbrev pub SendsBags : Effect → Type 0
SendsBags e = AreBags e.sent

-- a bag more
bag_put : (bags : List Counts) (index : ℕ) (b : Counts) → AreBags bags → IsBag b → AreBags (slice_set bags index b)
bag_put [] index b are is port = tt
bag_put (x ∷ bags) zero b are is zero = is
bag_put (x ∷ bags) zero b are is (suc port) = are (suc port)
bag_put (x ∷ bags) (suc index) b are is zero = are zero
bag_put (x ∷ bags) (suc index) b are is (suc port) = bag_put bags index b (λ k. are (suc k)) is port

-- one value more
value_sent : (o : Option ℕ) (n : ℤ) (e : Effect) → SendsBags e → SendsBags (with_value_at o n e)
value_sent None n e are = are
value_sent (Some port) n e are =
    bag_put e.sent port (with_copies n 1 (bag_at e.sent port)) are (with_copies_bag n 1 (bag_at e.sent port) (are port))

gone : (o : Option ℕ) (e : Effect) → SendsBags e → SendsBags (with_goto o e)
gone None e are = are
gone (Some phase) e are = are

pub effect_sends_bags : (scope : Scope) (body : Statements) (arrivals : Arrivals) (s : State)
    → IfOk (effect_of scope body arrivals s) SendsBags
effect_sends_bags scope body arrivals s =
    let start : Effect = record { state = s; sent = replicate (length scope.outputs) []; goto = None } in
    let kept = keeps_in_any_state scope SendsBags (λ e now are. are) (λ phase. Unit {0})
    (λ phase e anywhere are. gone (index_of phase scope.phases) e are)
    (λ port n e are. value_sent (index_of port scope.outputs) n e are) in
    run_keeps scope SendsBags kept (outermost arrivals) body start (nothing_are_bags (length scope.outputs))
