use Rattle.std.proofs.Common.{◌≡◌, drop}
use Rattle.dv_syntax.specs.Trees.{statements_of}
use Rattle.law_accepted.specs.Gotos.{gotos_in}
use Rattle.dv_bag.specs.Responses.{ticks_of}
use Rattle.dv_bound.specs.Soonest.{entries_in, response_in, soonest}
use Rattle.dv_bound.proofs.lookahead.+gotos.Given as goal

abbrev pub invariant-soonest_of_statements-loop-statement :
    goal.invariant-soonest_of_statements-loop-statement
invariant-soonest_of_statements-loop-statement l =
    let response = response_in (entries_in l.responses) in
    soonest response (ticks_of l.so_far) (gotos_in (statements_of (drop l.statement-index l.statements)))
    ≡ soonest response (ticks_of l.initial.so_far) (gotos_in (statements_of l.statements))
