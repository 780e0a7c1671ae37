use Rattle.std.proofs.Common.{◌≡◌, None, drop, map}
use Rattle.std.specs.List.{flat_map}
use Rattle.dv_syntax.specs.Trees.{rule_of}
use Rattle.dv_bag.specs.Responses.{ticks_of}
use Rattle.dv_bound.specs.Response.{external_gotos_in}
use Rattle.dv_bound.specs.Soonest.{entries_in, response_in, soonest}
use Rattle.dv_bound.proofs.lookahead.soonest_of_rules.Given as goal

abbrev pub invariant-loop-rule : goal.invariant-loop-rule
invariant-loop-rule l =
    let response = response_in (entries_in l.responses) in
    soonest response (ticks_of l.so_far) (flat_map external_gotos_in (map rule_of (drop l.rule-index l.rules)))
    ≡ soonest response None (flat_map external_gotos_in (map rule_of l.rules))
