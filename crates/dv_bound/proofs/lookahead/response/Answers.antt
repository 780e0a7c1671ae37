use Rattle.std.proofs.Common.{◌≡◌, ap, map, rules, sym, subst}
use Rattle.dv_syntax.specs.Trees.{atomic_of, hold_of}
use Rattle.dv_eval.specs.Scope.{Scope}
use Rattle.dv_bag.specs.Responses.{ticks_of}
use Rattle.dv_bound.specs.Response.{response_of}
use Rattle.dv_bound.specs.Short.{AreShort, IsShort}
use Rattle.dv_bound.proofs.Short.{response_short}
use Rattle.dv_bound.proofs.lookahead.response.Goals as goal

pub returns : goal.returns
returns c =
    let m = atomic_of c.args.model.now in
    let shorts = subst (λ (s : Scope). AreShort s c.deref.result.now) c.requires c.in_ok-responses.ensures.short in
    let same = sym (ap (map hold_of) c.deref.ensures.value) in
    let answer : ticks_of c.soonest_of_rules.result ≡ response_of m = search rules in
    record { response = answer; short = subst IsShort (sym answer) (response_short m c.deref.result.now same shorts) }
