use Rattle.std.proofs.Common.{◌∙◌, ◌+◌, ◌<◌, ℕ, Option, None, ap, drop, ext_get_or, get_or, length, map, subst, sym, zero-add}
use Rattle.std.proofs.Math.ListN.{set}
use Rattle.std.specs.List.{range_with_len}
use Rattle.std.proofs.lemmas.List.{get_or_default, at_drop_all, at_drop_more, length-set}
use Rattle.std.proofs.lemmas.List.FromFn.{get_or-map-range_with_len, length-map-range_with_len}
use Rattle.dv_bag.specs.declared.response.Response.TheVariants.{Never}
use Rattle.dv_time.specs.Time.{earlier}
use Rattle.dv_partition.specs.Groups.{owner_of}
use Rattle.dv_conservative.specs.Responses.{least_response}
use Rattle.dv_bag.specs.Responses.{ticks_of}
use Rattle.dv_plan.proofs.Responded.{earlier_none, lowered}
use Rattle.dv_plan.proofs.responses.responses.Goals as goal

pub loop-component-preserved : goal.loop-component-preserved
loop-component-preserved c =
    let g = c.args.groups.now in
    let i = c.loop-component.component in
    let components = c.args.components.now in
    let found = map ticks_of c.loop-component.found.items in
    let long = c.loop-component.invariant.long in
    let own = owner_of g in
    let k = c.owner.result in
    let lt : own i < length found = subst (λ n. own i < n) (sym long)
    (subst (λ j. j < g.processes) c.owner.ensures.exact c.owner.ensures.below) in
    let rest = map ticks_of (drop (i + 1) components) in
    let here = get_or components i Never in
    let lower = c.lower.ensures
    ∙ ap (λ r. set found k (earlier (get_or found k None) (ticks_of r))) (get_or_default components i _ Never c.loop-component-test.true)
    ∙ ap (λ j. set found j (earlier (get_or found j None) (ticks_of here))) c.owner.ensures.exact in
    record {
      long = ap length lower ∙ length-set found (own i) (earlier (get_or found (own i) None) (ticks_of here)) ∙ long;
      least = λ p within.
          ap (λ ls. earlier (get_or ls p None) (least_response own p (i + 1) rest)) lower
          ∙ lowered own found i p (ticks_of here) rest lt
          ∙ sym (at_drop_more (λ rs. earlier (get_or found p None) (least_response own p i (map ticks_of rs))) components i Never
          c.loop-component-test.true)
          ∙ c.loop-component.invariant.least p within;
    }

pub returns : goal.returns
returns c =
    let g = c.args.groups.now in
    let i = c.loop-component.component in
    let components = c.args.components.now in
    let found = map ticks_of c.loop-component.found.items in
    let long = c.loop-component.invariant.long in
    let own = owner_of g in
    let wanted : ℕ → Option ℕ = λ p. least_response own p 0 (map ticks_of components) in
    ext_get_or None found (map wanted (range_with_len 0 g.processes))
    (long ∙ sym (length-map-range_with_len wanted 0 g.processes))
    (λ p lt.
    let within : p < g.processes = subst (λ n. p < n) long lt in
    sym (earlier_none (get_or found p None))
    ∙ sym (at_drop_all (λ rs. earlier (get_or found p None) (least_response own p i (map ticks_of rs))) components i
    c.loop-component-test.false)
    ∙ c.loop-component.invariant.least p within
    ∙ sym (get_or-map-range_with_len wanted 0 g.processes p p None within (zero-add p)))
