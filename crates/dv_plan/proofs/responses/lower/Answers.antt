use Rattle.std.proofs.Common.{◌∙◌, ◌<◌, None, ap, arith, length, map, sym}
use Rattle.std.proofs.Math.ListN.{set}
use Rattle.std.proofs.lemmas.List.{get_or-map, map-set}
use Rattle.dv_time.specs.Time.{earlier}
use Rattle.dv_bag.specs.Responses.{ticks_of}
use Rattle.dv_plan.proofs.responses.lower.Goals as goal

pub returns-then-index-len : goal.returns-then-index-len
returns-then-index-len c =
    let items = c.args.responses.now.items in
    let p = c.args.process in
    let lt : p < length items = omega (arith, c.if-index-len.true) in
    map-set ticks_of items p c.sooner-least.result
    ∙ ap (set (map ticks_of items) p)
    (c.sooner-least.ensures
    ∙ ap (λ r. earlier (ticks_of r) (ticks_of c.args.response)) c.index.ensures
    ∙ ap (λ o. earlier o (ticks_of c.args.response)) (sym (get_or-map ticks_of items p c.index.result.now None lt)))
