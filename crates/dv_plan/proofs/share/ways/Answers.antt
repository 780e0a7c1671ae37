use Rattle.std.proofs.Common.{List, [], ◌∷◌, ◌+◌, ◌++◌, ap, drop, get_or, map, subst, sym, ◌∙◌}
use Rattle.std.proofs.lemmas.List.{map-append}
use Rattle.dv_conservative.specs.Links.{Link, is_between}
use Rattle.dv_conservative.specs.Process.{Outgoing}
use Rattle.dv_local.specs.Shares.{outgoing_of}
use Rattle.dv_local.specs.declared.share.Way.{Way}
use Rattle.dv_plan.specs.Cuts.{owned_by}
use Rattle.dv_plan.specs.declared.channels.Away.{Away}
use Rattle.dv_share.specs.Links.{RiseBySource}
use Rattle.dv_plan.proofs.Loops.{pushed}
use Rattle.dv_plan.proofs.Rising.{kept_by_source}
use Rattle.dv_plan.specs.Steps.{way_of}
use Rattle.dv_plan.proofs.share.ways.Goals as goal

abbrev nowhere : Away
nowhere = record { number = 0; target = 0 }

pub routes-requires : goal.routes-requires
routes-requires c =
    let cut = c.args.cut.now in
    let target = (get_or c.args.away.now c.loop-link.link-index nowhere).target in
    subst RiseBySource (sym c.links_to.ensures)
    (kept_by_source (is_between (owned_by cut.grouping c.args.process) (owned_by cut.grouping target)) cut.direct
    c.requires.rises.direct)

pub loop-link-preserved : goal.loop-link-preserved
loop-link-preserved c =
    let cut = c.args.cut.now in
    let p = c.args.process in
    let away = c.args.away.now in
    let i = c.loop-link.link-index in
    let link = get_or away i nowhere in
    let old = c.loop-link.found.items in
    let way : Way = record { number = link.number; links = c.in_ok-routes.field-0 } in
    ap (λ (ys : List Outgoing). ys ++ map (way_of cut p) (drop (i + 1) away))
    (ap (map outgoing_of) c.in_ok-push.ensures.items ∙ map-append outgoing_of old (way ∷ []))
    ∙ pushed (way_of cut p) away i nowhere (map outgoing_of old) (outgoing_of way) c.loop-link-test.true
    (ap (λ (ls : List Link). let out : Outgoing = record { number = link.number; links = ls } in out) (c.in_ok-routes.ensures
    ∙ c.links_to.ensures))
    ∙ c.loop-link.invariant
