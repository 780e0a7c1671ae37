use Rattle.std.proofs.Common.{◌<◌, length, map, ap, sym, ◌∙◌, subst}
use Rattle.std.specs.Prelude.{Some}
use Rattle.std.proofs.lemmas.Option.{slice_get-get_or}
use Rattle.dv_bag.specs.declared.response.Response.{Response}
use Rattle.dv_share.specs.declared.tables.Member.{Member}
use Rattle.dv_coded.proofs.Members.{responses-more}
use Rattle.dv_coded.proofs.components.responses_of.Goals as goal

pub loop-member-preserved : goal.loop-member-preserved
loop-member-preserved c =
    let x = c.member-item.result in
    let answers = c.args.responses.now in
    let within = c.requires c.loop-member.member-index x c.loop-member-test.true in
    let there = subst (λ (y : Member). y.model < length answers) (sym c.member-item.is) within in
    ap (map (λ (r : Response). Some r)) c.in_ok-push.ensures.items
    ∙ responses-more answers c.loop-member.all.items c.args.members.now c.loop-member.member-index x _ c.loop-member-test.true
    c.member-item.is (slice_get-get_or answers x.model _ there) c.loop-member.invariant
