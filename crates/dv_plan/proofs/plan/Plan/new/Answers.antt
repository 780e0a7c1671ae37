use Rattle.std.proofs.Common.{◌≤◌, List, ap, arith, length, map, refl, subst, sym, ◌∙◌}
use Rattle.std.specs.List.{AllByRecursion, range_with_len}
use Rattle.std.proofs.lemmas.List.{length-map}
use Rattle.std.proofs.lemmas.List.FromFn.{length-map-range_with_len}
use Rattle.dv_bag.specs.declared.response.Response.{Response}
use Rattle.dv_conservative.specs.Channels.{all_channels}
use Rattle.dv_conservative.specs.Responses.{least_response}
use Rattle.dv_share.specs.Indices.{AreRising}
use Rattle.dv_share.specs.Share.{numbers_of}
use Rattle.dv_share.specs.declared.tables.Member.{Member}
use Rattle.dv_bag.specs.Responses.{ticks_of}
use Rattle.dv_partition.specs.Groups.{owner_of}
use Rattle.dv_partition.specs.Limits.{greatest_processes}
use Rattle.dv_proc.specs.Channels.{meant_channel}
use Rattle.dv_plan.specs.Cuts.{CutOf, owned_by}
use Rattle.dv_proc.specs.declared.channel.Channel.{Channel}
use Rattle.dv_plan.specs.Steps.{Rises, members_of}
use Rattle.dv_plan.proofs.Few.{few_channels}
use Rattle.dv_plan.proofs.Lists.{all_made, rise_kept}
use Rattle.dv_plan.proofs.Shares.{shares_of_plan}
use Rattle.dv_plan.proofs.plan.Plan.new.Goals as goal

pub shares-requires-clause-count : goal.shares-requires-clause-count
shares-requires-clause-count g c =
    let groups = c.args.groups.now in
    let members = c.in_ok-members.members.items in
    let least = c.in_ok-least.least.items in
    let one = sym (length-map members (λ l. l.items)) ∙ ap length c.in_ok-members.ensures.each
    ∙ length-map-range_with_len (λ p. members_of groups p c.args.whole.members.items) 0 groups.processes in
    let other = sym (length-map least ticks_of) ∙ ap length c.in_ok-least.ensures
    ∙ length-map-range_with_len (λ p. least_response (owner_of groups) p 0 (map ticks_of c.deref.result.now)) 0 groups.processes in
    omega (arith, one, other, ap length c.deref-3.ensures.value)

pub shares-requires-clause-there : goal.shares-requires-clause-there
shares-requires-clause-there g c =
    let groups = c.args.groups.now in
    let members = c.in_ok-members.members.items in
    let one = sym (length-map members (λ l. l.items)) ∙ ap length c.in_ok-members.ensures.each
    ∙ length-map-range_with_len (λ p. members_of groups p c.args.whole.members.items) 0 groups.processes in
    let all = ap (λ (k : CutOf). k.grouping.processes) c.in_ok-cut.ensures in
    omega (arith, one, all)

pub shares-requires-clause-processes : goal.shares-requires-clause-processes
shares-requires-clause-processes g c = c.in_ok-members.ensures.few

pub shares-requires-clause-few : goal.shares-requires-clause-few
shares-requires-clause-few g c =
    let groups = c.args.groups.now in
    let cut = c.in_ok-cut.cut in
    let members = c.in_ok-members.members.items in
    let channels = c.in_ok-channels.channels.items in
    let count = sym (length-map members (λ l. l.items)) ∙ ap length c.in_ok-members.ensures.each
    ∙ length-map-range_with_len (λ p. members_of groups p c.args.whole.members.items) 0 groups.processes in
    let all = ap (λ (k : CutOf). k.grouping.processes) c.in_ok-cut.ensures in
    let few : cut.grouping.processes ≤ greatest_processes = omega (arith, count, all, c.in_ok-members.ensures.few) in
    let small = few_channels (owner_of cut.grouping) cut.direct cut.grouping.processes few in
    let long = sym (length-map channels meant_channel) ∙ ap length c.in_ok-channels.ensures in
    omega (arith, small, long, ap length c.deref-2.ensures.value)

pub shares-requires-clause-rises : goal.shares-requires-clause-rises
shares-requires-clause-rises g c =
    subst (λ (k : CutOf). Rises k) (sym c.in_ok-cut.ensures) (record {
      direct = c.requires.direct;
      entrances = c.requires.entrances;
      exits = c.requires.exits;
    })

pub shares-requires-clause-rise : goal.shares-requires-clause-rise
shares-requires-clause-rise g c =
    let groups = c.args.groups.now in
    let ms = c.args.whole.members.items in
    subst (λ (lists : List (List Member)). AllByRecursion (λ (xs : List Member). AreRising (numbers_of xs)) lists)
    (sym c.in_ok-members.ensures.each)
    (all_made (λ (xs : List Member). AreRising (numbers_of xs)) (λ p. members_of groups p ms)
    (λ p. rise_kept (λ (m : Member). owned_by groups p m.number) 0 ms c.requires.members.rise) (range_with_len 0 groups.processes))

pub returns : goal.returns
returns g c =
    let groups = c.args.groups.now in
    let w = c.args.whole in
    let members = c.in_ok-members.members.items in
    let long = sym (length-map members (λ l. l.items)) ∙ ap length c.in_ok-members.ensures.each
    ∙ length-map-range_with_len (λ p. members_of groups p w.members.items) 0 groups.processes in
    let links = c.in_ok-channels.ensures
    ∙ ap (λ (k : CutOf). all_channels (owner_of k.grouping) k.direct k.grouping.processes) c.in_ok-cut.ensures in
    let count = c.in_ok-shares.ensures.count ∙ long in
    record {
      links = links;
      count = count;
      shares =
          shares_of_plan g.A.Atomic.behaviour g.A.Atomic.fits w c.args.inputs.now groups (map (λ l. l.items) members) c.deref-4.result.now
          c.in_ok-shares.shares.items
          c.in_ok-shares.ensures.made c.requires (record {
            limit = refl;
            horizon = refl;
            ports = refl;
            outputs = refl;
            cut = c.in_ok-cut.ensures;
            links = ap (λ (cs : List Channel). map meant_channel cs) c.deref-2.ensures.value ∙ links;
            responses =
                ap (λ (rs : List Response). map ticks_of rs) c.deref-3.ensures.value ∙ c.in_ok-least.ensures
                ∙ ap (λ (rs : List Response). map (λ p. least_response (owner_of groups) p 0 (map ticks_of rs))
                (range_with_len 0 groups.processes))
                c.deref.ensures.value;
            inputs = refl;
          })
          c.in_ok-members.ensures.each c.deref-4.ensures.value count;
    }
