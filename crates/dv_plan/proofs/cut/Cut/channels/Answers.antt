use Rattle.std.proofs.Common.{◌≡◌, ◌∙◌, ◌*◌, ◌<◌, ℕ, List, ap, arith, length, map, subst, sym}
use Rattle.std.specs.Prelude.{IfOk}
use Rattle.std.proofs.lemmas.List.{length-map}
use Rattle.dv_conservative.specs.Channels.{all_channels}
use Rattle.dv_conservative.specs.World.{Channel as Meant}
use Rattle.dv_partition.specs.Groups.{owner_of}
use Rattle.dv_proc.specs.Channels.{meant_channel}
use Rattle.dv_plan.specs.Keys.{all_sent, lists_by, pair_key, sends}
use Rattle.dv_share.specs.Links.{links_of}
use Rattle.dv_plan.proofs.Kept.{lists_long}
use Rattle.dv_plan.proofs.Sent.{same_channels, sends_where_links_cross}
use Rattle.dv_plan.proofs.cut.Cut.channels.Goals as goal

pub channels-requires-clause-long : goal.channels-requires-clause-long
channels-requires-clause-long c =
    let pairs = c.self.inside.pairs.items in
    let n = c.self.inside.groups.now.processes in
    ap length c.deref.ensures.value
    ∙ sym (length-map pairs (λ list. list.items))
    ∙ ap length c.self.invariant.between
    ∙ lists_long (pair_key c.self.inside.groups.now) (n * n) c.self.inside.links.direct.items
    ∙ ap (λ k. k * k) (sym c.processes.ensures.exact)

pub returns : goal.returns
returns c =
    let g = c.self.inside.groups.now in
    let direct = c.self.inside.links.direct.items in
    let below : (k : ℕ) → owner_of g k < g.processes = λ k. subst (λ m. owner_of g k < m) c.processes.ensures.exact
    (c.processes.ensures.owned k) in
    let lists = lists_by (pair_key g) (g.processes * g.processes) direct in
    let P : List Meant → Type 0 = λ cs. IfOk c.channels.result (λ found. map meant_channel found.items ≡ cs) in
    subst P
    (ap (λ k. all_sent (sends k (map (λ list. list.items) c.deref.result.now)) k 0 k) c.processes.ensures.exact
    ∙ ap (λ ls. all_sent (sends g.processes ls) g.processes 0 g.processes)
    (ap (map (λ list. list.items)) c.deref.ensures.value ∙ c.self.invariant.between)
    ∙ same_channels (sends g.processes lists) (owner_of g) (links_of direct) g.processes 0 g.processes (omega arith)
    (sends_where_links_cross g below direct)
    ∙ ap (λ v. all_channels (owner_of v.grouping) v.direct v.grouping.processes) c.self.view_is)
    c.channels.ensures
