use Rattle.std.proofs.Common.{◌≡◌, ◌++◌, List, length, map, ap, sym, ◌∙◌}
use Rattle.dv_syntax.specs.Trees.{file_of}
use Rattle.dv_bag.specs.Bag.{Counts}
use Rattle.dv_devs.specs.Behaviour.{Reaction}
use Rattle.dv_devs.specs.Network.{emissions, entries_by, instant, outer_from}
use Rattle.dv_bag.specs.Part.{PartOf}
use Rattle.dv_bag.specs.declared.entry.Entry.{Entry}
use Rattle.dv_bag.specs.declared.entry.Outer.{Outer}
use Rattle.dv_tree.specs.Routing.{arrives, leaves}
use Rattle.dv_plain.specs.Outputs.{reactions_at}
use Rattle.dv_react.specs.Components.{component_of, rank_of}
use Rattle.dv_plain.specs.Source.{network_of}
use Rattle.dv_plain.proofs.Emitted.{emissions-outputs}
use Rattle.dv_plain.proofs.network.run_instant.Goals as goal

pub react_all-requires-clause-received : goal.react_all-requires-clause-received
react_all-requires-clause-received c =
    ap length c.deref-2.ensures.value ∙ ap length c.in_ok-routed.ensures.received
    ∙ c.each_component_receives.ensures (file_of c.args.tree.now.file) c.deref.result.now c.args.input.now

abbrev part_by : List Entry → List Outer → PartOf
part_by es os = record { entries = es; outer = os }

-- what is sent is what the components send
sent : (c : goal.After-drop-emitted-3) →
    let limit = c.args.instant.now.limit in
    c.deref.result.now ≡ emissions (network_of limit (file_of c.args.tree.now.file)).behaviours (rank_of c.args.instant.now)
    (map (component_of limit) c.args.components.now)
sent c =
    let limit = c.args.instant.now.limit in
    c.deref.ensures.value ∙ c.in_ok-emitted.ensures.sent
    ∙ sym (emissions-outputs limit (network_of limit (file_of c.args.tree.now.file)).behaviours
    (rank_of c.args.instant.now) c.args.components.now)

-- what is received is what arrives of it
received : (c : goal.After-drop-emitted-3) →
    let limit = c.args.instant.now.limit in
    let f = file_of c.args.tree.now.file in
    c.deref-2.result.now ≡ arrives f
    (emissions (network_of limit f).behaviours (rank_of c.args.instant.now) (map (component_of limit) c.args.components.now))
    c.args.input.now
received c =
    c.deref-2.ensures.value ∙ c.in_ok-routed.ensures.received
    ∙ ap (λ s. arrives (file_of c.args.tree.now.file) s c.args.input.now) (sent c)

pub returns-clause-components : goal.returns-clause-components
returns-clause-components c =
    c.in_ok-react_all.ensures.components
    ∙ ap (λ bags. map (λ (r : Reaction). r.component)
    (reactions_at c.args.instant.now (file_of c.args.tree.now.file) c.args.components.now bags)) (received c)

pub returns-clause-trace : goal.returns-clause-trace
returns-clause-trace c =
    let limit = c.args.instant.now.limit in
    let f = file_of c.args.tree.now.file in
    let now = rank_of c.args.instant.now in
    let cs = map (component_of limit) c.args.components.now in
    let t = c.args.trace.now in
    let numbers = (network_of limit f).numbers in
    let happened = reactions_at c.args.instant.now f c.args.components.now in
    let leaving = c.in_ok-routed.ensures.leaving ∙ ap (leaves f) (sent c) in
    let entries = t.entries ++ entries_by limit now numbers (instant limit (network_of limit f) now c.args.input.now cs) in
    let lines = t.outer ++ outer_from limit now 0 c.in_ok-routed.routed.leaving in
    ap (λ (es : List Entry). part_by es c.commit_outer.new.committed.outer) c.commit_outer.ensures.entries
    ∙ ap (part_by c.react_all.new.trace.entries) c.in_ok-commit_outer.ensures.outer
    ∙ ap (λ (p : PartOf). part_by p.entries (p.outer ++ outer_from limit now 0 c.in_ok-routed.routed.leaving))
    c.in_ok-react_all.ensures.entries
    ∙ ap (λ bags. part_by (t.entries ++ entries_by limit now numbers (happened bags)) lines) (received c)
    ∙ ap (λ (bags : List Counts). part_by entries (t.outer ++ outer_from limit now 0 bags)) leaving
