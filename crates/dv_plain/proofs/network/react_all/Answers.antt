use Rattle.std.proofs.Common.{◌<◌, ◌≤◌, ℕ, ◌≡◌, ◌+◌, ◌++◌, List, Option, [], drop, length, length-drop, get_or, map, ap}
use Rattle.std.proofs.Common.{sym, ◌∙◌, arith}
use Rattle.std.proofs.lemmas.List.{get_or_default, length-map}
use Rattle.dv_syntax.specs.Trees.{atomic_of, file_of}
use Rattle.dv_devs.specs.Behaviour.{Reaction, emission, reaction}
use Rattle.dv_bag.specs.Bag.{Counts}
use Rattle.dv_bag.specs.declared.fault.Fault.{Fault}
use Rattle.dv_devs.specs.Network.{entries_by, entry_of}
use Rattle.dv_bag.specs.Part.{PartOf}
use Rattle.dv_bag.specs.declared.entry.Entry.{Entry}
use Rattle.dv_tree.specs.Instances.{Instance, instances}
use Rattle.dv_react.specs.Outcomes.{event_of, fault_of, sent_of}
use Rattle.dv_react.specs.Components.{component_of, rank_of}
use Rattle.dv_plain.specs.Source.{behaviour_of, network_of}
use Rattle.dv_plain.proofs.Steps.{entries-counted, entries_from, reactions-short, components-end, components-turn, entries-end}
use Rattle.dv_plain.proofs.Steps.{entries-turn, length-outputs, reactions_from, reactions_from-step, rest-turn, same_at}
use Rattle.dv_plain.proofs.Steps.{same_behind, same_from_drop, given-at, outputs_from, waits-turn}
use Rattle.dv_plain.proofs.network.react_all.Goals as goal

-- as many outputs as components, of which those from k on are left
left-length : (xs ys : List (List Counts)) (k : ℕ) → k < length ys → drop k xs ≡ drop k ys → k < length xs
left-length xs ys k h same = omega (arith, length-drop k xs, length-drop k ys, ap length same)

pub index-fault-requires : goal.index-fault-requires
index-fault-requires c =
    let is = instances (file_of c.args.tree.now.file) in
    let limit = c.args.instant.now.limit in
    let now = rank_of c.args.instant.now in
    let gave = outputs_from limit is now c.args.components.now 0 in
    omega (
      arith,
      c.loop-k.emitted.faults.ok.0,
      ap length c.loop-k.invariant.faults,
      ap length c.requires.faults,
      length-map gave fault_of,
      length-outputs limit is now c.args.components.now c.requires.matched,
      c.component_count-k-end.ensures.value,
    )

pub react_atom-requires-clause-fault : goal.react_atom-requires-clause-fault
react_atom-requires-clause-fault c =
    let is = instances (file_of c.args.tree.now.file) in
    let limit = c.args.instant.now.limit in
    let now = rank_of c.args.instant.now in
    let first = c.args.components.now in
    let xs = c.loop-k.components in
    let k = c.loop-k.k in
    let r = get_or xs k c.index-components-k.result in
    let within : k < length xs = omega (arith, c.loop-k.auto.components, c.requires.matched, c.component_count-k-end.ensures.value) in
    let within_first : k < length first = omega (arith, c.requires.matched, c.component_count-k-end.ensures.value) in
    let same =
    same_from_drop xs first k r within within_first c.loop-k.invariant.rest
    (get_or_default xs k c.index-components-k.result r within) in
    given-at fault_of limit is now first k
    (atomic_of c.of-atom.result.model.now) r c.args.emitted.now.faults.items c.index-fault.result.now c.of-atom.ensures within_first same.0
    c.requires.faults
    ∙ ap (λ (fs : List (Option Fault)). get_or fs k c.index-fault.result.now) (sym c.loop-k.invariant.faults)
    ∙ sym c.index-fault.ensures

pub take-requires : goal.take-requires
take-requires c =
    let is = instances (file_of c.args.tree.now.file) in
    let limit = c.args.instant.now.limit in
    let now = rank_of c.args.instant.now in
    let gave = outputs_from limit is now c.args.components.now 0 in
    let within : c.loop-k.k < length c.args.emitted.now.sent.items =
    omega (
      arith,
      ap length c.requires.sent,
      length-map gave sent_of,
      length-outputs limit is now c.args.components.now c.requires.matched,
      c.component_count-k-end.ensures.value,
    ) in
    let there = left-length c.loop-k.emitted.sent.items c.args.emitted.now.sent.items c.loop-k.k within c.loop-k.invariant.sent in
    omega (arith, c.loop-k.emitted.sent.ok.0, there)

pub loop-k-preserved : goal.loop-k-preserved
loop-k-preserved c =
    let is = instances (file_of c.args.tree.now.file) in
    let limit = c.args.instant.now.limit in
    let now = rank_of c.args.instant.now in
    let first = c.args.components.now in
    let xs = c.loop-k.components in
    let k = c.loop-k.k in
    let m = atomic_of c.of-atom.result.model.now in
    let r = get_or xs k c.index-components-k.result in
    let within : k < length xs = omega (arith, c.loop-k.auto.components, c.requires.matched, c.component_count-k-end.ensures.value) in
    let within_first : k < length first = omega (arith, c.requires.matched, c.component_count-k-end.ensures.value) in
    let same =
    same_from_drop xs first k r within within_first c.loop-k.invariant.rest
    (get_or_default xs k c.index-components-k.result r within) in
    let received = c.args.received.now in
    let within_received : k < length received = omega (arith, c.requires.received, c.component_count-k-end.ensures.value) in
    let comes = c.index-received-k.result in
    let here : comes ≡ get_or received k comes = c.index-received-k.is in
    let step =
    reactions_from-step limit is now first received k m r comes c.of-atom.ensures within_first same.0 within_received here in
    let sent = c.args.emitted.now.sent.items in
    let gave = outputs_from limit is now first 0 in
    let within_sent : k < length sent =
    omega (
      arith,
      ap length c.requires.sent,
      length-map gave sent_of,
      length-outputs limit is now first c.requires.matched,
      c.component_count-k-end.ensures.value,
    ) in
    let left = c.loop-k.emitted.sent.items in
    let within_left = left-length left sent k within_sent c.loop-k.invariant.sent in
    let happened = reaction limit (behaviour_of m) now (component_of limit r) comes in
    let taken : c.take.result ≡ sent_of (emission (behaviour_of m) now (component_of limit r)) =
    c.take.ensures.result ∙ same_at left sent k [] within_left within_sent c.loop-k.invariant.sent
    ∙ sym (given-at sent_of limit is now first k m r sent [] c.of-atom.ensures within_first same.0 c.requires.sent) in
    record {
      waits = waits-turn limit xs k c.react_atom.new.component c.loop-k.invariant.waits c.in_ok-happened.ensures.wait;
      rest = rest-turn xs first k c.react_atom.new.component same.1;
      components =
          components-turn limit xs k c.react_atom.new.component happened (reactions_from limit is now first received k)
          (reactions_from limit is now first received (k + 1))
          (map (λ (q : Reaction). q.component) (reactions_from limit is now first received 0)) within
          (sym (ap (λ (q : Reaction). q.component) c.in_ok-happened.ensures.reaction)) step c.loop-k.invariant.components;
      entries =
          entries-turn limit now k c.loop-k.trace.entries c.push_event.new.trace.entries
          (c.args.trace.now.entries ++ entries_from limit now 0 (reactions_from limit is now first received 0)) happened
          (reactions_from limit is now first received k) (reactions_from limit is now first received (k + 1))
          (ap (λ (p : PartOf). p.entries) c.in_ok-push_event.ensures
          ∙ ap (λ bags. c.loop-k.trace.entries ++ entry_of limit now k (event_of c.in_ok-happened.happened bags)) taken
          ∙ ap (λ (q : Reaction). c.loop-k.trace.entries ++ entry_of limit now k q.event)
          (sym c.in_ok-happened.ensures.reaction)) step c.loop-k.invariant.entries;
      sent = ap (drop (k + 1)) c.take.ensures.sent ∙ same_behind left sent k [] within_left within_sent c.loop-k.invariant.sent [];
      faults = c.take.ensures.faults ∙ c.loop-k.invariant.faults;
      outer = ap (λ (p : PartOf). p.outer) c.in_ok-push_event.ensures ∙ c.loop-k.invariant.outer;
    }

pub returns-clause-components : goal.returns-clause-components
returns-clause-components c =
    let is = instances (file_of c.args.tree.now.file) in
    let limit = c.args.instant.now.limit in
    let now = rank_of c.args.instant.now in
    let first = c.args.components.now in
    let received = c.args.received.now in
    let xs = c.loop-k.components in
    let count : length is ≤ c.loop-k.k = omega (arith, c.component_count-k-end.ensures.value) in
    let all : length xs ≤ c.loop-k.k = omega (arith, c.loop-k.auto.components, c.requires.matched, c.component_count-k-end.ensures.value) in
    components-end limit now is first xs received c.loop-k.k
    (map (λ (q : Reaction). q.component) (reactions_from limit is now first received 0)) all count c.loop-k.invariant.components

pub returns-clause-entries : goal.returns-clause-entries
returns-clause-entries c =
    let is = instances (file_of c.args.tree.now.file) in
    let limit = c.args.instant.now.limit in
    let now = rank_of c.args.instant.now in
    let first = c.args.components.now in
    let received = c.args.received.now in
    let count : length is ≤ c.loop-k.k = omega (arith, c.component_count-k-end.ensures.value) in
    let net = network_of limit (file_of c.args.tree.now.file) in
    let happened = reactions_from limit is now first received 0 in
    let short : length happened ≤ length is =
    omega (
      arith,
      reactions-short limit net.behaviours now (map (component_of limit) first) received,
      length-map is
          (λ (i : Instance). behaviour_of i.model),
    ) in
    let entries =
    entries-end limit now is first received c.loop-k.k c.loop-k.trace.entries
    (c.args.trace.now.entries ++ entries_from limit now 0 happened) count c.loop-k.invariant.entries
    ∙ ap (λ (es : List Entry). c.args.trace.now.entries ++ es) (sym (entries-counted limit now 0 (length is) happened short))
    in
    ap (λ (es : List Entry). let p : PartOf = record { entries = es; outer = c.loop-k.trace.outer } in p) entries
    ∙ ap
    (λ os.
    let p : PartOf =
    record { entries = c.args.trace.now.entries ++ entries_by limit now net.numbers happened; outer = os } in
    p)
    c.loop-k.invariant.outer
