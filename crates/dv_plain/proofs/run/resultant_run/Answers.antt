use Rattle.std.proofs.Common.{◌≡◌, ℕ, ◌<◌, ◌∙◌, List, length, map, Option, Some, ap, sym, subst, arith}
use Rattle.std.specs.List.{All}
use Rattle.std.specs.Vec.{with_items}
use Rattle.std.proofs.lemmas.List.{with_items_is}
use Rattle.dv_time.specs.Time.{IsOfRun, earlier, end_of, next_rank, rank}
use Rattle.dv_syntax.specs.Trees.{file_of}
use Rattle.dv_bag.specs.Inputs.{time_at}
use Rattle.dv_devs.specs.Network.{components_after, part_of_instant}
use Rattle.dv_devs.specs.NextTimes.{IsFrom, least_next}
use Rattle.dv_bag.specs.Part.{joined}
use Rattle.dv_tree.specs.Instances.{root_inputs}
use Rattle.dv_react.specs.declared.running.Running.{Running}
use Rattle.dv_plain.specs.InputTimes.{IsOfRunIf, rank_if}
use Rattle.dv_react.specs.Components.{IsWaitOfRun, component_of}
use Rattle.dv_plain.specs.Source.{network_of, outside}
use Rattle.dv_plain.proofs.Reached.{Reached, reached-coming, reached-end, reached-matched, reached-index, reached-start}
use Rattle.dv_plain.proofs.Reached.{reached-step, work, work-step}
use Rattle.dv_plain.proofs.run.resultant_run.Goals as goal
use Rattle.dv_plain.proofs.run.resultant_run.Goals.{in-At+then-now-horizon, in_default}

pub instants-init : goal.instants-init
instants-init c =
    let limit = c.args.limit in
    let f = file_of c.args.tree.now.file in
    let inputs = c.args.inputs.now in
    let comes = outside f limit inputs in
    let ready = c.networks_of_texts.ensures.ready limit f in
    let leaves = c.networks_of_texts.ensures.outputs limit f in
    record {
      laws = record {
        matched = c.next_times_rise.ensures.matched limit (network_of limit f) comes ready;
        rises = c.next_times_rise.ensures.least limit (network_of limit f) comes ready;
        components = c.next_instant_is_the_least_next_time.ensures.components limit (network_of limit f) comes ready;
        trace = c.next_instant_is_the_least_next_time.ensures.trace limit (network_of limit f) comes ready leaves;
        none = c.networks_of_texts.ensures.inputs limit f;
        coming = record {
          next = λ t. c.indices_follow_times.ensures.next limit inputs t;
          of_run = λ t. c.indices_follow_times.ensures.of_run limit inputs t;
          not_before = λ n. c.indices_follow_times.ensures.not_before limit n inputs;
          same = λ n m. c.indices_follow_times.ensures.same limit n m inputs;
          between = λ n m. c.nothing_comes_in_between.ensures limit (length (root_inputs f)) n m inputs c.as_slice.ensures.by_time;
        };
      };
      reached =
          let index = c.index_from-index.result in
          subst (λ t. Reached limit f inputs c.args.horizon c.in_ok-components.components.items t index) (sym c.new-trace.ensures)
          (reached-start limit f inputs c.args.horizon c.in_ok-components.components.items index c.in_ok-components.ensures.start
          c.index_from-index.ensures);
      waits = c.in_ok-components.ensures.waits;
    }

pub play-requires-clause-matched : goal.play-requires-clause-matched
play-requires-clause-matched c =
    let at = c.instants in
    ap length c.deref_mut.ensures.value
    ∙ reached-matched c.args.limit (file_of c.args.tree.now.file) c.args.inputs.now c.args.horizon at.invariant.laws
    at.components.items at.trace at.index at.invariant.reached

pub play-requires-clause-of_run : goal.play-requires-clause-of_run
play-requires-clause-of_run c =
    let limit = c.args.limit in
    let at = c.instants in
    let waits = subst (All (λ (r : Running). IsWaitOfRun limit r.wait)) (sym c.deref.ensures.value) at.invariant.waits in
    c.in-At.ensures.of_run limit waits
    (reached-coming limit (file_of c.args.tree.now.file) c.args.inputs.now c.args.horizon at.invariant.laws at.components.items at.trace
    at.index at.invariant.reached)

pub play-requires-clause-index : goal.play-requires-clause-index
play-requires-clause-index c =
    let limit = c.args.limit in
    let inputs = c.args.inputs.now in
    let at = c.instants in
    let waits = subst (All (λ (r : Running). IsWaitOfRun limit r.wait)) (sym c.deref.ensures.value) at.invariant.waits in
    let coming =
    reached-coming limit (file_of c.args.tree.now.file) inputs c.args.horizon at.invariant.laws at.components.items at.trace at.index
    at.invariant.reached in
    let least =
    c.in-At.ensures.least limit waits coming
    ∙ ap (λ (rs : List Running). earlier (least_next (map (component_of limit) rs)) (rank_if limit (time_at inputs at.index)))
    c.deref.ensures.value in
    reached-index limit (file_of c.args.tree.now.file) inputs c.args.horizon at.invariant.laws at.components.items at.trace at.index
    at.invariant.reached c.in-At.now (c.in-At.ensures.of_run limit waits coming) least

-- as many components as before
kept : (c : goal.In_ok-index) → length c.play.new.components ≡ c.instants.components.len
kept c = omega (arith, c.play.auto.components, ap length c.deref_mut.ensures.value, c.instants.components.ok.0)

written : (c : goal.In_ok-index) → (with_items c.instants.components c.play.new.components).items ≡ c.play.new.components
written c = with_items_is c.instants.components c.play.new.components (kept c)

waiting : (c : goal.In_ok-index) → All (λ (r : Running). IsWaitOfRun c.args.limit r.wait) c.deref.result.now
waiting c = subst (All (λ (r : Running). IsWaitOfRun c.args.limit r.wait)) (sym c.deref.ensures.value) c.instants.invariant.waits

coming : (c : goal.In_ok-index) → IsOfRunIf c.args.limit (time_at c.args.inputs.now c.instants.index)
coming c =
    let at = c.instants in
    reached-coming c.args.limit (file_of c.args.tree.now.file) c.args.inputs.now c.args.horizon at.invariant.laws at.components.items
    at.trace at.index at.invariant.reached

of_run : (c : goal.In_ok-index) → IsOfRun c.args.limit c.in-At.now
of_run c = c.in-At.ensures.of_run c.args.limit (waiting c) (coming c)

least : (c : goal.In_ok-index) →
    Some (rank c.args.limit c.in-At.now) ≡ earlier (least_next (map (component_of c.args.limit) c.instants.components.items))
    (rank_if c.args.limit (time_at c.args.inputs.now c.instants.index))
least c =
    c.in-At.ensures.least c.args.limit (waiting c) (coming c)
    ∙ ap (λ (rs : List Running). earlier (least_next (map (component_of c.args.limit) rs))
    (rank_if c.args.limit (time_at c.args.inputs.now c.instants.index))) c.deref.ensures.value

changed : (c : goal.In_ok-index) →
    let limit = c.args.limit in
    let f = file_of c.args.tree.now.file in
    let n = rank limit c.in-At.now in
    map (component_of limit) c.play.new.components ≡ components_after limit (network_of limit f) n
    (outside f limit c.args.inputs.now n) (map (component_of limit) c.instants.components.items)
changed c =
    let limit = c.args.limit in
    let f = file_of c.args.tree.now.file in
    let n = rank limit c.in-At.now in
    c.in_ok-index.ensures.components
    ∙ ap (λ (rs : List Running). components_after limit (network_of limit f) n (outside f limit c.args.inputs.now n)
    (map (component_of limit) rs)) c.deref_mut.ensures.value

added : (c : goal.In_ok-index) →
    let limit = c.args.limit in
    let f = file_of c.args.tree.now.file in
    let n = rank limit c.in-At.now in
    c.play.new.trace ≡ joined c.instants.trace
    (part_of_instant limit (network_of limit f) n (outside f limit c.args.inputs.now n)
    (map (component_of limit) c.instants.components.items))
added c =
    let limit = c.args.limit in
    let f = file_of c.args.tree.now.file in
    let n = rank limit c.in-At.now in
    c.in_ok-index.ensures.trace
    ∙ ap (λ (rs : List Running). joined c.instants.trace
    (part_of_instant limit (network_of limit f) n (outside f limit c.args.inputs.now n) (map (component_of limit) rs)))
    c.deref_mut.ensures.value

within : (c : goal.In_ok-index) → rank c.args.limit c.in-At.now < end_of c.args.limit c.args.horizon
within c = c.the_end_follows_the_horizon.ensures.within c.args.limit c.args.horizon c.in-At.now (of_run c) c.if-now-horizon.false

pub instants-smaller : goal.instants-smaller
instants-smaller c =
    let limit = c.args.limit in
    let inputs = c.args.inputs.now in
    let at = c.instants in
    let more = c.play.new.trace in
    let after = c.in_ok-index.index in
    subst (λ rs. work limit inputs c.args.horizon rs after < work limit inputs c.args.horizon at.components.items at.index)
    (sym (written c))
    (work-step limit (file_of c.args.tree.now.file) inputs c.args.horizon at.invariant.laws at.components.items at.trace at.index
    at.invariant.reached c.in-At.now (of_run c) (least c) c.play.new.components more after (within c) (changed c) (added c)
    c.in_ok-index.ensures.after)

pub instants-preserved : goal.instants-preserved
instants-preserved c =
    let limit = c.args.limit in
    let f = file_of c.args.tree.now.file in
    let inputs = c.args.inputs.now in
    let at = c.instants in
    let more = c.play.new.trace in
    let after = c.in_ok-index.index in
    record {
      laws = at.invariant.laws;
      reached =
          subst (λ (rs : List Running). Reached limit f inputs c.args.horizon rs more after) (sym (written c))
          (reached-step limit f inputs c.args.horizon at.invariant.laws at.components.items at.trace at.index at.invariant.reached
          c.in-At.now (of_run c) (least c) c.play.new.components more after (within c) (changed c) (added c) c.in_ok-index.ensures.after);
      waits = subst (All (λ (r : Running). IsWaitOfRun limit r.wait)) (sym (written c)) c.in_ok-index.ensures.waits;
    }

pub returns : goal.returns
returns c =
    let limit = c.args.limit in
    let at = c.instants in
    let end = end_of limit c.args.horizon in
    let Next : List Running → Option ℕ =
    λ rs. earlier (least_next (map (component_of limit) rs)) (rank_if limit (time_at c.args.inputs.now at.index)) in
    let waits = subst (All (λ (r : Running). IsWaitOfRun limit r.wait)) (sym c.deref.ensures.value) at.invariant.waits in
    let coming =
    reached-coming limit (file_of c.args.tree.now.file) c.args.inputs.now c.args.horizon at.invariant.laws at.components.items at.trace
    at.index at.invariant.reached in
    let next : next_rank limit c.next_instant.result ≡ Next at.components.items =
    c.next_instant.ensures.least limit waits coming ∙ ap Next c.deref.ensures.value in
    let ended =
    reached-end limit (file_of c.args.tree.now.file) c.args.inputs.now c.args.horizon at.invariant.laws at.components.items at.trace
    at.index at.invariant.reached in
    elim c.match-next_instant.branch [
      | in-At+then-now-horizon w ↦ ended (subst (IsFrom end) (sym (ap (next_rank limit) w.in-At.is) ∙ next)
          (c.the_end_follows_the_horizon.ensures.past limit c.args.horizon w.in-At.now w.if-now-horizon.true))
      | in_default w ↦ ended (subst (IsFrom end) (sym (ap (next_rank limit) w.in_default.is) ∙ next) tt)
    ]
