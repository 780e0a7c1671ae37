use Rattle.std.proofs.Common.{◌≡◌, ◌++◌, ◌-◌, ◌<◌, ◌≤◌, true, false, List, Result, Ok, Err, OnOk, OnErr, is_err, drop, length, take}
use Rattle.std.proofs.Common.{sym, ap, ◌∙◌, arith}
use Rattle.std.proofs.lemmas.List.{length-take-le, take_all}
use Rattle.dv_local.specs.Arrivals.{arrivals_at, coming_at, items_at}
use Rattle.dv_share.specs.declared.link.Delivery.{Delivery}
use Rattle.dv_proc.specs.declared.packet.Event.{Event}
use Rattle.dv_local.proofs.ArrivalMaps.{at_of, brings_only_at, rest_is, rest_length, run_step, same_of}
use Rattle.dv_local.proofs.inbox.Inbox.add_all.Goals as goal

at_err : {T E P : Type 0} (r : Result T E) → is_err r ≡ true → OnErr r P → P
at_err (Ok x) e h = cc
at_err (Err x) e h = h

at_ok : {T E P : Type 0} (r : Result T E) → is_err r ≡ false → OnOk r P → P
at_ok (Ok x) e h = h
at_ok (Err x) e h = cc

pub add_run-requires-clause-some : goal.add_run-requires-clause-some
add_run-requires-clause-some c =
    let es = c.args.events.now in
    let done = c.loop-done.done in
    let left = rest_length es done in
    let within = c.first_run-count.ensures.within in
    let some = c.first_run-count.ensures.some in
    omega (arith, length-take-le c.first_run-count.result.1 (take (length es - done) (drop done es)) within, some)

pub add_run-requires-clause-together : goal.add_run-requires-clause-together
add_run-requires-clause-together c = brings_only_at _ _ c.first_run-count.ensures.together

pub returns-then-is_err-clause-err : goal.returns-then-is_err-clause-err
returns-then-is_err-clause-err c =
    let err = at_err c.add_run.result (sym c.is_err.ensures.value ∙ c.if-is_err.true) c.add_run.ensures.err in
    same_of c.take_all_back.new.by_time c.self.inside.by_time c.take_all_back.ensures.filled c.self.invariant
    (c.take_all_back.ensures.taken (λ t. items_at t c.self.inside.by_time) (λ t. err t ∙ c.loop-done.invariant.added t))
    ∙ c.self.view_is

pub loop-done-smaller : goal.loop-done-smaller
loop-done-smaller c =
    let es = c.args.events.now in
    let done = c.loop-done.done in
    let more : done < length es = c.loop-done-test.true in
    let some = c.first_run-count.ensures.some in
    omega (arith, some, more)

pub loop-done-preserved : goal.loop-done-preserved
loop-done-preserved c =
    let ok = at_ok c.add_run.result (sym c.is_err.ensures.value ∙ c.if-is_err.false) c.add_run.ensures.added in
    let es = c.args.events.now in
    let done = c.loop-done.done in
    let count = c.first_run-count.result.1 in
    record {
      done = omega (arith, c.loop-done.invariant.done, rest_length es done, c.first_run-count.ensures.within);
      filled = c.add_run.ensures.filled;
      added = λ t. run_step es done count t (items_at t c.self.inside.by_time)
          (items_at t c.loop-done.self-inside.by_time)
          (items_at t c.add_run.new.by_time) (c.loop-done.invariant.added t)
          (ok t
          ∙ ap (λ (rest : List Event). items_at t c.loop-done.self-inside.by_time ++ coming_at t (take count rest))
          (rest_is es done));
    }

pub returns-clause-added : goal.returns-clause-added
returns-clause-added c =
    let all : length c.args.events.now ≤ c.loop-done.done = omega arith in
    λ t.
    at_of c.loop-done.self-inside.by_time t
    ∙ c.loop-done.invariant.added t
    ∙ ap (λ (cs : List Event). items_at t c.self.inside.by_time ++ coming_at t cs) (take_all c.loop-done.done c.args.events.now all)
    ∙ ap (λ (found : List Delivery). found ++ coming_at t c.args.events.now) (sym (at_of c.self.inside.by_time t)
    ∙ ap (arrivals_at t) c.self.view_is)
