use Rattle.std.proofs.Common.{◌≡◌, ◌<◌, ◌++◌, ◌∷◌, [], ℕ, List, nat_eq, filter, pos, length, get_or, sym, ap, ◌∙◌, subst, arith}
use Rattle.std.specs.List.{slice_range}
use Rattle.std.proofs.lemmas.Bool.{eqb-true}
use Rattle.std.proofs.lemmas.List.{nil_from_length}
use Rattle.std.proofs.lemmas.Result.{on_ok_weaker}
use Rattle.std.proofs.lemmas.Option.{get_or_from_slice_get, slice_get-get_or}
use Rattle.dv_bag.specs.Bag.{Counts}
use Rattle.dv_bag.specs.declared.sent.Sending.{Sending}
use Rattle.dv_conservative.specs.Links.{Delivery as Meant, Link, carried}
use Rattle.dv_share.specs.Links.{links_of, pairs_of}
use Rattle.dv_share.specs.Received.{HasTaken}
use Rattle.dv_share.specs.Rows.{carried_each}
use Rattle.dv_share.specs.declared.link.Link.{Link as LinkOfCode}
use Rattle.dv_share.proofs.Carrying.{only_one}
use Rattle.dv_share.proofs.Ports.{all_below, carried_below, next_port, no_next, no_pairs, none_below, none_first, parted_on, sent_step}
use Rattle.dv_share.proofs.Sends.{ports_never_fall}
use Rattle.dv_share.proofs.Taking.{ready_after, taken_both, taken_none}
use Rattle.dv_share.proofs.received.Received.deliver_row.Goals as goal

none : Sending
none = record { port = 0; value = pos 0; copies = 0 }

-- the first sending is of its port, whatever stands past the end
first_is : (ss : List Sending) (start : ℕ) → start < length ss → (d : Sending) → (get_or ss start d).port ≡ (get_or ss start none).port
first_is ss start early d =
    ap (λ (s : Sending). s.port) (get_or_from_slice_get ss start (get_or ss start none) d (slice_get-get_or ss start none early))

pub returns-then-is_empty : goal.returns-then-is_empty
returns-then-is_empty c =
    let ms = c.args.members.now in
    let links = c.args.links.now in
    let self = c.args.self.now in
    let none = nil_from_length links (eqb-true (length links) 0 (sym c.is_empty.ensures ∙ c.if-is_empty.true)) in
    subst (λ (ls : List LinkOfCode). HasTaken ms (carried (links_of ls) (λ k. c.args.sent.now)) self self) (sym none) (taken_none ms self)

pub returns-then-sendings-eq1 : goal.returns-then-sendings-eq1
unfolding none
returns-then-sendings-eq1 c =
    let ms = c.args.members.now in
    let sent = c.args.sent.now in
    let ss = c.as_slice-sendings.result.now in
    let ls = links_of c.args.links.now in
    let self = c.args.self.now in
    let count : length ss ≡ 1 = c.if-sendings-eq1.true in
    let early : 0 < length ss = omega arith in
    let p = (get_or ss 0 none).port in
    let sorted = ports_never_fall 0 ss c.as_slice-sendings.ensures.order in
    let at = first_is ss 0 early in
    let nothing = none_below sent (next_port (λ s. s.port) ss 0) ls
    (λ x is. sym (c.as_slice-sendings.ensures.bags x) ∙ no_pairs x ss (none_first (λ s. s.port) ss sorted x is)) in
    let pairs = pairs_of (slice_range ss 0 1) in
    let more = carried_each (filter (λ l. nat_eq l.from_port p) ls) pairs in
    let step = sent_step sent ss ls p 0 1 none c.requires.rise sorted (λ k d lt within. absurd (omega arith))
    c.as_slice-sendings.ensures.bags early at (omega arith) (omega arith)
    (λ i d le lt. let z : 0 ≡ i = omega arith in subst (λ (k : ℕ). (get_or ss k d).port ≡ p) z (at d))
    (λ i d le lt. absurd (omega arith)) in
    let all = ap (λ o. carried_below sent o ls) (no_next (λ s. s.port) ss 1 (omega arith)) ∙ all_below sent ls in
    let whole : more ≡ carried ls (λ k. sent) = sym (step ∙ ap (λ (ds : List Meant). ds ++ more) nothing) ∙ all in
    let one = only_one ss none count in
    let pair = ((get_or ss 0 none).value, (get_or ss 0 none).copies) ∷ [] in
    let same : pairs ≡ pair = ap (λ (xs : List Sending). pairs_of (slice_range xs 0 1)) one in
    on_ok_weaker c.deliver_one.result
    (λ h.
    subst (λ (ds : List Meant). HasTaken ms ds self c.deliver_one.new.self) whole
    (subst (λ (qs : Counts). HasTaken ms (carried_each (filter (λ l. nat_eq l.from_port p) ls) qs) self c.deliver_one.new.self) (sym same)
    (subst (λ (links : List Link). HasTaken ms (carried_each links pair) self c.deliver_one.new.self) c.links_at.ensures h)))
    c.deliver_one.ensures

pub loop-start-init : goal.loop-start-init
loop-start-init c =
    let ms = c.args.members.now in
    let self = c.args.self.now in
    let ss = c.as_slice-sendings.result.now in
    let sorted = ports_never_fall 0 ss c.as_slice-sendings.ensures.order in
    let nothing = none_below c.args.sent.now (next_port (λ s. s.port) ss 0) (links_of c.args.links.now)
    (λ x is. sym (c.as_slice-sendings.ensures.bags x) ∙ no_pairs x ss (none_first (λ s. s.port) ss sorted x is)) in
    record {
      within = omega arith;
      parted = λ k d lt within. absurd (omega arith);
      ready = c.requires.ready;
      taken = subst (λ (ds : List Meant). HasTaken ms ds self self) (sym nothing) (taken_none ms self);
    }

pub run_end-end-requires-clause-rise : goal.run_end-end-requires-clause-rise
run_end-end-requires-clause-rise c = ports_never_fall 0 _ c.as_slice-sendings.ensures.order

pub loop-start-preserved : goal.loop-start-preserved
unfolding none
loop-start-preserved c =
    let ms = c.args.members.now in
    let ss = c.as_slice-sendings.result.now in
    let ls = links_of c.args.links.now in
    let start = c.loop-start.start in
    let end = c.run_end-end.result in
    let p = (get_or ss start none).port in
    let run = c.run_end-end.ensures in
    let sorted = ports_never_fall 0 ss c.as_slice-sendings.ensures.order in
    let at = first_is ss start c.loop-start-test.true in
    let before = carried_below c.args.sent.now (next_port (λ s. s.port) ss start) ls in
    let pairs = pairs_of (slice_range ss start end) in
    let more = carried_each (filter (λ l. nat_eq l.from_port p) ls) pairs in
    let first = c.args.self.now in
    let old = c.loop-start.self in
    let new = c.deliver_port.new.self in
    let one : HasTaken ms more old new =
    subst (λ (links : List Link). HasTaken ms (carried_each links pairs) old new) c.links_at-in-loop-start.ensures c.in_ok-deliver_port.ensures in
    let step = sent_step c.args.sent.now ss ls p start end none c.requires.rise sorted c.loop-start.invariant.parted
    c.as_slice-sendings.ensures.bags c.loop-start-test.true at run.onward run.within run.there run.behind in
    record {
      within = run.within;
      parted = parted_on (λ s. s.port) ss p start end c.loop-start.invariant.parted c.loop-start-test.true at run.there run.behind;
      ready = ready_after ms more old new one c.loop-start.invariant.ready;
      taken =
          subst (λ (ds : List Meant). HasTaken ms ds first new) (sym step)
          (taken_both ms before more first old new c.loop-start.invariant.taken one);
    }

pub returns : goal.returns
returns c =
    let ss = c.as_slice-sendings.result.now in
    let ls = links_of c.args.links.now in
    let all = ap (λ o. carried_below c.args.sent.now o ls) (no_next (λ s. s.port) ss c.loop-start.start (omega arith))
    ∙ all_below c.args.sent.now ls in
    subst (λ (ds : List Meant). HasTaken c.args.members.now ds c.args.self.now c.loop-start.self) all c.loop-start.invariant.taken
