use Rattle.std.proofs.Common.{◌≡◌, ◌∙◌, ◌+◌, ◌<◌, ℕ, List, Some, Result, length, slice_get, slice_index_or, refl, sym, ap, subst, arith}
use Rattle.std.specs.List.{AllWithin}
use Rattle.std.proofs.lemmas.List.{get_or_default}
use Rattle.std.proofs.lemmas.Option.{get_or_from_slice_get}
use Rattle.dv_bag.specs.Bag.{Counts}
use Rattle.dv_bag.specs.declared.fault.Fault.{Fault}
use Rattle.dv_proc.specs.Accesses.{IsCounted}
use Rattle.dv_react.specs.Components.{rank_of}
use Rattle.dv_share.specs.declared.index.Indexed.{Indexed}
use Rattle.dv_share.proofs.Order.{rise_at}
use Rattle.dv_local.specs.Commits.{HasReacted, IsGivenAt}
use Rattle.dv_local.proofs.Accesses.{counted_both, counted_none}
use Rattle.dv_local.proofs.Commits.{given_now, none_reacted, one_more}
use Rattle.dv_local.proofs.commit.commit.Goals as goal

-- what stands at an cursor
arrival_is : (xs : List (Indexed (List Counts))) (i : ℕ) (x : Indexed (List Counts)) → slice_get xs i ≡ Some x → x ≡ slice_index_or xs i x
arrival_is xs i x at = sym (get_or_from_slice_get xs i x x at)

pub loop-order-init : goal.loop-order-init
loop-order-init g c = record {
  reacted =
      none_reacted g.A.Atomic.behaviour g.A.Atomic.fits c.args.moment.now.tables.now (rank_of c.args.moment.now.instant.now)
      c.args.components.now.running c.args.moment.now.emitted.now c.args.received.now.items (g.R.Record.told c.args.to.now).entries;
  components = c.requires.components;
  agenda = c.requires.agenda;
  within = c.requires.within;
  before = refl;
  visits = counted_none c.args.components.now.visits;
  count = refl;
  outer = refl;
  is_open = c.requires.is_open;
  settled = refl;
  handed = refl;
  cursor = omega arith;
  passed = λ d lt k e le less. absurd (omega (arith, le, less));
}

pub next_cursor-cursor-requires : goal.next_cursor-cursor-requires
next_cursor-cursor-requires g c =
    let es = c.args.moment.now.emitted.now in
    let x = c.at-arrival.result.now in
    let inv = c.loop-order.invariant in
    let early : c.loop-order.order < length c.args.received.now.items = omega arith in
    record {
      within = inv.cursor;
      before =
          subst (λ (y : Indexed (List Counts)). AllWithin (λ (e : Indexed (Result (List Counts) Fault)). e.index < y.index) es 0
          c.loop-order.cursor)
          (sym (arrival_is c.args.received.now.items c.loop-order.order c.at-arrival.result.now c.at-arrival.ensures)) (inv.passed x early);
    }

pub commit_one-requires : goal.commit_one-requires
commit_one-requires g c =
    let b = g.A.Atomic.behaviour in
    let t = c.args.moment.now.tables.now in
    let now = rank_of c.args.moment.now.instant.now in
    let rs = c.args.components.now.running in
    let es = c.args.moment.now.emitted.now in
    let xs = c.args.received.now.items in
    let i = c.loop-order.order in
    let x = c.at-arrival.result.now in
    let early : i < length xs = omega arith in
    let inv = c.loop-order.invariant in
    record {
      tables = c.requires.tables;
      limit = c.requires.limit;
      components = inv.components;
      comes = c.requires.comes;
      index = subst (λ (y : Indexed (List Counts)). y.index < length t.members.items) (sym (arrival_is c.args.received.now.items c.loop-order.order c.at-arrival.result.now c.at-arrival.ensures))
          (c.requires.received.within i x early);
      rise = c.requires.emitted.indices.rise;
      next = c.next_cursor-cursor.ensures;
      given =
          subst (λ (y : Indexed (List Counts)). IsGivenAt b t now es c.loop-order.components.running y.index) (sym (arrival_is c.args.received.now.items c.loop-order.order c.at-arrival.result.now c.at-arrival.ensures))
          (given_now b g.A.Atomic.fits t now rs es xs i x c.loop-order.components.running (g.R.Record.told c.args.to.now).entries
          (g.R.Record.told c.loop-order.to).entries c.requires.received c.requires.components.count early inv.reacted c.requires.emitted);
      agenda = inv.agenda;
      within = inv.within;
      nothing = c.requires.nothing;
      is_open = inv.is_open;
    }

pub loop-order-preserved : goal.loop-order-preserved
loop-order-preserved g c =
    let b = g.A.Atomic.behaviour in
    let fits = g.A.Atomic.fits in
    let t = c.args.moment.now.tables.now in
    let now = rank_of c.args.moment.now.instant.now in
    let rs = c.args.components.now.running in
    let es = c.args.moment.now.emitted.now in
    let xs = c.args.received.now.items in
    let i = c.loop-order.order in
    let x = c.at-arrival.result.now in
    let early : i < length xs = omega arith in
    let inv = c.loop-order.invariant in
    let one = c.in_ok-commit_one.ensures in
    let ss = c.loop-order.components.running in
    let us = c.commit_one.new.components.running in
    let old = (g.R.Record.told c.args.to.now).entries in
    let mid = (g.R.Record.told c.loop-order.to).entries in
    let new = (g.R.Record.told c.commit_one.new.to).entries in
    record {
      reacted =
          one_more b fits t now rs es xs i x ss old mid c.requires.received c.requires.components.count early inv.reacted us new
          (subst (λ (y : Indexed (List Counts)). HasReacted b fits t now es y ss us mid new) (arrival_is c.args.received.now.items c.loop-order.order c.at-arrival.result.now c.at-arrival.ensures) one.reacted);
      components = one.components;
      agenda = one.agenda;
      within = one.within;
      before = one.before ∙ inv.before;
      visits = counted_both i 1 _ _ _ inv.visits c.commit_one.ensures.visits;
      count = omega (arith, one.count, inv.count);
      outer = one.outer ∙ inv.outer;
      is_open = one.is_open;
      settled = one.settled ∙ inv.settled;
      handed = one.handed ∙ inv.handed;
      cursor = c.next_cursor-cursor.ensures.within;
      passed = λ d lt k e le less.
          let before = c.next_cursor-cursor.ensures.before k e le less in
          let index = λ (y : Indexed (List Counts)). y.index in
          let here = ap index ((arrival_is c.args.received.now.items c.loop-order.order c.at-arrival.result.now c.at-arrival.ensures) ∙ get_or_default xs i x d early) in
          let next = rise_at index 0 xs i (i + 1) d c.requires.received.rise (omega arith) lt in
          omega (arith, before, here, next);
    }

pub returns-clause-visits : goal.returns-clause-visits
returns-clause-visits g c =
    let all : c.loop-order.order ≡ length c.args.received.now.items = omega arith in
    subst (λ (n : ℕ). IsCounted n n c.args.components.now.visits c.loop-order.components.visits) all c.loop-order.invariant.visits
