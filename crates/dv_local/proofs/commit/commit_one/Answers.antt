use Rattle.std.proofs.Common.{◌≡◌, ◌∙◌, ◌++◌, List, Option, Some, None, slice_get, slice_set, sym, ap, ap₂, subst}
use Rattle.dv_time.specs.declared.time.Time.{Time}
use Rattle.dv_bag.specs.declared.entry.Entry.{Entry}
use Rattle.dv_bag.specs.declared.entry.What.{What}
use Rattle.dv_devs.specs.Network.{entry_of}
use Rattle.dv_react.specs.Components.{rank_of}
use Rattle.dv_react.specs.Outcomes.{event_of, outcome_of, sent_of}
use Rattle.dv_react.specs.declared.happened.Happened.{Happened}
use Rattle.dv_react.specs.declared.running.Running.{Running}
use Rattle.dv_share.specs.Rows.{number_of}
use Rattle.dv_share.specs.Share.{AreComponents, given_at}
use Rattle.dv_share.specs.declared.index.Indexed.{Indexed}
use Rattle.dv_local.specs.Commits.{what_by}
use Rattle.dv_local.specs.Reacting.{ReactsAt}
use Rattle.dv_local.specs.Undoing.{time_of_wait, undone, waits_of}
use Rattle.dv_local.proofs.Reacted.{components_after, components_there, happened-what, outcome_there, same_components, same_former}
use Rattle.dv_local.proofs.Reacted.{stands_there, taken_back, undone_after, waits_after, within_after}
use Rattle.dv_local.proofs.commit.commit_one.Goals as goal

pub returns-in_default-clause-agenda : goal.returns-in_default-clause-agenda
returns-in_default-clause-agenda g c =
    let b = g.A.Atomic.behaviour in
    let fits = g.A.Atomic.fits in
    let t = c.args.moment.now.tables.now in
    let now = rank_of c.args.moment.now.instant.now in
    let es = c.args.moment.now.emitted.now in
    let x = c.args.visit.now.arrival.now in
    let rs = c.args.components.now.running in
    let ss = c.react_visited.new.self.running in
    let old = c.args.before.now in
    let new = c.react_visited.new.former in
    let reacts : ReactsAt b fits t now es x rs ss old new None =
    subst (λ (h : Option Happened). ReactsAt b fits t now es x rs ss old new h) c.in_default.is
    (subst (λ (us : List Running). ReactsAt b fits t now es x us ss old new c.in_ok-happened.field-0) c.visit.ensures.components
    c.in_ok-happened.ensures.reacted) in
    c.requires.agenda ∙ ap (λ (us : List Running). waits_of us) (sym (same_components b fits t now es x rs ss old new reacts))

pub returns-in_default-clause-before : goal.returns-in_default-clause-before
returns-in_default-clause-before g c =
    let b = g.A.Atomic.behaviour in
    let fits = g.A.Atomic.fits in
    let t = c.args.moment.now.tables.now in
    let now = rank_of c.args.moment.now.instant.now in
    let es = c.args.moment.now.emitted.now in
    let x = c.args.visit.now.arrival.now in
    let rs = c.args.components.now.running in
    let ss = c.react_visited.new.self.running in
    let old = c.args.before.now in
    let new = c.react_visited.new.former in
    let reacts : ReactsAt b fits t now es x rs ss old new None =
    subst (λ (h : Option Happened). ReactsAt b fits t now es x rs ss old new h) c.in_default.is
    (subst (λ (us : List Running). ReactsAt b fits t now es x us ss old new c.in_ok-happened.field-0) c.visit.ensures.components
    c.in_ok-happened.ensures.reacted) in
    ap₂ (λ (ys : List (Indexed Running)) (us : List Running). undone ys us) (same_former b fits t now es x rs ss old new reacts) (same_components b fits t now es x rs ss old new reacts)

pub returns-in-Err-clause-components : goal.returns-in-Err-clause-components
returns-in-Err-clause-components g c =
    let b = g.A.Atomic.behaviour in
    let fits = g.A.Atomic.fits in
    let t = c.args.moment.now.tables.now in
    let now = rank_of c.args.moment.now.instant.now in
    let es = c.args.moment.now.emitted.now in
    let x = c.args.visit.now.arrival.now in
    let rs = c.args.components.now.running in
    let ss = c.react_visited.new.self.running in
    let old = c.args.before.now in
    let new = c.react_visited.new.former in
    let reacts : ReactsAt b fits t now es x rs ss old new (Some c.in-Some.happened) =
    subst (λ (h : Option Happened). ReactsAt b fits t now es x rs ss old new h) c.in-Some.is
    (subst (λ (us : List Running). ReactsAt b fits t now es x us ss old new c.in_ok-happened.field-0) c.visit.ensures.components
    c.in_ok-happened.ensures.reacted) in
    let at : c.react_visited.new.self.visited ≡ x.index = c.react_visited.ensures.visited ∙ c.visit.ensures.visited in
    let back = c.take_back.ensures.back old (record { index = x.index; what = reacts.before }) reacts.former in
    let same : c.take_back.new.components.running ≡ rs =
    back.1 ∙ taken_back b fits t now es x rs ss old new (Some c.in-Some.happened) reacts c.react_visited.new.self.visited at in
    subst (AreComponents fits t) (sym same) c.requires.components

pub returns-in-Err-clause-agenda : goal.returns-in-Err-clause-agenda
returns-in-Err-clause-agenda g c =
    let b = g.A.Atomic.behaviour in
    let fits = g.A.Atomic.fits in
    let t = c.args.moment.now.tables.now in
    let now = rank_of c.args.moment.now.instant.now in
    let es = c.args.moment.now.emitted.now in
    let x = c.args.visit.now.arrival.now in
    let rs = c.args.components.now.running in
    let ss = c.react_visited.new.self.running in
    let old = c.args.before.now in
    let new = c.react_visited.new.former in
    let reacts : ReactsAt b fits t now es x rs ss old new (Some c.in-Some.happened) =
    subst (λ (h : Option Happened). ReactsAt b fits t now es x rs ss old new h) c.in-Some.is
    (subst (λ (us : List Running). ReactsAt b fits t now es x us ss old new c.in_ok-happened.field-0) c.visit.ensures.components
    c.in_ok-happened.ensures.reacted) in
    let at : c.react_visited.new.self.visited ≡ x.index = c.react_visited.ensures.visited ∙ c.visit.ensures.visited in
    let back = c.take_back.ensures.back old (record { index = x.index; what = reacts.before }) reacts.former in
    let same : c.take_back.new.components.running ≡ rs =
    back.1 ∙ taken_back b fits t now es x rs ss old new (Some c.in-Some.happened) reacts c.react_visited.new.self.visited at in
    c.requires.agenda ∙ ap (λ (us : List Running). waits_of us) (sym same)

pub returns-in-Err-clause-before : goal.returns-in-Err-clause-before
returns-in-Err-clause-before g c =
    let b = g.A.Atomic.behaviour in
    let fits = g.A.Atomic.fits in
    let t = c.args.moment.now.tables.now in
    let now = rank_of c.args.moment.now.instant.now in
    let es = c.args.moment.now.emitted.now in
    let x = c.args.visit.now.arrival.now in
    let rs = c.args.components.now.running in
    let ss = c.react_visited.new.self.running in
    let old = c.args.before.now in
    let new = c.react_visited.new.former in
    let reacts : ReactsAt b fits t now es x rs ss old new (Some c.in-Some.happened) =
    subst (λ (h : Option Happened). ReactsAt b fits t now es x rs ss old new h) c.in-Some.is
    (subst (λ (us : List Running). ReactsAt b fits t now es x us ss old new c.in_ok-happened.field-0) c.visit.ensures.components
    c.in_ok-happened.ensures.reacted) in
    let at : c.react_visited.new.self.visited ≡ x.index = c.react_visited.ensures.visited ∙ c.visit.ensures.visited in
    let back = c.take_back.ensures.back old (record { index = x.index; what = reacts.before }) reacts.former in
    let same : c.take_back.new.components.running ≡ rs =
    back.1 ∙ taken_back b fits t now es x rs ss old new (Some c.in-Some.happened) reacts c.react_visited.new.self.visited at in
    ap₂ (λ (ys : List (Indexed Running)) (us : List Running). undone ys us) back.0 same

pub returns-in-Ok-clause-reacted : goal.returns-in-Ok-clause-reacted
returns-in-Ok-clause-reacted g c =
    let b = g.A.Atomic.behaviour in
    let fits = g.A.Atomic.fits in
    let t = c.args.moment.now.tables.now in
    let now = rank_of c.args.moment.now.instant.now in
    let es = c.args.moment.now.emitted.now in
    let x = c.args.visit.now.arrival.now in
    let rs = c.args.components.now.running in
    let ss = c.react_visited.new.self.running in
    let old = c.args.before.now in
    let new = c.react_visited.new.former in
    let reacts : ReactsAt b fits t now es x rs ss old new (Some c.in-Some.happened) =
    subst (λ (h : Option Happened). ReactsAt b fits t now es x rs ss old new h) c.in-Some.is
    (subst (λ (us : List Running). ReactsAt b fits t now es x us ss old new c.in_ok-happened.field-0) c.visit.ensures.components
    c.in_ok-happened.ensures.reacted) in
    let at : c.react_visited.new.self.visited ≡ x.index = c.react_visited.ensures.visited ∙ c.visit.ensures.visited in
    let stands : c.visited-component.result.now ≡ reacts.after =
    stands_there b fits t now es x rs ss old new (Some c.in-Some.happened) reacts
    c.react_visited.new.self.visited c.visited-component.result.now at c.visited-component.ensures in
    let given = given_at x.index es in
    let k = number_of (slice_get t.members.items x.index) in
    record {
      outcome = outcome_of reacts.after (Some c.in-Some.happened);
      is = outcome_there b fits t now es x rs ss old new (Some c.in-Some.happened) reacts;
      components = components_there b fits t now es x rs ss old new (Some c.in-Some.happened) reacts;
      entries =
          c.in-Ok.ensures.entries
          ∙ ap (λ (more : List Entry). (g.R.Record.told c.args.to.now).entries ++ more)
          (ap (λ (r : Running). entry_of c.args.moment.now.instant.now.limit now k (Some (what_by c.in-Some.happened r.state, sent_of given))) stands
          ∙ ap (λ limit. entry_of limit now k (Some (what_by c.in-Some.happened reacts.after.state, sent_of given))) c.requires.limit
          ∙ ap (λ (w : Option What). entry_of t.limit now k (event_of w (sent_of given)))
          (sym (happened-what reacts.after c.in-Some.happened)));
    }

pub returns-in-Ok-clause-components : goal.returns-in-Ok-clause-components
returns-in-Ok-clause-components g c =
    let b = g.A.Atomic.behaviour in
    let fits = g.A.Atomic.fits in
    let t = c.args.moment.now.tables.now in
    let now = rank_of c.args.moment.now.instant.now in
    let es = c.args.moment.now.emitted.now in
    let x = c.args.visit.now.arrival.now in
    let rs = c.args.components.now.running in
    let ss = c.react_visited.new.self.running in
    let old = c.args.before.now in
    let new = c.react_visited.new.former in
    let reacts : ReactsAt b fits t now es x rs ss old new (Some c.in-Some.happened) =
    subst (λ (h : Option Happened). ReactsAt b fits t now es x rs ss old new h) c.in-Some.is
    (subst (λ (us : List Running). ReactsAt b fits t now es x us ss old new c.in_ok-happened.field-0) c.visit.ensures.components
    c.in_ok-happened.ensures.reacted) in
    components_after b fits t now es x rs ss old new (Some c.in-Some.happened) reacts c.requires.components

pub returns-in-Ok-clause-agenda : goal.returns-in-Ok-clause-agenda
returns-in-Ok-clause-agenda g c =
    let b = g.A.Atomic.behaviour in
    let fits = g.A.Atomic.fits in
    let t = c.args.moment.now.tables.now in
    let now = rank_of c.args.moment.now.instant.now in
    let es = c.args.moment.now.emitted.now in
    let x = c.args.visit.now.arrival.now in
    let rs = c.args.components.now.running in
    let ss = c.react_visited.new.self.running in
    let old = c.args.before.now in
    let new = c.react_visited.new.former in
    let reacts : ReactsAt b fits t now es x rs ss old new (Some c.in-Some.happened) =
    subst (λ (h : Option Happened). ReactsAt b fits t now es x rs ss old new h) c.in-Some.is
    (subst (λ (us : List Running). ReactsAt b fits t now es x us ss old new c.in_ok-happened.field-0) c.visit.ensures.components
    c.in_ok-happened.ensures.reacted) in
    let at : c.react_visited.new.self.visited ≡ x.index = c.react_visited.ensures.visited ∙ c.visit.ensures.visited in
    let stands : c.visited-component.result.now ≡ reacts.after =
    stands_there b fits t now es x rs ss old new (Some c.in-Some.happened) reacts
    c.react_visited.new.self.visited c.visited-component.result.now at c.visited-component.ensures in
    c.set.ensures
    ∙ ap (λ (ws : List (Option Time)). slice_set ws x.index c.time_of-time.result) c.requires.agenda
    ∙ ap (λ (w : Option Time). slice_set (waits_of rs) x.index w)
    (c.time_of-time.ensures ∙ ap (λ (r : Running). time_of_wait r.wait) stands)
    ∙ sym (waits_after b fits t now es x rs ss old new (Some c.in-Some.happened) reacts)

pub returns-in-Ok-clause-within : goal.returns-in-Ok-clause-within
returns-in-Ok-clause-within g c =
    let b = g.A.Atomic.behaviour in
    let fits = g.A.Atomic.fits in
    let t = c.args.moment.now.tables.now in
    let now = rank_of c.args.moment.now.instant.now in
    let es = c.args.moment.now.emitted.now in
    let x = c.args.visit.now.arrival.now in
    let rs = c.args.components.now.running in
    let ss = c.react_visited.new.self.running in
    let old = c.args.before.now in
    let new = c.react_visited.new.former in
    let reacts : ReactsAt b fits t now es x rs ss old new (Some c.in-Some.happened) =
    subst (λ (h : Option Happened). ReactsAt b fits t now es x rs ss old new h) c.in-Some.is
    (subst (λ (us : List Running). ReactsAt b fits t now es x us ss old new c.in_ok-happened.field-0) c.visit.ensures.components
    c.in_ok-happened.ensures.reacted) in
    within_after b fits t now es x rs ss old new c.in-Some.happened reacts c.requires.within

pub returns-in-Ok-clause-before : goal.returns-in-Ok-clause-before
returns-in-Ok-clause-before g c =
    let b = g.A.Atomic.behaviour in
    let fits = g.A.Atomic.fits in
    let t = c.args.moment.now.tables.now in
    let now = rank_of c.args.moment.now.instant.now in
    let es = c.args.moment.now.emitted.now in
    let x = c.args.visit.now.arrival.now in
    let rs = c.args.components.now.running in
    let ss = c.react_visited.new.self.running in
    let old = c.args.before.now in
    let new = c.react_visited.new.former in
    let reacts : ReactsAt b fits t now es x rs ss old new (Some c.in-Some.happened) =
    subst (λ (h : Option Happened). ReactsAt b fits t now es x rs ss old new h) c.in-Some.is
    (subst (λ (us : List Running). ReactsAt b fits t now es x us ss old new c.in_ok-happened.field-0) c.visit.ensures.components
    c.in_ok-happened.ensures.reacted) in
    undone_after b fits t now es x rs ss old new c.in-Some.happened reacts
