use Rattle.std.proofs.Common.{◌≡◌, ◌∙◌, ℕ, ◌≤◌, List, ◌++◌, length, Option, sym, ap, subst}
use Rattle.dv_time.specs.Time.{rank}
use Rattle.dv_time.specs.declared.time.Time.{Time}
use Rattle.dv_react.specs.declared.running.Running.{Running}
use Rattle.dv_agenda.specs.Waits.{due_at}
use Rattle.dv_share.specs.Share.{AreComponents, AreEmitted, StandByIndex}
use Rattle.dv_local.specs.States.{imminent_of}
use Rattle.dv_local.specs.Undoing.{AreWithin, undone, waits_of}
use Rattle.dv_local.proofs.Accesses.{due_few, found_counted}
use Rattle.dv_local.proofs.Due.{given_are_due}
use Rattle.dv_local.proofs.Visited.{settled_visited, view_visited}
use Rattle.dv_local.proofs.state.LocalState.emit.Goals as goal

pub emit_all-requires-clause-rise : goal.emit_all-requires-clause-rise
emit_all-requires-clause-rise g c =
    let x = c.args.self.now in
    let limit = x.share.tables.limit in
    (given_are_due limit c.args.now x.components.running x.agenda _ _ (c.deref.ensures.value ∙ c.in_ok-due.ensures.due) c.clear.ensures.items
    c.requires.kept.agenda c.requires.of_run c.requires.kept.components.waits).rise

pub emit_all-requires-clause-within : goal.emit_all-requires-clause-within
emit_all-requires-clause-within g c =
    let x = c.args.self.now in
    let limit = x.share.tables.limit in
    (given_are_due limit c.args.now x.components.running x.agenda _ _ (c.deref.ensures.value ∙ c.in_ok-due.ensures.due) c.clear.ensures.items
    c.requires.kept.agenda c.requires.of_run c.requires.kept.components.waits).within

pub returns-in_err-emit_all-clause-visits : goal.returns-in_err-emit_all-clause-visits
returns-in_err-emit_all-clause-visits g c =
    let x = c.args.self.now in
    let now = c.args.now in
    let limit = x.share.tables.limit in
    let rs = x.components.running in
    let due_is : c.deref.result.now ≡ due_at now (waits_of rs) =
    c.deref.ensures.value ∙ c.in_ok-due.ensures.due
    ∙ ap (λ (ps : List ℕ). ps ++ due_at now x.agenda) c.clear.ensures.items
    ∙ ap (λ (ws : List (Option Time)). due_at now ws) c.requires.kept.agenda in
    let few : length c.deref.result.now ≤ imminent_of limit now rs =
    subst (λ (ps : List ℕ). length ps ≤ imminent_of limit now rs) (sym due_is) (due_few limit now rs) in
    found_counted (length c.deref.result.now) (imminent_of limit now rs) _ _ few c.emit_all.ensures.at_most

pub returns-clause-visits : goal.returns-clause-visits
returns-clause-visits g c =
    let x = c.args.self.now in
    let now = c.args.now in
    let limit = x.share.tables.limit in
    let rs = x.components.running in
    let due_is : c.deref.result.now ≡ due_at now (waits_of rs) =
    c.deref.ensures.value ∙ c.in_ok-due.ensures.due
    ∙ ap (λ (ps : List ℕ). ps ++ due_at now x.agenda) c.clear.ensures.items
    ∙ ap (λ (ws : List (Option Time)). due_at now ws) c.requires.kept.agenda in
    let few : length c.deref.result.now ≤ imminent_of limit now rs =
    subst (λ (ps : List ℕ). length ps ≤ imminent_of limit now rs) (sym due_is) (due_few limit now rs) in
    found_counted (length c.deref.result.now) (imminent_of limit now rs) _ _ few c.emit_all.ensures.at_most

pub returns-clause-few : goal.returns-clause-few
returns-clause-few g c =
    let x = c.args.self.now in
    let now = c.args.now in
    let limit = x.share.tables.limit in
    let rs = x.components.running in
    let due_is : c.deref.result.now ≡ due_at now (waits_of rs) =
    c.deref.ensures.value ∙ c.in_ok-due.ensures.due
    ∙ ap (λ (ps : List ℕ). ps ++ due_at now x.agenda) c.clear.ensures.items
    ∙ ap (λ (ws : List (Option Time)). due_at now ws) c.requires.kept.agenda in
    let many : length c.emit_all.new.emitted ≡ length (due_at now (waits_of rs)) =
    c.in_ok-emit_all.ensures.count ∙ ap (λ (ps : List ℕ). length ps) due_is in
    subst (λ (ss : List Running). length c.emit_all.new.emitted ≤ imminent_of limit now ss) (sym c.emit_all.ensures.components)
    (subst (λ (n : ℕ). n ≤ imminent_of limit now rs) (sym many) (due_few limit now rs))

pub returns-clause-emitted : goal.returns-clause-emitted
returns-clause-emitted g c =
    let x = c.args.self.now in
    let t = x.share.tables in
    let due = given_are_due t.limit c.args.now x.components.running x.agenda _ _ (c.deref.ensures.value ∙ c.in_ok-due.ensures.due)
    c.clear.ensures.items c.requires.kept.agenda c.requires.of_run c.requires.kept.components.waits in
    subst (λ (ss : List Running). AreEmitted g.A.Atomic.behaviour t (rank t.limit c.args.now) ss c.emit_all.new.emitted)
    (sym c.emit_all.ensures.components) (c.in_ok-emit_all.ensures.emitted (rank t.limit c.args.now) due)

pub returns-clause-sent : goal.returns-clause-sent
returns-clause-sent g c =
    let x = c.args.self.now in
    let t = x.share.tables in
    let due = given_are_due t.limit c.args.now x.components.running x.agenda _ _ (c.deref.ensures.value ∙ c.in_ok-due.ensures.due)
    c.clear.ensures.items c.requires.kept.agenda c.requires.of_run c.requires.kept.components.waits in
    sym (c.in_ok-emit_all.ensures.emitted (rank t.limit c.args.now) due).sent

pub returns-clause-kept : goal.returns-clause-kept
returns-clause-kept g c =
    let k = c.requires.kept in
    let t = c.args.self.now.share.tables in
    let before = c.args.self.now.undo.before in
    let same = sym c.emit_all.ensures.components in
    record {
      share = k.share;
      all_come = k.all_come;
      components = subst (λ (ss : List Running). AreComponents g.A.Atomic.fits t ss) same k.components;
      agenda = c.due.ensures.same ∙ k.agenda ∙ ap (λ (ss : List Running). waits_of ss) same;
      arrive = k.arrive;
      within = subst (λ (ss : List Running). AreWithin (length ss) before) same k.within;
      before = subst (λ (ss : List Running). AreComponents g.A.Atomic.fits t (undone before ss)) same k.before;
      emitted = subst (λ (n : ℕ). StandByIndex n c.emit_all.new.emitted) k.components.count c.emit_all.ensures.indices;
      still = (c.requires.of_run, returns-clause-emitted g c, returns-clause-few g c);
    }

pub returns-clause-settled : goal.returns-clause-settled
returns-clause-settled g c =
    settled_visited g.A.Atomic.behaviour c.args.self.now c.emit_all.new.components c.emit_all.ensures.components g.R.Record.settled

pub returns-clause-view : goal.returns-clause-view
returns-clause-view g c =
    view_visited g.A.Atomic.behaviour c.args.self.now c.emit_all.new.components c.emit_all.ensures.components g.R.Record.told
