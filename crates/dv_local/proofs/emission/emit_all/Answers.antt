use Rattle.std.proofs.Common.{◌≡◌, ◌∙◌, ◌+◌, ◌<◌, ℕ, ◌++◌, ◌∷◌, [], List, length, take, get_or, slice_get, Some, Result, All, ap}
use Rattle.std.proofs.Common.{sym, subst, arith, refl}
use Rattle.std.proofs.lemmas.Option.{same_Some}
use Rattle.std.proofs.lemmas.List.{length-map, map-append, take_all, take_more}
use Rattle.std.proofs.lemmas.List.Elements.{All-push}
use Rattle.dv_bag.specs.Bag.{Counts}
use Rattle.dv_bag.specs.declared.fault.Fault.{Fault}
use Rattle.dv_proc.specs.Accesses.{IsCounted}
use Rattle.dv_react.specs.declared.running.Running.{Running}
use Rattle.dv_share.specs.Outcomes.{behaviour_in}
use Rattle.dv_share.specs.Indices.{indices_of}
use Rattle.dv_share.specs.Share.{StandByIndex}
use Rattle.dv_share.specs.declared.index.Indexed.{Indexed}
use Rattle.dv_share.specs.declared.tables.Member.{Member}
use Rattle.dv_share.proofs.Indices.{there}
use Rattle.dv_share.proofs.Emissions.{IsOutput, emitted_all, first_stand, outputs_given}
use Rattle.dv_local.proofs.Accesses.{counted_both, counted_none, counted_one, counted_within}
use Rattle.dv_local.proofs.Commits.{seen}
use Rattle.dv_local.proofs.emission.emit_all.Goals as goal

pub loop-index-init : goal.loop-index-init
loop-index-init g c = record {
  indices = ap indices_of c.clear.ensures;
  given =
      subst (λ (es : List (Indexed (Result (List Counts) Fault))). All (λ (e : Indexed (Result (List Counts) Fault)).
      IsOutput g.A.Atomic.behaviour c.args.tables.now c.args.components.now.running e.index e.what) es)
      (sym c.clear.ensures) (λ k d lt. absurd (omega (arith, lt)));
  running = refl;
  visits = counted_none c.args.components.now.visits;
}

pub loop-index-preserved : goal.loop-index-preserved
loop-index-preserved g c =
    let b = g.A.Atomic.behaviour in
    let t = c.args.tables.now in
    let rs = c.args.components.now.running in
    let due = c.args.due.now in
    let inv = c.loop-index.invariant in
    let i = c.loop-index.index-index in
    let p = get_or due i 0 in
    let r = c.visited.result.now in
    let early : i < length due = omega arith in
    let old = c.loop-index.emitted in
    let at-r : slice_get rs p ≡ Some r =
    seen rs c.visit.new.self.running p c.visit.new.self.visited r (c.visit.ensures.components ∙ inv.running) c.visit.ensures.visited
    c.visited.ensures in
    let within : p < length t.members.items = subst (λ (n : ℕ). p < n) c.requires.components.count (c.requires.within i 0 early) in
    let member = there t.members.items p within in
    let m = member.0 in
    let w = (behaviour_in b t m).output r.state in
    let added = c.in_ok-add.ensures.emitted m member.1 in
    let P : Indexed (Result (List Counts) Fault) → Type 0 = λ e. IsOutput b t rs e.index e.what in
    let output : IsOutput b t rs p w = λ n s at-n at-s.
    ap (λ (n : Member). (behaviour_in b t n).output r.state) (same_Some m n (sym member.1 ∙ at-n))
    ∙ ap (λ (u : Running). (behaviour_in b t n).output u.state) (same_Some r s (sym at-r ∙ at-s)) in
    record {
      indices =
          ap indices_of added ∙ map-append (λ (e : Indexed (Result (List Counts) Fault)). e.index) old (_ ∷ [])
          ∙ ap (λ (ps : List ℕ). ps ++ p ∷ []) inv.indices
          ∙ sym (take_more due i 0 early);
      given = subst (λ (es : List (Indexed (Result (List Counts) Fault))). All P es) (sym added) (All-push P old _ inv.given output);
      running = c.visit.ensures.components ∙ inv.running;
      visits = counted_both i 1 _ _ _ inv.visits (counted_one _ _ c.visit.ensures.never_fall c.visit.ensures.visits);
    }

pub visited-requires : goal.visited-requires
visited-requires g c =
    let i = c.loop-index.index-index in
    let within = c.requires.within i 0 (omega arith) in
    omega (
      arith,
      within,
      c.visit.ensures.visited,
      ap (λ (rs : List Running). length rs) (c.visit.ensures.components ∙ c.loop-index.invariant.running),
    )

pub returns-in_err-add-clause-indices : goal.returns-in_err-add-clause-indices
returns-in_err-add-clause-indices g c =
    subst (λ (es : List (Indexed (Result (List Counts) Fault))). StandByIndex (length c.args.components.now.running) es)
    (sym c.in_err-add.ensures.err)
    (first_stand (length c.args.components.now.running) c.loop-index.index-index c.args.due.now c.loop-index.emitted
    c.requires.rise c.requires.within c.loop-index.invariant.indices)

pub returns-in_err-add-clause-at_most : goal.returns-in_err-add-clause-at_most
returns-in_err-add-clause-at_most g c =
    let i = c.loop-index.index-index in
    counted_within (i + 1) (length c.args.due.now) _ _ (omega arith)
    (counted_both i 1 _ _ _ c.loop-index.invariant.visits (counted_one _ _ c.visit.ensures.never_fall c.visit.ensures.visits))

pub returns-clause-emitted : goal.returns-clause-emitted
returns-clause-emitted g c = λ now are_due.
    let b = g.A.Atomic.behaviour in
    let t = c.args.tables.now in
    let rs = c.args.components.now.running in
    let due = c.args.due.now in
    let es = c.loop-index.emitted in
    let full : take c.loop-index.index-index due ≡ due = take_all c.loop-index.index-index due (omega arith) in
    let same : indices_of es ≡ due = c.loop-index.invariant.indices ∙ full in
    emitted_all b t now rs es due c.requires.components.count are_due same
    (outputs_given b t now rs es due are_due same c.loop-index.invariant.given)

pub returns-clause-indices : goal.returns-clause-indices
returns-clause-indices g c =
    first_stand (length c.args.components.now.running) c.loop-index.index-index c.args.due.now c.loop-index.emitted
    c.requires.rise c.requires.within c.loop-index.invariant.indices

pub returns-clause-count : goal.returns-clause-count
returns-clause-count g c =
    let due = c.args.due.now in
    let full : take c.loop-index.index-index due ≡ due = take_all c.loop-index.index-index due (omega arith) in
    sym (length-map c.loop-index.emitted (λ (e : Indexed (Result (List Counts) Fault)). e.index))
    ∙ ap (λ (ps : List ℕ). length ps) (c.loop-index.invariant.indices ∙ full)

pub returns-clause-visits : goal.returns-clause-visits
returns-clause-visits g c =
    let all : c.loop-index.index-index ≡ length c.args.due.now = omega arith in
    subst (λ (n : ℕ). IsCounted n n c.args.components.now.visits c.loop-index.components.visits) all c.loop-index.invariant.visits

pub returns-clause-at_most : goal.returns-clause-at_most
returns-clause-at_most g c =
    counted_within c.loop-index.index-index (length c.args.due.now) _ _ (omega arith) c.loop-index.invariant.visits
