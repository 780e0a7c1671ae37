use Rattle.std.proofs.Common.{◌≡◌, ◌∙◌, ℕ, ◌+◌, ◌≤◌, ◌++◌, List, Some, Result, length, refl, sym, ap, subst, arith}
use Rattle.std.proofs.lemmas.List.{length-append}
use Rattle.dv_time.specs.Time.{IsOfRun, rank}
use Rattle.dv_bag.specs.Bag.{Counts}
use Rattle.dv_bag.specs.Inputs.{inputs_at}
use Rattle.dv_bag.specs.declared.entry.Entry.{Entry}
use Rattle.dv_bag.specs.declared.entry.Outer.{Outer}
use Rattle.dv_bag.specs.declared.fault.Fault.{Fault}
use Rattle.dv_local.specs.Arrivals.{arrivals_at}
use Rattle.dv_bag.specs.Part.{PartOf}
use Rattle.dv_conservative.specs.Flat.{network}
use Rattle.dv_conservative.specs.Links.{carried, inbox}
use Rattle.dv_devs.specs.Cuts.{IsAllBefore}
use Rattle.dv_devs.specs.Network.{outer_from, part_of_instant}
use Rattle.dv_react.specs.Components.{components_of}
use Rattle.dv_share.specs.Links.{deliveries_of}
use Rattle.dv_share.specs.Indices.{indices_of}
use Rattle.dv_share.specs.Share.{AreAmong, AreReceived, AreTouched, coming, sent_in}
use Rattle.dv_share.specs.declared.index.Indexed.{Indexed}
use Rattle.dv_record.specs.Told.{with_lines}
use Rattle.dv_record.proofs.Open.{open_after}
use Rattle.dv_proc.specs.Accesses.{CountsEmission, CountsInstant, entries_at, imminent_at, receiving_at}
use Rattle.dv_proc.specs.Local.{IsAfterInstant, View, input_at}
use Rattle.dv_local.specs.Commits.{HaveReacted}
use Rattle.dv_local.specs.Shares.{share_by}
use Rattle.dv_local.specs.States.{held_by, imminent_of, view_by}
use Rattle.dv_local.proofs.Accesses.{instant_counted, reacted_few}
use Rattle.dv_local.proofs.Visited.{received_few}
use Rattle.dv_local.proofs.TakesIndex.{input_is, took_index}
use Rattle.dv_local.proofs.state.LocalState.react_components.Goals as goal

pub returns-clause-reacted : goal.returns-clause-reacted
returns-clause-reacted g c =
    let b = g.A.Atomic.behaviour in
    let told = g.R.Record.told in
    let fits = g.A.Atomic.fits in
    let x = c.emit.new.self in
    let t = x.share.tables in
    let v : View = view_by b told c.args.self.now in
    let same : view_by b told x ≡ v = c.emit.ensures.view ∙ c.settle.ensures.view in
    let of_run : IsOfRun t.limit c.args.now = subst (λ (y : View). IsOfRun y.share.limit c.args.now) (sym same) c.requires.of_run in
    let taken = (c.emit.ensures.at_rest c.settle.ensures.at_rest).taken in
    let es = c.as_slice-emitted.result.now in
    let gs = x.emitted in
    let same-es : es ≡ gs = c.as_slice-emitted.ensures in
    let outside = inputs_at t.limit x.share.ports x.share.inputs (rank t.limit c.args.now) in
    let ds = c.at.result.now in
    let meant = deliveries_of ds in
    let xs = c.arrive.new.received.items in
    let rs = x.components.running in
    let ss = c.commit.new.components.running in
    let n = rank t.limit c.args.now in
    let held : ds ≡ arrivals_at c.args.now x.inbox = c.at.ensures in
    let among : AreAmong (indices_of gs) (indices_of xs) =
    subst (λ (fs : List (Indexed (Result (List Counts) Fault))). AreAmong (indices_of fs) (indices_of xs)) same-es
    c.in_ok-arrive.ensures.emitted in
    let received : AreReceived t.members.items (coming t gs outside meant) xs =
    subst (λ (fs : List (Indexed (Result (List Counts) Fault))). AreReceived t.members.items (coming t fs outside meant) xs) same-es
    (c.in_ok-arrive.ensures.received t.limit of_run) in
    let old : List Entry = (told x.record).entries in
    let told_now : PartOf = told c.outer.new.to in
    let lines : List (Indexed (Result (List Counts) Fault)) → List Outer =
    λ fs. outer_from t.limit n 0 (inbox 0 (carried t.exits (sent_in t.members.items fs)) 0 t.outputs) in
    let left : told_now ≡ with_lines (lines es) (told c.commit.new.to) = c.in_ok-outer.ensures.told in
    let reacted : HaveReacted b fits t n rs gs xs (indices_of xs) ss old told_now.entries =
    subst (λ (new : List Entry). HaveReacted b fits t n rs gs xs (indices_of xs) ss old new)
    (sym (ap (λ (p : PartOf). p.entries) left))
    (subst (λ (fs : List (Indexed (Result (List Counts) Fault))). HaveReacted b fits t n rs fs xs (indices_of xs) ss old
    (told c.commit.new.to).entries) same-es c.in_ok-commit.ensures.reacted) in
    let outer : told_now.outer ≡ (told x.record).outer ++ lines gs =
    ap (λ (p : PartOf). p.outer) left
    ∙ ap (λ (os : List Outer). os ++ lines es) c.in_ok-commit.ensures.outer
    ∙ ap (λ (fs : List (Indexed (Result (List Counts) Fault))). (told x.record).outer ++ lines fs) same-es in
    let w : View = record {
      share = share_by b x.share;
      components = components_of t.limit ss;
      committed = told c.outer.new.to;
      held = held_by t.limit (Some c.args.now) x.inbox;
    } in
    subst (λ (y : View). IsAfterInstant (rank y.share.limit c.args.now) y w) same
    (took_index b fits told x c.args.now outside meant xs ss told_now of_run
    (input_is b told x c.args.now outside ds of_run taken refl held)
    c.emit.ensures.kept.components c.in_ok-emit.ensures.emitted among received
    reacted outer taken)

pub returns-clause-visits : goal.returns-clause-visits
returns-clause-visits g c =
    let b = g.A.Atomic.behaviour in
    let told = g.R.Record.told in
    let x = c.emit.new.self in
    let u : View = view_by b told c.args.self.now in
    let v : View = view_by b told x in
    let same : v ≡ u = c.emit.ensures.view ∙ c.settle.ensures.view in
    let before = c.args.self.now.components.visits in
    let mid = x.components.visits in
    let after = c.commit.new.components.visits in
    let w : View = record {
      share = share_by b x.share;
      components = components_of x.share.tables.limit c.commit.new.components.running;
      committed = told c.outer.new.to;
      held = held_by x.share.tables.limit (Some c.args.now) x.inbox;
    } in
    let t = x.share.tables in
    let es = c.as_slice-emitted.result.now in
    let same-es : es ≡ x.emitted = c.as_slice-emitted.ensures in
    let xs = c.arrive.new.received.items in
    let rs = x.components.running in
    let outside = inputs_at t.limit x.share.ports x.share.inputs (rank t.limit c.args.now) in
    let ds = c.at.result.now in
    let of_run : IsOfRun t.limit c.args.now = subst (λ (y : View). IsOfRun y.share.limit c.args.now) (sym same) c.requires.of_run in
    let n = rank t.limit c.args.now in
    let found : CountsEmission n v before mid =
    subst (λ (m : ℕ). CountsEmission n v m mid) c.settle.ensures.visits
    (subst (λ (y : View). CountsEmission (rank y.share.limit c.args.now) y c.settle.new.self.components.visits mid)
    (sym c.emit.ensures.view) c.emit.ensures.visits) in
    let part = part_of_instant v.share.limit (network v.share.flat) n (input_at v n) v.components in
    let instant : IsAfterInstant n v w =
    subst (λ (y : View). IsAfterInstant (rank y.share.limit c.args.now) y w) (sym same) (returns-clause-reacted g c) in
    let grown : length (told c.outer.new.to).entries ≡ length (told x.record).entries + entries_at v n =
    ap (λ (p : PartOf). length p.entries) instant.committed ∙ length-append (told x.record).entries part.entries in
    let told_few : length (told c.commit.new.to).entries ≤ length (told x.record).entries + length xs =
    reacted_few b g.A.Atomic.fits t n rs es xs c.commit.new.components.running (told x.record).entries (told c.commit.new.to).entries
    c.in_ok-commit.ensures.reacted in
    let least : entries_at v n ≤ length xs =
    omega (arith, grown, told_few, ap (λ (p : PartOf). length p.entries) c.in_ok-outer.ensures.told) in
    let held : ds ≡ arrivals_at c.args.now x.inbox = c.at.ensures in
    let taken = (c.emit.ensures.at_rest c.settle.ensures.at_rest).taken in
    let input : (outside, deliveries_of ds) ≡ input_at v n =
    input_is b told x c.args.now outside ds of_run taken refl held in
    let most : length xs ≤ imminent_at v n + receiving_at v n =
    received_few b g.A.Atomic.fits told x n outside (deliveries_of ds) xs (imminent_of t.limit c.args.now rs) input
    c.in_ok-emit.ensures.emitted
    (subst (λ (fs : List (Indexed (Result (List Counts) Fault))). AreReceived t.members.items (coming t fs outside (deliveries_of ds)) xs)
    same-es (c.in_ok-arrive.ensures.received t.limit of_run))
    (subst (λ (fs : List (Indexed (Result (List Counts) Fault))). AreTouched (indices_of fs) xs) same-es c.in_ok-arrive.ensures.touched)
    c.in_ok-emit.ensures.few in
    subst (λ (y : View). CountsInstant (rank y.share.limit c.args.now) y before after) same
    (instant_counted n (length xs) v before mid after found least most c.in_ok-commit.ensures.visits)

-- inputs are at times of the run
pub arrive-requires-clause-inputs : goal.arrive-requires-clause-inputs
arrive-requires-clause-inputs g c =
    let b = g.A.Atomic.behaviour in
    let told = g.R.Record.told in
    let x = c.emit.new.self in
    let same : view_by b told x ≡ view_by b told c.args.self.now = c.emit.ensures.view ∙ c.settle.ensures.view in (
      x.share.tables.limit,
      subst (λ (y : View). IsOfRun y.share.limit c.args.now) (sym same) c.requires.of_run,
      c.emit.ensures.kept.share.of_run,
    )

-- the instant is after all that was told
pub commit-requires-clause-is_open : goal.commit-requires-clause-is_open
commit-requires-clause-is_open g c =
    let told = g.R.Record.told in
    open_after c.args.now (told c.emit.new.self.record)
    (subst (λ (p : PartOf). IsAllBefore c.args.now p)
    (sym (ap (λ (v : View). v.committed) (c.emit.ensures.view ∙ c.settle.ensures.view))) c.requires.later)
