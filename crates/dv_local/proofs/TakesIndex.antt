-- What takes place at an instant is what the theory says, and the components after it are put in.
use Rattle.std.proofs.Common.{◌≡◌, ℕ, ◌<◌, Bool, false, cond, List, [], ◌++◌, length, Option}
use Rattle.std.proofs.Common.{Some, None, refl, sym, ap, ap₂, subst, ◌∙◌, arith}
use Rattle.dv_time.specs.Time.{IsOfRun, rank, time_of}
use Rattle.dv_time.specs.declared.time.Time.{Time}
use Rattle.dv_time.proofs.Ranks.{time_of-rank}
use Rattle.dv_bag.specs.Bag.{Counts}
use Rattle.dv_bag.specs.Inputs.{inputs_at}
use Rattle.dv_bag.specs.Part.{PartOf, joined}
use Rattle.dv_bag.specs.declared.entry.Entry.{Entry}
use Rattle.dv_bag.specs.declared.entry.Outer.{Outer}
use Rattle.dv_bag.specs.declared.state.State.{State}
use Rattle.dv_devs.specs.Behaviour.{Behaviour, Reaction}
use Rattle.dv_devs.specs.Network.{components_after, emissions, entries_by, instant, outer_from, part_of_instant}
use Rattle.dv_conservative.specs.Flat.{network}
use Rattle.dv_conservative.specs.Links.{Delivery, carried, inbox, sent_of as sent_from}
use Rattle.dv_react.specs.Components.{components_of}
use Rattle.dv_react.specs.Outcomes.{Outcome}
use Rattle.dv_react.specs.declared.running.Running.{Running}
use Rattle.dv_local.specs.Arrivals.{arrivals_at}
use Rattle.dv_share.specs.Indices.{indices_of}
use Rattle.dv_share.specs.Share.{AreAmong, AreComponents, AreEmitted, AreOutcomes, AreReceived, StandByIndex, coming, flat_by}
use Rattle.dv_share.specs.Share.{numbers_of, reactions_by, sent_in}
use Rattle.dv_share.specs.declared.tables.Tables.{Tables}
use Rattle.dv_share.proofs.Commits.{entries_of_instant}
use Rattle.dv_share.proofs.Instants.{outcomes_are}
use Rattle.dv_share.specs.declared.index.Indexed.{Indexed}
use Rattle.dv_proc.specs.Local.{IsAfterInstant, View, input_at}
use Rattle.dv_local.specs.Commits.{HaveReacted}
use Rattle.dv_share.specs.Links.{deliveries_of}
use Rattle.dv_share.specs.declared.link.Delivery.{Delivery as DeliveryOfCode}
use Rattle.dv_local.specs.States.{held_by, view_by}
use Rattle.dv_local.specs.Shares.{share_by}
use Rattle.dv_agenda.proofs.RanksOfWaits.{same_as_rank}
use Rattle.dv_share.proofs.Indices.{differ}
use Rattle.dv_local.specs.Undoing.{arrivals_but, is_taken}
use Rattle.dv_local.specs.declared.state.LocalState.{LocalState}
use Rattle.dv_local.proofs.Sending.{same_numbers}

module _ {S R : Type 0} (behaviour : S → Behaviour) (x : LocalState S R) (n : ℕ) (outside : List Counts) (ds : List Delivery)
    (os : List (Indexed Outcome)) where
  instant_part : AreEmitted behaviour x.share.tables n x.components.running x.emitted
      → AreOutcomes behaviour x.share.tables n x.components.running outside ds x.emitted os
      → (es : List Entry) (ls : List Outer)
      → es ≡ entries_by x.share.tables.limit n (numbers_of x.share.tables.members.items)
      (reactions_by x.share.tables.limit 0 x.components.running x.emitted os)
      → ls ≡ outer_from x.share.tables.limit n 0
      (inbox 0 (carried x.share.tables.exits (sent_in x.share.tables.members.items x.emitted)) 0 x.share.tables.outputs)
      → (let p : PartOf = record { entries = es; outer = ls } in p)
      ≡ part_of_instant x.share.tables.limit (network (flat_by behaviour x.share.tables)) n (outside, ds)
      (components_of x.share.tables.limit x.components.running)
  instant_part emitted outcomes es ls e l =
      let t = x.share.tables in
      let net = network (flat_by behaviour t) in
      let cs = components_of t.limit x.components.running in
      let numbers = same_numbers behaviour t.limit t.models.items t.members.items in
      ap₂ (λ (entries : List Entry) (outer : List Outer). let p : PartOf = record { entries = entries; outer = outer } in p)
      (e
      ∙ ap (λ (rs : List Reaction). entries_by t.limit n (numbers_of t.members.items) rs) (sym outcomes.reactions)
      ∙ ap (λ (ks : List ℕ). entries_by t.limit n ks (instant t.limit net n (outside, ds) cs)) (sym numbers))
      (l
      ∙ ap (λ (sent : List (List Counts)). outer_from t.limit n 0
      (inbox 0 (carried t.exits (sent_from (numbers_of t.members.items) sent)) 0 t.outputs)) (sym emitted.sent)
      ∙ ap (λ (ks : List ℕ). outer_from t.limit n 0 (inbox 0 (carried t.exits (sent_from ks (emissions net.behaviours n cs))) 0
      t.outputs)) (sym numbers))

-- what comes in is what is seen to come in
pub input_is : {S R : Type 0} (behaviour : S → Behaviour) (told : R → PartOf) (x : LocalState S R) (now : Time) (outside : List Counts)
    (ds : List DeliveryOfCode)
    → IsOfRun x.share.tables.limit now → x.undo.taken ≡ None
    → outside ≡ inputs_at x.share.tables.limit x.share.ports x.share.inputs (rank x.share.tables.limit now)
    → ds ≡ arrivals_at now x.inbox → (outside, deliveries_of ds)
    ≡ input_at (view_by behaviour told x) (rank x.share.tables.limit now)
input_is behaviour told x now outside ds of_run taken o d =
    let limit = x.share.tables.limit in
    ap₂ (λ (a : List Counts) (b : List Delivery). (a, b)) o
    (ap (λ (es : List DeliveryOfCode). deliveries_of es) d
    ∙ ap (λ (t : Time). deliveries_of (arrivals_at t x.inbox)) (sym (time_of-rank limit now of_run))
    ∙ ap (λ (u : Option Time). deliveries_of (arrivals_but u (time_of limit (rank limit now)) x.inbox)) (sym taken))

not_taken : (limit m : ℕ) (now : Time) → IsOfRun limit now → rank limit now < m → is_taken (Some now) (time_of limit m) ≡ false
not_taken limit m now of_run lt =
    same_as_rank limit m now of_run ∙ differ (rank limit now) m (λ e. absurd (omega (arith, lt, e)))

module _ {S R : Type 0} (behaviour : S → Behaviour) (fits : S → State → Type 0) (told : R → PartOf) (x : LocalState S R) (now : Time)
    (outside : List Counts) (ds : List Delivery) (xs : List (Indexed (List Counts))) where
  abbrev tables : Tables S
  tables = x.share.tables

  abbrev standing : List Running
  standing = x.components.running

  abbrev n : ℕ
  n = rank tables.limit now

  -- what components committed that reacted to all that comes is the part of the instant, and they are those after it
  pub took_index : (ss : List Running) (p : PartOf) → IsOfRun tables.limit now
      → (outside, ds) ≡ input_at (view_by behaviour told x) n
      → AreComponents fits tables standing → AreEmitted behaviour tables n standing x.emitted
      → AreAmong (indices_of x.emitted) (indices_of xs) → AreReceived tables.members.items (coming tables x.emitted outside ds) xs
      → HaveReacted behaviour fits tables n standing x.emitted xs (indices_of xs) ss (told x.record).entries p.entries
      → p.outer ≡ (told x.record).outer
      ++ outer_from tables.limit n 0 (inbox 0 (carried tables.exits (sent_in tables.members.items x.emitted)) 0 tables.outputs)
      → x.undo.taken ≡ None
      → IsAfterInstant n (view_by behaviour told x)
      (let v : View = record {
        share = share_by behaviour x.share;
        components = components_of tables.limit ss;
        committed = p;
        held = held_by tables.limit (Some now) x.inbox;
      } in v)
  took_index ss p of_run input are emitted among received reacted outer taken =
      let limit = tables.limit in
      let net = network (flat_by behaviour tables) in
      let os = reacted.outcomes in
      let outcomes : AreOutcomes behaviour tables n standing outside ds x.emitted os =
      outcomes_are behaviour fits tables n standing x.emitted xs os outside ds are emitted among received reacted.indices
      reacted.right in
      let stand : StandByIndex (length tables.members.items) os =
      subst (λ (k : ℕ). StandByIndex k os) are.count outcomes.indices in
      let entries = reacted.entries
      ∙ ap (λ (es : List Entry). (told x.record).entries ++ es)
      (entries_of_instant limit n x.emitted tables.members.items standing os are.count stand) in
      record {
        share = refl;
        components =
            ap (λ (rs : List Running). components_of limit rs) reacted.components ∙ sym outcomes.after
            ∙ ap (λ (i : List Counts × List Delivery). components_after limit net n i (components_of limit standing)) input;
        committed =
            ap₂ (λ (es : List Entry) (ls : List Outer). let q : PartOf = record { entries = es; outer = ls } in q) entries outer
            ∙ ap (λ (q : PartOf). joined (told x.record) q)
            (instant_part behaviour x n outside ds os emitted outcomes _ _ refl refl
            ∙ ap (λ (i : List Counts × List Delivery). part_of_instant limit net n i (components_of limit standing)) input);
        held = λ m lt.
            ap (λ (b : Bool). deliveries_of (cond b [] (arrivals_at (time_of limit m) x.inbox))) (not_taken limit m now of_run lt)
            ∙ ap (λ (t : Option Time). held_by limit t x.inbox m) (sym taken);
      }
