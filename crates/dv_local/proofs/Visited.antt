-- What stays where components are visited and none changes, and how many are visited as they react.
use Rattle.std.proofs.Common.{◌≡◌, ◌∙◌, ℕ, ◌+◌, ◌≤◌, not, List, [], None, Result, length, count_by, ap, sym, subst, arith}
use Rattle.std.proofs.lemmas.List.{length-map}
use Rattle.dv_bag.specs.Bag.{Counts}
use Rattle.dv_bag.specs.Part.{PartOf}
use Rattle.dv_bag.specs.declared.fault.Fault.{Fault}
use Rattle.dv_bag.specs.declared.state.State.{State}
use Rattle.dv_conservative.specs.Flat.{network, received as received_by}
use Rattle.dv_conservative.specs.Links.{Delivery}
use Rattle.dv_devs.specs.Behaviour.{Behaviour, all_empty}
use Rattle.dv_proc.specs.Accesses.{receiving_at}
use Rattle.dv_proc.specs.Local.{View, input_at, sent_at}
use Rattle.dv_react.specs.Components.{components_of}
use Rattle.dv_react.specs.declared.running.Running.{Running}
use Rattle.dv_share.specs.Indices.{indices_of}
use Rattle.dv_share.specs.Share.{AreEmitted, AreReceived, AreTouched, coming, flat_by}
use Rattle.dv_share.specs.declared.index.Indexed.{Indexed}
use Rattle.dv_share.proofs.Instants.{received_of}
use Rattle.dv_share.proofs.Touched.{touched_few}
use Rattle.dv_local.specs.Components.{ComponentsOf}
use Rattle.dv_local.specs.Shares.{share_by}
use Rattle.dv_local.specs.States.{held_by, settled_by, view_by}
use Rattle.dv_local.specs.Undoing.{undone}
use Rattle.dv_local.specs.declared.state.LocalState.{LocalState}

module _ {S R : Type 0} (behaviour : S → Behaviour) (x : LocalState S R) (cs : ComponentsOf) (same : cs.running ≡ x.components.running) where
  -- what is seen
  pub view_visited : (told : R → PartOf) → view_by behaviour told (record x { components = cs }) ≡ view_by behaviour told x
  view_visited told =
      ap
      (λ (rs : List Running).
      let v : View = record {
        share = share_by behaviour x.share;
        components = components_of x.share.tables.limit rs;
        committed = told x.record;
        held = held_by x.share.tables.limit x.undo.taken x.inbox;
      } in v)
      same

  -- what was seen when all was settled
  pub settled_visited : (settled : R → PartOf) → settled_by behaviour settled (record x { components = cs })
      ≡ settled_by behaviour settled x
  settled_visited settled =
      ap
      (λ (rs : List Running).
      let v : View = record {
        share = share_by behaviour x.share;
        components = components_of x.share.tables.limit (undone x.undo.before rs);
        committed = settled x.record;
        held = held_by x.share.tables.limit None x.inbox;
      } in v)
      same

-- no more components react than are imminent or receive a value
pub received_few : {S R : Type 0} (behaviour : S → Behaviour) (fits : S → State → Type 0) (told : R → PartOf) (x : LocalState S R) (n : ℕ)
    (outside : List Counts) (ds : List Delivery) (xs : List (Indexed (List Counts))) (imminent : ℕ)
    → (outside, ds) ≡ input_at (view_by behaviour told x) n
    → AreEmitted behaviour x.share.tables n x.components.running x.emitted
    → AreReceived x.share.tables.members.items (coming x.share.tables x.emitted outside ds) xs
    → AreTouched (indices_of x.emitted) xs → length x.emitted ≤ imminent
    → length xs ≤ imminent + receiving_at (view_by behaviour told x) n
received_few behaviour fits told x n outside ds xs imminent input emitted received touched few =
    let t = x.share.tables in
    let net = network (flat_by behaviour t) in
    let sent = sent_at (view_by behaviour told x) n in
    let all : List (List Counts) = received_by (flat_by behaviour t).members (coming t x.emitted outside ds) in
    let same : net.arrives sent (input_at (view_by behaviour told x) n) ≡ all =
    ap (λ (i : List Counts × List Delivery). net.arrives sent i) (sym input)
    ∙ received_of behaviour fits t n x.components.running x.emitted xs [] outside ds emitted in
    let most : length xs ≤ length (indices_of x.emitted) + count_by (λ (bags : List Counts). not (all_empty bags)) all =
    touched_few behaviour t.limit t.models.items (coming t x.emitted outside ds) t.members.items (indices_of x.emitted) xs
    received touched in
    let indices : length (indices_of x.emitted) ≡ length x.emitted =
    length-map x.emitted (λ (e : Indexed (Result (List Counts) Fault)). e.index) in
    subst (λ (bags : List (List Counts)). length xs ≤ imminent + count_by (λ (b : List Counts). not (all_empty b)) bags) (sym same)
    (omega (arith, most, indices, few))
