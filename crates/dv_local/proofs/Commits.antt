-- Components that react one after the other.
use Rattle.std.proofs.Common.{◌≡◌, inl, inr, ℕ, ◌+◌, ◌<◌, false, List, [], ◌∷◌, ◌++◌, length, get_or, take, Some}
use Rattle.std.proofs.Common.{Result, Ok, Err, refl, sym, ap, ap₂, ◌∙◌, subst, arith, append-nil}
use Rattle.std.specs.Prelude.{OnErr, OnOk}
use Rattle.std.specs.List.{slice_get, slice_set}
use Rattle.std.proofs.lemmas.Bool.{cases_lt}
use Rattle.std.proofs.lemmas.List.{append_assoc, get_or-set_other, get_or-set_same, length-set, map-append, take_more}
use Rattle.std.proofs.lemmas.List.Elements.{All-push, All-set}
use Rattle.std.proofs.lemmas.Option.{get_or_from_slice_get, same_Some, slice_get-get_or, slice_get_within}
use Rattle.dv_time.specs.declared.time.Time.{Time}
use Rattle.dv_bag.specs.Bag.{Counts}
use Rattle.dv_bag.specs.Part.{PartOf}
use Rattle.dv_bag.specs.declared.entry.Entry.{Entry}
use Rattle.dv_bag.specs.declared.fault.Fault.{Fault}
use Rattle.dv_bag.specs.declared.state.State.{State}
use Rattle.dv_devs.specs.Behaviour.{Behaviour}
use Rattle.dv_devs.specs.Network.{entry_of}
use Rattle.dv_react.specs.Components.{IsWaitOfRun}
use Rattle.dv_react.specs.Outcomes.{event_of, happened_in, left_by, sent_of}
use Rattle.dv_react.specs.declared.running.Running.{Running}
use Rattle.dv_record.specs.Told.{IsOpenAt, with_entry}
use Rattle.dv_record.proofs.Open.{still_open}
use Rattle.dv_share.specs.Commits.{entries_of}
use Rattle.dv_share.specs.Outcomes.{IsOutcome}
use Rattle.dv_share.specs.Indices.{is_in, indices_of}
use Rattle.dv_share.specs.Rows.{number_of}
use Rattle.dv_share.specs.Share.{AreComponents, AreEmitted, FitsAt, StandByIndex, given_at}
use Rattle.dv_share.specs.declared.index.Indexed.{Indexed}
use Rattle.dv_share.specs.declared.tables.Member.{Member}
use Rattle.dv_share.specs.declared.tables.Tables.{Tables}
use Rattle.dv_share.proofs.Commits.{entries_last, left_last, left_none, left_untouched, not_before}
use Rattle.dv_share.proofs.Instants.{outcome_one}
use Rattle.dv_share.proofs.Indices.{found_here, there}
use Rattle.dv_local.specs.Commits.{HasReacted, HaveReacted, IsGivenAt}

-- what stands where a visit went stood there before
pub seen : (rs ss : List Running) (p q : ℕ) (r : Running) → ss ≡ rs → q ≡ p → slice_get ss q ≡ Some r → slice_get rs p ≡ Some r
seen rs ss p q r same at here = ap₂ (λ (us : List Running) (k : ℕ). slice_get us k) (sym same) (sym at) ∙ here

-- with another component at an index they are still components, if it waits and fits there
pub put_stays : {S : Type 0} (fits : S → State → Type 0) (t : Tables S) (rs : List Running) (p : ℕ) (s : Running)
    → AreComponents fits t rs → p < length rs
    → IsWaitOfRun t.limit s.wait → ((m : Member) → slice_get t.members.items p ≡ Some m → FitsAt fits t.models.items m.model s.state)
    → AreComponents fits t (slice_set rs p s)
put_stays fits t rs p s are lt wait fit = record {
  count = length-set rs p s ∙ are.count;
  waits = All-set (λ (r : Running). IsWaitOfRun t.limit r.wait) rs p s wait are.waits;
  fit = λ q m u at-m at-u.
      let Fits : Running → Type 0 = λ r. FitsAt fits t.models.items m.model r.state in
      let read : get_or (slice_set rs p s) q u ≡ u = get_or_from_slice_get (slice_set rs p s) q u u at-u in
      let within : q < length rs =
      (let less = slice_get_within (slice_set rs p s) q u at-u in let long = length-set rs p s in omega (arith, less, long)) in
      let other : (q ≡ p → ⊥) → Fits u =
      λ apart.
      subst Fits (sym (get_or-set_other rs p q s u apart) ∙ read) (are.fit q m (get_or rs q u) at-m (slice_get-get_or rs q u within)) in
      elim (cases_lt p q) [
        | inl less ↦ other (λ e. absurd (omega (arith, less, e)))
        | inr ge ↦ elim (cases_lt q p) [
          | inl less ↦ other (λ e. absurd (omega (arith, less, e)))
          | inr le ↦
              let same : q ≡ p = omega (arith, ge, le) in
              let is : u ≡ s = sym read ∙ ap (λ (k : ℕ). get_or (slice_set rs p s) k u) same ∙ get_or-set_same rs p s u lt in
              subst Fits (sym is) (fit m (subst (λ (k : ℕ). slice_get t.members.items k ≡ Some m) same at-m))
        ]
      ];
}

module _ {S : Type 0} (behaviour : S → Behaviour) (fits : S → State → Type 0) (t : Tables S) (now : ℕ) (rs : List Running)
    (es : List (Indexed (Result (List Counts) Fault))) (xs : List (Indexed (List Counts))) where
  -- nobody has reacted yet
  pub none_reacted : (old : List Entry) → HaveReacted behaviour fits t now rs es xs [] rs old old
  none_reacted old = record {
    outcomes = [];
    indices = refl;
    right = λ k d lt. absurd (omega (arith, lt));
    components = sym (left_none 0 rs);
    entries = sym (append-nil old);
  }

  module _ (i : ℕ) (d : Indexed (List Counts)) (ss : List Running) (old mid : List Entry) (indices : StandByIndex (length t.members.items) xs)
      (count : length rs ≡ length t.members.items) (early : i < length xs)
      (h : HaveReacted behaviour fits t now rs es xs (indices_of (take i xs)) ss old mid) where
    -- the next arrival
    abbrev x : Indexed (List Counts)
    x = get_or xs i d

    -- its component, which has not reacted yet
    within : x.index < length rs
    within = let lt = indices.within i d early in omega (arith, lt, count)

    out : is_in x.index (indices_of h.outcomes) ≡ false
    out = ap (λ (ps : List ℕ). is_in x.index ps) h.indices ∙ not_before 0 i xs d indices.rise early

    stays : (r : Running) → slice_get rs x.index ≡ Some r → slice_get ss x.index ≡ Some r
    stays r at =
        let start : x.index ≡ 0 + x.index = omega arith in
        ap (λ (us : List Running). slice_get us x.index) h.components
        ∙ left_untouched 0 x.index rs h.outcomes r at (subst (λ (p : ℕ). is_in p (indices_of h.outcomes) ≡ false) start out)

    pub given_now : AreEmitted behaviour t now rs es → IsGivenAt behaviour t now es ss x.index
    given_now emitted m s at-m at-s =
        let r = there rs x.index within in
        let same : r.0 ≡ s = same_Some r.0 s (sym (stays r.0 r.1) ∙ at-s) in
        emitted.given x.index m s at-m (subst (λ (u : Running). slice_get rs x.index ≡ Some u) same r.1)

    -- with its component all of the first arrivals have reacted, and the next one
    pub one_more : (us : List Running) (new : List Entry) → HasReacted behaviour fits t now es x ss us mid new
        → HaveReacted behaviour fits t now rs es xs (indices_of (take (i + 1) xs)) us old new
    one_more us new one =
        let start : x.index ≡ 0 + x.index = omega arith in
        let r = there rs x.index within in
        let o : Indexed _ = record { index = x.index; what = one.outcome } in
        let right : IsOutcome behaviour fits t now rs es xs x.index one.outcome =
        outcome_one behaviour fits t now rs es xs x r.0 one.outcome r.1 (found_here x.index i d xs indices.rise early refl)
        (one.is r.0 (stays r.0 r.1)) in
        let entry = entry_of t.limit now (number_of (slice_get t.members.items x.index))
        (event_of (happened_in one.outcome) (sent_of (given_at x.index es))) in
        record {
          outcomes = h.outcomes ++ o ∷ [];
          indices =
              map-append (λ (p : Indexed _). p.index) h.outcomes (o ∷ [])
              ∙ ap (λ (ps : List ℕ). ps ++ x.index ∷ []) h.indices
              ∙ sym (map-append (λ (p : Indexed (List Counts)). p.index) (take i xs) (x ∷ []))
              ∙ sym (ap indices_of (take_more xs i d early));
          right = All-push (λ (p : Indexed _). IsOutcome behaviour fits t now rs es xs p.index p.what) h.outcomes o h.right right;
          components =
              one.components r.0 (stays r.0 r.1)
              ∙ ap (λ (vs : List Running). slice_set vs x.index (left_by r.0 one.outcome)) h.components
              ∙ sym (left_last 0 x.index rs h.outcomes o r.0 start r.1 out);
          entries =
              one.entries
              ∙ ap (λ (ys : List Entry). ys ++ entry) h.entries
              ∙ append_assoc old (entries_of t.limit now t.members.items es h.outcomes) entry
              ∙ ap (λ (ys : List Entry). old ++ ys) (sym (entries_last t.limit now t.members.items es h.outcomes o));
        }

-- with an entry of its time that was told, or without one where it could not be told, the rest of an instant can be told
pub open_told : {X E : Type 0} (t : Time) (r : Result X E) (old new : PartOf) (e : Entry) → e.time ≡ t → IsOpenAt t old
    → OnOk r (new ≡ with_entry e old) → OnErr r (new ≡ old) → IsOpenAt t new
open_told t (Ok x) old new e at h ok err = subst (IsOpenAt t) (sym ok) (still_open t old e at h)
open_told t (Err x) old new e at h ok err = subst (IsOpenAt t) (sym err) h
