-- Components whose numbers rise make tables.
use Rattle.std.proofs.Common.{◌≡◌, ℕ, zero, suc, List, [], ◌∷◌, Some, subst}
use Rattle.std.specs.List.{AllByRecursion, slice_get}
use Rattle.std.proofs.lemmas.List.{length-map}
use Rattle.std.proofs.lemmas.List.Elements.{All-map}
use Rattle.dv_bag.specs.declared.state.State.{State}
use Rattle.dv_react.specs.Components.{IsWaitOfRun}
use Rattle.dv_react.specs.declared.running.Running.{Running}
use Rattle.dv_share.specs.Share.{AreTables, FitsAt, starts_of}
use Rattle.dv_share.specs.declared.tables.Member.{Member}
use Rattle.dv_share.specs.declared.tables.Tables.{Tables}
use Rattle.dv_plan.specs.Wholes.{AreMembers, IsMember}
use Rattle.dv_plan.proofs.Lists.{all_at}

module _ {S : Type 0} (fits : S → State → Type 0) (limit : ℕ) (models : List S) where
  fit_at : (ms : List Member) (p : ℕ) (m : Member) (r : Running) → AllByRecursion (IsMember fits limit models) ms
      → slice_get ms p ≡ Some m →
      slice_get (starts_of ms) p ≡ Some r → FitsAt fits models m.model r.state
  fit_at [] p m r h e f = absurd (cc)
  fit_at (x ∷ ms) zero m r h e f =
      let same : x ≡ m = cc in
      let start : x.start ≡ r = cc in
      subst (λ (y : Member). FitsAt fits models y.model r.state) same
      (subst (λ (q : Running). FitsAt fits models x.model q.state) start h.0.fit)
  fit_at (x ∷ ms) (suc p) m r h e f = fit_at ms p m r h.1 e f

pub tables_by_members : {S : Type 0} (fits : S → State → Type 0) (t : Tables S) → AreMembers fits t.limit t.models.items t.members.items
    → AreTables fits t
tables_by_members fits t h =
    let all = all_at (IsMember fits t.limit t.models.items) t.members.items h.each in
    record {
      rise = h.rise;
      models = λ k d lt. (all k d lt).model;
      starts = record {
        count = length-map t.members.items (λ (m : Member). m.start);
        waits = All-map (λ (r : Running). IsWaitOfRun t.limit r.wait) (λ (m : Member). m.start) t.members.items
            (λ k d lt. (all k d lt).wait);
        fit = λ p m r e f. fit_at fits t.limit t.models.items t.members.items p m r h.each e f;
      };
    }
