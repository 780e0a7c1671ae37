use Rattle.std.proofs.Common.{◌≡◌, ◌⊎◌, inl, inr, ◌∙◌, ◌+◌, ◌<◌, ◌∷◌, [], ◌++◌, ◌||◌, nat_eq, ℕ, Bool, true, false, List, Result, Some}
use Rattle.std.proofs.Common.{length, get_or, take, sym, ap, subst, refl, arith}
use Rattle.std.specs.List.{slice_get}
use Rattle.std.proofs.lemmas.Bool.{eqb-true}
use Rattle.std.proofs.lemmas.List.{map-append, take_more}
use Rattle.std.proofs.lemmas.Option.{slice_get-get_or}
use Rattle.dv_bag.specs.Bag.{Counts}
use Rattle.dv_bag.specs.declared.fault.Fault.{Fault}
use Rattle.dv_share.specs.Indices.{is_in, indices_of}
use Rattle.dv_share.specs.Received.{AreGathered, with_index}
use Rattle.dv_share.specs.Share.{AreTouched}
use Rattle.dv_share.specs.declared.index.Indexed.{Indexed}
use Rattle.dv_share.proofs.Gathering.{among_met, gathered_met, is_met}
use Rattle.dv_share.proofs.Indices.{in_push}
use Rattle.dv_share.proofs.Touched.{itself_in, touched_met}
use Rattle.dv_share.proofs.received.Received.meet_all.Goals as goal

-- who is among those in front and one more is among those in front, or is that one
front_or_last : (q p : ℕ) (t : Bool) → (t || nat_eq p q) ≡ true → (t ≡ true) ⊎ (p ≡ q)
front_or_last q p true h = inl refl
front_or_last q p false h = inr (eqb-true p q h)

pub loop-emission-preserved : goal.loop-emission-preserved
loop-emission-preserved c =
    let ms = c.args.members.now in
    let es = c.args.emitted.now in
    let i = c.loop-emission.emission-index in
    let e = c.emission-item.result in
    let early : i < length es = omega arith in
    let inv = c.loop-emission.invariant in
    let xs = c.loop-emission.self.items in
    let r = c.index-members-emission.result in
    let within : e.index < length ms =
    subst (λ (y : Indexed (Result (List Counts) Fault)). y.index < length ms) (sym c.emission-item.is) (c.requires.emitted.within i e early) in
    let m = get_or ms e.index r in
    let at : slice_get ms e.index ≡ Some m = slice_get-get_or ms e.index r within in
    let met : c.meet.new.self.items ≡ with_index e.index m.inputs xs = c.in_ok-meet.ensures.met in
    let indices = λ (ys : List (Indexed (Result (List Counts) Fault))). indices_of ys in
    let more : indices_of (take (i + 1) es) ≡ indices_of (take i es) ++ (get_or es i e).index ∷ [] =
    ap indices (take_more es i e early)
    ∙ map-append (λ (y : Indexed (Result (List Counts) Fault)). y.index) (take i es) (get_or es i e ∷ []) in
    let last : (get_or es i e).index ≡ e.index = ap (λ (y : Indexed (Result (List Counts) Fault)). y.index) (sym c.emission-item.is) in
    record {
      room = c.in_ok-meet.ensures.room ∙ inv.room;
      gathered = λ ds h. subst (AreGathered ms ds) (sym met) (gathered_met ms ds e.index m xs at (inv.gathered ds h));
      among = λ q here.
          ap (λ (ys : List (Indexed (List Counts))). is_in q (indices_of ys)) met
          ∙ elim (front_or_last q (get_or es i e).index (is_in q (indices_of (take i es)))
          (sym (ap (is_in q) more ∙ in_push q (get_or es i e).index (indices_of (take i es))) ∙ here)) [
            | inl front ↦ among_met e.index m.inputs xs q (inv.among q front)
            | inr same ↦ subst (λ (p : ℕ). is_in p (indices_of (with_index e.index m.inputs xs)) ≡ true) (sym last ∙ same)
                (is_met e.index m.inputs xs)
          ];
      touched = λ h.
          subst (AreTouched (indices_of es)) (sym met)
          (touched_met (indices_of es) e.index m.inputs xs
          (subst (λ (p : ℕ). is_in p (indices_of es) ≡ true) last (itself_in es i e early)) (inv.touched h));
    }
