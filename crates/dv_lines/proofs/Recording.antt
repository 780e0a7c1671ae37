-- A record stays the text of what was told to it.
use Rattle.std.proofs.Common.{◌≡◌, ℕ, Bool, true, false, ◌||◌, List, [], ◌∷◌, ◌++◌, length, refl, sym, ap, ◌∙◌, arith, take}
use Rattle.std.proofs.Common.{append_assoc, append-nil, length-append}
use Rattle.std.specs.List.{All, list_any}
use Rattle.std.specs.Ordering.{is_lt}
use Rattle.std.specs.declared.cmp.Ordering.{Ordering}
use Rattle.std.specs.declared.cmp.Ordering.TheVariants.{Less, Equal, Greater}
use Rattle.std.proofs.lemmas.List.{length-take-le, take-append-le, take_all}
use Rattle.std.proofs.lemmas.List.Elements.{All-weaker}
use Rattle.std.proofs.lemmas.List.Folds.{list_any-append}
use Rattle.std.proofs.lemmas.List.Quantifiers.{all_pairs_push}
use Rattle.dv_time.specs.Time.{is_before, time_cmp}
use Rattle.dv_time.specs.declared.time.Time.{Time}
use Rattle.dv_bag.specs.Bag.{Counts}
use Rattle.dv_bag.specs.Part.{IsByTime, PartOf}
use Rattle.dv_bag.specs.declared.entry.Entry.{Entry}
use Rattle.dv_bag.specs.declared.entry.Outer.{Outer}
use Rattle.dv_devs.proofs.ByTime.{pairs_after}
use Rattle.dv_text.specs.Texts.{ComponentNames, entry_text, names_at, outers_text, part_text}
use Rattle.dv_lines.specs.Records.{IsText, Recorded, fresh}
use Rattle.dv_record.specs.Told.{IsOpenAt, lines_from}
use Rattle.dv_written.specs.Faults.{has_fault, is_fault}
use Rattle.dv_lines.proofs.Appending.{entry_appended, outers_appended}
use Rattle.dv_lines.proofs.LeftLines.{left_then}

less_of : (o : Ordering) → is_lt o ≡ true → o ≡ Less
less_of Less h = refl
less_of Equal h = absurd (cc)
less_of Greater h = absurd (cc)

all_less : (t : Time) (os : List Outer) → All (λ (o : Outer). is_before o.time t ≡ true) os →
    All (λ (o : Outer). time_cmp o.time t ≡ Less) os
all_less t os before =
    All-weaker (λ (o : Outer). is_before o.time t ≡ true) (λ (o : Outer). time_cmp o.time t ≡ Less)
    (λ o h. less_of (time_cmp o.time t) h) os before

module _ (r : Recorded) (mark : ℕ) (is : IsText r mark) where
  entry_by_time : (e : Entry) → IsOpenAt e.time r.told → IsByTime (record r.told { entries = r.told.entries ++ e ∷ [] })
  entry_by_time e can = (
    all_pairs_push (λ (a b : Entry). is_before b.time a.time ≡ false) r.told.entries e is.told_by_time.0 can.entries,
    is.told_by_time.1,
  )

  pub with_entry : (e : Entry) (bytes : List ℕ) → IsOpenAt e.time r.told → bytes ≡ r.bytes ++ entry_text (names_at r.names e.component) e →
      IsText (record r { told = record r.told { entries = r.told.entries ++ e ∷ [] }; bytes = bytes }) mark
  with_entry e bytes can more =
      let line = entry_text (names_at r.names e.component) e in
      let by = entry_by_time e can in
      let longer = ap (λ (x : List ℕ). length x) more ∙ length-append r.bytes line in
      record {
        told_by_time = by;
        settled_by_time = is.settled_by_time;
        told_text =
            entry_appended r.names r.outputs r.told e is.told_by_time by can.lines
            ∙ ap (λ (x : List ℕ). x ++ line) is.told_text
            ∙ append_assoc r.handed r.bytes line
            ∙ ap (λ (x : List ℕ). r.handed ++ x) (sym more);
        settled_text =
            is.settled_text
            ∙ ap (λ (x : List ℕ). r.handed ++ x) (sym (ap (take mark) more ∙ take-append-le mark r.bytes line is.within));
        within = omega (arith, is.within, longer);
      }

  outers_by_time : (t : Time) (bags : List Counts) → IsOpenAt t r.told →
      IsByTime (record r.told { outer = r.told.outer ++ lines_from t 0 bags })
  outers_by_time t bags can = (
    is.told_by_time.0,
    pairs_after (λ (o : Outer). o.time) t r.told.outer (lines_from t 0 bags) is.told_by_time.1 (all_less t r.told.outer can.lines)
        (left_then t 0 bags),
  )

  pub with_outers : (t : Time) (bags : List Counts) (bytes : List ℕ) → IsOpenAt t r.told →
      bytes ≡ r.bytes ++ outers_text r.outputs t (lines_from t 0 bags) →
      IsText (record r { told = record r.told { outer = r.told.outer ++ lines_from t 0 bags }; bytes = bytes }) mark
  with_outers t bags bytes can more =
      let line = outers_text r.outputs t (lines_from t 0 bags) in
      let by = outers_by_time t bags can in
      let longer = ap (λ (x : List ℕ). length x) more ∙ length-append r.bytes line in
      record {
        told_by_time = by;
        settled_by_time = is.settled_by_time;
        told_text =
            outers_appended r.names r.outputs r.told t (lines_from t 0 bags) is.told_by_time by can.entries can.lines (left_then t 0 bags)
            ∙ ap (λ (x : List ℕ). x ++ line) is.told_text
            ∙ append_assoc r.handed r.bytes line
            ∙ ap (λ (x : List ℕ). r.handed ++ x) (sym more);
        settled_text =
            is.settled_text
            ∙ ap (λ (x : List ℕ). r.handed ++ x) (sym (ap (take mark) more ∙ take-append-le mark r.bytes line is.within));
        within = omega (arith, is.within, longer);
      }

  -- all of it is settled
  pub settled_now : (all : ℕ) → all ≡ length r.bytes → IsText (record r { settled = r.told }) all
  settled_now all long = record {
    told_by_time = is.told_by_time;
    settled_by_time = is.told_by_time;
    told_text = is.told_text;
    settled_text = is.told_text ∙ ap (λ (x : List ℕ). r.handed ++ x) (sym (take_all all r.bytes (omega (arith, long))));
    within = omega (arith, long);
  }

  -- what is not settled goes
  pub taken_back : (bytes : List ℕ) → bytes ≡ take mark r.bytes → IsText (record r { told = r.settled; bytes = bytes }) mark
  taken_back bytes cut =
      let long = ap (λ (x : List ℕ). length x) cut ∙ length-take-le mark r.bytes is.within in
      let text = is.settled_text ∙ ap (λ (x : List ℕ). r.handed ++ x) (sym cut) in
      record {
        told_by_time = is.settled_by_time;
        settled_by_time = is.settled_by_time;
        told_text = text;
        settled_text = text ∙ ap (λ (x : List ℕ). r.handed ++ x) (sym (take_all mark bytes (omega (arith, long))));
        within = omega (arith, long);
      }

  -- all of it is handed over
  pub handed_on : r.settled ≡ r.told → (handed : List ℕ) → handed ≡ part_text r.names r.outputs r.told →
      IsText (record r { handed = handed; bytes = [] }) 0
  handed_on same handed all =
      let text = sym (append-nil handed ∙ all) in
      record {
        told_by_time = is.told_by_time;
        settled_by_time = is.settled_by_time;
        told_text = text;
        settled_text = ap (part_text r.names r.outputs) same ∙ text;
        within = omega arith;
      }

-- a fault more, or none
or_last : (a b : Bool) → (a || (b || false)) ≡ (b || a)
or_last true true = refl
or_last true false = refl
or_last false true = refl
or_last false false = refl

pub fault_more : (p : PartOf) (e : Entry) → has_fault (record p { entries = p.entries ++ e ∷ [] }) ≡ (is_fault e.what || has_fault p)
fault_more p e =
    let test = λ (x : Entry). is_fault x.what in
    list_any-append test p.entries (e ∷ []) ∙ or_last (list_any test p.entries) (is_fault e.what)

-- where nothing was told
pub nothing_told : (names : List ComponentNames) (outputs : List (List ℕ)) → IsText (fresh names outputs) 0
nothing_told names outputs = record {
  told_by_time = (λ i j d lt within. absurd (omega (arith, within)), λ i j d lt within. absurd (omega (arith, within)));
  settled_by_time = (λ i j d lt within. absurd (omega (arith, within)), λ i j d lt within. absurd (omega (arith, within)));
  told_text = refl;
  settled_text = refl;
  within = omega arith;
}
