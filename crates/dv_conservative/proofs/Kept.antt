-- What a share's run adds to the trace is the part of its components.
use Rattle.std.proofs.Common.{◌≡◌, ℕ, suc, zero, Bool, true, false, cond, nat_eq, List, [], ◌∷◌, ◌++◌, Option, Some, None, refl}
use Rattle.std.proofs.Common.{sym, ap, ◌∙◌, arith}
use Rattle.std.specs.List.{filter}
use Rattle.dv_bag.specs.Bag.{Counts, bag_at}
use Rattle.dv_bag.specs.Part.{PartOf, joined}
use Rattle.dv_bag.specs.declared.entry.Entry.{Entry}
use Rattle.dv_bag.specs.declared.entry.What.{What}
use Rattle.dv_devs.specs.Behaviour.{Component, Reaction}
use Rattle.dv_devs.specs.Network.{components_at, emissions_at, entries_by, entry_of, instant, outer_from, trace_at, trace_before}
use Rattle.dv_devs.specs.Parts.{part_at, part_before, sent_among}
use Rattle.dv_conservative.specs.Links.{Delivery, Link, SameFor, carried, carried_by, inbox, sent_of}
use Rattle.dv_conservative.specs.Flat.{Flat, crossings, fed, kept, network, numbers, others, share, whole}
use Rattle.dv_conservative.proofs.Cut.{carried_same, kept_numbers}
use Rattle.dv_conservative.proofs.Local.{AreCrossings, components_of_share, emissions_of_share, instant_of_share, same_number, sent_same}

module _ (who : ℕ → Bool) (limit now : ℕ) where
  own_entry : Entry → Bool
  own_entry e = who e.component

  entries_of_none : (ks : List ℕ) → entries_by limit now ks [] ≡ []
  entries_of_none [] = refl
  entries_of_none (k ∷ ks) = refl

  -- the entry of a component is kept where it is of the set
  entry_kept : (k : ℕ) (event : Option (What × List Counts)) (es : List Entry) (t : Bool) → who k ≡ t →
      filter (λ (e : Entry). who e.component) (entry_of limit now k event ++ es)
      ≡ cond t (entry_of limit now k event) [] ++ filter (λ (e : Entry). who e.component) es
  entry_kept k None es true h = refl
  entry_kept k None es false h = refl
  entry_kept k (Some event) es true h = rw h refl
  entry_kept k (Some event) es false h = rw h refl

  entries_kept : (ks : List ℕ) (rs : List Reaction) →
      entries_by limit now (filter who ks) (kept who ks rs) ≡ filter (λ (e : Entry). who e.component) (entries_by limit now ks rs)
  entries_kept [] rs = refl
  entries_kept (k ∷ ks) [] = entries_of_none (filter who (k ∷ ks))
  entries_kept (k ∷ ks) (r ∷ rs) =
      step (who k)
      ∙ ap (λ (es : List Entry). cond (who k) (entry_of limit now k r.event) [] ++ es) (entries_kept ks rs)
      ∙ sym (entry_kept k r.event (entries_by limit now ks rs) (who k) refl)
    where
      step : (t : Bool) → entries_by limit now (cond t (k ∷ filter who ks) (filter who ks)) (cond t (r ∷ kept who ks rs) (kept who ks rs))
          ≡ cond t (entry_of limit now k r.event) [] ++ entries_by limit now (filter who ks) (kept who ks rs)
      step true = refl
      step false = refl

-- what leaves of what the components of a set send
module _ (who : ℕ → Bool) where
  sent_of_none : (t : Bool) → cond t (let none : List Counts = [] in none) [] ≡ []
  sent_of_none true = refl
  sent_of_none false = refl

  among_none : (js : List ℕ) (k : ℕ) → sent_of js [] k ≡ []
  among_none [] k = refl
  among_none (j ∷ js) k = rw (among_none js k) (sent_of_none (nat_eq j k))

  pub sent_of_among : (js : List ℕ) (sent : List (List Counts)) (k : ℕ) →
      sent_of js (sent_among who js sent) k ≡ cond (who k) (sent_of js sent k) []
  sent_of_among [] sent k = sym (sent_of_none (who k))
  sent_of_among (j ∷ js) [] k =
      among_none (j ∷ js) k ∙ sym (ap (λ (bags : List Counts). cond (who k) bags []) (among_none (j ∷ js) k) ∙ sent_of_none (who k))
  sent_of_among (j ∷ js) (bags ∷ sent) k = step (sent_of_among js sent k) (nat_eq j k) refl
    where
      step : sent_of js (sent_among who js sent) k ≡ cond (who k) (sent_of js sent k) [] → (t : Bool) → nat_eq j k ≡ t →
          cond t (cond (who j) bags []) (sent_of js (sent_among who js sent) k) ≡ cond (who k) (cond t bags (sent_of js sent k)) []
      step rest true e = ap (λ (i : ℕ). cond (who i) bags []) (same_number j k e)
      step rest false e = rest

  pub nothing_carried : (l : Link) (port : ℕ) → carried_by l (bag_at [] port) ≡ []
  nothing_carried l zero = refl
  nothing_carried l (suc port) = refl

  -- exits of other components carry nothing of it
  exits_kept : (sent also : ℕ → List Counts) (links : List Link) → ((k : ℕ) → also k ≡ cond (who k) (sent k) []) →
      carried (filter (λ (l : Link). who l.from) links) sent ≡ carried links also
  exits_kept sent also [] h = refl
  exits_kept sent also (l ∷ ls) h =
      step (who l.from) refl
      ∙ ap (λ (es : List Delivery). carried_by l (bag_at (also l.from) l.from_port) ++ es) (exits_kept sent also ls h)
    where
      rest : List Link
      rest = filter (λ (l : Link). who l.from) ls

      step : (t : Bool) → who l.from ≡ t →
          carried (cond t (l ∷ filter (λ (l : Link). who l.from) ls) (filter (λ (l : Link). who l.from) ls)) sent
          ≡ carried_by l (bag_at (also l.from) l.from_port) ++ carried (filter (λ (l : Link). who l.from) ls) sent
      step true e =
          let same : also l.from ≡ sent l.from = h l.from ∙ ap (λ (t : Bool). cond t (sent l.from) []) e in
          ap (λ (bags : List Counts). carried_by l (bag_at bags l.from_port) ++ carried (filter (λ (l : Link). who l.from) ls) sent)
          (sym same)
      step false e =
          let none : also l.from ≡ [] = h l.from ∙ ap (λ (t : Bool). cond t (sent l.from) []) e in
          sym (
          ap (λ (bags : List Counts). carried_by l (bag_at bags l.from_port) ++ carried (filter (λ (l : Link). who l.from) ls) sent)
          none
          ∙ ap (λ (es : List Delivery). es ++ carried (filter (λ (l : Link). who l.from) ls) sent) (nothing_carried l l.from_port))

module _ (limit : ℕ) (f : Flat) (outside : ℕ → List Counts) (who : ℕ → Bool) (events : ℕ → List Delivery) where
  entries_of_share : (n : ℕ) → AreCrossings limit f outside who events n →
      SameFor who (events n) (crossings limit f outside (others who) who n)
      → (trace_at limit (network (share who f)) (fed outside events) n).entries ≡ (part_at who limit (whole f) outside n).entries
  entries_of_share n before now =
      let cs = components_at limit (whole f) outside n in
      let rs = instant limit (whole f) n (outside n) cs in
      ap (λ (ds : List Component).
      entries_by limit n (numbers (share who f).members) (instant limit (network (share who f)) n (fed outside events n) ds))
      (components_of_share limit f outside who events n before)
      ∙ ap (entries_by limit n (numbers (share who f).members)) (instant_of_share limit f outside who events n cs now)
      ∙ ap (λ (ks : List ℕ). entries_by limit n ks (kept who (numbers f.members) rs)) (kept_numbers who f.members)
      ∙ entries_kept who limit n (numbers f.members) rs

  leaves_of_share : (sent : List (List Counts)) →
      (network (share who f)).leaves (kept who (numbers f.members) sent) ≡ (whole f).leaves (sent_among who (numbers f.members) sent)
  leaves_of_share sent =
      ap (λ (es : List Delivery). inbox 0 es 0 f.outputs)
      (carried_same (λ (l : Link). who l.from) (sent_of (numbers (share who f).members) (kept who (numbers f.members) sent))
      (sent_of (numbers f.members) sent) f.exits (λ l h. sent_same who f sent l.from h)
      ∙ exits_kept who (sent_of (numbers f.members) sent) (sent_of (numbers f.members) (sent_among who (numbers f.members) sent))
      f.exits (λ k. sent_of_among who (numbers f.members) sent k))

  instants_of_share : (n : ℕ) → AreCrossings limit f outside who events n →
      SameFor who (events n) (crossings limit f outside (others who) who n)
      → trace_at limit (network (share who f)) (fed outside events) n ≡ part_at who limit (whole f) outside n
  instants_of_share n before now =
      ap (λ (es : List Entry). let p : PartOf = record {
        entries = es;
        outer = (trace_at limit (network (share who f)) (fed outside events) n).outer;
      } in p) (entries_of_share n before now)
      ∙ ap (λ (bags : List Counts). let p : PartOf = record {
        entries = (part_at who limit (whole f) outside n).entries;
        outer = outer_from limit n 0 bags;
      } in p)
      (ap (network (share who f)).leaves (emissions_of_share limit f outside who events n before)
      ∙ leaves_of_share (emissions_at limit (whole f) outside n))

  pub part_of_share : (n : ℕ) → AreCrossings limit f outside who events n →
      trace_before limit (network (share who f)) (fed outside events) n ≡ part_before who limit (whole f) outside n
  part_of_share zero before = refl
  part_of_share (suc n) before =
      let earlier : AreCrossings limit f outside who events n = λ j lt. before j (omega arith) in
      ap (λ (p : PartOf). joined p (trace_at limit (network (share who f)) (fed outside events) n)) (part_of_share n earlier)
      ∙ ap (joined (part_before who limit (whole f) outside n)) (instants_of_share n earlier (before n (omega arith)))
