-- Bags that deliveries make: the order of deliveries does not matter, and links may be divided.
use Rattle.std.proofs.Common.{◌≡◌, ◌⊎◌, inl, inr, ℕ, ◌+◌, Bool, true, false, ◌&&◌, ◌||◌, cond, nat_eq, List, [], ◌∷◌, ◌++◌}
use Rattle.std.proofs.Common.{IsTrue, refl, sym, ap, ◌∙◌}
use Rattle.std.specs.List.{filter}
use Rattle.dv_bag.specs.Bag.{Counts, bag_at, capped, with_copies}
use Rattle.dv_bag.proofs.Monoid.{copies_capped, copies_either, copies_join}
use Rattle.dv_conservative.specs.Links.{Link, Delivery, carried_by, carried, taken, delivered}

pub true_or_false : (b : Bool) → (b ≡ true) ⊎ (b ≡ false)
true_or_false true = inl refl
true_or_false false = inr refl

pub deliveries_join : (k port : ℕ) (e f : Delivery) (bag : Counts) → e.component ≡ f.component → e.port ≡ f.port → e.value ≡ f.value →
    taken k port e (taken k port f bag)
    ≡ taken k port (record { component = f.component; port = f.port; value = f.value; copies = capped (e.copies + f.copies) }) bag
deliveries_join k port e f bag c p v = rw (c, p, v) (by_test (nat_eq f.component k && nat_eq f.port port))
  where
    by_test : (t : Bool) →
        cond t (with_copies f.value e.copies (cond t (with_copies f.value f.copies bag) bag))
        (cond t (with_copies f.value f.copies bag) bag) ≡ cond t (with_copies f.value (capped (e.copies + f.copies)) bag) bag
    by_test true = copies_join f.value e.copies f.copies bag ∙ sym (copies_capped f.value (e.copies + f.copies) bag)
    by_test false = refl

module _ (k port : ℕ) where
  -- two events, in either order
  pub taken_either : (e f : Delivery) (bag : Counts) → taken k port e (taken k port f bag) ≡ taken k port f (taken k port e bag)
  taken_either e f bag = by_tests (nat_eq e.component k && nat_eq e.port port) (nat_eq f.component k && nat_eq f.port port)
    where
      by_tests : (t u : Bool) →
          cond t (with_copies e.value e.copies (cond u (with_copies f.value f.copies bag) bag))
          (cond u (with_copies f.value f.copies bag) bag)
          ≡ cond u (with_copies f.value f.copies (cond t (with_copies e.value e.copies bag) bag))
          (cond t (with_copies e.value e.copies bag) bag)
      by_tests true true = copies_either e.value f.value e.copies f.copies bag
      by_tests true false = refl
      by_tests false true = refl
      by_tests false false = refl

  pub delivered-append : (es fs : List Delivery) (bag : Counts) →
      delivered k port (es ++ fs) bag ≡ delivered k port es (delivered k port fs bag)
  delivered-append [] fs bag = refl
  delivered-append (e ∷ es) fs bag = ap (taken k port e) (delivered-append es fs bag)

  taken_later : (e : Delivery) (es : List Delivery) (bag : Counts) →
      taken k port e (delivered k port es bag) ≡ delivered k port es (taken k port e bag)
  taken_later e [] bag = refl
  taken_later e (f ∷ es) bag = taken_either e f (delivered k port es bag) ∙ ap (taken k port f) (taken_later e es bag)

  -- two lists of events, in either order
  pub delivered_either : (es fs : List Delivery) (bag : Counts) →
      delivered k port es (delivered k port fs bag) ≡ delivered k port fs (delivered k port es bag)
  delivered_either [] fs bag = refl
  delivered_either (e ∷ es) fs bag = ap (taken k port e) (delivered_either es fs bag) ∙ taken_later e fs (delivered k port es bag)

  -- a link that leads elsewhere brings nothing
  elsewhere : (l : Link) (sent bag : Counts) → nat_eq l.to k ≡ false → delivered k port (carried_by l sent) bag ≡ bag
  elsewhere l [] bag e = refl
  elsewhere l (p ∷ ps) bag e = rw e (elsewhere l ps bag e)

  -- what links bring on a bag
  abbrev brings : (ℕ → List Counts) → List Link → Counts → Counts
  brings sent links bag = delivered k port (carried links sent) bag

  brings_first : (sent : ℕ → List Counts) (l : Link) (ls : List Link) (bag : Counts) →
      brings sent (l ∷ ls) bag ≡ delivered k port (carried_by l (bag_at (sent l.from) l.from_port)) (brings sent ls bag)
  brings_first sent l ls bag = delivered-append (carried_by l (bag_at (sent l.from) l.from_port)) (carried ls sent) bag

  brings_kept : (sent : ℕ → List Counts) (test : Link → Bool) (l : Link) (ls : List Link) (bag : Counts) →
      brings sent (filter test (l ∷ ls)) bag
      ≡ cond (test l) (delivered k port (carried_by l (bag_at (sent l.from) l.from_port)) (brings sent (filter test ls) bag))
      (brings sent (filter test ls) bag)
  brings_kept sent test l ls bag = by_test (test l)
    where
      by_test : (t : Bool) →
          brings sent (cond t (l ∷ filter test ls) (filter test ls)) bag
          ≡ cond t (delivered k port (carried_by l (bag_at (sent l.from) l.from_port)) (brings sent (filter test ls) bag))
          (brings sent (filter test ls) bag)
      by_test true = brings_first sent l (filter test ls) bag
      by_test false = refl

  -- Links parted in two: of those that lead here each is in one of the parts, and not in both.
  abbrev pub AreParted : (Link → Bool) → (Link → Bool) → (Link → Bool) → List Link → Type 0
  AreParted all one two [] = Unit {0}
  AreParted all one two (l ∷ ls) = (IsTrue (nat_eq l.to k) → (all l ≡ (one l || two l)) × ((one l && two l) ≡ false))
      × AreParted all one two ls

  pub brings_parted : (sent : ℕ → List Counts) (all one two : Link → Bool) (links : List Link) (bag : Counts) →
      AreParted all one two links →
      brings sent (filter all links) bag ≡ brings sent (filter one links) (brings sent (filter two links) bag)
  brings_parted sent all one two [] bag h = refl
  brings_parted sent all one two (l ∷ ls) bag h =
      brings_kept sent all l ls bag
      ∙ ap (λ (b : Counts). cond (all l) (this b) b) (brings_parted sent all one two ls bag h.1)
      ∙ elim (true_or_false (nat_eq l.to k)) [
        | inl here ↦ let both = h.0 here in by_parts (all l) (one l) (two l) both.0 both.1
        | inr there ↦ by_none there (all l) (one l) (two l)
      ]
      ∙ sym (ap (λ (b : Counts). cond (one l) (this (brings sent (filter one ls) b)) (brings sent (filter one ls) b))
      (brings_kept sent two l ls bag))
      ∙ sym (brings_kept sent one l ls (brings sent (filter two (l ∷ ls)) bag))
    where
      this : Counts → Counts
      this b = delivered k port (carried_by l (bag_at (sent l.from) l.from_port)) b

      by_parts : (t u v : Bool) → t ≡ (u || v) → (u && v) ≡ false →
          cond t (this (brings sent (filter one ls) (brings sent (filter two ls) bag)))
          (brings sent (filter one ls) (brings sent (filter two ls) bag))
          ≡ cond u (this (brings sent (filter one ls)
          (cond v (this (brings sent (filter two ls) bag)) (brings sent (filter two ls) bag))))
          (brings sent (filter one ls) (cond v (this (brings sent (filter two ls) bag)) (brings sent (filter two ls) bag)))
      by_parts t true true e d = absurd (cc)
      by_parts t true false e d = rw e refl
      by_parts t false true e d =
          rw e (delivered_either (carried_by l (bag_at (sent l.from) l.from_port)) (carried (filter one ls) sent)
          (brings sent (filter two ls) bag))
      by_parts t false false e d = rw e refl

      by_none : nat_eq l.to k ≡ false → (t u v : Bool) →
          cond t (this (brings sent (filter one ls) (brings sent (filter two ls) bag)))
          (brings sent (filter one ls) (brings sent (filter two ls) bag))
          ≡ cond u (this (brings sent (filter one ls)
          (cond v (this (brings sent (filter two ls) bag)) (brings sent (filter two ls) bag))))
          (brings sent (filter one ls) (cond v (this (brings sent (filter two ls) bag)) (brings sent (filter two ls) bag)))
      by_none e t u v = left t ∙ sym (right u v)
        where
          idle : (b : Counts) → this b ≡ b
          idle b = elsewhere l (bag_at (sent l.from) l.from_port) b e

          left : (t : Bool) → cond t (this (brings sent (filter one ls) (brings sent (filter two ls) bag)))
              (brings sent (filter one ls) (brings sent (filter two ls) bag))
              ≡ brings sent (filter one ls) (brings sent (filter two ls) bag)
          left true = idle (brings sent (filter one ls) (brings sent (filter two ls) bag))
          left false = refl

          right : (u v : Bool) →
              cond u (this (brings sent (filter one ls)
              (cond v (this (brings sent (filter two ls) bag)) (brings sent (filter two ls) bag))))
              (brings sent (filter one ls) (cond v (this (brings sent (filter two ls) bag)) (brings sent (filter two ls) bag)))
              ≡ brings sent (filter one ls) (brings sent (filter two ls) bag)
          right true true = idle (brings sent (filter one ls) (this (brings sent (filter two ls) bag)))
              ∙ ap (brings sent (filter one ls)) (idle (brings sent (filter two ls) bag))
          right true false = idle (brings sent (filter one ls) (brings sent (filter two ls) bag))
          right false true = ap (brings sent (filter one ls)) (idle (brings sent (filter two ls) bag))
          right false false = refl
