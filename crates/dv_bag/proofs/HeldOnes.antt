-- Collections among the data of a state.
use Rattle.std.proofs.Common.{◌≡◌, ℕ, ◌<◌, ◌≤◌, true, List, ℤ, [], ◌∷◌, length-append, get_or, set}
use Rattle.std.proofs.Common.{Result, Ok, Err, OnOk, OnErr, ◌∙◌, sym, ap, refl, arith}
use Rattle.std.proofs.lemmas.Option.{get_or_from_slice_get}
use Rattle.dv_bag.specs.Collections.{count_in, edited, makes_more, without_first}
use Rattle.dv_bag.specs.Reading.{HasHeldAt, held_at}
use Rattle.dv_bag.specs.declared.collection.Collection.{Collection}
use Rattle.dv_bag.specs.declared.collection.Collection.TheVariants as collection
use Rattle.dv_bag.specs.declared.discipline.Change.{Change}
use Rattle.dv_bag.specs.declared.discipline.Change.TheVariants as change
use Rattle.dv_bag.specs.declared.state.Datum.{Datum}
use Rattle.dv_bag.specs.declared.state.Datum.TheVariants as datum
use Rattle.dv_bag.proofs.Monoid.{total_with, total_without}

-- what stands at the index of a collection is that collection, and an edit of it is an edit at that index
module _ (contents items : List Datum) (i : ℕ) (element d : Datum) (view : items ≡ contents) (seen : element ≡ get_or items i d)
    (there : HasHeldAt i contents) where
  stands : element ≡ datum.Held (held_at contents i)
  stands =
      seen ∙ ap (λ (xs : List Datum). get_or xs i d) view ∙ get_or_from_slice_get contents i (datum.Held (held_at contents i)) d there

  pub no_other : ((c : Collection) → element ≡ datum.Held c → ⊥) → ⊥
  no_other none = none (held_at contents i) stands

  pub held : (c : Collection) → element ≡ datum.Held c → c ≡ held_at contents i
  held c is = let same : datum.Held c ≡ datum.Held (held_at contents i) = sym is ∙ stands in cc

  pub edited_at : (edit : Collection → Collection) (c new : Collection) → element ≡ datum.Held c → new ≡ edit c
      → set items i (datum.Held new) ≡ set contents i (datum.Held (edit (held_at contents i)))
  edited_at edit c new is by =
      ap (λ (xs : List Datum). set xs i (datum.Held new)) view
      ∙ ap (λ (c : Collection). set contents i (datum.Held c)) (by ∙ ap edit (held c is))

-- with a value more a collection that was not full is at most full, and with one less it is as full at most
pub edited_few : (n : ℕ) (c : Change) (v : ℤ) (x : Collection) → count_in x ≤ n → (makes_more c ≡ true → count_in x < n)
    → count_in (edited c v x) ≤ n
edited_few n change.Add v (collection.Bag b) few room = let more = total_with v 1 b in let less = room refl in omega (arith, more.1, less)
edited_few n change.Drop v (collection.Bag b) few room = let fewer = total_without v b in omega (arith, fewer, few)
edited_few n change.Push v (collection.Bag b) few room = few
edited_few n change.Add v (collection.Queue q) few room = few
edited_few n change.Drop v (collection.Queue q) few room = few
edited_few n change.Push v (collection.Queue q) few room =
    let long = length-append q (v ∷ []) in let less = room refl in omega (arith, long, less)

-- the same of an edit that may find no memory
pub edit_few : {E : Type 0} (n : ℕ) (c : Change) (v : ℤ) (x new : Collection) (r : Result (Unit {0}) E) → count_in x ≤ n
    → (makes_more c ≡ true → count_in x < n) → OnOk r (new ≡ edited c v x) → OnErr r (new ≡ x) → count_in new ≤ n
edit_few n c v x new (Ok done) few room ok err = rw ok (edited_few n c v x few room)
edit_few n c v x new (Err e) few room ok err = rw err few

-- without its first value a queue is as full at most
pub without_first_few : (n : ℕ) (x : Collection) → count_in x ≤ n → count_in (without_first x) ≤ n
without_first_few n (collection.Bag b) few = few
without_first_few n (collection.Queue []) few = few
without_first_few n (collection.Queue (v ∷ q)) few = omega (arith, few)
