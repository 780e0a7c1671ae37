-- Marks for the models that the root of a text leads to, model by model.
use Rattle.std.proofs.Common.{◌≡◌, ℕ, zero, suc, ◌+◌, ◌<◌, ◌⊎◌, inl, inr, Bool, true, false, cond, eqb, List, [], ◌∷◌, ◌++◌}
use Rattle.std.proofs.Common.{length, replicate, set, refl, ap, sym, subst, arith, ◌∙◌}
use Rattle.std.proofs.lemmas.List.{length-map, length-replicate, length-set, length_push}
use Rattle.std.specs.Prelude.{if◌then◌else◌, Option, Some, None, option_map, slice_get, slice_index_or}
use Rattle.dv_syntax.specs.Trees.{ModelTree, FileTree}
use Rattle.dv_syntax.specs.declared.tree.Part.{Part}
use Rattle.dv_eval.specs.Scope.{index_of}
use Rattle.dv_check.specs.Names.{name_of_model}
use Rattle.dv_tree.specs.Reached.{AreMarks, IsReached, AsRoot, AsPart, Marking, has_mark, model_index, parts_inside, with_mark, with_marks}
use Rattle.dv_tree.specs.Tables.{model_names}
use Rattle.dv_tree.proofs.IndexLemmas.{index_of-cons}

-- ---- Indices of a list

abbrev pub IsAmong : ℕ → List ℕ → Type 0
IsAmong q [] = ⊥
IsAmong q (p ∷ ps) = (p ≡ q) ⊎ IsAmong q ps

among_left : (q : ℕ) (xs ys : List ℕ) → IsAmong q xs → IsAmong q (xs ++ ys)
among_left q [] ys a = absurd a
among_left q (x ∷ xs) ys (inl e) = inl e
among_left q (x ∷ xs) ys (inr a) = inr (among_left q xs ys a)

among_last : (q : ℕ) (xs : List ℕ) → IsAmong q (xs ++ q ∷ [])
among_last q [] = inl refl
among_last q (x ∷ xs) = inr (among_last q xs)

among_push : (q : ℕ) (xs : List ℕ) (p : ℕ) → IsAmong q (xs ++ p ∷ []) → IsAmong q xs ⊎ (p ≡ q)
among_push q [] p (inl e) = inr e
among_push q [] p (inr a) = absurd a
among_push q (x ∷ xs) p (inl e) = inl (inl e)
among_push q (x ∷ xs) p (inr a) =
    elim (among_push q xs p a) [
      | inl b ↦ inl (inr b)
      | inr e ↦ inr e
    ]

-- a name has an index within its list
index_within : (n : ℕ) (names : List ℕ) (q : ℕ) → index_of n names ≡ Some q → q < length names
index_within n [] q e = absurd (cc)
index_within n (x ∷ names) q e =
    at (eqb x n) (index_of n names) (index_within n names) q (sym (index_of-cons n x names) ∙ e)
  where
    at : (b : Bool) (o : Option ℕ) → ((r : ℕ) → o ≡ Some r → r < length names) → (r : ℕ) →
        cond b (Some 0) (option_map suc o) ≡ Some r → r < length (x ∷ names)
    at true o below r is = let first : ◌≡◌ {A = ℕ} 0 r = cc in omega arith
    at false None below r is = absurd (cc)
    at false (Some p) below r is = let later : suc p ≡ r = cc in let b = below p refl in omega arith

-- ---- One mark

-- how many have none
abbrev pub unmarked : List Bool → ℕ
unmarked [] = 0
unmarked (true ∷ marks) = unmarked marks
unmarked (false ∷ marks) = suc (unmarked marks)

within_marks : (marks : List Bool) (q : ℕ) → has_mark marks q ≡ true → q < length marks
within_marks [] q e = absurd (cc)
within_marks (b ∷ marks) zero e = omega arith
within_marks (b ∷ marks) (suc q) e = let r = within_marks marks q e in omega arith

none_marked : (n q : ℕ) → has_mark (replicate n false) q ≡ true → ⊥
none_marked zero q e = absurd (cc)
none_marked (suc n) zero e = absurd (cc)
none_marked (suc n) (suc q) e = none_marked n q e

marks_kept : (marks : List Bool) (index q : ℕ) → has_mark marks q ≡ true → has_mark (set marks index true) q ≡ true
marks_kept [] index q e = absurd (cc)
marks_kept (b ∷ marks) zero zero e = refl
marks_kept (b ∷ marks) zero (suc q) e = e
marks_kept (b ∷ marks) (suc index) zero e = e
marks_kept (b ∷ marks) (suc index) (suc q) e = marks_kept marks index q e

marked_here : (marks : List Bool) (index : ℕ) → slice_index_or marks index true ≡ false → has_mark (set marks index true) index ≡ true
marked_here [] index e = absurd (cc)
marked_here (b ∷ marks) zero e = refl
marked_here (b ∷ marks) (suc index) e = marked_here marks index e

marked_before : (marks : List Bool) (index : ℕ) → slice_index_or marks index true ≡ true → index < length marks →
    has_mark marks index ≡ true
marked_before [] index e l = absurd (omega arith)
marked_before (b ∷ marks) zero e l = e
marked_before (b ∷ marks) (suc index) e l = marked_before marks index e (omega arith)

marked_new : (marks : List Bool) (index q : ℕ) → has_mark (set marks index true) q ≡ true → (has_mark marks q ≡ true) ⊎ (index ≡ q)
marked_new [] index q e = absurd (cc)
marked_new (b ∷ marks) zero zero e = inr refl
marked_new (b ∷ marks) zero (suc q) e = inl e
marked_new (b ∷ marks) (suc index) zero e = inl e
marked_new (b ∷ marks) (suc index) (suc q) e =
    elim (marked_new marks index q e) [
      | inl m ↦ inl m
      | inr same ↦ inr (ap suc same)
    ]

one_less : (marks : List Bool) (index : ℕ) → slice_index_or marks index true ≡ false → unmarked (set marks index true) + 1 ≡ unmarked marks
one_less [] index e = absurd (cc)
one_less (true ∷ marks) zero e = absurd (cc)
one_less (false ∷ marks) zero e =
    let one : ◌≡◌ {A = ℕ} (unmarked marks + 1) (suc (unmarked marks)) = omega arith in one
one_less (true ∷ marks) (suc index) e = one_less marks index e
one_less (false ∷ marks) (suc index) e = let r = one_less marks index e in omega arith

-- ---- Marks and more marks

-- how many models have no mark, or have parts that are still to be marked
abbrev pub to_do : Marking → ℕ
to_do m = unmarked m.marks + length m.waiting

-- what has a mark keeps it, and the parts of what has a new one are still to be marked
pub record IsLater (m n : Marking) : Type 0 where
  pub long : length n.marks ≡ length m.marks
  pub kept : (q : ℕ) → has_mark m.marks q ≡ true → has_mark n.marks q ≡ true
  pub waits : (q : ℕ) → IsAmong q m.waiting → IsAmong q n.waiting
  pub new : (q : ℕ) → has_mark n.marks q ≡ true → (has_mark m.marks q ≡ true) ⊎ IsAmong q n.waiting
  pub old : (q : ℕ) → IsAmong q n.waiting → IsAmong q m.waiting ⊎ (has_mark n.marks q ≡ true)
  pub left : to_do n ≡ to_do m

same_later : (m : Marking) → IsLater m m
same_later m =
    record { long = refl; kept = λ q e. e; waits = λ q a. a; new = λ q e. inl e; old = λ q a. inl a; left = refl }

then_later : (l m n : Marking) → IsLater l m → IsLater m n → IsLater l n
then_later l m n one two = record {
  long = two.long ∙ one.long;
  kept = λ q e. two.kept q (one.kept q e);
  waits = λ q a. two.waits q (one.waits q a);
  new = λ q e. elim (two.new q e) [
    | inl before ↦ elim (one.new q before) [
      | inl first ↦ inl first
      | inr waits ↦ inr (two.waits q waits)
    ]
    | inr waits ↦ inr waits
  ];
  old = λ q a. elim (two.old q a) [
    | inl before ↦ elim (one.old q before) [
      | inl first ↦ inl first
      | inr marked ↦ inr (two.kept q marked)
    ]
    | inr marked ↦ inr marked
  ];
  left = two.left ∙ one.left;
}

-- the marks with one more, whose parts are still to be marked
abbrev pub with_new : ℕ → Marking → Marking
with_new index m = record { marks = set m.marks index true; waiting = m.waiting ++ index ∷ [] }

new_later : (index : ℕ) (m : Marking) → slice_index_or m.marks index true ≡ false → IsLater m (with_new index m)
new_later index m e = record {
  long = length-set m.marks index true;
  kept = marks_kept m.marks index;
  waits = λ q a. among_left q m.waiting (index ∷ []) a;
  new = λ q marked. elim (marked_new m.marks index q marked) [
    | inl before ↦ inl before
    | inr same ↦ inr (subst (λ r. IsAmong r (m.waiting ++ index ∷ [])) same (among_last index m.waiting))
  ];
  old = λ q a. elim (among_push q m.waiting index a) [
    | inl before ↦ inl before
    | inr same ↦ inr (subst (λ r. has_mark (set m.marks index true) r ≡ true) same (marked_here m.marks index e))
  ];
  left = omega (arith, one_less m.marks index e, length_push m.waiting index);
}

mark_later : (o : Option ℕ) (m : Marking) → IsLater m (with_mark o m)
mark_later None m = same_later m
mark_later (Some index) m = at (slice_index_or m.marks index true) refl
  where
    at : (b : Bool) → slice_index_or m.marks index true ≡ b → IsLater m (if b then m else with_new index m)
    at true e = same_later m
    at false e = new_later index m e

pub marks_later : (names : List ℕ) (parts : List Part) (m : Marking) → IsLater m (with_marks names parts m)
marks_later names [] m = same_later m
marks_later names (p ∷ parts) m =
    let one = with_mark (index_of p.model.number names) m in
    then_later m one (with_marks names parts one) (mark_later (index_of p.model.number names) m) (marks_later names parts one)

-- nothing else has a mark
mark_only : (P : ℕ → Type 0) (o : Option ℕ) (m : Marking) → ((q : ℕ) → has_mark m.marks q ≡ true → P q) →
    ((q : ℕ) → o ≡ Some q → P q) → (q : ℕ) → has_mark (with_mark o m).marks q ≡ true → P q
mark_only P None m before one q e = before q e
mark_only P (Some index) m before one q e = at (slice_index_or m.marks index true) e
  where
    at : (b : Bool) → has_mark (if b then m else with_new index m).marks q ≡ true → P q
    at true marked = before q marked
    at false marked =
        elim (marked_new m.marks index q marked) [
          | inl first ↦ before q first
          | inr same ↦ one q (ap Some same)
        ]

marks_only : (P : ℕ → Type 0) (names : List ℕ) (parts : List Part) (m : Marking) → ((q : ℕ) → has_mark m.marks q ≡ true → P q) →
    ((k : ℕ) (p : Part) (q : ℕ) → slice_get parts k ≡ Some p → index_of p.model.number names ≡ Some q → P q) →
    (q : ℕ) → has_mark (with_marks names parts m).marks q ≡ true → P q
marks_only P names [] m before each q e = before q e
marks_only P names (p ∷ parts) m before each q e =
    marks_only P names parts (with_mark (index_of p.model.number names) m)
    (mark_only P (index_of p.model.number names) m before (λ r is. each zero p r refl is))
    (λ k. each (suc k)) q e

-- the model at the index has one
mark_there : (o : Option ℕ) (m : Marking) (q : ℕ) → o ≡ Some q → q < length m.marks → has_mark (with_mark o m).marks q ≡ true
mark_there None m q e l = absurd (cc)
mark_there (Some index) m q e l =
    let same : q ≡ index = cc in
    subst (λ r. has_mark (with_mark (Some index) m).marks r ≡ true) (sym same)
    (at (slice_index_or m.marks index true) refl (subst (λ r. r < length m.marks) same l))
  where
    at : (b : Bool) → slice_index_or m.marks index true ≡ b → index < length m.marks →
        has_mark (if b then m else with_new index m).marks index ≡ true
    at true e l = marked_before m.marks index e l
    at false e l = marked_here m.marks index e

marks_there : (names : List ℕ) (parts : List Part) (m : Marking) → length names ≡ length m.marks →
    (k : ℕ) (p : Part) (q : ℕ) → slice_get parts k ≡ Some p → index_of p.model.number names ≡ Some q →
    has_mark (with_marks names parts m).marks q ≡ true
marks_there names [] m long k p q there named = absurd (cc)
marks_there names (x ∷ parts) m long zero p q there named =
    let same : x ≡ p = cc in
    let o = index_of x.model.number names in
    let is : o ≡ Some q = ap (λ (y : Part). index_of y.model.number names) same ∙ named in
    let l = index_within x.model.number names q is in
    (marks_later names parts (with_mark o m)).kept q (mark_there o m q is (omega arith))
marks_there names (x ∷ parts) m long (suc k) p q there named =
    let o = index_of x.model.number names in
    marks_there names parts (with_mark o m) (long ∙ sym (mark_later o m).long) k p q there named

-- ---- What holds between the steps

-- the models of the parts of the model at an index have marks
abbrev pub HasMarkedParts : FileTree → List Bool → ℕ → Type 0
HasMarkedParts f marks q =
    (x : ModelTree) (k : ℕ) (p : Part) (r : ℕ) → slice_get f.models q ≡ Some x → slice_get (parts_inside x) k ≡ Some p →
    model_index f p.model.number ≡ Some r → has_mark marks r ≡ true

-- the root has a mark and nothing has one that it does not lead to; what has marked parts, or waits for them, has a mark itself
pub record IsMarking (f : FileTree) (m : Marking) : Type 0 where
  pub long : length m.marks ≡ length f.models
  pub reached : (q : ℕ) → has_mark m.marks q ≡ true → IsReached f q
  pub root : (q : ℕ) → model_index f f.root.number ≡ Some q → has_mark m.marks q ≡ true
  pub waits : (q : ℕ) → IsAmong q m.waiting → has_mark m.marks q ≡ true
  pub closed : (q : ℕ) → has_mark m.marks q ≡ true → IsAmong q m.waiting ⊎ HasMarkedParts f m.marks q

module _ (f : FileTree) where
  abbrev names : List ℕ
  names = model_names f.models

  many : length names ≡ length f.models
  many = length-map f.models (λ m. (name_of_model m).number)

  abbrev unmarked_all : Marking
  unmarked_all = record { marks = replicate (length f.models) false; waiting = [] }

  -- the root alone has a mark
  pub marking_start : IsMarking f (with_mark (model_index f f.root.number) unmarked_all)
  marking_start =
      let o = model_index f f.root.number in
      let later = mark_later o unmarked_all in
      let size = length-replicate (length f.models) false in record {
        long = later.long ∙ size;
        reached = mark_only (IsReached f) o unmarked_all (λ q e. absurd (none_marked (length f.models) q e)) (λ q e. AsRoot e);
        root = λ q e. mark_there o unmarked_all q e (let l = index_within f.root.number names q e in omega (arith, size, many));
        waits = λ q a. elim (later.old q a) [
          | inl before ↦ absurd before
          | inr marked ↦ marked
        ];
        closed = λ q e. elim (later.new q e) [
          | inl before ↦ absurd (none_marked (length f.models) q before)
          | inr waits ↦ inl waits
        ];
      }

  -- what waits is the index of a model
  pub waits_within : (m : Marking) (rest : List ℕ) (index : ℕ) → IsMarking f m → m.waiting ≡ rest ++ index ∷ [] →
      index < length f.models
  waits_within m rest index is waiting =
      let within : index < length m.marks =
      within_marks m.marks index (is.waits index (subst (IsAmong index) (sym waiting) (among_last index rest))) in
      omega (arith, within, is.long)

  -- the parts of one that waited are marked
  pub marking_step : (m : Marking) (rest : List ℕ) (index : ℕ) (x : ModelTree) → IsMarking f m → m.waiting ≡ rest ++ index ∷ [] →
      slice_get f.models index ≡ Some x →
      IsMarking f (with_marks names (parts_inside x) (record { marks = m.marks; waiting = rest }))
  marking_step m rest index x is waiting there =
      let from : Marking = record { marks = m.marks; waiting = rest } in
      let later = marks_later names (parts_inside x) from in
      let had : (q : ℕ) → IsAmong q (rest ++ index ∷ []) → has_mark m.marks q ≡ true =
      λ q a. is.waits q (subst (IsAmong q) (sym waiting) a) in record {
        long = later.long ∙ is.long;
        reached = marks_only (IsReached f) names (parts_inside x) from is.reached
            (λ k p q part named. AsPart x k p (is.reached index (had index (among_last index rest))) there part named);
        root = λ q e. later.kept q (is.root q e);
        waits = λ q a. elim (later.old q a) [
          | inl before ↦ later.kept q (had q (among_left q rest (index ∷ []) before))
          | inr marked ↦ marked
        ];
        closed = λ q e. elim (later.new q e) [
          | inl before ↦ elim (is.closed q before) [
            | inl waited ↦ elim (among_push q rest index (subst (IsAmong q) waiting waited)) [
              | inl still ↦ inl (later.waits q still)
              | inr same ↦ inr (subst (HasMarkedParts f (with_marks names (parts_inside x) from).marks) same
                  (λ y k p r y_there part named.
                  let y_is : x ≡ y = cc in
                  marks_there names (parts_inside x) from (many ∙ sym is.long) k p r
                  (ap (λ (z : ModelTree). slice_get (parts_inside z) k) y_is ∙ part) named))
            ]
            | inr marked ↦ inr (λ y k p r y_there part named. later.kept r (marked y k p r y_there part named))
          ]
          | inr waited ↦ inl waited
        ];
      }

  -- where none waits, the marked models are those that the root leads to
  module _ (m : Marking) (is : IsMarking f m) (done : m.waiting ≡ []) where
    reached_marked : {q : ℕ} → IsReached f q → has_mark m.marks q ≡ true
    reached_marked {q = q} (AsRoot e) = is.root q e
    reached_marked {q = q} (AsPart {outer = outer} x k p above there part named) =
        elim (is.closed outer (reached_marked above)) [
          | inl waits ↦ absurd (subst (IsAmong outer) done waits)
          | inr marked ↦ marked x k p q there part named
        ]

    pub marking_done : AreMarks f m.marks
    marking_done = λ q. (is.reached q, λ r. reached_marked r)
