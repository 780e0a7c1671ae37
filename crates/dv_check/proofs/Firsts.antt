-- Directories, one value more at a time.
use Rattle.std.proofs.Common.{◌≡◌, ℕ, ◌+◌, ◌<◌, ◌==◌, Bool, true, false, if◌then◌else◌, option_map, List, [], ◌∷◌, ◌++◌, length}
use Rattle.std.proofs.Common.{get_or, take, map, refl, sym, ap, ◌∙◌, Option, Some, None}
use Rattle.std.proofs.Math.Path.{fun_ext}
use Rattle.std.specs.Option.{option_or}
use Rattle.std.proofs.lemmas.List.{take_more, get_or_default, map-append, map-id}
use Rattle.dv_syntax.specs.declared.tree.Part.{Part}
use Rattle.dv_syntax.specs.Trees.{ModelTree}
use Rattle.dv_check.specs.declared.directory.Directory.{Directory}
use Rattle.dv_check.specs.declared.declarations.NameSort.{NameSort}
use Rattle.dv_check.specs.Names.{first_of, model_named, name_of_model, part_named}
use Rattle.dv_check.specs.Models.{face_of, faces_by, faces_in}
use Rattle.dv_check.specs.Couplings.{parts_in}
use Rattle.dv_check.specs.Tables.{value_for, no_value, with_first}

or_if : {V : Type 0} (b : Bool) (v : V) (o p : Option V) → (if b then Some v else option_or o p) ≡ option_or (if b then Some v else o) p
or_if true v o p = refl
or_if false v o p = refl

pub first_of_push : {X V : Type 0} (number : X → ℕ) (value : X → V) (xs : List X) (x : X) (q : ℕ)
    → first_of number value (xs ++ x ∷ []) q
    ≡ option_or (first_of number value xs q) (if number x == q then Some (value x) else None)
unfolding first_of
first_of_push number value [] x q = refl
first_of_push number value (y ∷ ys) x q =
    ap (λ o. if number y == q then Some (value y) else o) (first_of_push number value ys x q)
    ∙ or_if (number y == q) (value y) (first_of number value ys q) (if number x == q then Some (value x) else None)

pub first_of_none : {X V : Type 0} (number : X → ℕ) (value : X → V) → first_of number value [] ≡ no_value
unfolding first_of no_value
first_of_none number value = refl

first_of_more : {X Y V : Type 0} (number : Y → ℕ) (value : Y → V) (g : X → Y) (xs : List X) (i : ℕ) (d : X) → i < length xs
    → first_of number value (map g (take (i + 1) xs))
    ≡ with_first (first_of number value (map g (take i xs))) (number (g (get_or xs i d))) (value (g (get_or xs i d)))
unfolding with_first
first_of_more number value g xs i d h =
    ap (λ ys. first_of number value (map g ys)) (take_more xs i d h)
    ∙ (ap (first_of number value) (map-append g (take i xs) (get_or xs i d ∷ []))
    ∙ fun_ext (λ q. first_of_push number value (map g (take i xs)) (g (get_or xs i d)) q))

-- a step of a loop that adds the elements in turn
pub first_of_step : {X Y V : Type 0} (number : Y → ℕ) (value : Y → V) (g : X → Y) (xs : List X) (i : ℕ) (x : X)
    (before after : ℕ → Option V) (n : ℕ) (v : V)
    → i < length xs → x ≡ get_or xs i x → n ≡ number (g x) → v ≡ value (g x) → before ≡ first_of number value (map g (take i xs))
    → after ≡ with_first before n v → after ≡ first_of number value (map g (take (i + 1) xs))
first_of_step number value g xs i x before after n v h is by_number by_value so_far step =
    step
    ∙ (ap (λ f. with_first f n v) so_far
    ∙ (ap (λ k. with_first (first_of number value (map g (take i xs))) k v) (by_number ∙ ap (λ y. number (g y)) is)
    ∙ (ap (with_first (first_of number value (map g (take i xs))) (number (g (get_or xs i x)))) (by_value ∙ ap (λ y. value (g y)) is)
    ∙ sym (first_of_more number value g xs i x h))))

-- the parts of a coupled model
abbrev itself : {A : Type 0} → A → A
itself x = x

abbrev part_number : Part → ℕ
part_number p = p.name.number

part_at : (parts : List Part) (q : ℕ) → first_of part_number itself parts q ≡ part_named q parts
unfolding first_of
part_at [] q = refl
part_at (p ∷ parts) q = ap (λ o. if p.name.number == q then Some p else o) (part_at parts q)

parts_first : (parts : List Part) → first_of part_number itself parts ≡ parts_in parts
unfolding parts_in
parts_first parts = fun_ext (λ q. part_at parts q)

pub parts_none : parts_in [] ≡ no_value
unfolding parts_in no_value
parts_none = refl

-- the models by what they show outside
abbrev model_number : ModelTree → ℕ
model_number m = (name_of_model m).number

face_at : (b : Bool) (m : ModelTree) (o : Option ModelTree)
    → (if b then Some (face_of m) else option_map face_of o) ≡ option_map face_of (if b then Some m else o)
face_at true m o = refl
face_at false m o = refl

faces_at : (models : List ModelTree) (q : ℕ) → first_of model_number face_of models q ≡ option_map face_of (model_named q models)
unfolding first_of
faces_at [] q = refl
faces_at (m ∷ models) q =
    ap (λ o. if model_number m == q then Some (face_of m) else o) (faces_at models q)
    ∙ face_at (model_number m == q) m (model_named q models)

faces_first : (models : List ModelTree) → first_of model_number face_of models ≡ faces_in models
unfolding faces_in
faces_first models = fun_ext (λ q. faces_at models q)

-- nothing is known of the models at first
pub faces_none : (faces : Directory (Directory NameSort)) → value_for faces ≡ no_value → faces_by faces ≡ faces_in []
unfolding faces_by faces_in no_value
faces_none faces e = ap (λ (f : ℕ → Option (Directory NameSort)). λ (q : ℕ). option_map value_for (f q)) e

map_or : {A B : Type 0} (f : A → B) (b : Bool) (v : A) (o : Option A)
    → option_map f (option_or o (if b then Some v else None)) ≡ option_or (option_map f o) (if b then Some (f v) else None)
map_or f b v (Some x) = refl
map_or f true v None = refl
map_or f false v None = refl

faces_more : (faces more : Directory (Directory NameSort)) (number : ℕ) (face : Directory NameSort)
    → value_for more ≡ with_first (value_for faces) number face → faces_by more ≡ with_first (faces_by faces) number (value_for face)
unfolding faces_by with_first
faces_more faces more number face e =
    fun_ext (λ q. ap (λ f. option_map value_for (f q)) e ∙ map_or value_for (number == q) face (value_for faces q))

module _ {X : Type 0} (xs : List X) (i : ℕ) (x : X) (within : i < length xs) (is : x ≡ get_or xs i x) where
  -- one model more
  pub faces_step : (g : X → ModelTree) (faces more : Directory (Directory NameSort)) (number : ℕ) (face : Directory NameSort)
      → number ≡ model_number (g x) → value_for face ≡ face_of (g x) → faces_by faces ≡ faces_in (map g (take i xs))
      → value_for more ≡ with_first (value_for faces) number face → faces_by more ≡ faces_in (map g (take (i + 1) xs))
  faces_step g faces more number face by_number by_face so_far step =
      first_of_step model_number face_of g xs i x (faces_by faces) (faces_by more) number (value_for face) within is by_number by_face
      (so_far ∙ sym (faces_first (map g (take i xs)))) (faces_more faces more number face step)
      ∙ faces_first (map g (take (i + 1) xs))

-- a step of a loop over the elements themselves
pub first_of_step_plain : {X V : Type 0} (number : X → ℕ) (value : X → V) (xs : List X) (i : ℕ) (d : X)
    (before after : ℕ → Option V) (n : ℕ) (v : V)
    → i < length xs → n ≡ number (get_or xs i d) → v ≡ value (get_or xs i d) → before ≡ first_of number value (take i xs)
    → after ≡ with_first before n v → after ≡ first_of number value (take (i + 1) xs)
first_of_step_plain number value xs i d before after n v h by_number by_value so_far step =
    first_of_step number value (λ x. x) xs i (get_or xs i d) before after n v h (get_or_default xs i d (get_or xs i d) h)
    by_number by_value (so_far ∙ ap (first_of number value) (sym (map-id (take i xs)))) step
    ∙ ap (first_of number value) (map-id (take (i + 1) xs))

-- one part more
pub parts_step : (xs : List Part) (i : ℕ) (d : Part) (before after : ℕ → Option Part) (n : ℕ) (v : Part) → i < length xs
    → n ≡ part_number (get_or xs i d) → v ≡ get_or xs i d → before ≡ parts_in (take i xs) → after ≡ with_first before n v
    → after ≡ parts_in (take (i + 1) xs)
parts_step xs i d before after n v h by_number by_value so_far step =
    first_of_step_plain part_number itself xs i d before after n v h by_number by_value (so_far ∙ sym (parts_first (take i xs))) step
    ∙ parts_first (take (i + 1) xs)

-- and of one over owned elements, which are added by themselves
pub first_of_step_itself : {X V : Type 0} (number : X → ℕ) (value : X → V) (xs : List X) (i : ℕ) (x : X)
    (before after : ℕ → Option V) (n : ℕ) (v : V)
    → i < length xs → x ≡ get_or xs i x → n ≡ number x → v ≡ value x → before ≡ first_of number value (take i xs)
    → after ≡ with_first before n v → after ≡ first_of number value (take (i + 1) xs)
first_of_step_itself number value xs i x before after n v h is by_number by_value so_far step =
    first_of_step_plain number value xs i x before after n v h (by_number ∙ ap number is) (by_value ∙ ap value is) so_far step
