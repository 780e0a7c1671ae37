-- Declared names: what stands for a port is declared in the scope of its model.
use Rattle.std.proofs.Common.{◌≡◌, ℕ, ◌==◌, Bool, true, false, arith, ◌||◌, if◌then◌else◌, List, [], ◌∷◌, ◌++◌, refl, ◌∙◌, Option, Some}
use Rattle.std.proofs.lemmas.List.Folds.{list_any-append}
use Rattle.dv_syntax.specs.declared.tree.Name.{Name}
use Rattle.dv_syntax.specs.declared.tree.Declaration.{Declaration}
use Rattle.dv_syntax.specs.declared.tree.Declaration.TheVariants.{In, Out, Var, Flag, Held}
use Rattle.dv_eval.specs.Scope.{inputs_in, is_declared, outputs_in, with_name, with_names}
use Rattle.dv_check.specs.declared.declarations.NameSort.{NameSort}
use Rattle.dv_check.specs.declared.declarations.NameSort.TheVariants.{Variable as ForVariable, Flag as ForFlag, Held as ForHeld}
use Rattle.dv_check.specs.declared.declarations.NameSort.TheVariants.{Input as ForInput, Output as ForOutput}
use Rattle.dv_check.specs.Couplings.{is_input, is_output}
use Rattle.dv_check.specs.Rules.{sort_in}
use Rattle.dv_check.specs.Names.{first_of}

or_left : (a b : Bool) → a ≡ true → (a || b) ≡ true
or_left a b e = rw e refl

or_right : (a b : Bool) → b ≡ true → (a || b) ≡ true
or_right true b e = refl
or_right false b e = e

-- a declared name stays declared
in_front : (q : ℕ) (names more : List ℕ) → is_declared q names ≡ true → is_declared q (names ++ more) ≡ true
in_front q names more e = list_any-append (λ n. n == q) names more ∙ or_left (is_declared q names) (is_declared q more) e

keeps_if : (b : Bool) (q : ℕ) (names more : List ℕ) → is_declared q names ≡ true → is_declared q (if b then names else names ++ more) ≡ true
keeps_if true q names more e = e
keeps_if false q names more e = in_front q names more e

pub stays_declared : (q : ℕ) (names : List ℕ) (more : List Name) → is_declared q names ≡ true → is_declared q (with_names names more) ≡ true
stays_declared q names [] e = e
stays_declared q names (n ∷ more) e =
    stays_declared q (with_name names n) more (keeps_if (is_declared n.number names) q names (n.number ∷ []) e)

-- the last name is declared
last_declared : (q n : ℕ) (names : List ℕ) → (n == q) ≡ true → is_declared q (names ++ n ∷ []) ≡ true
last_declared q n names same = list_any-append (λ m. m == q) names (n ∷ []) ∙ or_right (is_declared q names) _ (or_left (n == q) false same)

pub same_declared : (q n : ℕ) (names : List ℕ) → (n == q) ≡ true → is_declared n names ≡ true → is_declared q names ≡ true
same_declared q n names same there = let is : n ≡ q = grind (arith, same) in rw (← is) there

new_declared_if : (b : Bool) (q n : ℕ) (names : List ℕ) → (n == q) ≡ true → is_declared n names ≡ b
    → is_declared q (if b then names else names ++ n ∷ []) ≡ true
new_declared_if true q n names same there = same_declared q n names same there
new_declared_if false q n names same there = last_declared q n names same

pub new_declared : (q : ℕ) (names : List ℕ) (n : Name) → (n.number == q) ≡ true → is_declared q (with_name names n) ≡ true
new_declared q names n same = new_declared_if (is_declared n.number names) q n.number names same refl

-- a port that stands for an output, or an input, is among the names of such ports
sort_if : (is_sort : Option NameSort → Bool) (b : Bool) (sort : NameSort) (o : Option NameSort) → is_sort (Some sort) ≡ false
    → is_sort (if b then Some sort else o) ≡ true → is_sort o ≡ true
sort_if is_sort true sort o other e = absurd (cc)
sort_if is_sort false sort o other e = e

port_first : (is_sort : Option NameSort → Bool) (sort : NameSort) (o : Option NameSort) (b : Bool) (q : ℕ) (port : Name) (names : List ℕ)
    (ports : List Name) → (port.number == q) ≡ b → is_sort (if b then Some sort else o) ≡ true
    → (is_sort o ≡ true → is_declared q (with_names (with_name names port) ports) ≡ true)
    → is_declared q (with_names (with_name names port) ports) ≡ true
port_first is_sort sort o true q port names ports same e later =
    stays_declared q (with_name names port) ports (new_declared q names port same)
port_first is_sort sort o false q port names ports other e later = later e

module _ (q : ℕ) where
  not_output : (n : Name) (sort : NameSort) (ds : List Declaration) → is_output (Some sort) ≡ false
      → is_output (if n.number == q then Some sort else sort_in ds q) ≡ true → is_output (sort_in ds q) ≡ true
  not_output n sort ds = sort_if is_output (n.number == q) sort (sort_in ds q)

  pub output_declared : (ds : List Declaration) (names : List ℕ) → is_output (sort_in ds q) ≡ true
      → is_declared q (with_names names (outputs_in ds)) ≡ true
  unfolding first_of
  output_declared [] names e = absurd (cc)
  output_declared (In port ∷ ds) names e = output_declared ds names (not_output port ForInput ds refl e)
  output_declared (Out port ∷ ds) names e =
      port_first is_output ForOutput (sort_in ds q) (port.number == q) q port names (outputs_in ds) refl e
      (output_declared ds (with_name names port))
  output_declared (Var v ∷ ds) names e = output_declared ds names (not_output v.name ForVariable ds refl e)
  output_declared (Flag f ∷ ds) names e = output_declared ds names (not_output f.name ForFlag ds refl e)
  output_declared (Held c ∷ ds) names e = output_declared ds names (not_output c.name (ForHeld c.discipline) ds refl e)

  not_input : (n : Name) (sort : NameSort) (ds : List Declaration) → is_input (Some sort) ≡ false
      → is_input (if n.number == q then Some sort else sort_in ds q) ≡ true → is_input (sort_in ds q) ≡ true
  not_input n sort ds = sort_if is_input (n.number == q) sort (sort_in ds q)

  pub input_declared : (ds : List Declaration) (names : List ℕ) → is_input (sort_in ds q) ≡ true
      → is_declared q (with_names names (inputs_in ds)) ≡ true
  unfolding first_of
  input_declared [] names e = absurd (cc)
  input_declared (In port ∷ ds) names e =
      port_first is_input ForInput (sort_in ds q) (port.number == q) q port names (inputs_in ds) refl e
      (input_declared ds (with_name names port))
  input_declared (Out port ∷ ds) names e = input_declared ds names (not_input port ForOutput ds refl e)
  input_declared (Var v ∷ ds) names e = input_declared ds names (not_input v.name ForVariable ds refl e)
  input_declared (Flag f ∷ ds) names e = input_declared ds names (not_input f.name ForFlag ds refl e)
  input_declared (Held c ∷ ds) names e = input_declared ds names (not_input c.name (ForHeld c.discipline) ds refl e)
