-- Parts on cycles: a part's model leads back where the numbers of the two models are the same.
use Rattle.std.proofs.Common.{◌≡◌, ◌↔◌, ⊎_elim, ℕ, zero, suc, ◌+◌, ◌<◌, ◌==◌, Bool, true, false, ◌||◌, List, [], ◌∷◌, ◌++◌}
use Rattle.std.proofs.Common.{length, get_or, map, refl, sym, ap, ◌∙◌, subst, Option, Some, None, eq-eqb, arith}
use Rattle.std.specs.List.{All, AllByRecursion, cons_option, filter_map, flat_map}
use Rattle.std.proofs.lemmas.Bool.{eqb-true, false≢true, ne_eqb, or_cases}
use Rattle.std.proofs.lemmas.List.{length-map}
use Rattle.std.proofs.lemmas.List.Elements.{All-from_recursion, All-get_or, recursion_from_All}
use Rattle.std.proofs.lemmas.Option.{slice_get_within}
use Rattle.dv_cycles.specs.Ways.{IsGraph, has_way, is_in, leads}
use Rattle.dv_cycles.proofs.Ways.{way_edge}
use Rattle.dv_lex.specs.declared.error.RefusalNumber.TheVariants.{E15}
use Rattle.dv_syntax.specs.declared.tree.Part.{Part}
use Rattle.dv_syntax.specs.Trees.{ModelTree, AtomicModel, CoupledModel}
use Rattle.dv_check.specs.Cycles.{Test, containment, cycle_refusal, cycle_refusals, cycle_refusals_from, model_cycle_refusals}
use Rattle.dv_check.specs.Cycles.{models_inside, part_cycle_refusals, position_inside, position_of, positions_inside, same_number}
use Rattle.dv_check.specs.Names.{first_parts, refusal_if}
use Rattle.dv_check.proofs.ModelPositions.{IsFound, IsMissing, named_at}

-- ---- The graph of the models

same_within : (models : List ModelTree) (i k : ℕ) → Some i ≡ Some k → i < length models → k < length models
same_within models i k same within = let e : i ≡ k = cc in omega (arith, e, within)

position_within : (models : List ModelTree) (q k : ℕ) → position_of models q ≡ Some k → k < length models
position_within models q k e = ⊎_elim
    (λ (h : IsMissing models q). let none : None ≡ Some k = sym h.position ∙ e in absurd (cc))
    (λ (h : IsFound models q). same_within models h.index k (sym h.position ∙ e) (slice_get_within models h.index h.model h.there))
    (named_at models q)

all_cons : (P : ℕ → Type 0) (o : Option ℕ) (ks : List ℕ) → ((k : ℕ) → o ≡ Some k → P k) → AllByRecursion P ks
    → AllByRecursion P (cons_option o ks)
all_cons P None ks here rest = rest
all_cons P (Some k) ks here rest = (here k refl, rest)

parts_within : (models : List ModelTree) (n : ℕ) → length models ≡ n → (parts : List Part)
    → AllByRecursion (λ k. k < n) (filter_map (position_inside (position_of models)) parts)
parts_within models n count [] = tt
parts_within models n count (p ∷ parts) =
    let P : ℕ → Type 0 = λ k. k < n in
    all_cons P (position_of models p.model.number) (filter_map (position_inside (position_of models)) parts)
    (λ k e. let within : k < length models = position_within models p.model.number k e in omega (arith, within, count))
    (parts_within models n count parts)

model_within : (models : List ModelTree) (n : ℕ) → length models ≡ n → (m : ModelTree)
    → AllByRecursion (λ k. k < n) (models_inside models m)
model_within models n count (AtomicModel m) = tt
model_within models n count (CoupledModel m) = parts_within models n count (first_parts m.parts)

models_within : (all : List ModelTree) (n : ℕ) → length all ≡ n → (models : List ModelTree)
    → AllByRecursion (All (λ k. k < n)) (map (models_inside all) models)
models_within all n count [] = tt
models_within all n count (m ∷ models) =
    let P : ℕ → Type 0 = λ k. k < n in
    (All-from_recursion P (models_inside all m) (model_within all n count m), models_within all n count models)

-- each model leads to models of the file
is_graph : (models : List ModelTree) → IsGraph (containment models)
unfolding containment
is_graph models =
    let n = length (containment models) in
    let P : List ℕ → Type 0 = All (λ k. k < n) in
    All-from_recursion P (containment models) (models_within models n (sym (length-map models (models_inside models))) models)

-- ---- Two tests that agree

agree_on : (f g : Test) (outer : ℕ) (o : Option ℕ) (offset : ℕ) → ((inner : ℕ) → o ≡ Some inner → f inner outer ≡ g inner outer)
    → cycle_refusal f outer o offset ≡ cycle_refusal g outer o offset
agree_on f g outer None offset same = refl
agree_on f g outer (Some inner) offset same = ap (λ b. refusal_if b E15 offset) (same inner refl)

in_front : (inner k : ℕ) (ks : List ℕ) → k ≡ inner → is_in inner (k ∷ ks) ≡ true
in_front inner k ks e = ap (λ b. b || is_in inner ks) (eq-eqb k inner e)

in_first : (o : Option ℕ) (inner : ℕ) (ks : List ℕ) → o ≡ Some inner → is_in inner (cons_option o ks) ≡ true
in_first None inner ks e = absurd (cc)
in_first (Some k) inner ks e = in_front inner k ks cc

or_true : (b : Bool) → (b || true) ≡ true
or_true true = refl
or_true false = refl

in_rest : (o : Option ℕ) (inner : ℕ) (ks : List ℕ) → is_in inner ks ≡ true → is_in inner (cons_option o ks) ≡ true
in_rest None inner ks e = e
in_rest (Some k) inner ks e = ap (λ b. (k == inner) || b) e ∙ or_true (k == inner)

module _ (f g : Test) (position : ℕ → Option ℕ) where
  agree_on_parts : (outer : ℕ) (parts : List Part)
      → ((inner : ℕ) → is_in inner (filter_map (position_inside position) parts) ≡ true → f inner outer ≡ g inner outer)
      → flat_map (part_cycle_refusals f position outer) parts ≡ flat_map (part_cycle_refusals g position outer) parts
  agree_on_parts outer [] same = refl
  agree_on_parts outer (p ∷ parts) same =
      let o = position p.model.number in
      let ks = filter_map (position_inside position) parts in
      let first = agree_on f g outer o p.model.offset (λ inner e. same inner (in_first o inner ks e)) in
      let rest = agree_on_parts outer parts (λ inner e. same inner (in_rest o inner ks e)) in
      ap (λ rs. rs ++ flat_map (part_cycle_refusals f position outer) parts) first
      ∙ ap (λ rs. part_cycle_refusals g position outer p ++ rs) rest

  agree_on_model : (outer : ℕ) (m : ModelTree)
      → ((inner : ℕ) → is_in inner (positions_inside position m) ≡ true → f inner outer ≡ g inner outer)
      → model_cycle_refusals f position outer m ≡ model_cycle_refusals g position outer m
  agree_on_model outer (AtomicModel m) same = refl
  agree_on_model outer (CoupledModel m) same = agree_on_parts outer (first_parts m.parts) same

  -- what agrees on each model and those inside it agrees on all
  agree : (outer : ℕ) (models : List ModelTree)
      → ((k inner : ℕ) → leads (map (positions_inside position) models) k inner ≡ true → f inner (outer + k) ≡ g inner (outer + k))
      → cycle_refusals_from f position outer models ≡ cycle_refusals_from g position outer models
  agree outer [] same = refl
  agree outer (m ∷ models) same =
      let none : outer + 0 ≡ outer = omega arith in
      let first = agree_on_model outer m (λ inner e. let P : ℕ → Type 0 = λ n. f inner n ≡ g inner n in subst P none (same 0 inner e)) in
      let rest = agree (outer + 1) models (λ k inner e.
      let more : outer + suc k ≡ outer + 1 + k = omega arith in
      let P : ℕ → Type 0 = λ n. f inner n ≡ g inner n in subst P more (same (suc k) inner e)) in
      ap (λ rs. rs ++ cycle_refusals_from f position (outer + 1) models) first
      ∙ ap (λ rs. model_cycle_refusals g position outer m ++ rs) rest

-- ---- Numbers of strong components

same_test : (b : Bool) (x y : ℕ) → (x ≡ y → b ≡ true) → (b ≡ true → x ≡ y) → b ≡ (x == y)
same_test true x y there back = sym (eq-eqb x y (back refl))
same_test false x y there back = sym (ne_eqb x y (λ e. false≢true (there e)))

leads_within : (graph : List (List ℕ)) (u v : ℕ) → leads graph u v ≡ true → u < length graph
leads_within [] u v e = absurd (cc)
leads_within (ns ∷ graph) zero v e = omega arith
leads_within (ns ∷ graph) (suc u) v e = omega (arith, leads_within graph u v e)

in_all : (P : ℕ → Type 0) (v : ℕ) (ks : List ℕ) → AllByRecursion P ks → is_in v ks ≡ true → P v
in_all P v [] all e = absurd (cc)
in_all P v (k ∷ ks) all e = ⊎_elim
    (λ h. let same : k ≡ v = eqb-true k v h in subst P same all.0)
    (λ h. in_all P v ks all.1 h)
    (or_cases (k == v) (is_in v ks) e)

-- numbers that tell which nodes of a graph lead to each other
abbrev pub TellTogether : List (List ℕ) → List ℕ → Type 0
TellTogether graph numbers = (u v : ℕ) → u < length graph → v < length graph
    → (get_or numbers u 0 ≡ get_or numbers v 0) ↔ ((has_way graph u v ≡ true) × (has_way graph v u ≡ true))

-- the model of a part leads back where it has the number of the model around it
tells_back : (graph : List (List ℕ)) (numbers : List ℕ) → IsGraph graph → TellTogether graph numbers → (k inner : ℕ)
    → leads graph k inner ≡ true → has_way graph inner k ≡ same_number numbers inner k
tells_back graph numbers is together k inner edge =
    let P : ℕ → Type 0 = λ n. n < length graph in
    let outside : k < length graph = leads_within graph k inner edge in
    let all = recursion_from_All P (get_or graph k []) (All-get_or (All P) graph k [] outside is) in
    let inside : inner < length graph = in_all P inner (get_or graph k []) all edge in
    let tells = together inner k inside outside in
    same_test (has_way graph inner k) (get_or numbers inner 0) (get_or numbers k 0) (λ e. (tells.0 e).0)
    (λ way. tells.1 (way, way_edge graph k inner edge))

by_numbers : (models : List ModelTree) (numbers : List ℕ) → TellTogether (containment models) numbers
    → cycle_refusals_from (same_number numbers) (position_of models) 0 models ≡ cycle_refusals models
unfolding containment cycle_refusals
by_numbers models numbers together =
    let graph = map (models_inside models) models in
    let f : Test = has_way graph in
    let g : Test = same_number numbers in
    sym (agree f g (position_of models) 0 models (λ k inner e.
    let none : k ≡ 0 + k = omega arith in
    let P : ℕ → Type 0 = λ n. f inner n ≡ g inner n in subst P none (tells_back graph numbers (is_graph models) together k inner e)))

-- ---- What tables know

module _ (models : List ModelTree) (positions : ℕ → Option ℕ) (known : positions ≡ position_of models) where
  -- the graph that is made from the positions of models
  graph_known : (graph : List (List ℕ)) → graph ≡ map (positions_inside positions) models → graph ≡ containment models
  unfolding containment
  graph_known graph made = made ∙ ap (λ f. map (positions_inside f) models) known

  pub is_graph_made : (graph : List (List ℕ)) → graph ≡ map (positions_inside positions) models → IsGraph graph
  is_graph_made graph made = subst IsGraph (sym (graph_known graph made)) (is_graph models)

  pub made_by_numbers : (graph : List (List ℕ)) (numbers : List ℕ) → graph ≡ map (positions_inside positions) models
      → TellTogether graph numbers → cycle_refusals_from (same_number numbers) positions 0 models ≡ cycle_refusals models
  made_by_numbers graph numbers made together =
      let told : TellTogether (containment models) numbers =
      subst (λ g. TellTogether g numbers) (graph_known graph made) together in
      ap (λ f. cycle_refusals_from (same_number numbers) f 0 models) known ∙ by_numbers models numbers told
