-- The components by number are those of the text, each with its path and the index of its model.
use Rattle.std.proofs.Common.{◌≡◌, ℕ, zero, suc, ◌+◌, ◌<◌, List, [], ◌∷◌, ◌++◌, length, map, get_or, refl, ap, sym, ◌∙◌, subst, arith}
use Rattle.std.specs.Prelude.{Option, Some, None, option_map, slice_get}
use Rattle.std.specs.Borrow.{Bor}
use Rattle.std.proofs.lemmas.List.{get_or-map, length-append, length-map}
use Rattle.std.proofs.lemmas.Option.{slice_get-map, slice_get_within, get_or_from_slice_get}
use Rattle.dv_syntax.specs.Trees.{ModelTree, AtomicModel, AtomicTree, CoupledTree, FileTree, atomic_of, file_of, model_of}
use Rattle.dv_syntax.specs.declared.tree.Atomic.{Atomic}
use Rattle.dv_syntax.specs.declared.tree.Model.{Model}
use Rattle.dv_syntax.specs.declared.tree.Model.TheVariants as model
use Rattle.dv_eval.specs.Scope.{Scope, scope_of}
use Rattle.dv_check.specs.declared.checked.Checked.{Checked}
use Rattle.dv_check.specs.Tree.{PartTree, NoParts, AtomicPart, CoupledPart, component_count}
use Rattle.dv_check.specs.Limits.{greatest_depth}
use Rattle.dv_tree.specs.Instances.{Instance, instances_in, instances, root_of, tree_in}
use Rattle.dv_tree.specs.Tables.{Source, level_of, levels_of, scope_of_model, scopes_of}
use Rattle.dv_tree.specs.Reached.{AreReached, borrowed, borrowed_models, text_of_reached}
use Rattle.dv_tree.specs.Nodes.{Nodes, components_in, components_of_root, components_of}
use Rattle.dv_tree.proofs.ReachedModels.{root_tree_same}
use Rattle.dv_tree.proofs.Mirrors.{Mirrors, none, atomic, coupled, mirrors_to}

-- a component of the tables is one of the text
pub record IsNamed (models : List ModelTree) (c : List ℕ × ℕ) (i : Instance) : Type 0 where
  pub path : c.0 ≡ i.path
  pub model : slice_get models c.1 ≡ Some (AtomicModel i.model)

pub data AreNamed (models : List ModelTree) : List (List ℕ × ℕ) → List Instance → Type 0 where
  no_more : AreNamed models [] []
  one_more : {c : List ℕ × ℕ} {i : Instance} {cs : List (List ℕ × ℕ)} {is : List Instance} → IsNamed models c i →
      AreNamed models cs is → AreNamed models (c ∷ cs) (i ∷ is)

named_append : {models : List ModelTree} {cs ds : List (List ℕ × ℕ)} {is js : List Instance} →
    AreNamed models cs is → AreNamed models ds js → AreNamed models (cs ++ ds) (is ++ js)
named_append no_more more = more
named_append (one_more h rest) more = one_more h (named_append rest more)

pub length-named : {models : List ModelTree} {cs : List (List ℕ × ℕ)} {is : List Instance} → AreNamed models cs is →
    length cs ≡ length is
length-named no_more = refl
length-named (one_more h rest) = ap suc (length-named rest)

pub all_named : {models : List ModelTree} {t : PartTree} {n : Nodes} (path : List ℕ) → Mirrors models t n →
    AreNamed models (components_in path n) (instances_in path t)
all_named path none = no_more
all_named path (atomic name m index there rest) = one_more (record { path = refl; model = there }) (all_named path rest)
all_named path (coupled name m inside rest) = named_append (all_named (path ++ name.number ∷ []) inside) (all_named path rest)

root_named : (models : List ModelTree) (root : Option CoupledTree) →
    AreNamed models (components_of_root (levels_of models) (option_map (level_of models) root)) (instances_in [] (tree_in models root))
root_named models None = no_more
root_named models (Some m) = all_named [] (mirrors_to greatest_depth models m)

-- what is kept of a checked text: the models that the root leads to
module _ (checked : Checked) (models : List (Bor Model)) (s : Source)
    (view : record { file = checked.file; names = checked.names; reached = borrowed models } ≡ s)
    (h : AreReached (file_of checked.file) (borrowed_models models)) (components : List (List ℕ × ℕ))
    (are : components ≡ components_of (text_of_reached (file_of checked.file) (borrowed_models models))) where
  pub tree_named : AreNamed (borrowed_models models) components (instances (file_of s.file))
  tree_named =
      let f = file_of checked.file in
      let reached = borrowed_models models in
      let Named : Source → Type 0 = λ x. AreNamed reached components (instances (file_of x.file)) in
      let Tables : List (List ℕ × ℕ) → Type 0 = λ cs. AreNamed reached cs (instances f) in
      let Trees : PartTree → Type 0 = λ t. AreNamed reached (components_of (text_of_reached f reached)) (instances_in [] t) in
      subst Named view
      (subst Tables (sym are) (subst Trees (root_tree_same f reached h) (root_named reached (root_of (text_of_reached f reached)))))

-- as many components as the tree has
pub length-instances_in : (path : List ℕ) (t : PartTree) → length (instances_in path t) ≡ component_count t
length-instances_in path NoParts = refl
length-instances_in path (AtomicPart name m rest) = ap suc (length-instances_in path rest)
length-instances_in path (CoupledPart name m inside rest) =
    length-append (instances_in (path ++ name.number ∷ []) inside) (instances_in path rest)
    ∙ (ap (λ k. k + length (instances_in path rest)) (length-instances_in (path ++ name.number ∷ []) inside)
    ∙ ap (λ k. component_count inside + k) (length-instances_in path rest))

-- a component by its number
pub record IsComponent (models : List ModelTree) (cs : List (List ℕ × ℕ)) (is : List Instance) (k : ℕ) : Type 0 where
  pub component : List ℕ × ℕ
  pub instance : Instance
  pub kept : slice_get cs k ≡ Some component
  pub shown : slice_get is k ≡ Some instance
  pub named : IsNamed models component instance

component_at : {models : List ModelTree} {cs : List (List ℕ × ℕ)} {is : List Instance} (k : ℕ) → AreNamed models cs is →
    k < length is → IsComponent models cs is k
component_at k no_more within = absurd (omega arith)
component_at zero (one_more {c = c} {i = i} h rest) within =
    record { component = c; instance = i; kept = refl; shown = refl; named = h }
component_at (suc k) (one_more h rest) within =
    let is = component_at k rest (omega arith) in
    record { component = is.component; instance = is.instance; kept = is.kept; shown = is.shown; named = is.named }

-- the atomic model of the code at an index
pub record HasAtomic (models : List Model) (index : ℕ) (m : AtomicTree) : Type 0 where
  pub atomic : Atomic
  pub there : slice_get models index ≡ Some (model.Atomic atomic)
  pub shows : atomic_of atomic ≡ m

has_atomic : (models : List Model) (index : ℕ) (m : AtomicTree) → slice_get (map model_of models) index ≡ Some (AtomicModel m) →
    HasAtomic models index m
has_atomic [] index m e = absurd (cc)
has_atomic (model.Atomic a ∷ models) zero m e = record { atomic = a; there = refl; shows = cc }
has_atomic (model.Coupled a ∷ models) zero m e = absurd (cc)
has_atomic (x ∷ models) (suc index) m e =
    let rest = has_atomic models index m e in
    record { atomic = rest.atomic; there = rest.there; shows = rest.shows }

-- the index in the text of a model that is kept
pub record IsResolvedIn (models : List ModelTree) (indices : List ℕ) (k : ℕ) (m : ModelTree) : Type 0 where
  pub index : ℕ
  pub kept : slice_get indices k ≡ Some index
  pub there : slice_get models index ≡ Some m

resolved_in : (models : List ModelTree) (indices : List ℕ) (reached : List ModelTree) (k : ℕ) (m : ModelTree) →
    map (slice_get models) indices ≡ map Some reached → slice_get reached k ≡ Some m → IsResolvedIn models indices k m
resolved_in models indices [] k m are e = absurd (cc)
resolved_in models [] (x ∷ reached) k m are e = absurd (cc)
resolved_in models (p ∷ indices) (x ∷ reached) zero m are e =
    let first : slice_get models p ≡ Some x = cc in
    let same : x ≡ m = cc in record { index = p; kept = refl; there = first ∙ ap Some same }
resolved_in models (p ∷ indices) (x ∷ reached) (suc k) m are e =
    let rest : map (slice_get models) indices ≡ map Some reached = cc in
    let is = resolved_in models indices reached k m rest e in record { index = is.index; kept = is.kept; there = is.there }

-- what the tables of a text have of a component
pub record IsFound (f : FileTree) (models : List (Bor Model)) (indices : List ℕ) (is : List Instance) (components : List (List ℕ × ℕ))
    (scopes : List Scope) (k : ℕ) : Type 0 where
  pub path : List ℕ
  pub index : ℕ
  pub index_in_text : ℕ
  pub atomic : Atomic
  pub component : slice_get components k ≡ Some (path, index)
  pub scope : slice_get scopes index ≡ Some (scope_of (atomic_of atomic))
  pub there : slice_get (borrowed models) index ≡ Some (model.Atomic atomic)
  pub resolved : slice_get indices index ≡ Some index_in_text
  pub in_text : slice_get f.models index_in_text ≡ Some (AtomicModel (atomic_of atomic))
  pub shown : slice_get is k ≡ Some (record { path = path; model = atomic_of atomic })

pub found : (checked : Checked) (models : List (Bor Model)) (indices : List ℕ) (s : Source) (components : List (List ℕ × ℕ))
    (scopes : List Scope) (k : ℕ) →
    record { file = checked.file; names = checked.names; reached = borrowed models } ≡ s →
    AreReached (file_of checked.file) (borrowed_models models) →
    map (slice_get (file_of checked.file).models) indices ≡ map Some (borrowed_models models) →
    components ≡ components_of (text_of_reached (file_of checked.file) (borrowed_models models)) →
    scopes ≡ scopes_of (text_of_reached (file_of checked.file) (borrowed_models models)) → k < length (instances (file_of s.file)) →
    IsFound (file_of checked.file) models indices (instances (file_of s.file)) components scopes k
found checked models indices s components scopes k view h indices_are components_are scopes_are within =
    let f = file_of checked.file in
    let reached = borrowed_models models in
    let is = component_at k (tree_named checked models s view h components components_are) within in
    let at = is.component.1 in
    let has = has_atomic (borrowed models) at is.instance.model is.named.model in
    let resolved = resolved_in f.models indices reached at (AtomicModel is.instance.model) indices_are is.named.model in
    let kept : List ℕ → Option (List ℕ × ℕ) = λ p. Some (p, at) in
    record {
      path = is.instance.path;
      index = at;
      index_in_text = resolved.index;
      atomic = has.atomic;
      component = is.kept ∙ ap kept is.named.path;
      scope =
          ap (λ ss. slice_get ss at) scopes_are
          ∙ (slice_get-map scope_of_model reached at
          ∙ (ap (option_map scope_of_model) is.named.model ∙ ap (λ m. Some (scope_of m)) (sym has.shows)));
      there = has.there;
      resolved = resolved.kept;
      in_text = resolved.there ∙ ap (λ m. Some (AtomicModel m)) (sym has.shows);
      shown = is.shown ∙ ap (λ m. Some (record { path = is.instance.path; model = m })) (sym has.shows);
    }

-- what indexing reads
read_is : {X : Type 0} (xs : List X) (i : ℕ) (x y : X) → slice_get xs i ≡ Some x → y ≡ get_or xs i y → y ≡ x
read_is xs i x y there read = read ∙ get_or_from_slice_get xs i x y there

-- what the code reads of a component, of its model and of what that declares
module _ {f : FileTree} {models : List (Bor Model)} {indices : List ℕ} {is : List Instance} {components : List (List ℕ × ℕ)}
    {scopes : List Scope} {k : ℕ} (h : IsFound f models indices is components scopes k) where
  pub within_components : k < length components
  within_components = slice_get_within components k _ h.component

  pub component_read : (x : List ℕ × ℕ) → x ≡ get_or components k x → x ≡ (h.path, h.index)
  component_read x read = read_is components k _ x h.component read

  pub index_read : (x : List ℕ × ℕ) (index : ℕ) → x ≡ get_or components k x → index ≡ x.1 → index ≡ h.index
  index_read x index read is = is ∙ ap (λ (y : List ℕ × ℕ). y.1) (component_read x read)

  pub within_models : h.index < length models
  within_models =
      omega (
        arith,
        slice_get_within (borrowed models) h.index _ h.there,
        length-map models (λ (m : Bor Model). m.now),
      )

  pub within_indices : h.index < length indices
  within_indices = slice_get_within indices h.index _ h.resolved

  pub within_scopes : h.index < length scopes
  within_scopes = slice_get_within scopes h.index _ h.scope

  pub model_read : (index : ℕ) (y : Bor Model) → index ≡ h.index → y ≡ get_or models index y → y.now ≡ model.Atomic h.atomic
  model_read index y at there =
      let Reads : ℕ → Type 0 = λ n. y ≡ get_or models n y in
      read_is (borrowed models) h.index _ y.now h.there
      (sym (get_or-map (λ (m : Bor Model). m.now) models h.index y y.now within_models
      ∙ ap (λ (m : Bor Model). m.now) (sym (subst Reads at there))))

  pub text_index_read : (index there : ℕ) → index ≡ h.index → there ≡ get_or indices index there → there ≡ h.index_in_text
  text_index_read index there at read =
      let Reads : ℕ → Type 0 = λ n. there ≡ get_or indices n there in read_is indices h.index _ there h.resolved (subst Reads at read)

  pub scope_read : (index : ℕ) (y : Scope) → index ≡ h.index → y ≡ get_or scopes index y → y ≡ scope_of (atomic_of h.atomic)
  scope_read index y at there =
      let Reads : ℕ → Type 0 = λ n. y ≡ get_or scopes n y in read_is scopes h.index _ y h.scope (subst Reads at there)

  -- a view of the components, at this one
  pub view_shown : {A : Type 0} (view : Instance → A) →
      slice_get (map view is) k ≡ Some (view (record { path = h.path; model = atomic_of h.atomic }))
  view_shown view = slice_get-map view is k ∙ ap (option_map view) h.shown

  -- the model at its index in the text
  pub text_shown : (index : ℕ) → index ≡ h.index_in_text →
      slice_get f.models index ≡ slice_get (map (λ (i : Instance). AtomicModel i.model) is) k
  text_shown index at = ap (slice_get f.models) at ∙ (h.in_text ∙ sym (view_shown (λ (i : Instance). AtomicModel i.model)))
