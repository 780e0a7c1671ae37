-- What the refusals that a file does not have say of it.
use Rattle.std.proofs.Common.{subst, ⊎_elim, ◌≡◌, ℕ, ◌+◌, ◌<◌, ◌≤◌, ◌==◌, Bool, true, false, not, ◌&&◌, ◌||◌, nat_lt, suc}
use Rattle.std.proofs.Common.{if◌then◌else◌, List, [], ◌∷◌, ◌++◌, length, map, refl, sym, ap, ◌∙◌, Option, Some, None, option_map}
use Rattle.std.proofs.Common.{Contains, arith}
use Rattle.std.specs.List.{AllByRecursion, flat_map, slice_get}
use Rattle.std.specs.Option.{option_or}
use Rattle.std.proofs.lemmas.Option.{slice_get_cases}
use Rattle.std.proofs.lemmas.Bool.{eqb-false, ltb-false, or_parts}
use Rattle.std.proofs.lemmas.List.{length-map}
use Rattle.std.proofs.lemmas.List.Elements.{All-contains, All-from_recursion}
use Rattle.dv_lex.specs.declared.error.RefusalNumber.{RefusalNumber}
use Rattle.dv_lex.specs.declared.error.RefusalNumber.TheVariants.{E6, E13}
use Rattle.dv_check.specs.LinkSets.{no_link}
use Rattle.dv_lex.specs.Order.{first_refusal}
use Rattle.dv_lex.proofs.TableLemmas.{list_any-map}
use Rattle.dv_syntax.specs.declared.tree.Name.{Name}
use Rattle.dv_syntax.specs.declared.tree.Part.{Part}
use Rattle.dv_syntax.specs.declared.tree.Link.{Link}
use Rattle.dv_syntax.specs.Trees.{ModelTree, AtomicModel, CoupledModel, CoupledTree, FileTree}
use Rattle.dv_eval.specs.Scope.{is_declared}
use Rattle.dv_check.specs.Limits.{greatest_components, greatest_depth, greatest_instances, greatest_names}
use Rattle.dv_check.specs.Names.{among, excess, excess_of, excess_past, model_named, name_of_model, numbers_of, part_named}
use Rattle.dv_check.specs.Names.{repeats, refusal_if}
use Rattle.dv_check.specs.declared.declarations.NameSort.{NameSort}
use Rattle.dv_check.specs.Models.{face_of, faces_in}
use Rattle.dv_check.specs.Ports.{ports_of, shown_inputs, shown_outputs}
use Rattle.dv_check.specs.Rules.{name_of_declaration, sort_in}
use Rattle.dv_check.specs.Tree.{PartTree, component_count, depth_of, instance_count, tree_of}
use Rattle.dv_check.specs.Cycles.{cycle_refusals}
use Rattle.dv_check.specs.Couplings.{interior_of, coupled_refusals, has_ends, is_input, is_input_of_part, is_input_shown}
use Rattle.dv_check.specs.Couplings.{is_output, is_output_of_part, is_output_shown, is_source, is_target, kind_refusals}
use Rattle.dv_check.specs.Couplings.{leads_back, link_refusals, name_of_part, output_refusals, input_refusals}
use Rattle.dv_check.specs.Couplings.{part_model_refusals, part_refusals, part_source_refusals, part_target_refusals, parts_in}
use Rattle.dv_check.specs.Couplings.{port_refusals, repeated_links_after, same_part, source_refusals, source_at_part}
use Rattle.dv_check.specs.Couplings.{target_refusals, target_at_part}
use Rattle.dv_check.specs.Refusals.{limit_refusals, model_refusals, passes_limit, refusal_of, refusals, root_limit_refusals, root_refusals}
use Rattle.dv_check.specs.CheckedFiles.{IsKnownPart, IsOutputOfPart, IsInputOfPart, IsSource}
use Rattle.dv_check.specs.CheckedFiles.{IsTarget, LeadsOn, IsCheckedCoupled, IsCheckedModel, IsCheckedFile, IsThrough}
use Rattle.dv_check.proofs.Declared.{input_declared, output_declared}
use Rattle.dv_check.proofs.Merged.{input_among, output_among, ports_counted}
use Rattle.dv_check.proofs.Order.{none_first}

-- ---- Lists without refusals

neither : {A : Type 0} (a b : Option A) → option_or a b ≡ None → (a ≡ None) × (b ≡ None)
neither None b e = (refl, e)
neither (Some x) b e = absurd (cc)

pub nothing_refused : (f : FileTree) → refusal_of f ≡ None → (refusals f ≡ []) × (limit_refusals f ≡ [])
nothing_refused f e =
    let both = neither (first_refusal (refusals f)) (first_refusal (limit_refusals f)) e in
    (none_first (refusals f) both.0, none_first (limit_refusals f) both.1)

-- lists that are empty together
pub both_nil : {A : Type 0} (xs ys : List A) → xs ++ ys ≡ [] → (xs ≡ []) × (ys ≡ [])
both_nil [] ys e = (refl, e)
both_nil (x ∷ xs) ys e = absurd (cc)

pub not_refused : (b : Bool) (number : RefusalNumber) (offset : ℕ) → refusal_if b number offset ≡ [] → b ≡ false
not_refused true number offset e = absurd (cc)
not_refused false number offset e = refl

pub not_false : (b : Bool) → not b ≡ false → b ≡ true
not_false true e = refl
not_false false e = absurd (cc)

some_none : {A : Type 0} (x : A) → Some x ≡ None → ⊥
some_none x e = cc

few_of : (names : List Name) (limit : ℕ) (o : Option Name) → slice_get names limit ≡ o → excess_of o ≡ [] → length names ≤ limit
few_of names limit None is e = ⊎_elim (λ h. absurd (some_none h.0 (sym h.2 ∙ is))) (λ h. h.0) (slice_get_cases names limit).1
few_of names limit (Some n) is e = absurd (cc)

-- no name is past the limit
few : (limit : ℕ) (names : List Name) → excess_past limit names ≡ [] → length names ≤ limit
unfolding excess_past
few limit names e = few_of names limit (slice_get names limit) refl e

-- ---- Models and parts

model_accepted_if : (all : List ModelTree) (b : Bool) (x m : ModelTree) (o : Option ModelTree) → model_refusals all x ≡ []
    → (o ≡ Some m → model_refusals all m ≡ []) → (if b then Some x else o) ≡ Some m → model_refusals all m ≡ []
model_accepted_if all true x m o here later e = let same : x ≡ m = cc in rw (← same) here
model_accepted_if all false x m o here later e = later e

pub model_accepted : (all models : List ModelTree) (number : ℕ) (m : ModelTree) → flat_map (model_refusals all) models ≡ []
    → model_named number models ≡ Some m → model_refusals all m ≡ []
model_accepted all [] number m none e = absurd (cc)
model_accepted all (x ∷ models) number m none e =
    let both = both_nil (model_refusals all x) (flat_map (model_refusals all) models) none in
    model_accepted_if all ((name_of_model x).number == number) x m (model_named number models) both.0
    (model_accepted all models number m both.1) e

part_known_of : (models : List ModelTree) (p : Part) (o : Option ModelTree) → model_named p.model.number models ≡ o
    → part_model_refusals (option_map face_of o) p.model.offset ≡ [] → IsKnownPart models p
part_known_of models p None is e = absurd (cc)
part_known_of models p (Some m) is e = record { model = m; named = is }

part_known : (models : List ModelTree) (p : Part) → part_model_refusals (faces_in models p.model.number) p.model.offset ≡ []
    → IsKnownPart models p
unfolding faces_in
part_known models p e = part_known_of models p (model_named p.model.number models) refl e

parts_known : (models : List ModelTree) (m : CoupledTree) (parts : List Part)
    → flat_map (part_refusals (interior_of models m)) parts ≡ [] → AllByRecursion (IsKnownPart models) parts
parts_known models m [] e = tt
parts_known models m (p ∷ parts) e =
    let both = both_nil (part_refusals (interior_of models m) p) (flat_map (part_refusals (interior_of models m)) parts) e in
    (part_known models p both.0, parts_known models m parts both.1)

part_with_if : (P : Part → Type 0) (b : Bool) (x p : Part) (o : Option Part) → P x → (o ≡ Some p → P p)
    → (if b then Some x else o) ≡ Some p → P p
part_with_if P true x p o here later e = let same : x ≡ p = cc in subst P same here
part_with_if P false x p o here later e = later e

part_with : (P : Part → Type 0) (parts : List Part) (number : ℕ) (p : Part) → AllByRecursion P parts
    → part_named number parts ≡ Some p → P p
part_with P [] number p all e = absurd (cc)
part_with P (x ∷ parts) number p all e =
    part_with_if P (x.name.number == number) x p (part_named number parts) all.0 (part_with P parts number p all.1) e

-- ---- Links

face_known : (models : List ModelTree) (p : Part) (h : IsKnownPart models p) → faces_in models p.model.number ≡ Some (face_of h.model)
unfolding faces_in
face_known models p h = ap (option_map face_of) h.named

-- a port of the direction that is wanted
port_fine : (wanted other : Bool) (offset : ℕ) → port_refusals wanted other offset ≡ [] → wanted ≡ true
port_fine true other offset e = refl
port_fine false true offset e = absurd (cc)
port_fine false false offset e = absurd (cc)

output_fine : (sort : Option NameSort) (offset : ℕ) → output_refusals sort offset ≡ [] → is_output sort ≡ true
output_fine sort offset e = port_fine (is_output sort) (is_input sort) offset e

input_fine : (sort : Option NameSort) (offset : ℕ) → input_refusals sort offset ≡ [] → is_input sort ≡ true
input_fine sort offset e = port_fine (is_input sort) (is_output sort) offset e

-- ---- Links of all files

-- a port that a face shows is one of the model
among_numbers : (q : ℕ) (names : List Name) → among names q ≡ true → is_declared q (numbers_of names) ≡ true
unfolding among
among_numbers q names e = list_any-map (λ n. n == q) (λ (n : Name). n.number) names ∙ e

output_shown : (m : ModelTree) (q : ℕ) → is_output (face_of m q) ≡ true → is_declared q (shown_outputs m) ≡ true
output_shown (AtomicModel m) q e = output_declared q m.declarations [] e
output_shown (CoupledModel m) q e = among_numbers q m.outputs (output_among q m.inputs m.outputs e)

input_shown : (m : ModelTree) (q : ℕ) → is_input (face_of m q) ≡ true → is_declared q (shown_inputs m) ≡ true
input_shown (AtomicModel m) q e = input_declared q m.declarations [] e
input_shown (CoupledModel m) q e = among_numbers q m.inputs (input_among q m.inputs m.outputs e)

face_source : (models : List ModelTree) (p : Part) (h : IsKnownPart models p) (port : Name)
    → part_source_refusals (faces_in models p.model.number) port ≡ [] → is_output (face_of h.model port.number) ≡ true
face_source models p h port e =
    let tested : part_source_refusals (Some (face_of h.model)) port ≡ [] =
    sym (ap (λ o. part_source_refusals o port) (face_known models p h)) ∙ e in
    output_fine (face_of h.model port.number) port.offset tested

face_target : (models : List ModelTree) (p : Part) (h : IsKnownPart models p) (port : Name)
    → part_target_refusals (faces_in models p.model.number) port ≡ [] → is_input (face_of h.model port.number) ≡ true
face_target models p h port e =
    let tested : part_target_refusals (Some (face_of h.model)) port ≡ [] =
    sym (ap (λ o. part_target_refusals o port) (face_known models p h)) ∙ e in
    input_fine (face_of h.model port.number) port.offset tested

face_shows_output : (models : List ModelTree) (p : Part) (h : IsKnownPart models p) (port : Name)
    → part_source_refusals (faces_in models p.model.number) port ≡ []
    → is_output_shown (faces_in models p.model.number) port.number ≡ true
face_shows_output models p h port e = ap (λ o. is_output_shown o port.number) (face_known models p h) ∙ face_source models p h port e

face_shows_input : (models : List ModelTree) (p : Part) (h : IsKnownPart models p) (port : Name)
    → part_target_refusals (faces_in models p.model.number) port ≡ []
    → is_input_shown (faces_in models p.model.number) port.number ≡ true
face_shows_input models p h port e = ap (λ o. is_input_shown o port.number) (face_known models p h) ∙ face_target models p h port e

true_false : (b : Bool) → b ≡ true → b ≡ false → ⊥
true_false b is not_so = let e : true ≡ false = sym is ∙ not_so in cc

both_true : (a b : Bool) → a ≡ true → b ≡ true → (a && b) ≡ true
both_true true b first second = second
both_true false b first second = absurd (cc)

not_back : (back ends : Bool) → ends ≡ true → (back && ends) ≡ false → back ≡ false
not_back true ends e tested = absurd (true_false ends e tested)
not_back false ends e tested = refl

module _ (models : List ModelTree) (m : CoupledTree) (known : AllByRecursion (IsKnownPart models) m.parts) where
  source_at : (o : Option Part) (part_name : Option Name) (name port : Name) → part_name ≡ Some name
      → part_named name.number m.parts ≡ o → source_at_part (interior_of models m) o name port ≡ []
      → IsOutputOfPart models m.parts part_name port
  source_at None part_name name port at is e = absurd (cc)
  source_at (Some p) part_name name port at is e =
      let h = part_with (IsKnownPart models) m.parts name.number p known is in
      let shown = output_shown h.model port.number (face_source models p h port e) in
      record { name = name; at_part = at; part = p; named = is; known = h; output = shown }

  target_at : (o : Option Part) (part_name : Option Name) (name port : Name) → part_name ≡ Some name
      → part_named name.number m.parts ≡ o → target_at_part (interior_of models m) o name port ≡ []
      → IsInputOfPart models m.parts part_name port
  target_at None part_name name port at is e = absurd (cc)
  target_at (Some p) part_name name port at is e =
      let h = part_with (IsKnownPart models) m.parts name.number p known is in
      let shown = input_shown h.model port.number (face_target models p h port e) in
      record { name = name; at_part = at; part = p; named = is; known = h; input = shown }

  source_linked : (part_name : Option Name) (port : Name) → source_refusals (interior_of models m) part_name port ≡ []
      → IsSource models m part_name port
  unfolding parts_in
  source_linked None port e = input_among port.number m.inputs m.outputs (input_fine (sort_in (ports_of m) port.number) port.offset e)
  source_linked (Some name) port e = source_at (part_named name.number m.parts) (Some name) name port refl refl e

  target_linked : (part_name : Option Name) (port : Name) → target_refusals (interior_of models m) part_name port ≡ []
      → IsTarget models m part_name port
  unfolding parts_in
  target_linked None port e = output_among port.number m.inputs m.outputs (output_fine (sort_in (ports_of m) port.number) port.offset e)
  target_linked (Some name) port e = target_at (part_named name.number m.parts) (Some name) name port refl refl e

  source_shown_at : (o : Option Part) (name port : Name) → part_named name.number m.parts ≡ o
      → source_at_part (interior_of models m) o name port ≡ [] → is_output_of_part (interior_of models m) o port.number ≡ true
  source_shown_at None name port is e = absurd (cc)
  source_shown_at (Some p) name port is e =
      face_shows_output models p (part_with (IsKnownPart models) m.parts name.number p known is) port e

  target_shown_at : (o : Option Part) (name port : Name) → part_named name.number m.parts ≡ o
      → target_at_part (interior_of models m) o name port ≡ [] → is_input_of_part (interior_of models m) o port.number ≡ true
  target_shown_at None name port is e = absurd (cc)
  target_shown_at (Some p) name port is e =
      face_shows_input models p (part_with (IsKnownPart models) m.parts name.number p known is) port e

  source_shown : (part_name : Option Name) (port : Name) → source_refusals (interior_of models m) part_name port ≡ []
      → is_source (interior_of models m) part_name port.number ≡ true
  unfolding parts_in
  source_shown None port e = input_fine (sort_in (ports_of m) port.number) port.offset e
  source_shown (Some name) port e = source_shown_at (part_named name.number m.parts) name port refl e

  target_shown : (part_name : Option Name) (port : Name) → target_refusals (interior_of models m) part_name port ≡ []
      → is_target (interior_of models m) part_name port.number ≡ true
  unfolding parts_in
  target_shown None port e = output_fine (sort_in (ports_of m) port.number) port.offset e
  target_shown (Some name) port e = target_shown_at (part_named name.number m.parts) name port refl e

  link_leads_on : (l : Link) → link_refusals (interior_of models m) l ≡ [] → LeadsOn models m l
  link_leads_on l e =
      let w = interior_of models m in
      let back = refusal_if (leads_back l && has_ends w l) E13 l.offset in
      let target = target_refusals w l.to.part l.to.port in
      let ends = both_nil (source_refusals w l.from.part l.from.port) (target ++ back) e in
      let behind = both_nil target back ends.1 in
      let known =
      both_true (is_source w l.from.part l.from.port.number) (is_target w l.to.part l.to.port.number)
      (source_shown l.from.part l.from.port ends.0) (target_shown l.to.part l.to.port behind.0) in
      record {
        source = source_linked l.from.part l.from.port ends.0;
        target = target_linked l.to.part l.to.port behind.0;
        onward = not_back (leads_back l) (has_ends w l) known (not_refused _ _ _ behind.1);
      }

  links_lead_on : (links : List Link) → flat_map (link_refusals (interior_of models m)) links ≡ [] → AllByRecursion (LeadsOn models m) links
  links_lead_on [] e = tt
  links_lead_on (l ∷ links) e =
      let both = both_nil (link_refusals (interior_of models m) l) (flat_map (link_refusals (interior_of models m)) links) e in
      (link_leads_on l both.0, links_lead_on links both.1)

-- ---- Coupled models, and the file

few_named : (parts : List Part) (n : ℕ) → length (map name_of_part parts) ≤ n → length parts ≤ n
few_named parts n e = omega (arith, e, length-map parts name_of_part)

few_of_kind : (names : List Name) → kind_refusals names ≡ [] → length names ≤ greatest_names
few_of_kind names e = few greatest_names names (both_nil (repeats E6 names) (excess names) e).1

few_own_ports : (m : CoupledTree) → kind_refusals (map name_of_declaration (ports_of m)) ≡ []
    → length m.inputs + length m.outputs ≤ greatest_names
few_own_ports m e =
    omega (
      arith,
      few_of_kind (map name_of_declaration (ports_of m)) e,
      length-map (ports_of m) name_of_declaration,
      ports_counted m.inputs m.outputs,
    )

-- what stands in the list of all refusals of a coupled model
record Nothing (models : List ModelTree) (m : CoupledTree) : Type 0 where
  ports : kind_refusals (map name_of_declaration (ports_of m)) ≡ []
  names : kind_refusals (map name_of_part m.parts) ≡ []
  sorts : flat_map (part_refusals (interior_of models m)) m.parts ≡ []
  ends : flat_map (link_refusals (interior_of models m)) m.links ≡ []

nothing_of : (models : List ModelTree) (m : CoupledTree) → coupled_refusals models m ≡ [] → Nothing models m
nothing_of models m e =
    let w = interior_of models m in
    let twice = repeated_links_after w no_link m.links in
    let ends = flat_map (link_refusals w) m.links in
    let sorts = flat_map (part_refusals w) m.parts in
    let names = kind_refusals (map name_of_part m.parts) in
    let ports = kind_refusals (map name_of_declaration (ports_of m)) in
    let first = both_nil ports (names ++ (sorts ++ (ends ++ twice))) e in
    let second = both_nil names (sorts ++ (ends ++ twice)) first.1 in
    let third = both_nil sorts (ends ++ twice) second.1 in
    record { ports = first.0; names = second.0; sorts = third.0; ends = (both_nil ends twice third.1).0 }

pub coupled_accepted : (models : List ModelTree) (m : CoupledTree) → coupled_refusals models m ≡ [] → IsCheckedCoupled models m
coupled_accepted models m e =
    let nothing = nothing_of models m e in
    let known = parts_known models m m.parts nothing.sorts in
    record {
      parts = known;
      links = links_lead_on models m known m.links nothing.ends;
      few_parts = few_named m.parts greatest_names (few_of_kind (map name_of_part m.parts) nothing.names);
      few_ports = few_own_ports m nothing.ports;
    }

-- the lists of a file's refusals
record NoRule (f : FileTree) : Type 0 where
  models : flat_map (model_refusals f.models) f.models ≡ []
  root : root_refusals (model_named f.root.number f.models) f.root.offset ≡ []

no_rule : (f : FileTree) → refusals f ≡ [] → NoRule f
no_rule f e =
    let models = flat_map (model_refusals f.models) f.models in
    let cycles = cycle_refusals f.models in
    let root = root_refusals (model_named f.root.number f.models) f.root.offset in
    let first = both_nil (repeats E6 (map name_of_model f.models)) (models ++ (cycles ++ root)) e in
    let second = both_nil models (cycles ++ root) first.1 in
    record { models = second.0; root = (both_nil cycles root second.1).1 }

-- the limits that a tree keeps
record KeepsLimits (t : PartTree) : Type 0 where
  some : 0 < component_count t
  few_components : component_count t ≤ greatest_components
  few_instances : suc (instance_count t) ≤ greatest_instances
  flat : depth_of t ≤ greatest_depth

some_of : (n : ℕ) → (n == 0) ≡ false → 0 < n
some_of n e = let not_none = eqb-false n 0 e in omega (arith, not_none)

keeps_limits : (t : PartTree) → passes_limit t ≡ false → KeepsLimits t
keeps_limits t e =
    let deep = nat_lt greatest_depth (depth_of t) in
    let instances = nat_lt greatest_instances (suc (instance_count t)) in
    let components = nat_lt greatest_components (component_count t) in
    let first = or_parts (component_count t == 0) (components || (instances || deep)) e in
    let second = or_parts components (instances || deep) first.1 in
    let third = or_parts instances deep second.1 in
    record {
      some = some_of (component_count t) first.0;
      few_components = ltb-false greatest_components (component_count t) second.0;
      few_instances = ltb-false greatest_instances (suc (instance_count t)) third.0;
      flat = ltb-false greatest_depth (depth_of t) third.1;
    }

model_accepted_as : (models : List ModelTree) (m : ModelTree) → model_refusals models m ≡ [] → IsCheckedModel models m
model_accepted_as models (AtomicModel m) e = e
model_accepted_as models (CoupledModel m) e = coupled_accepted models m e

models_accepted : (all models : List ModelTree) → flat_map (model_refusals all) models ≡ [] → AllByRecursion (IsCheckedModel all) models
models_accepted all [] e = tt
models_accepted all (m ∷ models) e =
    let both = both_nil (model_refusals all m) (flat_map (model_refusals all) models) e in
    (model_accepted_as all m both.0, models_accepted all models both.1)

root_accepted : (f : FileTree) (o : Option ModelTree) → model_named f.root.number f.models ≡ o → root_refusals o f.root.offset ≡ []
    → root_limit_refusals f.models o f.root.offset ≡ [] → flat_map (model_refusals f.models) f.models ≡ [] → IsCheckedFile f
root_accepted f None is e limit none = absurd (cc)
root_accepted f (Some (AtomicModel m)) is e limit none = absurd (cc)
root_accepted f (Some (CoupledModel m)) is e limit none =
    let limits = keeps_limits (tree_of f.models m) (not_refused _ _ _ limit) in
    record {
      models = models_accepted f.models f.models none;
      root = m;
      named = is;
      coupled = coupled_accepted f.models m (model_accepted f.models f.models f.root.number (CoupledModel m) none is);
      some = limits.some;
      few_components = limits.few_components;
      few_instances = limits.few_instances;
      flat = limits.flat;
    }

pub file_accepted : (f : FileTree) → refusal_of f ≡ None → IsCheckedFile f
file_accepted f e =
    let nothing = nothing_refused f e in
    let rules = no_rule f nothing.0 in
    root_accepted f (model_named f.root.number f.models) refl rules.root nothing.1 rules.models

-- ---- No link leads through

both_none : (source target : Option Name) → source ≡ None → target ≡ None → same_part source target ≡ true
both_none None None by_source by_target = refl
both_none None (Some b) by_source by_target = absurd (cc)
both_none (Some a) target by_source by_target = absurd (cc)

no_through : (models : List ModelTree) (m : CoupledTree) (l : Link) → LeadsOn models m l → IsThrough l → ⊥
no_through models m l leads through = true_false (leads_back l) (both_none l.from.part l.to.part through.0 through.1) leads.onward

pub none_through : (f : FileTree) (m : CoupledTree) (l : Link) → refusal_of f ≡ None → Contains f.models (CoupledModel m)
    → Contains m.links l → IsThrough l → ⊥
none_through f m l e has has_link =
    let linked : IsCheckedModel f.models (CoupledModel m) =
    All-contains (IsCheckedModel f.models) f.models (CoupledModel m)
    (All-from_recursion (IsCheckedModel f.models) f.models (file_accepted f e).models) has in
    no_through f.models m l
    (All-contains (LeadsOn f.models m) m.links l (All-from_recursion (LeadsOn f.models m) m.links linked.links) has_link)
