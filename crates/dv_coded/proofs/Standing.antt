-- What stands for the models of a text stays so as one more is added.
use Rattle.std.proofs.Common.{◌≡◌, ℕ, ◌+◌, List, [], ◌∷◌, ◌++◌, length, length-set, map, set, ap, sym, ◌∙◌, subst, arith}
use Rattle.std.specs.List.{All}
use Rattle.std.specs.Prelude.{Option, Some, None, slice_get}
use Rattle.std.proofs.lemmas.List.{length-append}
use Rattle.std.proofs.lemmas.List.Elements.{All-get_or}
use Rattle.std.proofs.lemmas.Option.{get_or_from_slice_get, slice_get_within}
use Rattle.dv_bag.specs.declared.response.Response.{Response}
use Rattle.dv_eval.specs.Scope.{Scope, scope_of}
use Rattle.dv_gen.specs.ModelCode.{IsCompilable, IsCompilableModel}
use Rattle.dv_syntax.specs.Trees.{AtomicModel, AtomicTree, ModelTree}
use Rattle.dv_tree.specs.Instances.{Instance}
use Rattle.dv_coded.specs.Components.{Adds, AreModelsOf, HasModelAt, IsModelAt, KeepsModels, indexed_count}
use Rattle.dv_coded.specs.declared.models.Models.{Models}
use Rattle.dv_coded.specs.declared.programs.Programs.{Programs}
use Rattle.dv_coded.proofs.Lists.{count-set, pushed-there, there-map, there-pushed, there-set}

-- the scope of a component is its model's
pub scope_at : (is : List Instance) (k : ℕ) (m : AtomicTree) (s : Scope) → slice_get (map (λ (i : Instance). i.model) is) k ≡ Some m →
    slice_get (map (λ (i : Instance). scope_of i.model) is) k ≡ Some s → s ≡ scope_of m
scope_at is k m s at read =
    let both : Some s ≡ Some (scope_of m) = sym read ∙ there-map (λ (i : Instance). i.model) scope_of is k m at in cc

-- at the index of its model in the text stands its model
pub model_there : (models : List ModelTree) (is : List Instance) (k index : ℕ) (m : AtomicTree) →
    slice_get (map (λ (i : Instance). AtomicModel i.model) is) k ≡ slice_get models index →
    slice_get (map (λ (i : Instance). i.model) is) k ≡ Some m → slice_get models index ≡ Some (AtomicModel m)
model_there models is k index m indexed at = sym indexed ∙ there-map (λ (i : Instance). i.model) AtomicModel is k m at

-- an atomic model among compilable ones
pub compilable_at : (models : List ModelTree) (index : ℕ) (m : AtomicTree) → All (λ (t : ModelTree). IsCompilableModel t) models →
    slice_get models index ≡ Some (AtomicModel m) → IsCompilable m
compilable_at models index m all there =
    let P : ModelTree → Type 0 = λ t. IsCompilableModel t in
    subst P (get_or_from_slice_get models index (AtomicModel m) (AtomicModel m) there)
    (All-get_or P models index (AtomicModel m) (slice_get_within models index (AtomicModel m) there) all)

model-pushed : (all : List Programs) (answers : List Response) (p : Programs) (r : Response) (k : ℕ) (m : AtomicTree) →
    IsModelAt all answers k m → IsModelAt (all ++ p ∷ []) (answers ++ r ∷ []) k m
model-pushed all answers p r k m h = record {
  programs = h.programs;
  response = h.response;
  there = there-pushed all p h.programs k h.there;
  of_model = h.of_model;
  answer = there-pushed answers r h.response k h.answer;
  soonest = h.soonest;
  short = h.short;
}

module _ (m : AtomicTree) (before after : Models) (k : ℕ) (adds : Adds m before after k) where
  -- what stands before still stands
  pub kept_by_adding : KeepsModels before after
  kept_by_adding j t h =
      subst (λ (all : List Programs). IsModelAt all after.responses.items j t) (sym adds.pushed)
      (subst (λ (answers : List Response). IsModelAt (before.programs.items ++ adds.programs ∷ []) answers j t) (sym adds.answered)
      (model-pushed before.programs.items before.responses.items adds.programs adds.response j t h))

  -- and the model itself
  pub added_there : length before.responses.items ≡ length before.programs.items → HasModelAt after k m
  added_there both = record {
    programs = adds.programs;
    response = adds.response;
    there =
        ap (λ (all : List Programs). slice_get all k) adds.pushed
        ∙ (ap (slice_get (before.programs.items ++ adds.programs ∷ [])) adds.index ∙ pushed-there before.programs.items adds.programs);
    of_model = adds.of_model;
    answer =
        ap (λ (answers : List Response). slice_get answers k) adds.answered
        ∙ (ap (slice_get (before.responses.items ++ adds.response ∷ [])) (adds.index ∙ sym both)
        ∙ pushed-there before.responses.items adds.response);
    soonest = adds.soonest;
    short = adds.short;
  }

  pub added_count : length after.programs.items ≡ length before.programs.items + 1
  added_count = ap length adds.pushed ∙ length-append before.programs.items (adds.programs ∷ [])

  answered_count : length after.responses.items ≡ length before.responses.items + 1
  answered_count = ap length adds.answered ∙ length-append before.responses.items (adds.response ∷ [])

  -- with its index in the text
  pub known_with : (models : List ModelTree) (whole : Models) (index : ℕ) → AreModelsOf models before →
      slice_get models index ≡ Some (AtomicModel m) → slice_get before.indices.items index ≡ Some None →
      whole.programs.items ≡ after.programs.items →
      whole.responses.items ≡ after.responses.items → whole.indices.items ≡ set after.indices.items index (Some k) →
      AreModelsOf models whole
  known_with models whole index known there free programs responses indices = record {
    count =
        ap length indices ∙ (length-set after.indices.items index (Some k)
        ∙ (ap length adds.indices ∙ known.count));
    both = omega (arith, ap length programs, ap length responses, added_count, answered_count, known.both);
    once =
        omega (
          arith,
          ap indexed_count indices,
          count-set after.indices.items index k (ap (λ (ps : List (Option ℕ)). slice_get ps index) adds.indices ∙ free),
          ap indexed_count adds.indices,
          ap length programs,
          added_count,
          known.once,
        );
    known = λ q j t at model.
        let Has : Type 0 = HasModelAt after j t in
        let has : Has =
        there-set Has after.indices.items index q (Some k) (Some j) (ap (λ (ps : List (Option ℕ)). slice_get ps q) (sym indices) ∙ at)
        (λ e f. same q j t model e f)
        (λ old. kept_by_adding j t (known.known q j t (ap (λ (ps : List (Option ℕ)). slice_get ps q) (sym adds.indices) ∙ old) model)) in
        subst (λ (all : List Programs). IsModelAt all whole.responses.items j t) (sym programs)
        (subst (λ (answers : List Response). IsModelAt after.programs.items answers j t) (sym responses) has);
  }
    where
      same : (q j : ℕ) (t : AtomicTree) → slice_get models q ≡ Some (AtomicModel t) → index ≡ q → Some k ≡ Some j → HasModelAt after j t
      same q j t model e f =
          let one : m ≡ t = cc in
          let number : k ≡ j = cc in
          subst (HasModelAt after j) one (subst (λ (n : ℕ). HasModelAt after n m) number (added_there known.both))
