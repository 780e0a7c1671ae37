-- What is left of a listing, model by model.
use Rattle.std.proofs.Common.{◌≡◌, ℕ, ◌+◌, ◌<◌, ◌≤◌, Bool, true, false, List, [], ◌∷◌, ◌++◌, length, map, drop, get_or, Option}
use Rattle.std.proofs.Common.{refl, subst, ap, sym, ◌∙◌, append_assoc, append-nil, arith}
use Rattle.std.proofs.lemmas.List.{drop_all, drop_more, get_or-map, length-append, length-map}
use Rattle.std.proofs.lemmas.List.Elements.{All-get_or}
use Rattle.std.specs.List.{All, filter_map}
use Rattle.dv_syntax.specs.Trees.{AtomicTree, ModelTree, atomic_of, model_of}
use Rattle.dv_syntax.specs.declared.tree.Atomic.{Atomic}
use Rattle.dv_syntax.specs.declared.tree.Coupled.{Coupled}
use Rattle.dv_syntax.specs.declared.tree.Model.{Model}
use Rattle.dv_syntax.specs.declared.tree.Model.TheVariants as model
use Rattle.dv_gen.specs.ModelCode.{IsCompilable, IsCompilableModel}
use Rattle.dv_text.specs.Writing.{StopsShort}
use Rattle.dv_text.proofs.Taking.{TakesFront-before}
use Rattle.dv_listing.specs.Listing.{model_text, text_of_model, with_empty_lines}
use Rattle.dv_listing.specs.Placing.{gap, texts_from}

-- before the first model all is left
pub all_left : (texts : List (List ℕ)) → with_empty_lines texts ≡ texts_from true texts
all_left [] = refl
all_left (x ∷ []) = sym (append-nil x)
all_left (x ∷ y ∷ xs) = ap (λ t. x ++ (10 ∷ t)) (all_left (y ∷ xs))

-- what is left from a model on
abbrev pub left_from : List (List ℕ) → List Model → Bool → ℕ → List ℕ
left_from names models is_first index = texts_from is_first (filter_map (text_of_model names) (drop index (map model_of models)))

model_next : (names : List (List ℕ)) (models : List Model) (is_first : Bool) (i : ℕ) (m : Model) → i < length models
    → m ≡ get_or models i m
    → left_from names models is_first i
    ≡ texts_from is_first (filter_map (text_of_model names) (model_of m ∷ drop (i + 1) (map model_of models)))
model_next names models is_first i m within is =
    let some : i < length (map model_of models) = omega (arith, within, length-map models model_of) in
    ap (λ ms. texts_from is_first (filter_map (text_of_model names) ms))
    (drop_more (map model_of models) i (model_of m) some
    ∙ ap (λ x. x ∷ drop (i + 1) (map model_of models))
    (get_or-map model_of models i m (model_of m) within ∙ ap model_of (sym is)))

-- an atomic model has the next text
pub atomic_next : (names : List (List ℕ)) (models : List Model) (is_first : Bool) (i : ℕ) (m : Model) (a : Atomic)
    → i < length models → m ≡ get_or models i m → m ≡ model.Atomic a
    → left_from names models is_first i
    ≡ (gap is_first ++ model_text names (atomic_of a)) ++ left_from names models false (i + 1)
atomic_next names models is_first i m a within is atomic =
    model_next names models is_first i m within is
    ∙ ap (λ x. texts_from is_first (filter_map (text_of_model names) (model_of x ∷ drop (i + 1) (map model_of models)))) atomic
    ∙ sym (append_assoc (gap is_first) (model_text names (atomic_of a)) (left_from names models false (i + 1)))

text_some : (names : List (List ℕ)) (m : AtomicTree) → 0 < length (model_text names m)
text_some names m = omega arith

pub atomic_some : (names : List (List ℕ)) (models : List Model) (is_first : Bool) (i : ℕ) (m : Model) (a : Atomic)
    → i < length models → m ≡ get_or models i m → m ≡ model.Atomic a → 0 < length (left_from names models is_first i)
atomic_some names models is_first i m a within is atomic =
    let text = model_text names (atomic_of a) in
    omega (
      arith,
      ap length (atomic_next names models is_first i m a within is atomic),
      length-append (gap is_first ++ text) (left_from names models false (i + 1)),
      length-append (gap is_first) text,
      text_some names (atomic_of a),
    )

-- a coupled one has none
pub coupled_next : (names : List (List ℕ)) (models : List Model) (is_first : Bool) (i : ℕ) (m : Model) (c : Coupled)
    → i < length models → m ≡ get_or models i m
    → m ≡ model.Coupled c → left_from names models is_first i ≡ left_from names models is_first (i + 1)
coupled_next names models is_first i m c within is coupled =
    model_next names models is_first i m within is
    ∙ ap (λ x. texts_from is_first (filter_map (text_of_model names) (model_of x ∷ drop (i + 1) (map model_of models)))) coupled

-- past the last model nothing is left
pub none_left : (names : List (List ℕ)) (models : List Model) (is_first : Bool) (i : ℕ) → length models ≤ i
    → left_from names models is_first i ≡ []
none_left names models is_first i past =
    ap (λ ms. texts_from is_first (filter_map (text_of_model names) ms))
    (drop_all i (map model_of models) (omega (arith, past, length-map models model_of)))

-- an atomic model among compilable ones
pub compilable_at : (models : List Model) (i : ℕ) (m : Model) (a : Atomic)
    → All (λ (t : ModelTree). IsCompilableModel t) (map model_of models) → i < length models → m ≡ get_or models i m → m ≡ model.Atomic a
    → IsCompilable (atomic_of a)
compilable_at models i m a all within is atomic =
    let P : ModelTree → Type 0 = λ t. IsCompilableModel t in
    let some : i < length (map model_of models) = omega (arith, within, length-map models model_of) in
    subst P (get_or-map model_of models i m (model_of m) within ∙ ap model_of (sym is ∙ atomic))
    (All-get_or P (map model_of models) i (model_of m) some all)

-- a text that stops short stops short of a longer one
pub StopsShort-before : {a b : Option (List ℕ)} {s : List ℕ} (more : List ℕ) → StopsShort a b s → StopsShort a b (s ++ more)
StopsShort-before more p = record {
  rest = p.rest ++ more;
  takes = TakesFront-before more p.takes;
  more = omega (arith, p.more, length-append p.rest more);
}
