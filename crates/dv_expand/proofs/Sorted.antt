-- Items are sorted one after the other.
use Rattle.std.proofs.Common.{◌≡◌, List, [], ◌∷◌, ◌++◌, map, refl, ap, sym, ◌∙◌}
use Rattle.std.proofs.lemmas.List.{append-nil, map_push}
use Rattle.dv_syntax.specs.declared.tree.Name.{Name}
use Rattle.dv_syntax.specs.Trees.{AtomicTree, CoupledTree}
use Rattle.dv_syntax.specs.Written.{AtomicItem, Declares, Lists, Starts, Holds, Rules, before_items, sorted_items}
use Rattle.dv_syntax.specs.Written.{CoupledItem, Inputs, Outputs, Contains, Couples, before_coupled_items, sorted_coupled_items}
use Rattle.dv_expand.specs.Sorting.{with_item, with_coupled_item}

-- an item before the others, and one behind them
between : (first : AtomicItem) (m : AtomicTree) (last : AtomicItem)
    → with_item (before_items first m) last ≡ before_items first (with_item m last)
between (Declares d) m last = refl
between (Lists p) m last = refl
between (Starts s) m last = refl
between (Holds h) m last = refl
between (Rules r) m last = refl

one_alone : (n : Name) (last : AtomicItem) → with_item (sorted_items n []) last ≡ sorted_items n (last ∷ [])
one_alone n (Declares d) = refl
one_alone n (Lists p) = refl
one_alone n (Starts s) = refl
one_alone n (Holds h) = refl
one_alone n (Rules r) = refl

one_more : (n : Name) (items : List AtomicItem) (last : AtomicItem) → with_item (sorted_items n items) last
    ≡ sorted_items n (items ++ last ∷ [])
one_more n [] last = one_alone n last
one_more n (i ∷ items) last = between i (sorted_items n items) last ∙ ap (before_items i) (one_more n items last)

-- one item of the code more is sorted
pub sorted_more : {A : Type 0} (of : A → AtomicItem) (n : Name) (items : List A) (last : A) (m after : AtomicTree)
    → m ≡ sorted_items n (map of items) → after ≡ with_item m (of last) → after ≡ sorted_items n (map of (items ++ last ∷ []))
sorted_more of n items last m after is more =
    more ∙ ap (λ (t : AtomicTree). with_item t (of last)) is ∙ one_more n (map of items) (of last)
    ∙ ap (sorted_items n) (sym (map_push of items last))

coupled_between : (first : CoupledItem) (m : CoupledTree) (last : CoupledItem)
    → with_coupled_item (before_coupled_items first m) last ≡ before_coupled_items first (with_coupled_item m last)
coupled_between (Inputs port) m last = refl
coupled_between (Outputs port) m last = refl
coupled_between (Contains part) m last = refl
coupled_between (Couples link) m last = refl

one_coupled_alone : (n : Name) (last : CoupledItem)
    → with_coupled_item (sorted_coupled_items n []) last ≡ sorted_coupled_items n (last ∷ [])
one_coupled_alone n (Inputs port) = refl
one_coupled_alone n (Outputs port) = refl
one_coupled_alone n (Contains part) = refl
one_coupled_alone n (Couples link) = refl

one_coupled_more : (n : Name) (items : List CoupledItem) (last : CoupledItem) → with_coupled_item (sorted_coupled_items n items) last
    ≡ sorted_coupled_items n (items ++ last ∷ [])
one_coupled_more n [] last = one_coupled_alone n last
one_coupled_more n (i ∷ items) last =
    coupled_between i (sorted_coupled_items n items) last ∙ ap (before_coupled_items i) (one_coupled_more n items last)

pub sorted_coupled_more : {A : Type 0} (of : A → CoupledItem) (n : Name) (items : List A) (last : A) (m after : CoupledTree)
    → m ≡ sorted_coupled_items n (map of items) → after ≡ with_coupled_item m (of last)
    → after ≡ sorted_coupled_items n (map of (items ++ last ∷ []))
sorted_coupled_more of n items last m after is more =
    more ∙ ap (λ (t : CoupledTree). with_coupled_item t (of last)) is ∙ one_coupled_more n (map of items) (of last)
    ∙ ap (sorted_coupled_items n) (sym (map_push of items last))
