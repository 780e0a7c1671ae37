-- The ports of components, one component after the other.
use Rattle.std.proofs.Common.{◌≡◌, ℕ, zero, suc, ◌+◌, Bool, true, false, cond, eqb, List, [], ◌∷◌, ◌++◌, map, drop}
use Rattle.std.proofs.Common.{refl, ap, sym, ◌∙◌, ◌||◌, subst, arith}
use Rattle.std.specs.Prelude.{Some, slice_get}
use Rattle.std.specs.List.{AllByRecursion, IsDistinct, range_with_len}
use Rattle.std.proofs.lemmas.List.{append_assoc}
use Rattle.dv_syntax.specs.Trees.{AtomicTree}
use Rattle.dv_syntax.specs.declared.tree.Name.{Name}
use Rattle.dv_eval.specs.Scope.{Scope, inputs_in, is_declared, outputs_in, scope_of, with_name, with_names}
use Rattle.dv_tree.specs.Instances.{Instance}
use Rattle.dv_flat.specs.Ends.{port_at, ports_from}
use Rattle.dv_flat.specs.declared.link.ComponentPort.{ComponentPort}

-- no name is declared twice
both_false : (a b : Bool) → (a || b) ≡ false → (a ≡ false) × (b ≡ false)
both_false true b e = absurd (cc)
both_false false b e = (refl, e)

apart_pushed : (x n : ℕ) (names : List ℕ) → eqb x n ≡ false → AllByRecursion (λ y. eqb x y ≡ false) names →
    AllByRecursion (λ y. eqb x y ≡ false) (names ++ n ∷ [])
apart_pushed x n [] e h = (e, tt)
apart_pushed x n (y ∷ names) e h = (h.0, apart_pushed x n names e h.1)

distinct_pushed : (n : ℕ) (names : List ℕ) → is_declared n names ≡ false → IsDistinct eqb names →
    IsDistinct eqb (names ++ n ∷ [])
unfolding IsDistinct
distinct_pushed n [] e h = (tt, tt)
distinct_pushed n (x ∷ names) e h =
    let new = both_false (eqb x n) (is_declared n names) e in
    (apart_pushed x n names new.0 h.0, distinct_pushed n names new.1 h.1)

distinct_with : (b : Bool) (n : ℕ) (names : List ℕ) → is_declared n names ≡ b → IsDistinct eqb names →
    IsDistinct eqb (cond b names (names ++ n ∷ []))
distinct_with true n names e h = h
distinct_with false n names e h = distinct_pushed n names e h

distinct_names : (names : List ℕ) (more : List Name) → IsDistinct eqb names → IsDistinct eqb (with_names names more)
distinct_names names [] h = h
distinct_names names (n ∷ more) h =
    distinct_names (with_name names n) more (distinct_with (is_declared n.number names) n.number names refl h)

no_names : IsDistinct eqb []
unfolding IsDistinct
no_names = tt

-- a component by what its model declares
pub record IsAt (is : List Instance) (k : ℕ) (s : Scope) : Type 0 where
  pub instance : Instance
  pub rest : drop k is ≡ instance ∷ drop (k + 1) is
  pub scope : scope_of instance.model ≡ s

pub instance_at : (is : List Instance) (k : ℕ) (s : Scope) → slice_get (map (λ (i : Instance). scope_of i.model) is) k ≡ Some s →
    IsAt is k s
instance_at [] k s e = absurd (cc)
instance_at (i ∷ is) zero s e = record { instance = i; rest = refl; scope = cc }
instance_at (i ∷ is) (suc k) s e =
    let at = instance_at is k s e in
    record {
      instance = at.instance;
      rest =
          at.rest ∙ ap (λ n. at.instance ∷ drop n (i ∷ is)) (let same : suc (k + 1) ≡ suc k + 1 = omega arith in same);
      scope = at.scope;
    }

module _ {is : List Instance} {k : ℕ} {s : Scope} (at : IsAt is k s) where
  pub distinct_inputs : IsDistinct eqb s.inputs
  distinct_inputs =
      subst (λ (t : Scope). IsDistinct eqb t.inputs) at.scope (distinct_names [] (inputs_in at.instance.model.declarations) no_names)

  pub distinct_outputs : IsDistinct eqb s.outputs
  distinct_outputs =
      subst (λ (t : Scope). IsDistinct eqb t.outputs) at.scope (distinct_names [] (outputs_in at.instance.model.declarations) no_names)

  -- the ports of this component and of those behind it
  pub ports_there : (count : AtomicTree → ℕ) (n : ℕ) → count at.instance.model ≡ n →
      ports_from k count (drop k is) ≡ map (port_at k) (range_with_len 0 n) ++ ports_from (k + 1) count (drop (k + 1) is)
  ports_there count n e =
      ap (ports_from k count) at.rest
      ∙ (ap (λ m. map (port_at k) (range_with_len 0 m) ++ ports_from (suc k) count (drop (k + 1) is)) e
      ∙ ap (λ j. map (port_at k) (range_with_len 0 n) ++ ports_from j count (drop (k + 1) is))
      (let same : suc k ≡ k + 1 = omega arith in same))

  -- a step of a loop that puts them into a list
  pub ports_step : (count : AtomicTree → ℕ) (n : ℕ) (before after all : List ComponentPort) → count at.instance.model ≡ n →
      after ≡ before ++ map (port_at k) (range_with_len 0 n) → before ++ ports_from k count (drop k is) ≡ all →
      after ++ ports_from (k + 1) count (drop (k + 1) is) ≡ all
  ports_step count n before after all e added h =
      ap (λ ps. ps ++ ports_from (k + 1) count (drop (k + 1) is)) added
      ∙ (append_assoc before (map (port_at k) (range_with_len 0 n)) (ports_from (k + 1) count (drop (k + 1) is))
      ∙ (ap (λ ps. before ++ ps) (sym (ports_there count n e)) ∙ h))
