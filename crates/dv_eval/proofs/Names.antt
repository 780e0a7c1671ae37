-- Names in lists and maps: where a name stands, whether it is there, and how many different names of 32 bits there are.
use Rattle.std.proofs.Common.{◌≡◌, ℕ, ◌+◌, ◌^◌, ◌<◌, ◌≤◌, Bool, true, false, cond, eqb, List, [], ◌∷◌, ◌++◌, length, get_or}
use Rattle.std.proofs.Common.{Option, Some, None, is_some, position, refl, sym, ap, ◌∙◌, ◌||◌, true≢false, arith, Fits, w32}
use Rattle.std.specs.List.{IsDistinct, list_any, position_from}
use Rattle.std.specs.Map.{lookup}
use Rattle.std.proofs.lemmas.Bool.Decides.{nat_tests}
use Rattle.std.proofs.lemmas.Iterator.Adapters.{position_from-zero}
use Rattle.std.proofs.lemmas.Map.Steps.{length-le_from_distinct_below}
use Rattle.std.proofs.lemmas.Map.Views.{Contains-from_any}
use Rattle.std.proofs.lemmas.List.Elements.{All-contains, All-from_get_or}
use Rattle.std.proofs.lemmas.Bool.{eqb-true}
use Rattle.dv_syntax.specs.declared.tree.Name.{Name}
use Rattle.dv_eval.specs.Scope.{index_from, index_of, is_declared, names_of, with_name, with_names, with_variable}
use Rattle.dv_eval.specs.declared.scope.Domain.{Domain}

-- a test of equality does not care which of the two comes first
pub eqb-swap : (a b : ℕ) → eqb a b ≡ eqb b a
eqb-swap a b = grind (arith, nat_tests)

index_from-position_from : (k name : ℕ) (names : List ℕ) → index_from k name names ≡ position_from (eqb name) k names
index_from-position_from k name [] = refl
index_from-position_from k name (n ∷ names) = cc (eqb-swap n name, index_from-position_from (k + 1) name names)

-- the index of a name is the position that a set of names finds
pub index_of-position : (name : ℕ) (names : List ℕ) → position (eqb name) names ≡ index_of name names
index_of-position name names = position_from-zero (eqb name) names ∙ sym (index_from-position_from 0 name names)

is_some-cond : {X : Type 0} (b : Bool) (x : X) (o : Option X) → is_some (cond b (Some x) o) ≡ (b || is_some o)
is_some-cond true x o = refl
is_some-cond false x o = refl

-- what is not there is nothing
pub none_from_is_some : {X : Type 0} (o : Option X) → is_some o ≡ false → o ≡ None
none_from_is_some None e = refl
none_from_is_some (Some x) e = absurd (true≢false e)

-- a name is declared where a look-up finds it
pub is_declared-lookup : (name : ℕ) (entries : List (ℕ × Domain))
    → is_some (lookup (eqb name) entries) ≡ is_declared name (names_of entries)
is_declared-lookup name [] = refl
is_declared-lookup name (e ∷ entries) =
    is_some-cond (eqb name e.0) e.1 (lookup (eqb name) entries) ∙ cc (eqb-swap e.0 name, is_declared-lookup name entries)

-- a variable that a look-up finds stays as it is, and another goes last
with_variable-lookup : (entries : List (ℕ × Domain)) (v : Name × Domain)
    → with_variable entries v ≡ cond (is_some (lookup (eqb v.0.number) entries)) entries (entries ++ (v.0.number, v.1) ∷ [])
with_variable-lookup entries v = ap (λ b. cond b entries (entries ++ (v.0.number, v.1) ∷ [])) (sym (is_declared-lookup v.0.number entries))

-- a name is declared where a set has it
pub is_declared-list_any : (name : ℕ) (names : List ℕ) → list_any (eqb name) names ≡ is_declared name names
is_declared-list_any name [] = refl
is_declared-list_any name (n ∷ names) = cc (eqb-swap n name, is_declared-list_any name names)

pub with_variable-present : (entries : List (ℕ × Domain)) (v : Name × Domain) → is_some (lookup (eqb v.0.number) entries) ≡ true
    → with_variable entries v ≡ entries
with_variable-present entries v e = with_variable-lookup entries v ∙ ap (λ b. cond b entries (entries ++ (v.0.number, v.1) ∷ [])) e

pub with_variable-absent : (entries : List (ℕ × Domain)) (v : Name × Domain) → is_some (lookup (eqb v.0.number) entries) ≡ false
    → with_variable entries v ≡ entries ++ (v.0.number, v.1) ∷ []
with_variable-absent entries v e = with_variable-lookup entries v ∙ ap (λ b. cond b entries (entries ++ (v.0.number, v.1) ∷ [])) e

below_from_fits : (xs : List ℕ) → ((k : ℕ) → Fits w32 (get_or xs k 0)) → (q : ℕ) → list_any (eqb q) xs ≡ true → q < 2 ^ 32
below_from_fits xs h q e =
    All-contains (λ x. x < 2 ^ 32) xs q (All-from_get_or (λ x. x < 2 ^ 32) xs 0 (λ i l. (h i).fits)) (Contains-from_any eqb-true q xs e)

-- different names of 32 bits
pub length-le_from_fits : (xs : List ℕ) → IsDistinct eqb xs → ((k : ℕ) → Fits w32 (get_or xs k 0)) → length xs ≤ 2 ^ 32
length-le_from_fits xs distinct fits = length-le_from_distinct_below xs (2 ^ 32) distinct (below_from_fits xs fits)

-- names in two lists, one after the other
pub with_names_append : (names : List ℕ) (xs ys : List Name) → with_names names (xs ++ ys) ≡ with_names (with_names names xs) ys
with_names_append names [] ys = refl
with_names_append names (x ∷ xs) ys = with_names_append (with_name names x) xs ys
