-- Numbers of names, and the name at the index where a name stands.
use Rattle.std.proofs.Common.{◌≡◌, ℕ, ◌+◌, eqb, get_or, List, [], ◌∷◌, Some, refl, sym, ◌∙◌, arith}
use Rattle.std.specs.List.{position_from}
use Rattle.std.proofs.lemmas.Bool.{eqb-true}
use Rattle.std.proofs.lemmas.Bool.Decides.{nat_tests}
use Rattle.std.proofs.lemmas.Iterator.Adapters.{position_from-zero}
use Rattle.std.proofs.lemmas.List.Quantifiers.{position-Some}
use Rattle.dv_eval.specs.Scope.{index_from, index_of}

-- a test of equality does not care which of the two comes first
pub eqb-swap : (a b : ℕ) → eqb a b ≡ eqb b a
eqb-swap a b = grind (arith, nat_tests)

index_from-position_from : (k name : ℕ) (names : List ℕ) → index_from k name names ≡ position_from (eqb name) k names
index_from-position_from k name [] = refl
index_from-position_from k name (n ∷ names) = cc (eqb-swap n name, index_from-position_from (k + 1) name names)

pub name_at : (name index : ℕ) (names : List ℕ) → index_of name names ≡ Some index → get_or names index 0 ≡ name
name_at name index names e =
    let found = position_from-zero (eqb name) names ∙ sym (index_from-position_from 0 name names) ∙ e in
    sym (eqb-true name _ (position-Some (eqb name) names index 0 found).1)
