-- Variables as two lists: their names, and their domains.
use Rattle.std.proofs.Common.{◌≡◌, ℕ, true, false, cond, List, [], ◌∷◌, ◌++◌, length, refl, sym, ap, ◌∙◌, arith}
use Rattle.std.specs.List.{zip}
use Rattle.std.proofs.lemmas.Slice.Zip.{firsts-zip}
use Rattle.dv_syntax.specs.declared.tree.Name.{Name}
use Rattle.dv_eval.specs.Scope.{is_declared, with_variable}
use Rattle.dv_eval.specs.declared.scope.Domain.{Domain}

-- one more variable, last in both lists
zip-more : (names : List ℕ) (domains : List Domain) (name : ℕ) (domain : Domain) → length domains ≡ length names
    → zip (names ++ name ∷ []) (domains ++ domain ∷ []) ≡ zip names domains ++ (name, domain) ∷ []
zip-more [] [] name domain long = refl
zip-more [] (d ∷ domains) name domain long = absurd (omega (arith, long))
zip-more (n ∷ names) [] name domain long = absurd (omega (arith, long))
zip-more (n ∷ names) (d ∷ domains) name domain long =
    ap (λ rest. (n, d) ∷ rest) (zip-more names domains name domain (omega (arith, long)))

-- a variable whose name is there stays as it is
pub with_variable-known : (names : List ℕ) (domains : List Domain) (v : Name × Domain) → length domains ≡ length names
    → is_declared v.0.number names ≡ true → with_variable (zip names domains) v ≡ zip names domains
with_variable-known names domains v long known =
    let all = zip names domains in
    ap (λ b. cond b all (all ++ (v.0.number, v.1) ∷ [])) (ap (is_declared v.0.number) (firsts-zip names domains long) ∙ known)

-- another goes last
pub with_variable-more : (names : List ℕ) (domains : List Domain) (v : Name × Domain) → length domains ≡ length names
    → is_declared v.0.number names ≡ false
    → with_variable (zip names domains) v ≡ zip (names ++ v.0.number ∷ []) (domains ++ v.1 ∷ [])
with_variable-more names domains v long new =
    let all = zip names domains in
    ap (λ b. cond b all (all ++ (v.0.number, v.1) ∷ [])) (ap (is_declared v.0.number) (firsts-zip names domains long) ∙ new)
    ∙ sym (zip-more names domains v.0.number v.1 long)
