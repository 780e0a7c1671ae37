-- The text of a model, put together.
use Rattle.std.proofs.Common.{◌≡◌, ℕ, Bool, List, [], ◌∷◌, ◌++◌, ap, ◌∙◌, append_assoc}
use Rattle.std.specs.Prelude.{codes}
use Rattle.dv_syntax.specs.Trees.{AtomicTree}
use Rattle.dv_eval.specs.Scope.{Scope, scope_of}
use Rattle.dv_gen.specs.ModelCode.{phase_codes}
use Rattle.dv_gen.specs.declared.model_code.PhaseCode.{PhaseCode}
use Rattle.dv_tree.specs.Paths.{name_at}
use Rattle.dv_listing.specs.Listing.{model_text, phases_text, scope_text}
use Rattle.dv_listing.specs.Placing.{gap}

four_pieces : (t0 t1 t2 t3 t4 a b c d : List ℕ) → t1 ≡ t0 ++ a → t2 ≡ t1 ++ b → t3 ≡ t2 ++ c → t4 ≡ t3 ++ d →
    t4 ≡ t0 ++ (a ++ (b ++ (c ++ d)))
four_pieces t0 t1 t2 t3 t4 a b c d e1 e2 e3 e4 =
    e4 ∙ ap (λ t. t ++ d) e3 ∙ append_assoc t2 c d ∙ ap (λ t. t ++ (c ++ d)) e2 ∙ append_assoc t1 b (c ++ d)
    ∙ ap (λ t. t ++ (b ++ (c ++ d))) e1 ∙ append_assoc t0 a (b ++ (c ++ d))

pub model_pushed :
    (names : List (List ℕ)) (m : AtomicTree) (is_first : Bool) (t0 t1 t2 t3 t4 : List ℕ) (name : List ℕ) (scope : Scope)
    (phases : List ℕ) (programs : List PhaseCode) → name ≡ name_at names m.name.number → scope ≡ scope_of m → phases ≡ scope.phases
    → programs ≡ phase_codes m → t1 ≡ t0 ++ gap is_first
    → t2 ≡ t1 ++ (codes "atomic " ++ (name ++ (10 ∷ []))) → t3 ≡ t2 ++ scope_text names scope
    → t4 ≡ t3 ++ phases_text names phases programs → t4 ≡ t0 ++ (gap is_first ++ model_text names m)
model_pushed names m is_first t0 t1 t2 t3 t4 name scope phases programs is_name is_scope are_phases are_programs e1 e2 e3 e4 =
    four_pieces t0 t1 t2 t3 t4 (gap is_first) (codes "atomic " ++ (name_at names m.name.number ++ (10 ∷ [])))
    (scope_text names (scope_of m)) (phases_text names (scope_of m).phases (phase_codes m)) e1
    (e2 ∙ ap (λ n. t1 ++ (codes "atomic " ++ (n ++ (10 ∷ [])))) is_name)
    (e3 ∙ ap (λ (s : Scope). t2 ++ scope_text names s) is_scope)
    (e4
    ∙ ap (λ ps. t3 ++ phases_text names ps programs) (are_phases ∙ ap (λ (s : Scope). s.phases) is_scope)
    ∙ ap (λ cs. t3 ++ phases_text names (scope_of m).phases cs) are_programs)
