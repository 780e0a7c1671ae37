-- The parts of coupled models by their tables, one level down.
use Rattle.std.proofs.Common.{◌≡◌, ◌≢◌, ℕ, zero, suc, ◌-◌, ◌<◌, List, length, map, get_or, refl, ap, sym, ◌∙◌, arith}
use Rattle.std.specs.Borrow.{Bor}
use Rattle.std.specs.Prelude.{Option}
use Rattle.std.proofs.lemmas.List.{get_or-map, length-map}
use Rattle.dv_syntax.specs.Trees.{model_of}
use Rattle.dv_syntax.specs.declared.tree.Model.{Model}
use Rattle.dv_eval.specs.Scope.{Scope}
use Rattle.dv_tree.specs.declared.resolved_parts.ResolvedPart.{ResolvedPart}
use Rattle.dv_tree.specs.Nodes.{nodes_by, nodes_to}
use Rattle.dv_tree.specs.Reached.{borrowed, borrowed_models}
use Rattle.dv_tree.specs.Tables.{LevelTable, scope_of_model}

-- above no level the parts are those of the table
nodes_to-below : (depth : ℕ) (levels : List (Option LevelTable)) (l : LevelTable) → depth ≢ 0 →
    nodes_to depth levels l ≡ nodes_by (nodes_to (depth - 1) levels) levels l.parts
nodes_to-below zero levels l some = absurd (some refl)
nodes_to-below (suc depth) levels l some = ap (λ n. nodes_by (nodes_to n levels) levels l.parts) (omega arith)

-- the same for a list of parts that is that of the table
pub nodes_of_table : (depth : ℕ) (levels : List (Option LevelTable)) (l : LevelTable) (resolved : List ResolvedPart) → depth ≢ 0 →
    resolved ≡ l.parts → nodes_by (nodes_to (depth - 1) levels) levels resolved ≡ nodes_to depth levels l
nodes_of_table depth levels l resolved some are =
    ap (nodes_by (nodes_to (depth - 1) levels) levels) are ∙ sym (nodes_to-below depth levels l some)

-- what is read of scopes is that of the model which is read
pub scope_read : (models : List Model) (scopes : List Scope) (index : ℕ) (m : Model) (s : Scope) →
    scopes ≡ map scope_of_model (map model_of models) → index < length models → m ≡ get_or models index m →
    s ≡ get_or scopes index s → s ≡ scope_of_model (model_of m)
scope_read models scopes index m s all within model scope =
    scope
    ∙ (ap (λ xs. get_or xs index s) all
    ∙ (get_or-map scope_of_model (map model_of models) index (model_of m) s (omega (arith, within, length-map models model_of))
    ∙ ap scope_of_model (get_or-map model_of models index m (model_of m) within ∙ ap model_of (sym model))))

-- the same where the models are borrowed
pub scope_lent : (models : List (Bor Model)) (scopes : List Scope) (index : ℕ) (m : Bor Model) (s : Scope) →
    scopes ≡ map scope_of_model (borrowed_models models) → index < length models → m ≡ get_or models index m →
    s ≡ get_or scopes index s → s ≡ scope_of_model (model_of m.now)
scope_lent models scopes index m s all within model scope =
    scope_read (borrowed models) scopes index m.now s all (omega (arith, within, length-map models (λ (x : Bor Model). x.now)))
    (sym (get_or-map (λ (x : Bor Model). x.now) models index m m.now within ∙ ap (λ (x : Bor Model). x.now) (sym model))) scope
