use Rattle.std.proofs.Common.{◌≡◌, List, ◌∙◌, subst}
use Rattle.std.specs.Prelude.{IfOk, Option}
use Rattle.dv_tree.specs.Reached.{borrowed_models}
use Rattle.dv_tree.specs.Tables.{LevelTable}
use Rattle.dv_tree.proofs.Resolved.{levels_made}
use Rattle.dv_tree.proofs.tree.tables_of.Goals as goal

pub returns : goal.returns
returns c =
    let Made : List (Option LevelTable) → Type 0 = λ tables. IfOk c.levels.result (λ levels. levels.items ≡ tables) in
    subst Made
    (levels_made (borrowed_models c.args.items.now) c.args.models.now c.deref.result.now c.deref-2.result.now c.requires.names
    (c.deref.ensures.value ∙ c.in_ok-inputs.ensures) (c.deref-2.ensures.value ∙ c.in_ok-outputs.ensures)) c.levels.ensures
