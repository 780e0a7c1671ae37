-- What the tables of a text route is what its links do.
use Rattle.std.proofs.Common.{◌≡◌, List, [], refl, ap, sym, ◌∙◌}
use Rattle.std.specs.Prelude.{Option, Some, None, option_map}
use Rattle.std.specs.Borrow.{Bor}
use Rattle.std.proofs.lemmas.List.{append-nil}
use Rattle.dv_syntax.specs.Trees.{ModelTree, CoupledTree, file_of}
use Rattle.dv_syntax.specs.declared.tree.Model.{Model}
use Rattle.dv_bag.specs.Bag.{Counts}
use Rattle.dv_check.specs.declared.checked.Checked.{Checked}
use Rattle.dv_check.specs.Limits.{greatest_depth}
use Rattle.dv_check.specs.Tree.{tree_of}
use Rattle.dv_tree.specs.Instances.{root_of}
use Rattle.dv_tree.specs.Routing.{Arrived, from_parts, arriving, leaves_root, arrives_in_root, leaves, arrives}
use Rattle.dv_tree.specs.Tables.{Source, LevelTable, level_of, levels_of, root_table}
use Rattle.dv_tree.specs.Nodes.{nodes_to, from_level, to_level, leaving_nodes, kept_nodes, arriving_nodes, root_leaving, root_received}
use Rattle.dv_tree.specs.Reached.{AreReached, borrowed, borrowed_models, text_of_reached}
use Rattle.dv_tree.proofs.ReachedModels.{arrives_same, leaves_same}
use Rattle.dv_tree.proofs.Mirrors.{mirrors_to, from_table, to_table, same_leaving, same_arriving}

root_leaves : (models : List ModelTree) (root : Option CoupledTree) (sent : List (List Counts)) →
    root_leaving (levels_of models) (option_map (level_of models) root) sent ≡ leaves_root models root sent
root_leaves models None sent = refl
root_leaves models (Some m) sent =
    let bags = leaving_nodes (nodes_to greatest_depth (levels_of models) (level_of models m)) sent in
    ap (λ (a : Arrived). a.own) (sym (from_table models m bags))
    ∙ ap (λ xs. (from_parts models m xs).own) (sym (same_leaving (mirrors_to greatest_depth models m) sent))

root_arrives : (models : List ModelTree) (root : Option CoupledTree) (sent : List (List Counts)) (input : List Counts) →
    root_received (levels_of models) (option_map (level_of models) root) sent input ≡ arrives_in_root models root sent input
root_arrives models None sent input = refl
root_arrives models (Some m) sent input =
    let h = mirrors_to greatest_depth models m in
    let nodes = nodes_to greatest_depth (levels_of models) (level_of models m) in
    let comes = to_level (level_of models m) input (from_level (level_of models m) (leaving_nodes nodes sent)) in
    ap (arriving_nodes nodes comes) (sym (append-nil (kept_nodes nodes sent)))
    ∙ (same_arriving h comes sent [] ∙ ap (λ xs. arriving models (tree_of models m) xs sent) (to_table h m input sent))

module _ (checked : Checked) (models : List (Bor Model)) (s : Source)
    (view : record { file = checked.file; names = checked.names; reached = borrowed models } ≡ s)
    (h : AreReached (file_of checked.file) (borrowed_models models)) (levels : List (Option LevelTable)) (root : Option LevelTable)
    (levels_are : levels ≡ levels_of (borrowed_models models))
    (root_is : root ≡ root_table (text_of_reached (file_of checked.file) (borrowed_models models))) (sent : List (List Counts)) where
  pub leaves_made : root_leaving levels root sent ≡ leaves (file_of s.file) sent
  leaves_made =
      let f = file_of checked.file in
      let reached = borrowed_models models in
      ap (λ ls. root_leaving ls root sent) levels_are
      ∙ (ap (λ l. root_leaving (levels_of reached) l sent) root_is
      ∙ (root_leaves reached (root_of (text_of_reached f reached)) sent
      ∙ (leaves_same f reached h sent ∙ ap (λ (x : Source). leaves (file_of x.file) sent) view)))

  pub arrives_made : (input : List Counts) → root_received levels root sent input ≡ arrives (file_of s.file) sent input
  arrives_made input =
      let f = file_of checked.file in
      let reached = borrowed_models models in
      ap (λ ls. root_received ls root sent input) levels_are
      ∙ (ap (λ l. root_received (levels_of reached) l sent input) root_is
      ∙ (root_arrives reached (root_of (text_of_reached f reached)) sent input
      ∙ (arrives_same f reached h sent input ∙ ap (λ (x : Source). arrives (file_of x.file) sent input) view)))
