use Rattle.std.proofs.Common.{◌≡◌, ◌≤◌, length}
use Rattle.dv_syntax.specs.Trees.{file_of}
use Rattle.dv_tree.specs.Instances.{instances}
use Rattle.dv_coded.specs.Components.{AreMembersFrom, AreModelsOf}
use Rattle.dv_coded.proofs.components.members.Given as goal

abbrev pub invariant-loop-component : goal.invariant-loop-component
invariant-loop-component l = record {
  members : AreMembersFrom l.limit l.models.programs.items l.models.responses.items 0 l.members.items (instances (file_of l.tree.file));
  count : length l.members.items ≡ l.component;
  known : AreModelsOf (file_of l.tree.file).models l.models;
  few : length l.models.programs.items ≤ l.component;
}
