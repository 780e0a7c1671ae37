-- Sources of the code as files that are written, without memory.
use Rattle.std.specs.Prelude.{map}
use Rattle.dv_source.specs.declared.tree.SourceItem.{SourceItem}
use Rattle.dv_source.specs.declared.tree.SourceItem.TheVariants as item
use Rattle.dv_source.specs.declared.tree.SourceAtomic.{SourceAtomic}
use Rattle.dv_source.specs.declared.tree.SourceCoupledItem.{SourceCoupledItem}
use Rattle.dv_source.specs.declared.tree.SourceCoupledItem.TheVariants as coupled_item
use Rattle.dv_source.specs.declared.tree.SourceCoupled.{SourceCoupled}
use Rattle.dv_source.specs.declared.tree.SourceModel.{SourceModel}
use Rattle.dv_source.specs.declared.tree.SourceModel.TheVariants as model
use Rattle.dv_source.specs.declared.tree.SourceFile.{SourceFile}
use Rattle.dv_syntax.specs.Trees.{phases_of, hold_of, rule_of}
use Rattle.dv_syntax.specs.Written.{AtomicItem, Declares, Lists, Starts, Holds, Rules, CoupledItem, Inputs, Outputs, Contains}
use Rattle.dv_syntax.specs.Written.{Couples, WrittenModel, WrittenAtomic, WrittenCoupled, WrittenFile}

abbrev pub item_of : SourceItem → AtomicItem
item_of (item.Declares d) = Declares d
item_of (item.Lists p) = Lists (phases_of p)
item_of (item.Starts s) = Starts s
item_of (item.Holds h) = Holds (hold_of h)
item_of (item.Rules r) = Rules (rule_of r)

abbrev pub coupled_item_of : SourceCoupledItem → CoupledItem
coupled_item_of (coupled_item.Inputs port) = Inputs port
coupled_item_of (coupled_item.Outputs port) = Outputs port
coupled_item_of (coupled_item.Contains part) = Contains part
coupled_item_of (coupled_item.Couples link) = Couples link

abbrev pub written_atomic : SourceAtomic → WrittenModel
written_atomic m = WrittenAtomic m.name (map item_of m.items.items)

abbrev pub written_coupled : SourceCoupled → WrittenModel
written_coupled m = WrittenCoupled m.name (map coupled_item_of m.items.items)

abbrev pub written_model : SourceModel → WrittenModel
written_model (model.Atomic m) = written_atomic m
written_model (model.Coupled m) = written_coupled m

-- the file that a source is, as it is written
abbrev pub source_of : SourceFile → WrittenFile
source_of s = record { header = s.header; models = map written_model s.models.items; root = s.root }
