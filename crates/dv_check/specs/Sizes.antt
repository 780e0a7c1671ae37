-- The sizes of models, counted from the sizes of the models of their parts, without a tree.
use Rattle.std.specs.Prelude.{ℕ, zero, suc, ◌+◌, ◌==◌, nat_lt, max, Bool, ◌||◌, if◌then◌else◌, List, [], map, filter_map, fold, slice_get}
use Rattle.std.specs.Prelude.{Option, Some, None}
use Rattle.dv_bag.specs.Bag.{capped}
use Rattle.dv_syntax.specs.Trees.{ModelTree, AtomicModel, CoupledModel}
use Rattle.dv_check.specs.Limits.{greatest_components, greatest_depth, greatest_instances}
use Rattle.dv_check.specs.declared.sizes.Contents.{Contents}
use Rattle.dv_check.specs.declared.sizes.Contents.TheVariants.{Rules, Parts}
use Rattle.dv_check.specs.declared.sizes.Size.{Size}
use Rattle.dv_check.specs.Cycles.{position_inside}
use Rattle.dv_check.specs.Refusals.{passes_limit}
use Rattle.dv_check.specs.Tree.{PartTree, component_count, depth_of, instance_count, parts_to}

-- an atomic model, and a coupled one without its parts
abbrev pub component : Size
component = record { depth = 0; components = 1; instances = 1 }

abbrev pub alone : Size
alone = record { depth = 1; components = 0; instances = 1 }

-- a coupled model, by its parts
abbrev pub size_of_tree : PartTree → Size
size_of_tree t = record { depth = depth_of t; components = component_count t; instances = suc (instance_count t) }

-- a model, down to a number of levels
abbrev pub size_to : ℕ → List ModelTree → ModelTree → Size
size_to levels models (AtomicModel m) = component
size_to levels models (CoupledModel m) = size_of_tree (parts_to levels models m)

-- what is kept of a size: a number past the greatest of the code counts as that one
abbrev pub kept : Size → Size
kept s = record { depth = capped s.depth; components = capped s.components; instances = capped s.instances }

-- a model with one more part
abbrev pub with_part : Size → Size → Size
with_part s part = record {
  depth = max s.depth (capped (part.depth + 1));
  components = capped (s.components + part.components);
  instances = capped (s.instances + part.instances);
}

abbrev pub with_known_part : Size → Option Size → Size
with_known_part s None = s
with_known_part s (Some part) = with_part s part

-- a model with the part whose model is at a position, by the sizes of the models
abbrev pub with_part_at : List Size → Size → ℕ → Size
with_part_at sizes s position = with_known_part s (slice_get sizes position)

-- what is inside a model: the positions of the models of its parts, or none for an atomic one
abbrev pub contents_of : (ℕ → Option ℕ) → ModelTree → Option (List ℕ)
contents_of position (AtomicModel m) = None
contents_of position (CoupledModel m) = Some (filter_map (position_inside position) m.parts)

-- what the code keeps of it
abbrev pub contents_by : Contents → Option (List ℕ)
contents_by Rules = None
contents_by (Parts positions) = Some positions.items

-- a model's size, by its contents and the sizes of the models
abbrev pub size_by : List Size → Option (List ℕ) → Size
size_by sizes None = component
size_by sizes (Some positions) = fold (with_part_at sizes) alone positions

-- the sizes of the models, down to fewer levels than this
abbrev pub sizes_below : ℕ → List (Option (List ℕ)) → List Size
sizes_below zero contents = []
sizes_below (suc levels) contents = map (size_by (sizes_below levels contents)) contents

-- whether a size exceeds a limit: no component, or too many, too many instances, or coupled models nested too deeply
abbrev pub size_passes_limit : Size → Bool
size_passes_limit s =
    s.components == 0
    || (nat_lt greatest_components s.components
    || (nat_lt greatest_instances s.instances || nat_lt greatest_depth s.depth))

-- the components of a tree within the limits
abbrev pub components_within : PartTree → Option ℕ
components_within t = if passes_limit t then None else Some (component_count t)
