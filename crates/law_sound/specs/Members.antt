-- The components of a text by their programs, as members of a flat model.
use Rattle.std.specs.Prelude.{ℕ, ◌+◌, List, [], ◌∷◌, length, map}
use Rattle.dv_syntax.specs.Trees.{AtomicTree, FileTree}
use Rattle.dv_tree.specs.Instances.{Instance, instances, root_outputs}
use Rattle.dv_gen.specs.ModelCode.{phase_codes}
use Rattle.dv_flat.specs.Ends.{input_count}
use Rattle.dv_flat.specs.Links.{direct_links, entry_links, exit_links}
use Rattle.dv_flat.specs.declared.link.ComponentPort.{ComponentPort}
use Rattle.dv_flat.specs.declared.link.Link.{Link as TextLink}
use Rattle.law_compiled.specs.Behaviours.{behaviour_by}
use Rattle.law_compiled.specs.Networks.{start_by}
use Rattle.dv_conservative.specs.Flat.{Flat, Member}
use Rattle.dv_conservative.specs.Links.{Link}

abbrev pub member_of : ℕ → ℕ → AtomicTree → Member
member_of limit k m =
    record { number = k; ports = input_count m; behaviour = behaviour_by (phase_codes m); start = start_by limit m }

-- components from a number on
abbrev pub members_from : ℕ → ℕ → List Instance → List Member
members_from limit k [] = []
members_from limit k (i ∷ is) = member_of limit k i.model ∷ members_from limit (k + 1) is

-- direct, entry and exit links, in which the outside is 0
abbrev pub direct_of : TextLink ComponentPort ComponentPort → Link
direct_of l = record {
  from = l.from.component;
  from_port = l.from.port;
  to = l.to.component;
  to_port = l.to.port;
  copies = l.copies;
}

abbrev pub entry_of : TextLink ℕ ComponentPort → Link
entry_of l = record { from = 0; from_port = l.from; to = l.to.component; to_port = l.to.port; copies = l.copies }

abbrev pub exit_of : TextLink ComponentPort ℕ → Link
exit_of l = record { from = l.from.component; from_port = l.from.port; to = 0; to_port = l.to; copies = l.copies }

-- a text as a flat model: the programs of its components, and its links
abbrev pub flat_of : ℕ → FileTree → Flat
flat_of limit f = record {
  members = members_from limit 0 (instances f);
  links = map direct_of (direct_links f);
  entrances = map entry_of (entry_links f);
  exits = map exit_of (exit_links f);
  outputs = length (root_outputs f);
}
