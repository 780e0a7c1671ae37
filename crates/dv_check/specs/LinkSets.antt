-- Sets of links.
use Rattle.std.specs.Prelude.{nat_eq, Bool, true, false, ◌&&◌, if◌then◌else◌, option_map}
use Rattle.std.specs.List.{list_any}
use Rattle.std.specs.Option.{option_eq}
use Rattle.dv_syntax.specs.declared.tree.End.{End}
use Rattle.dv_syntax.specs.declared.tree.Link.{Link}
use Rattle.dv_check.specs.declared.link_set.EndKey.{EndKey}
use Rattle.dv_check.specs.declared.link_set.LinkKey.{LinkKey}
use Rattle.dv_check.specs.declared.link_set.LinkSet.{LinkSet}

abbrev pub end_key_of : End → EndKey
end_key_of e = record { part = option_map (λ n. n.number) e.part; port = e.port.number }

abbrev pub key_of : Link → LinkKey
key_of l = record { from = end_key_of l.from; to = end_key_of l.to }

-- links are the same if the names of their parts and ports are
abbrev pub same_end : EndKey → EndKey → Bool
same_end a b = option_eq nat_eq a.part b.part && nat_eq a.port b.port

abbrev pub same_key : LinkKey → LinkKey → Bool
same_key a b = same_end a.from b.from && same_end a.to b.to

abbrev pub same_link : Link → Link → Bool
same_link a b = same_key (key_of a) (key_of b)

-- a set of links as a function: the empty one, and one with another link
unfoldable pub no_link : Link → Bool
no_link l = false

unfoldable pub with_link : (Link → Bool) → Link → Link → Bool
with_link set link l = if same_link link l then true else set l

-- whether a set has a link
unfoldable pub has_link : LinkSet → Link → Bool
has_link s l = list_any (same_key (key_of l)) s.keys.keys
