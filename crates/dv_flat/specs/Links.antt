-- The paths and the links of a text without its tree. The number of copies that a link carries is how often one value arrives by routing if
-- only this output sends it: once for each way.
use Rattle.std.specs.Prelude.{ℕ, zero, suc, pos, List, [], ◌∷◌, ◌++◌, length, map, replicate}
use Rattle.std.specs.Prelude.{filter_map, slice_index_or, Option, Some, None}
use Rattle.std.specs.List.{flat_map, range_with_len, sum_by}
use Rattle.dv_syntax.specs.Trees.{FileTree}
use Rattle.dv_bag.specs.Bag.{Counts, bag_at, count_of}
use Rattle.dv_tree.specs.Instances.{instances, root_inputs, root_outputs}
use Rattle.dv_tree.specs.Paths.{texts_of, with_dots}
use Rattle.dv_tree.specs.Routing.{arrives, leaves}
use Rattle.dv_flat.specs.Ends.{input_ports, output_ports}
use Rattle.dv_flat.specs.declared.link.ComponentPort.{ComponentPort}
use Rattle.dv_flat.specs.declared.link.Link.{Link}

-- the paths of the components, by their numbers
abbrev pub paths_of : List (List ℕ) → FileTree → List (List ℕ)
paths_of names f = map (λ i. with_dots (texts_of names i.path)) (instances f)

-- one value at a port, and none at those before it
abbrev pub alone_at : ℕ → List Counts
alone_at port = replicate port [] ++ ((pos 0, 1) ∷ []) ∷ []

-- only this output port of a component sends, one value
abbrev pub sent_alone : ComponentPort → List (List Counts)
sent_alone from = replicate from.component [] ++ alone_at from.port ∷ []

-- the number of copies of that value that arrive at an input port of a component
abbrev pub copies_at : List (List Counts) → ComponentPort → ℕ
copies_at received to = count_of (pos 0) (bag_at (slice_index_or received to.component []) to.port)

-- from an output of a component to an input of one; from an input of the root; to an output of the root
abbrev pub direct_copies : FileTree → ComponentPort → ComponentPort → ℕ
direct_copies f from to = copies_at (arrives f (sent_alone from) []) to

abbrev pub entry_copies : FileTree → ℕ → ComponentPort → ℕ
entry_copies f from to = copies_at (arrives f [] (alone_at from)) to

abbrev pub exit_copies : FileTree → ComponentPort → ℕ → ℕ
exit_copies f from to = count_of (pos 0) (bag_at (leaves f (sent_alone from)) to)

-- a link with some copies; there is no link for zero copies
abbrev pub link : {From To : Type 0} → From → To → ℕ → Option (Link From To)
link from to zero = None
link from to (suc n) = Some (record { from = from; to = to; copies = suc n })

-- the links of one end to those that it reaches, by the number of copies that arrive there
abbrev pub links_from : {From To : Type 0} → (From → To → ℕ) → List To → From → List (Link From To)
links_from copies tos from = filter_map (λ to. link from to (copies from to)) tos

-- the ports of the root with these names, by their indices
abbrev pub root_ports : List ℕ → List ℕ
root_ports names = range_with_len 0 (length names)

-- all links, each pair of ends once, by the first end and then by the second
abbrev pub direct_links : FileTree → List (Link ComponentPort ComponentPort)
direct_links f = flat_map (links_from (direct_copies f) (input_ports f)) (output_ports f)

abbrev pub entry_links : FileTree → List (Link ℕ ComponentPort)
entry_links f = flat_map (links_from (entry_copies f) (input_ports f)) (root_ports (root_inputs f))

abbrev pub exit_links : FileTree → List (Link ComponentPort ℕ)
exit_links f = flat_map (links_from (exit_copies f) (root_ports (root_outputs f))) (output_ports f)

-- the number of copies of all links
abbrev pub copies_of : {From To : Type 0} → List (Link From To) → ℕ
copies_of {From = From} {To = To} links = sum_by (λ (l : Link From To). l.copies) links
