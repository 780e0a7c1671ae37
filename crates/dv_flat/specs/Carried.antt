-- Routing by links: each value that is sent arrives as often as the links from there have copies.
use Rattle.std.specs.Prelude.{ℕ, suc, ◌*◌, ◌==◌, ◌&&◌, Bool, List, [], ◌∷◌, filter, fold, map, slice_index_or}
use Rattle.std.specs.List.{range_with_len}
use Rattle.dv_syntax.specs.Trees.{FileTree}
use Rattle.dv_tree.specs.Instances.{Instance, instances, root_outputs}
use Rattle.dv_bag.specs.Bag.{Counts, bag_at, capped, union}
use Rattle.dv_flat.specs.Ends.{input_count, port_at}
use Rattle.dv_flat.specs.Links.{direct_links, entry_links, exit_links, root_ports}
use Rattle.dv_flat.specs.declared.link.ComponentPort.{ComponentPort}
use Rattle.dv_flat.specs.declared.link.Link.{Link}

-- a bag with more copies of each value
abbrev pub times : ℕ → Counts → Counts
times n [] = []
times n (p ∷ ps) = (p.0, capped (p.1 * n)) ∷ times n ps

abbrev pub same_port : ComponentPort → ComponentPort → Bool
same_port a b = (a.component == b.component) && (a.port == b.port)

-- what the components send at a port
abbrev pub sent_at : List (List Counts) → ComponentPort → Counts
sent_at sent from = bag_at (slice_index_or sent from.component []) from.port

-- with what a link carries, by what is sent at its first end
abbrev pub with_link : {From To : Type 0} → (From → Counts) → Counts → Link From To → Counts
with_link sent bag l = union bag (times l.copies (sent l.from))

-- what arrives at an input port of a component by the direct links and the entry links that lead there
abbrev pub carried_to : FileTree → List (List Counts) → List Counts → ComponentPort → Counts
carried_to f sent input to =
    fold (with_link (bag_at input))
    (fold (with_link (sent_at sent)) [] (filter (λ (l : Link ComponentPort ComponentPort). same_port l.to to) (direct_links f)))
    (filter (λ (l : Link ℕ ComponentPort). same_port l.to to) (entry_links f))

-- what leaves at an output port of the root
abbrev pub carried_out : FileTree → List (List Counts) → ℕ → Counts
carried_out f sent port =
    fold (with_link (sent_at sent)) [] (filter (λ (l : Link ComponentPort ℕ). l.to == port) (exit_links f))

-- what arrives at the components from a number on, port by port
abbrev pub carried_from : FileTree → List (List Counts) → List Counts → ℕ → List Instance → List (List Counts)
carried_from f sent input k [] = []
carried_from f sent input k (i ∷ is) =
    map (λ port. carried_to f sent input (port_at k port)) (range_with_len 0 (input_count i.model))
    ∷ carried_from f sent input (suc k) is

-- what each component receives by links, and what leaves the root
abbrev pub arrives_by_links : FileTree → List (List Counts) → List Counts → List (List Counts)
arrives_by_links f sent input = carried_from f sent input 0 (instances f)

abbrev pub leaves_by_links : FileTree → List (List Counts) → List Counts
leaves_by_links f sent = map (carried_out f sent) (root_ports (root_outputs f))
