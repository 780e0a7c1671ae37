-- The links of a text, each counted as often as it has copies, are as many as there are copies that arrive and leave where each
-- source sends one value.
use Rattle.std.proofs.Common.{◌≡◌, ℕ, zero, suc, ◌+◌, List, [], ◌∷◌, length, map, get_or, replicate, refl, ap, sym}
use Rattle.std.proofs.Common.{◌∙◌, subst, arith}
use Rattle.std.specs.List.{All, sum_by}
use Rattle.std.proofs.lemmas.List.Elements.{All-head, All-tail}
use Rattle.dv_syntax.specs.Trees.{FileTree}
use Rattle.dv_bag.specs.Bag.{Counts, IsBag, bag_at, union}
use Rattle.dv_bag.specs.BagLists.{AllAreBags, AreBags}
use Rattle.dv_bag.proofs.Monoid.{union_assoc, union_bag, union_comm}
use Rattle.dv_tree.specs.Instances.{Instance, instances, root_inputs, root_outputs}
use Rattle.dv_tree.specs.Routing.{arrives, leaves}
use Rattle.dv_tree.specs.Unions.{AllUnite, Unite}
use Rattle.dv_tree.proofs.Linear.{arrives_united, leaves_united}
use Rattle.dv_tree.proofs.Quiet.{arrives_nothing, leaves_nothing}
use Rattle.dv_flat.specs.Ends.{input_ports, output_ports}
use Rattle.dv_flat.specs.Links.{alone_at, copies_of, direct_copies, direct_links, entry_copies, entry_links}
use Rattle.dv_flat.specs.Links.{exit_copies, exit_links, root_ports, sent_alone}
use Rattle.dv_flat.specs.declared.link.ComponentPort.{ComponentPort}
use Rattle.dv_flat.proofs.Alike.{Alike}
use Rattle.dv_flat.proofs.Copies.{copies, copies_counted, copies_union}
use Rattle.dv_flat.proofs.Sources.{AllSilent, IsSilent, all_left, all_outputs, all_ports, alone_are_bags, sent_are_bags, unite_left}
use Rattle.dv_flat.proofs.LinkTotals.{copies_total}
use Rattle.dv_flat.proofs.Sums.{sums_none, sums_united}
use Rattle.dv_flat.proofs.Trees.{one_at_each, one_value}

-- ---- What arrives and what leaves, in all

abbrev pub arrival_at : List (List Counts) → ComponentPort → ℕ
arrival_at received to = copies (bag_at (get_or received to.component []) to.port)

abbrev pub arrival_count : FileTree → List (List Counts) → List Counts → ℕ
arrival_count f sent input = sum_by (arrival_at (arrives f sent input)) (input_ports f)

abbrev pub exit_at : FileTree → List (List Counts) → ℕ → ℕ
exit_at f sent port = copies (bag_at (leaves f sent) port)

abbrev pub exit_count : FileTree → List (List Counts) → ℕ
exit_count f sent = sum_by (exit_at f sent) (root_ports (root_outputs f))

copies_united : (a b c : Counts) → c ≡ union a b → Alike (copies c) (copies a + copies b)
copies_united a b c e = let both = ap copies e ∙ copies_union a b in omega (arith, both)

pub arrivals_unite : (f : FileTree) (x y z : List Counts) (a b c : List (List Counts)) → Unite x y z → AllUnite a b c →
    Alike (arrival_count f c z) (arrival_count f a x + arrival_count f b y)
arrivals_unite f x y z a b c input sent =
    sums_united (arrival_at (arrives f a x)) (arrival_at (arrives f b y)) (arrival_at (arrives f c z))
    (λ to.
    copies_united _ _ _ ((arrives_united union_bag union_comm union_assoc f x y z a b c input sent to.component).together to.port))
    (input_ports f)

exits_unite : (f : FileTree) (a b c : List (List Counts)) → AllUnite a b c → Alike (exit_count f c) (exit_count f a + exit_count f b)
exits_unite f a b c sent =
    sums_united (exit_at f a) (exit_at f b) (exit_at f c)
    (λ port. copies_united _ _ _ ((leaves_united union_bag union_comm union_assoc f a b c sent).together port))
    (root_ports (root_outputs f))

-- where bags are sent, bags arrive and leave
bags_arrive : (f : FileTree) (sent : List (List Counts)) (input : List Counts) → AllAreBags sent → AreBags input →
    AllAreBags (arrives f sent input)
bags_arrive f sent input all are k port =
    (arrives_united union_bag union_comm union_assoc f input [] input sent [] sent (unite_left input are) (all_left sent all) k).left port

bags_leave : (f : FileTree) (sent : List (List Counts)) → AllAreBags sent → AreBags (leaves f sent)
bags_leave f sent all port = (leaves_united union_bag union_comm union_assoc f sent [] sent (all_left sent all)).left port

-- ---- Where no values are sent

silent_each : (is : List Instance) → AllSilent (map (λ (i : Instance). []) is)
silent_each [] k port = refl
silent_each (i ∷ is) zero port = refl
silent_each (i ∷ is) (suc k) port = silent_each is k port

none_in : (bags : List Counts) → All (λ b. b ≡ []) bags → IsSilent bags
none_in [] none port = refl
none_in (b ∷ bags) none zero = All-head (λ x. x ≡ []) b bags none
none_in (b ∷ bags) none (suc port) = none_in bags (All-tail (λ x. x ≡ []) b bags none) port

none_in_each : (all : List (List Counts)) → All (All (λ b. b ≡ [])) all → AllSilent all
none_in_each [] none k port = refl
none_in_each (bags ∷ all) none zero port = none_in bags (All-head (All (λ b. b ≡ [])) bags all none) port
none_in_each (bags ∷ all) none (suc k) port = none_in_each all (All-tail (All (λ b. b ≡ [])) bags all none) k port

unite_silent : (a b : List Counts) → IsSilent a → IsSilent b → Unite a b b
unite_silent a b none_a none_b = record {
  left = λ port. subst IsBag (sym (none_a port)) tt;
  right = λ port. subst IsBag (sym (none_b port)) tt;
  together = λ port. none_b port ∙ sym (ap (λ v. union v (bag_at b port)) (none_a port) ∙ ap (union []) (none_b port));
}

-- no values at any component
abbrev nothing_sent : FileTree → List (List Counts)
nothing_sent f = map (λ (i : Instance). []) (instances f)

unite_nothing : (f : FileTree) (sent : List (List Counts)) → AllSilent sent → AllUnite sent (nothing_sent f) (nothing_sent f)
unite_nothing f sent all k =
    unite_silent (get_or sent k []) (get_or (nothing_sent f) k []) (all k) (silent_each (instances f) k)

silence_arrives : (f : FileTree) (sent : List (List Counts)) (input : List Counts) → AllSilent sent → IsSilent input →
    Alike (arrival_count f sent input) 0
silence_arrives f sent input all none =
    let each = none_in_each (arrives f (nothing_sent f) []) (arrives_nothing f 0) in
    let nothing =
    sums_none (arrival_at (arrives f (nothing_sent f) [])) (λ to. ap copies (each to.component to.port)) (input_ports f) in
    let both =
    arrivals_unite f input [] [] sent (nothing_sent f) (nothing_sent f) (unite_silent input [] none (λ port. refl))
    (unite_nothing f sent all) in
    omega (arith, nothing, both)

silence_leaves : (f : FileTree) (sent : List (List Counts)) → AllSilent sent → Alike (exit_count f sent) 0
silence_leaves f sent all =
    let none = none_in (leaves f (nothing_sent f)) (leaves_nothing f) in
    let nothing = sums_none (exit_at f (nothing_sent f)) (λ port. ap copies (none port)) (root_ports (root_outputs f)) in
    let both = exits_unite f sent (nothing_sent f) (nothing_sent f) (unite_nothing f sent all) in
    omega (arith, nothing, both)

-- ---- The three sorts of links

pub direct_sum : (f : FileTree) → Alike (copies_of (direct_links f)) (arrival_count f (one_at_each (instances f)) [])
direct_sum f =
    let each =
    copies_total (direct_copies f) (λ from. arrival_at (arrives f (sent_alone from) []))
    (λ from to. copies_counted _ (bags_arrive f (sent_alone from) [] (sent_are_bags from.component from.port) (λ port. tt)
    to.component to.port))
    (output_ports f) (input_ports f) in
    let all =
    all_outputs (λ sent. arrival_count f sent []) (λ a b c both. arrivals_unite f [] [] [] a b c (unite_left [] (λ port. tt)) both)
    (λ sent none. silence_arrives f sent [] none (λ port. refl)) (instances f) in
    omega (arith, each, all)

pub entry_sum : (f : FileTree) →
    Alike (copies_of (entry_links f)) (arrival_count f [] (replicate (length (root_inputs f)) one_value))
entry_sum f =
    let each =
    copies_total (entry_copies f) (λ from. arrival_at (arrives f [] (alone_at from)))
    (λ from to. copies_counted _ (bags_arrive f [] (alone_at from) (λ k port. tt) (alone_are_bags from) to.component to.port))
    (root_ports (root_inputs f)) (input_ports f) in
    let all =
    all_ports (λ input. arrival_count f [] input)
    (λ a b c both. arrivals_unite f a b c [] [] [] both (λ k. unite_left [] (λ port. tt)))
    (λ input none. silence_arrives f [] input (λ k port. refl) none) (length (root_inputs f)) in
    omega (arith, each, all)

pub exit_sum : (f : FileTree) → Alike (copies_of (exit_links f)) (exit_count f (one_at_each (instances f)))
exit_sum f =
    let each =
    copies_total (exit_copies f) (λ from. exit_at f (sent_alone from))
    (λ from to. copies_counted _ (bags_leave f (sent_alone from) (sent_are_bags from.component from.port) to))
    (output_ports f) (root_ports (root_outputs f)) in
    let all =
    all_outputs (exit_count f) (λ a b c both. exits_unite f a b c both) (λ sent none. silence_leaves f sent none) (instances f) in
    omega (arith, each, all)
