-- A text as a flat model routes as its links do, and so has the trace of its network.
use Rattle.std.proofs.Common.{◌≡◌, ℕ, zero, suc, ◌+◌, ◌*◌, ◌≤◌, Bool, true, false, ◌&&◌, ◌||◌, ◌==◌, cond, nat_eq, nat_lt, List}
use Rattle.std.proofs.Common.{[], ◌∷◌, ◌++◌, length, map, IsTrue, refl, sym, ap, ◌∙◌, subst, arith}
use Rattle.std.specs.Prelude.{slice_index_or}
use Rattle.std.specs.List.{cons_option, filter, flat_map, fold, range_with_len}
use Rattle.std.proofs.lemmas.Bool.{and_parts}
use Rattle.std.proofs.lemmas.Bool.Decides.{nat_tests}
use Rattle.std.proofs.lemmas.List.{length-map}
use Rattle.dv_syntax.specs.Trees.{AtomicTree, FileTree}
use Rattle.dv_bag.specs.Bag.{Counts, IsBag, bag_at, capped, union}
use Rattle.dv_bag.specs.Part.{PartOf, joined}
use Rattle.dv_devs.specs.Behaviour.{Behaviour, Component, Reaction}
use Rattle.dv_devs.specs.Network.{components_at, emissions, emissions_at, entries_by, outer_from, reactions, trace_at, trace_before}
use Rattle.dv_bag.specs.BagLists.{AllAreBags}
use Rattle.dv_bag.specs.declared.entry.Entry.{Entry}
use Rattle.dv_devs.specs.Parts.{part_at, part_before, sent_among}
use Rattle.dv_devs.proofs.Parts.{all_same, emissions_short}
use Rattle.dv_tree.specs.Instances.{Instance, instances, root_outputs}
use Rattle.dv_gen.specs.ModelCode.{phase_codes}
use Rattle.dv_flat.specs.Carried.{arrives_by_links, carried_from, carried_out, carried_to, leaves_by_links, same_port, with_link}
use Rattle.dv_flat.specs.Carried as text
use Rattle.dv_flat.specs.Ends.{input_count, input_ports, output_ports, port_at, ports_from}
use Rattle.dv_flat.specs.Links.{direct_copies, direct_links, entry_links, exit_links, links_from, root_ports}
use Rattle.dv_flat.specs.Links as text_links
use Rattle.dv_flat.specs.declared.link.ComponentPort.{ComponentPort}
use Rattle.dv_flat.specs.declared.link.Link.{Link as TextLink}
use Rattle.law_compiled.specs.Behaviours.{behaviour_by}
use Rattle.law_compiled.specs.Networks.{compiled_network, start_by}
use Rattle.dv_conservative.specs.Flat.{IsNumberedFrom, Member, behaviours, numbers, received, whole}
use Rattle.dv_conservative.specs.Links.{Link, carried, carried_by, delivered, inbox, leads_to, sent_of, times}
use Rattle.dv_conservative.specs.Process.{is_port_of}
use Rattle.dv_conservative.specs.Sound.{AllLead}
use Rattle.dv_conservative.proofs.Bags.{adds_copies, adds_elsewhere}
use Rattle.dv_conservative.proofs.Delivered.{delivered-append, delivered_either}
use Rattle.dv_conservative.proofs.Local.{same_number}
use Rattle.law_sound.specs.Members.{direct_of, entry_of, exit_of, flat_of, member_of, members_from}

same_times : (n : ℕ) (b : Counts) → times n b ≡ text.times n b
same_times n [] = refl
same_times n (p ∷ ps) = ap (λ (rest : Counts). (p.0, capped (p.1 * n)) ∷ rest) (same_times n ps)

-- a link that leads to a port adds its copies there
led : (k port : ℕ) (l : Link) (sent bag : Counts) → leads_to k port l ≡ true →
    delivered k port (carried_by l sent) bag ≡ union bag (text.times l.copies sent)
led k port l sent bag e =
    let parts = and_parts (nat_eq l.to k) (nat_eq l.to_port port) e in
    subst (λ (i : ℕ). delivered i port (carried_by l sent) bag ≡ union bag (text.times l.copies sent)) (same_number l.to k parts.0)
    (subst (λ (q : ℕ). delivered l.to q (carried_by l sent) bag ≡ union bag (text.times l.copies sent)) (same_number l.to_port port parts.1)
    (adds_copies l sent bag ∙ ap (union bag) (same_times l.copies sent)))

-- links one after the other
module _ {From To : Type 0} (k port : ℕ) (of : TextLink From To → Link) (here : TextLink From To → Bool) (from : From → Counts)
    (sent : ℕ → List Counts) (source : (l : TextLink From To) → bag_at (sent (of l).from) (of l).from_port ≡ from l.from)
    (copies : (l : TextLink From To) → (of l).copies ≡ l.copies) (leads : (l : TextLink From To) → leads_to k port (of l) ≡ here l) where
  first_last : (l : Link) (ls : List Link) (bag : Counts) →
      delivered k port (carried (l ∷ ls) sent) bag
      ≡ delivered k port (carried ls sent) (delivered k port (carried_by l (bag_at (sent l.from) l.from_port)) bag)
  first_last l ls bag =
      delivered-append k port (carried_by l (bag_at (sent l.from) l.from_port)) (carried ls sent) bag
      ∙ delivered_either k port (carried_by l (bag_at (sent l.from) l.from_port)) (carried ls sent) bag

  one_link : (l : TextLink From To) (bag : Counts) (t : Bool) → here l ≡ t →
      delivered k port (carried_by (of l) (bag_at (sent (of l).from) (of l).from_port)) bag ≡ cond t (with_link from bag l) bag
  one_link l bag true e =
      led k port (of l) (bag_at (sent (of l).from) (of l).from_port) bag (leads l ∙ e)
      ∙ ap (λ (n : ℕ). union bag (text.times n (bag_at (sent (of l).from) (of l).from_port))) (copies l)
      ∙ ap (λ (b : Counts). union bag (text.times l.copies b)) (source l)
  one_link l bag false e = adds_elsewhere k port (of l) (bag_at (sent (of l).from) (of l).from_port) bag (leads l ∙ e)

  all_links : (links : List (TextLink From To)) (bag : Counts) →
      delivered k port (carried (map of links) sent) bag ≡ fold (with_link from) bag (filter here links)
  all_links [] bag = refl
  all_links (l ∷ ls) bag =
      first_last (of l) (map of ls) bag
      ∙ ap (delivered k port (carried (map of ls) sent)) (one_link l bag (here l) refl)
      ∙ by_test (all_links ls) (here l)
    where
      by_test : ((b : Counts) → delivered k port (carried (map of ls) sent) b ≡ fold (with_link from) b (filter here ls)) → (t : Bool) →
          delivered k port (carried (map of ls) sent) (cond t (with_link from bag l) bag)
          ≡ fold (with_link from) bag (cond t (l ∷ filter here ls) (filter here ls))
      by_test rest true = rest (with_link from bag l)
      by_test rest false = rest bag

-- what the component of a number sends
sent_none : (js : List ℕ) (k : ℕ) → sent_of js [] k ≡ []
sent_none [] k = refl
sent_none (j ∷ js) k = rw (sent_none js k) (both (nat_eq j k))
  where
    both : (t : Bool) → cond t (let none : List Counts = [] in none) [] ≡ []
    both true = refl
    both false = refl

index_none : (i : ℕ) → slice_index_or [] i (let none : List Counts = [] in none) ≡ []
index_none zero = refl
index_none (suc i) = refl

sent_from : (limit base : ℕ) (is : List Instance) (sent : List (List Counts)) (i : ℕ) → length sent ≤ length is →
    sent_of (numbers (members_from limit base is)) sent (base + i) ≡ slice_index_or sent i []
sent_from limit base [] [] i le = sym (index_none i)
sent_from limit base [] (s ∷ ss) i le = absurd (omega arith)
sent_from limit base (x ∷ is) [] i le = sent_none (numbers (members_from limit base (x ∷ is))) (base + i) ∙ sym (index_none i)
sent_from limit base (x ∷ is) (s ∷ ss) zero le =
    let here : nat_eq base (base + 0) ≡ true = grind (arith, nat_tests) in
    rw here refl
sent_from limit base (x ∷ is) (s ∷ ss) (suc i) le =
    let there : nat_eq base (base + suc i) ≡ false = grind (arith, nat_tests) in
    let next : base + 1 + i ≡ base + suc i = omega arith in
    rw there
    (subst (λ (k : ℕ). sent_of (numbers (members_from limit (base + 1) is)) ss k ≡ slice_index_or ss i []) next
    (sent_from limit (base + 1) is ss i (omega arith)))

module _ (limit : ℕ) (f : FileTree) (sent : List (List Counts)) (short : length sent ≤ length (instances f)) where
  abbrev sends : ℕ → List Counts
  sends k = sent_of (numbers (flat_of limit f).members) sent k

  sends_at : (k : ℕ) → sends k ≡ slice_index_or sent k []
  sends_at k =
      let same : 0 + k ≡ k = omega arith in
      subst (λ (n : ℕ). sent_of (numbers (members_from limit 0 (instances f))) sent n ≡ slice_index_or sent k []) same
      (sent_from limit 0 (instances f) sent k short)

  -- at an input port
  arrive_at : (input : List Counts) (k port : ℕ) →
      delivered k port (carried (flat_of limit f).entrances (λ n. input) ++ (carried (flat_of limit f).links sends ++ [])) []
      ≡ carried_to f sent input (port_at k port)
  arrive_at input k port =
      delivered-append k port (carried (flat_of limit f).entrances (λ n. input)) (carried (flat_of limit f).links sends ++ []) []
      ∙ ap (delivered k port (carried (flat_of limit f).entrances (λ n. input)))
      (delivered-append k port (carried (flat_of limit f).links sends) [] []
      ∙ all_links k port direct_of (λ (l : TextLink ComponentPort ComponentPort). same_port l.to (port_at k port)) (text.sent_at sent) sends
      (λ l. ap (λ (bags : List Counts). bag_at bags l.from.port) (sends_at l.from.component)) (λ l. refl) (λ l. refl) (direct_links f) [])
      ∙ all_links k port entry_of (λ (l : TextLink ℕ ComponentPort). same_port l.to (port_at k port)) (bag_at input) (λ n. input)
      (λ l. refl)
      (λ l. refl) (λ l. refl) (entry_links f) _

  inbox_at : (input : List Counts) (k port n : ℕ) →
      inbox k (carried (flat_of limit f).entrances (λ n. input) ++ (carried (flat_of limit f).links sends ++ [])) port n
      ≡ map (λ port. carried_to f sent input (port_at k port)) (range_with_len port n)
  inbox_at input k port zero = refl
  inbox_at input k port (suc n) =
      ap (λ (b : Counts).
      b ∷ inbox k (carried (flat_of limit f).entrances (λ n. input) ++ (carried (flat_of limit f).links sends ++ [])) (port + 1) n)
      (arrive_at input k port)
      ∙ ap (λ (bs : List Counts). carried_to f sent input (port_at k port) ∷ bs) (inbox_at input k (port + 1) n)

  received_at : (input : List Counts) (k : ℕ) (is : List Instance) →
      received (members_from limit k is) (carried (flat_of limit f).entrances (λ n. input) ++ (carried (flat_of limit f).links sends ++ []))
      ≡ carried_from f sent input k is
  received_at input k [] = refl
  received_at input k (i ∷ is) =
      let next : k + 1 ≡ suc k = omega arith in
      ap (λ (bags : List Counts).
      bags ∷ received (members_from limit (k + 1) is)
      (carried (flat_of limit f).entrances (λ n. input) ++ (carried (flat_of limit f).links sends ++ [])))
      (inbox_at input k 0 (input_count i.model))
      ∙ ap (λ (rest : List (List Counts)). map (λ port. carried_to f sent input (port_at k port))
      (range_with_len 0 (input_count i.model)) ∷ rest)
      (received_at input (k + 1) is ∙ ap (λ (n : ℕ). carried_from f sent input n is) next)

  -- at an output port of the root
  leave_at : (port n : ℕ) → inbox 0 (carried (flat_of limit f).exits sends) port n ≡ map (carried_out f sent) (range_with_len port n)
  leave_at port zero = refl
  leave_at port (suc n) =
      ap (λ (b : Counts). b ∷ inbox 0 (carried (flat_of limit f).exits sends) (port + 1) n)
      (all_links 0 port exit_of (λ (l : TextLink ComponentPort ℕ). l.to == port) (text.sent_at sent) sends
      (λ l. ap (λ (bags : List Counts). bag_at bags l.from.port) (sends_at l.from.component)) (λ l. refl) (λ l. refl) (exit_links f) [])
      ∙ ap (λ (bs : List Counts). carried_out f sent port ∷ bs) (leave_at (port + 1) n)

pub arrives_same : (limit : ℕ) (f : FileTree) (sent : List (List Counts)) (input : List Counts) → length sent ≤ length (instances f) →
    (whole (flat_of limit f)).arrives sent input ≡ arrives_by_links f sent input
arrives_same limit f sent input short = received_at limit f sent short input 0 (instances f)

pub leaves_same : (limit : ℕ) (f : FileTree) (sent : List (List Counts)) → length sent ≤ length (instances f) →
    (whole (flat_of limit f)).leaves sent ≡ leaves_by_links f sent
leaves_same limit f sent short = leave_at limit f sent short 0 (length (root_outputs f))

-- components of the flat model
numbered_from : (limit k : ℕ) (is : List Instance) → IsNumberedFrom k (members_from limit k is)
numbered_from limit k [] = tt
numbered_from limit k (i ∷ is) = (refl, numbered_from limit (k + 1) is)

pub numbered : (limit : ℕ) (f : FileTree) → IsNumberedFrom 0 (flat_of limit f).members
numbered limit f = numbered_from limit 0 (instances f)

pub numbers_same : (limit k : ℕ) (is : List Instance) → numbers (members_from limit k is) ≡ range_with_len k (length is)
numbers_same limit k [] = refl
numbers_same limit k (i ∷ is) = ap (λ (ns : List ℕ). k ∷ ns) (numbers_same limit (k + 1) is)

behaviours_same : (limit k : ℕ) (is : List Instance) →
    behaviours (members_from limit k is) ≡ map (λ (i : Instance). behaviour_by (phase_codes i.model)) is
behaviours_same limit k [] = refl
behaviours_same limit k (i ∷ is) = ap (λ (bs : List Behaviour). behaviour_by (phase_codes i.model) ∷ bs) (behaviours_same limit (k + 1) is)

starts_same : (limit k : ℕ) (is : List Instance) →
    map (λ (m : Member). m.start) (members_from limit k is) ≡ map (λ (i : Instance). start_by limit i.model) is
starts_same limit k [] = refl
starts_same limit k (i ∷ is) = ap (λ (cs : List Component). start_by limit i.model ∷ cs) (starts_same limit (k + 1) is)

-- the runs of the flat model and of the compiled network
module _ (limit : ℕ) (f : FileTree) (inputs : ℕ → List Counts) where
  emissions_fit : (n : ℕ) (cs : List Component) →
      length (emissions (compiled_network limit f).behaviours n cs) ≤ length (instances f)
  emissions_fit n cs =
      omega (
        arith,
        emissions_short (compiled_network limit f).behaviours n cs,
        length-map (instances f) (λ (i : Instance). behaviour_by (phase_codes i.model)),
      )

  reactions_same : (n : ℕ) (cs : List Component) →
      reactions limit (behaviours (flat_of limit f).members) n cs
      ((whole (flat_of limit f)).arrives (emissions (behaviours (flat_of limit f).members) n cs) (inputs n))
      ≡ reactions limit (compiled_network limit f).behaviours n cs
      (arrives_by_links f (emissions (compiled_network limit f).behaviours n cs) (inputs n))
  reactions_same n cs =
      ap (λ (bs : List Behaviour). reactions limit bs n cs ((whole (flat_of limit f)).arrives (emissions bs n cs) (inputs n)))
      (behaviours_same limit 0 (instances f))
      ∙ ap (reactions limit (compiled_network limit f).behaviours n cs)
      (arrives_same limit f (emissions (compiled_network limit f).behaviours n cs) (inputs n) (emissions_fit n cs))

  pub components_same : (n : ℕ) →
      components_at limit (whole (flat_of limit f)) inputs n ≡ components_at limit (compiled_network limit f) inputs n
  components_same zero = starts_same limit 0 (instances f)
  components_same (suc n) =
      ap (λ (cs : List Component).
      map (λ (r : Reaction). r.component)
      (reactions limit (behaviours (flat_of limit f).members) n cs
      ((whole (flat_of limit f)).arrives (emissions (behaviours (flat_of limit f).members) n cs) (inputs n))))
      (components_same n)
      ∙ ap (map (λ (r : Reaction). r.component)) (reactions_same n (components_at limit (compiled_network limit f) inputs n))

  pub emissions_same : (n : ℕ) →
      emissions_at limit (whole (flat_of limit f)) inputs n ≡ emissions_at limit (compiled_network limit f) inputs n
  emissions_same n =
      ap (emissions (behaviours (flat_of limit f).members) n) (components_same n)
      ∙ ap (λ (bs : List Behaviour). emissions bs n (components_at limit (compiled_network limit f) inputs n))
      (behaviours_same limit 0 (instances f))

  instants_same : (n : ℕ) → trace_at limit (whole (flat_of limit f)) inputs n ≡ trace_at limit (compiled_network limit f) inputs n
  instants_same n =
      let cs = components_at limit (compiled_network limit f) inputs n in
      ap (λ (ds : List Component). let p : PartOf = record {
        entries = entries_by limit n (numbers (flat_of limit f).members)
            (reactions limit (behaviours (flat_of limit f).members) n ds
            ((whole (flat_of limit f)).arrives (emissions (behaviours (flat_of limit f).members) n ds) (inputs n)));
        outer = outer_from limit n 0 ((whole (flat_of limit f)).leaves (emissions (behaviours (flat_of limit f).members) n ds));
      } in p) (components_same n)
      ∙ ap (λ (ks : List ℕ). let p : PartOf = record {
        entries = entries_by limit n ks
            (reactions limit (behaviours (flat_of limit f).members) n cs
            ((whole (flat_of limit f)).arrives (emissions (behaviours (flat_of limit f).members) n cs) (inputs n)));
        outer = outer_from limit n 0 ((whole (flat_of limit f)).leaves (emissions (behaviours (flat_of limit f).members) n cs));
      } in p) (numbers_same limit 0 (instances f))
      ∙ ap (λ (rs : List Reaction). let p : PartOf = record {
        entries = entries_by limit n (compiled_network limit f).numbers rs;
        outer = outer_from limit n 0 ((whole (flat_of limit f)).leaves (emissions (behaviours (flat_of limit f).members) n cs));
      } in p) (reactions_same n cs)
      ∙ ap (λ (bags : List Counts). let p : PartOf = record {
        entries = (trace_at limit (compiled_network limit f) inputs n).entries;
        outer = outer_from limit n 0 bags;
      } in p)
      (ap (λ (bs : List Behaviour). (whole (flat_of limit f)).leaves (emissions bs n cs)) (behaviours_same limit 0 (instances f))
      ∙ leaves_same limit f (emissions (compiled_network limit f).behaviours n cs) (emissions_fit n cs))

  pub traces_same : (n : ℕ) → trace_before limit (whole (flat_of limit f)) inputs n ≡ trace_before limit (compiled_network limit f) inputs n
  traces_same zero = refl
  traces_same (suc n) =
      ap (λ (p : PartOf). joined p (trace_at limit (whole (flat_of limit f)) inputs n)) (traces_same n)
      ∙ ap (joined (trace_before limit (compiled_network limit f) inputs n)) (instants_same n)

  -- and of their parts
  among_fit : (who : ℕ → Bool) (ks : List ℕ) (sent : List (List Counts)) → length (sent_among who ks sent) ≤ length sent
  among_fit who [] sent = omega arith
  among_fit who (k ∷ ks) [] = omega arith
  among_fit who (k ∷ ks) (bags ∷ rest) = let later = among_fit who ks rest in omega arith

  part_at_same : (who : ℕ → Bool) (n : ℕ) →
      part_at who limit (whole (flat_of limit f)) inputs n ≡ part_at who limit (compiled_network limit f) inputs n
  part_at_same who n =
      let cs = components_at limit (compiled_network limit f) inputs n in
      let sent = emissions (compiled_network limit f).behaviours n cs in
      ap (λ (es : List Entry). let p : PartOf = record {
        entries = filter (λ (e : Entry). who e.component) es;
        outer = (part_at who limit (whole (flat_of limit f)) inputs n).outer;
      } in p) (ap (λ (part : PartOf). part.entries) (instants_same n))
      ∙ ap (λ (ds : List Component). let p : PartOf = record {
        entries = (part_at who limit (compiled_network limit f) inputs n).entries;
        outer = outer_from limit n 0
            ((whole (flat_of limit f)).leaves
            (sent_among who (numbers (flat_of limit f).members) (emissions (behaviours (flat_of limit f).members) n ds)));
      } in p) (components_same n)
      ∙ ap (λ (bags : List Counts). let p : PartOf = record {
        entries = (part_at who limit (compiled_network limit f) inputs n).entries;
        outer = outer_from limit n 0 bags;
      } in p)
      (ap (λ (bs : List Behaviour). (whole (flat_of limit f)).leaves
      (sent_among who (numbers (flat_of limit f).members) (emissions bs n cs)))
      (behaviours_same limit 0 (instances f))
      ∙ ap (λ (ks : List ℕ). (whole (flat_of limit f)).leaves (sent_among who ks sent)) (numbers_same limit 0 (instances f))
      ∙ leaves_same limit f (sent_among who (compiled_network limit f).numbers sent)
      (omega (arith, among_fit who (compiled_network limit f).numbers sent, emissions_fit n cs)))

  pub parts_same : (who : ℕ → Bool) (n : ℕ) →
      part_before who limit (whole (flat_of limit f)) inputs n ≡ part_before who limit (compiled_network limit f) inputs n
  parts_same who n =
      all_same (part_at who limit (whole (flat_of limit f)) inputs) (part_at who limit (compiled_network limit f) inputs) n
      (λ k lt. part_at_same who k)

-- what a set of components sends stands in bags
pub no_bag : (port : ℕ) → IsBag (bag_at [] port)
no_bag zero = tt
no_bag (suc port) = tt

pub bags_among : (who : ℕ → Bool) (ks : List ℕ) (sent : List (List Counts)) → AllAreBags sent → AllAreBags (sent_among who ks sent)
bags_among who [] sent h zero port = no_bag port
bags_among who [] sent h (suc k) port = no_bag port
bags_among who (j ∷ ks) [] h k port = h k port
bags_among who (j ∷ ks) (bags ∷ rest) h zero port = by_test (who j)
  where
    by_test : (t : Bool) → IsBag (bag_at (cond t bags []) port)
    by_test true = h zero port
    by_test false = no_bag port
bags_among who (j ∷ ks) (bags ∷ rest) h (suc k) port = bags_among who ks rest (λ i q. h (suc i) q) k port

-- every link leads to a port of a component
or_right : (a b : Bool) → b ≡ true → (a || b) ≡ true
or_right true b h = refl
or_right false b h = h

abbrev IsPort : List Member → ComponentPort → Type 0
IsPort ms to = IsTrue (is_port_of ms to.component to.port)

abbrev AllPorts : List Member → List ComponentPort → Type 0
AllPorts ms [] = Unit {0}
AllPorts ms (p ∷ ps) = IsPort ms p × AllPorts ms ps

ports_append : (ms : List Member) (ps qs : List ComponentPort) → AllPorts ms ps → AllPorts ms qs → AllPorts ms (ps ++ qs)
ports_append ms [] qs h k = k
ports_append ms (p ∷ ps) qs h k = (h.0, ports_append ms ps qs h.1 k)

own_ports : (limit k : ℕ) (m : AtomicTree) (ms : List Member) (port n : ℕ) → port + n ≤ input_count m →
    AllPorts (member_of limit k m ∷ ms) (map (port_at k) (range_with_len port n))
own_ports limit k m ms port zero le = tt
own_ports limit k m ms port (suc n) le =
    let itself : nat_eq k k ≡ true = grind (arith, nat_tests) in
    let less : nat_lt port (input_count m) ≡ true = grind (arith, nat_tests) in
    (rw (itself, less) refl, own_ports limit k m ms (port + 1) n (omega arith))

more_ports : (m : Member) (ms : List Member) (ps : List ComponentPort) → AllPorts ms ps → AllPorts (m ∷ ms) ps
more_ports m ms [] h = tt
more_ports m ms (p ∷ ps) h =
    (or_right (nat_eq m.number p.component && nat_lt p.port m.ports) (is_port_of ms p.component p.port) h.0, more_ports m ms ps h.1)

all_ports : (limit k j : ℕ) (is : List Instance) → k ≡ j → AllPorts (members_from limit k is) (ports_from j input_count is)
all_ports limit k j [] e = tt
all_ports limit k j (i ∷ is) e =
    let next : k + 1 ≡ suc j = omega (arith, e) in
    ports_append (members_from limit k (i ∷ is)) (map (port_at j) (range_with_len 0 (input_count i.model)))
    (ports_from (suc j) input_count is)
    (subst (λ (n : ℕ). AllPorts (members_from limit k (i ∷ is)) (map (port_at n) (range_with_len 0 (input_count i.model)))) e
    (own_ports limit k i.model (members_from limit (k + 1) is) 0 (input_count i.model) (omega arith)))
    (more_ports (member_of limit k i.model) (members_from limit (k + 1) is) (ports_from (suc j) input_count is)
    (all_ports limit (k + 1) (suc j) is next))

lead_append : (ms : List Member) (ls ks : List Link) → AllLead ms ls → AllLead ms ks → AllLead ms (ls ++ ks)
lead_append ms [] ks h k = k
lead_append ms (l ∷ ls) ks h k = (h.0, lead_append ms ls ks h.1 k)

lead_from : (ms : List Member) (copies : ComponentPort → ComponentPort → ℕ) (tos : List ComponentPort) (from : ComponentPort) →
    AllPorts ms tos →
    AllLead ms (map direct_of (links_from copies tos from))
lead_from ms copies [] from h = tt
lead_from ms copies (to ∷ tos) from h = by_copies (copies from to) (lead_from ms copies tos from h.1)
  where
    by_copies : (n : ℕ) → AllLead ms (map direct_of (links_from copies tos from)) →
        AllLead ms (map direct_of (cons_option (text_links.link from to n) (links_from copies tos from)))
    by_copies zero rest = rest
    by_copies (suc n) rest = (h.0, rest)

map_append : {X Y : Type 0} (g : X → Y) (xs ys : List X) → map g (xs ++ ys) ≡ map g xs ++ map g ys
map_append g [] ys = refl
map_append g (x ∷ xs) ys = ap (λ (zs : List _). g x ∷ zs) (map_append g xs ys)

lead_all : (ms : List Member) (copies : ComponentPort → ComponentPort → ℕ) (tos froms : List ComponentPort) → AllPorts ms tos →
    AllLead ms (map direct_of (flat_map (links_from copies tos) froms))
lead_all ms copies tos [] h = tt
lead_all ms copies tos (from ∷ froms) h =
    subst (AllLead ms) (sym (map_append direct_of (links_from copies tos from) (flat_map (links_from copies tos) froms)))
    (lead_append ms (map direct_of (links_from copies tos from)) (map direct_of (flat_map (links_from copies tos) froms))
    (lead_from ms copies tos from h) (lead_all ms copies tos froms h))

pub all_lead : (limit : ℕ) (f : FileTree) → AllLead (flat_of limit f).members (flat_of limit f).links
all_lead limit f =
    lead_all (flat_of limit f).members (direct_copies f) (input_ports f) (output_ports f) (all_ports limit 0 0 (instances f) refl)
