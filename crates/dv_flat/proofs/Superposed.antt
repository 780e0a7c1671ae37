-- What arrives is put together from what arrives of each output, and of each input of the root, alone.
use Rattle.std.proofs.Common.{◌≡◌, ℕ, ◌+◌, ◌*◌, Bool, eqb, ltb, List, [], length, get_or, ℤ, pos, ap, ◌∙◌, arith}
use Rattle.std.proofs.lemmas.Bool.{eqb-true}
use Rattle.std.proofs.lemmas.Bool.Decides.{nat_tests}
use Rattle.dv_syntax.specs.Trees.{FileTree}
use Rattle.dv_bag.specs.Bag.{Counts, IsBag, bag_at, capped, count_of, union}
use Rattle.dv_bag.specs.BagLists.{AllAreBags, AreBags}
use Rattle.dv_bag.proofs.Monoid.{count_kept, count_union, union_bag}
use Rattle.dv_tree.specs.Instances.{instances, root_inputs}
use Rattle.dv_tree.specs.Routing.{arrives, leaves}
use Rattle.dv_tree.proofs.Kept.{AtOutputs, AtPorts, output_counts, arrives_kept, leaves_kept}
use Rattle.dv_flat.specs.Carried.{same_port, sent_at}
use Rattle.dv_flat.specs.Ends.{output_count, output_ports, port_at}
use Rattle.dv_flat.specs.Links.{alone_at, root_ports, sent_alone}
use Rattle.dv_flat.specs.declared.link.ComponentPort.{ComponentPort}
use Rattle.dv_flat.proofs.Alone.{alone_bag, alone_ticks, entry_alone, output_alone}
use Rattle.dv_flat.proofs.Capped.{total_by, total_by-merged, total_by-same, total_by-zero}
use Rattle.dv_flat.proofs.Picked.{occurs_once, picked, same_port-true, tick, ticks_within}

-- who sends: all, or one output or one input of the root alone
pub data Senders : Type 0 where
  everybody : Senders
  output : ComponentPort → Senders
  entry : ℕ → Senders

abbrev pub sent_by : List (List Counts) → Senders → List (List Counts)
sent_by sent everybody = sent
sent_by sent (output from) = sent_alone from
sent_by sent (entry from) = []

abbrev pub come_by : List Counts → Senders → List Counts
come_by input everybody = input
come_by input (output from) = []
come_by input (entry from) = alone_at from

module _ (outputs : List ComponentPort) (inputs : List ℕ) (sent : List (List Counts)) (input : List Counts) where
  -- how often a value comes, where each that sends it counts as often as its one value comes
  abbrev pub shares : (Senders → Counts) → ℤ → ℕ
  shares b v =
      total_by (λ from. count_of (pos 0) (b (output from)) * count_of v (sent_at sent from)) outputs
      + total_by (λ from. count_of (pos 0) (b (entry from)) * count_of v (bag_at input from)) inputs

  pub record IsSuperposed (b : Senders → Counts) : Type 0 where
    pub bags : (s : Senders) → IsBag (b s)
    pub counts : (v : ℤ) → count_of v (b everybody) ≡ capped (shares b v)

  superposed_none : IsSuperposed (λ s. [])
  superposed_none = record {
    bags = λ s. tt;
    counts =
        λ v. omega (
          arith,
          total_by-zero (λ from. 0 * count_of v (sent_at sent from)) (λ from. omega arith) outputs,
          total_by-zero (λ from. 0 * count_of v (bag_at input from)) (λ from. omega arith) inputs,
        );
  }

  superposed_both : (a b : Senders → Counts) → IsSuperposed a → IsSuperposed b → IsSuperposed (λ s. union (a s) (b s))
  superposed_both a b h k = record {
    bags = λ s. union_bag (a s) (b s) (h.bags s) (k.bags s);
    counts =
        λ v.
        let joined = λ (s : Senders). count_union (pos 0) (a s) (b s) (h.bags s) (k.bags s) in
        let by_output : ComponentPort → ℕ = λ from. count_of v (sent_at sent from) in
        let by_entry : ℕ → ℕ = λ from. count_of v (bag_at input from) in
        let of_output : (Senders → Counts) → ComponentPort → ℕ = λ c from. count_of (pos 0) (c (output from)) in
        let of_entry : (Senders → Counts) → ℕ → ℕ = λ c from. count_of (pos 0) (c (entry from)) in
        omega (
          arith,
          count_union v (a everybody) (b everybody) (h.bags everybody) (k.bags everybody),
          h.counts v,
          k.counts v,
          total_by-same (λ from. count_of (pos 0) (union (a (output from)) (b (output from))) * by_output from)
              (λ from. capped (of_output a from + of_output b from) * by_output from)
              (λ from. ap (λ n. n * by_output from) (joined (output from))) outputs,
          total_by-same (λ from. count_of (pos 0) (union (a (entry from)) (b (entry from))) * by_entry from)
              (λ from. capped (of_entry a from + of_entry b from) * by_entry from)
              (λ from. ap (λ n. n * by_entry from) (joined (entry from))) inputs,
          total_by-merged (of_output a) (of_output b) by_output outputs,
          total_by-merged (of_entry a) (of_entry b) by_entry inputs,
        );
  }

module _ (f : FileTree) (sent : List (List Counts)) (are_bags : AllAreBags sent) where
  -- at the outputs of components
  module _ (inputs : List ℕ) (input : List Counts) where
    sent_superposed : AtOutputs (IsSuperposed (output_ports f) inputs sent input) (instances f) (sent_by sent)
    sent_superposed k port within = record {
      bags = bags;
      counts =
          λ v.
          let by_output : ComponentPort → ℕ = λ from. count_of v (sent_at sent from) in
          let test : ComponentPort → Bool = λ from. same_port from (port_at k port) in
          let there : tick (ltb port (get_or (output_counts (instances f)) k 0)) ≡ 1 = grind (arith, nat_tests) in
          omega (
            arith,
            count_kept v (bag_at (get_or sent k []) port) (are_bags k port),
            total_by-same (λ from. count_of (pos 0) (bag_at (get_or (sent_alone from) k []) port) * by_output from)
                (λ from. tick (test from) * by_output from)
                (λ from. ap (λ n. n * by_output from) (alone_ticks _ (test from) (output_alone from k port))) (output_ports f),
            picked test (port_at k port) (λ from e. same_port-true from (port_at k port) e) by_output (output_ports f),
            ap (λ n. n * by_output (port_at k port)) (occurs_once output_count (instances f) k port ∙ there),
            total_by-zero (λ from. 0 * count_of v (bag_at input from)) (λ from. omega arith) inputs,
          );
    }
      where
        bags : (s : Senders) → IsBag (bag_at (get_or (sent_by sent s) k []) port)
        bags everybody = are_bags k port
        bags (output from) = alone_bag _ _ (output_alone from k port)
        bags (entry from) = tt

  -- at the inputs of the root
  module _ (input : List Counts) (come_bags : AreBags input) where
    come_superposed : AtPorts (IsSuperposed (output_ports f) (root_ports (root_inputs f)) sent input) (length (root_inputs f))
        (come_by input)
    come_superposed port within = record {
      bags = bags;
      counts =
          λ v.
          let by_entry : ℕ → ℕ = λ from. count_of v (bag_at input from) in
          let test : ℕ → Bool = λ from. eqb from port in
          let there : tick (ltb port (length (root_inputs f))) ≡ 1 = grind (arith, nat_tests) in
          omega (
            arith,
            count_kept v (bag_at input port) (come_bags port),
            total_by-zero (λ from. 0 * count_of v (sent_at sent from)) (λ from. omega arith) (output_ports f),
            total_by-same (λ from. count_of (pos 0) (bag_at (alone_at from) port) * by_entry from)
                (λ from. tick (test from) * by_entry from)
                (λ from. ap (λ n. n * by_entry from) (alone_ticks _ (test from) (entry_alone from port)))
                (root_ports (root_inputs f)),
            picked test port (λ from e. eqb-true from port e) by_entry (root_ports (root_inputs f)),
            ap (λ n. n * by_entry port) (ticks_within 0 (length (root_inputs f)) port port (omega arith) ∙ there),
          );
    }
      where
        bags : (s : Senders) → IsBag (bag_at (come_by input s) port)
        bags everybody = come_bags port
        bags (output from) = tt
        bags (entry from) = alone_bag _ _ (entry_alone from port)

    -- what arrives at the components
    pub arrives_superposed : (k port : ℕ) →
        IsSuperposed (output_ports f) (root_ports (root_inputs f)) sent input
        (λ s. bag_at (get_or (arrives f (sent_by sent s) (come_by input s)) k []) port)
    arrives_superposed =
        let IsPut : (Senders → Counts) → Type 0 = IsSuperposed (output_ports f) (root_ports (root_inputs f)) sent input in
        arrives_kept IsPut (superposed_none (output_ports f) (root_ports (root_inputs f)) sent input)
        (superposed_both (output_ports f) (root_ports (root_inputs f)) sent input) f (sent_by sent) (come_by input)
        (sent_superposed (root_ports (root_inputs f)) input) come_superposed

  -- what leaves the root
  pub leaves_superposed : (port : ℕ) → IsSuperposed (output_ports f) [] sent [] (λ s. bag_at (leaves f (sent_by sent s)) port)
  leaves_superposed =
      leaves_kept (IsSuperposed (output_ports f) [] sent []) (superposed_none (output_ports f) [] sent [])
      (superposed_both (output_ports f) [] sent []) f (sent_by sent) (sent_superposed [] [])
