-- The network of programs and links as a run begins, and where nobody sends.
use Rattle.std.proofs.Common.{◌≡◌, ℕ, zero, suc, List, [], ◌∷◌, length, map, replicate, refl, sym, ap, ◌∙◌}
use Rattle.std.proofs.lemmas.List.{length-map}
use Rattle.std.proofs.lemmas.List.FromFn.{length-range_with_len}
use Rattle.dv_syntax.specs.Trees.{FileTree}
use Rattle.dv_bag.specs.Bag.{Counts}
use Rattle.dv_bag.specs.BagLists.{AllAreBags, AreBags}
use Rattle.dv_bag.specs.Outcome.{◌>>=◌}
use Rattle.dv_devs.specs.Behaviour.{Behaviour, all_empty, end_of_hold}
use Rattle.dv_devs.specs.Idle.{BringsNothing, LeavesOnlyWhatIsSent, no_values, nothing_sent}
use Rattle.dv_devs.specs.NextTimes.{AllQuietForGood, IsReady}
use Rattle.dv_eval.specs.Scope.{start_state}
use Rattle.dv_tree.specs.Instances.{Instance, instances, root_inputs}
use Rattle.dv_tree.specs.Routing.{arrives, leaves}
use Rattle.dv_flat.specs.Carried.{arrives_by_links, leaves_by_links}
use Rattle.dv_gen.specs.ModelCode.{phase_codes}
use Rattle.dv_plain.specs.Source.{behaviour_of, network_of}
use Rattle.law_compiled.specs.Behaviours.{behaviour_by}
use Rattle.law_compiled.specs.Networks.{compiled_network, start_by}
use Rattle.law_sound.proofs.Flattened.{no_bag}
use Rattle.law_sound.proofs.Outsides.{quiet_first}

quiet_starts : (limit : ℕ) (is : List Instance) → AllQuietForGood (map (λ (i : Instance). start_by limit i.model) is)
quiet_starts limit [] = tt
quiet_starts limit (i ∷ is) = (
  quiet_first (start_state i.model) ((behaviour_by (phase_codes i.model)).hold (start_state i.model) >>= end_of_hold limit 0),
  quiet_starts limit is,
)

pub compiled_ready : (limit : ℕ) (f : FileTree) → IsReady (compiled_network limit f)
compiled_ready limit f = record {
  matched =
      length-map (instances f) (λ (i : Instance). behaviour_by (phase_codes i.model))
      ∙ sym (length-map (instances f) (λ (i : Instance). start_by limit i.model));
  numbered =
      length-range_with_len 0 (length (instances f))
      ∙ sym (length-map (instances f) (λ (i : Instance). behaviour_by (phase_codes i.model)));
  quiet = quiet_starts limit (instances f);
}

-- nothing is sent in bags
none_are_bags : (bs : List Behaviour) → AllAreBags (map (λ (b : Behaviour). []) bs)
none_are_bags [] zero port = no_bag port
none_are_bags [] (suc k) port = no_bag port
none_are_bags (b ∷ bs) zero port = no_bag port
none_are_bags (b ∷ bs) (suc k) port = none_are_bags bs k port

empty_are_bags : (ports : ℕ) → AreBags (replicate ports [])
empty_are_bags zero port = no_bag port
empty_are_bags (suc ports) zero = tt
empty_are_bags (suc ports) (suc port) = empty_are_bags ports port

as_many : (is : List Instance) (one other : Instance → Behaviour) →
    map (λ (b : Behaviour). let none : List Counts = [] in none) (map one is)
    ≡ map (λ (b : Behaviour). let none : List Counts = [] in none) (map other is)
as_many [] one other = refl
as_many (i ∷ is) one other = ap (λ (rest : List (List Counts)). [] ∷ rest) (as_many is one other)

none_sent : (limit : ℕ) (f : FileTree) → nothing_sent (compiled_network limit f) ≡ nothing_sent (network_of limit f)
none_sent limit f =
    as_many (instances f) (λ (i : Instance). behaviour_by (phase_codes i.model)) (λ (i : Instance). behaviour_of i.model)

pub compiled_brings_nothing : (limit : ℕ) (f : FileTree)
    → ((sent : List (List Counts)) (input : List Counts) → AllAreBags sent → AreBags input →
    arrives_by_links f sent input ≡ arrives f sent input)
    → BringsNothing (network_of limit f) (replicate (length (root_inputs f)) [])
    → BringsNothing (compiled_network limit f) (replicate (length (root_inputs f)) [])
compiled_brings_nothing limit f by_links h =
    let input : List Counts = replicate (length (root_inputs f)) [] in
    ap no_values
    (by_links (nothing_sent (compiled_network limit f)) input (none_are_bags (compiled_network limit f).behaviours)
    (empty_are_bags (length (root_inputs f)))
    ∙ ap (λ (sent : List (List Counts)). arrives f sent input) (none_sent limit f))
    ∙ h

pub compiled_leaves_nothing : (limit : ℕ) (f : FileTree)
    → ((sent : List (List Counts)) → AllAreBags sent → leaves_by_links f sent ≡ leaves f sent)
    → LeavesOnlyWhatIsSent (network_of limit f) → LeavesOnlyWhatIsSent (compiled_network limit f)
compiled_leaves_nothing limit f by_links h =
    ap all_empty
    (by_links (nothing_sent (compiled_network limit f)) (none_are_bags (compiled_network limit f).behaviours)
    ∙ ap (leaves f) (none_sent limit f))
    ∙ h
