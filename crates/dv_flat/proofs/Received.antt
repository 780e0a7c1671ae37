-- What the components receive, one component after the other.
use Rattle.std.proofs.Common.{◌≡◌, ℕ, ◌+◌, ◌<◌, List, [], ◌∷◌, map, drop, length, get_or, refl, ap, sym, ◌∙◌, arith}
use Rattle.std.specs.Prelude.{fold}
use Rattle.std.specs.List.{range_with_len}
use Rattle.std.proofs.lemmas.List.{drop-map, get_or-drop, get_or-map}
use Rattle.std.proofs.lemmas.List.Sums.{fold-append}
use Rattle.dv_bag.specs.Bag.{Counts, bag_at}
use Rattle.dv_eval.specs.Scope.{Scope}
use Rattle.dv_tree.specs.Instances.{Instance}
use Rattle.dv_flat.specs.Ends.{input_count, port_at, ports_from}
use Rattle.dv_flat.specs.Probes.{with_arrivals, with_component, with_input}
use Rattle.dv_flat.specs.declared.arrivals.Arrival.{Arrival}
use Rattle.dv_flat.specs.declared.link.ComponentPort.{ComponentPort}
use Rattle.dv_flat.proofs.PortLists.{IsAt, ports_there}

fold_map : {A B C : Type 0} (f : C → B → C) (g : A → B) (c : C) (xs : List A) → fold f c (map g xs) ≡ fold (λ d x. f d (g x)) c xs
fold_map f g c [] = refl
fold_map f g c (x ∷ xs) = fold_map f g (f c (g x)) xs

module _ {is : List Instance} {k : ℕ} {s : Scope} (at : IsAt is k s) where
  -- what is so of the instance at an index
  counted : (f : Instance → ℕ) → get_or (map f is) k 0 ≡ f at.instance
  counted f =
      ap (λ (j : ℕ). get_or (map f is) j 0) (let same : k ≡ k + 0 = omega arith in same)
      ∙ sym (get_or-drop k (map f is) 0 0)
      ∙ ap (λ ns. get_or ns 0 0) (drop-map f k is)
      ∙ ap (λ js. get_or (map f js) 0 0) at.rest

  -- a component receives a bag for each of its input ports
  pub as_many : (received : List (List Counts)) → k < length received →
      map length received ≡ map (λ (i : Instance). input_count i.model) is →
      length (get_or received k []) ≡ length s.inputs
  as_many received within ports =
      sym (get_or-map length received k [] 0 within) ∙ ap (λ ns. get_or ns k 0) ports
      ∙ counted (λ (i : Instance). input_count i.model) ∙ ap (λ (t : Scope). length t.inputs) at.scope

  -- a step of a loop that adds what a component receives
  pub arrivals_step : (received : List (List Counts)) (bags : List Counts) (before after all : List (List (Arrival ComponentPort))) →
      length bags ≡ length s.inputs → bags ≡ get_or received k [] → after ≡ with_component k bags before →
      fold (with_input received) before (ports_from k input_count (drop k is)) ≡ all →
      fold (with_input received) after (ports_from (k + 1) input_count (drop (k + 1) is)) ≡ all
  arrivals_step received bags before after all many here added h =
      let rest = ports_from (k + 1) input_count (drop (k + 1) is) in
      let ports = range_with_len 0 (length bags) in
      let count : input_count at.instance.model ≡ length bags = ap (λ (t : Scope). length t.inputs) at.scope ∙ sym many in
      let same : after ≡ fold (with_input received) before (map (port_at k) ports) =
      added
      ∙ ap (λ bs. fold (λ ls port. with_arrivals (port_at k port) ls (bag_at bs port)) before ports) here
      ∙ sym (fold_map (with_input received) (port_at k) before ports) in
      ap (λ ls. fold (with_input received) ls rest) same
      ∙ sym (fold-append (with_input received) before (map (port_at k) ports) rest)
      ∙ ap (fold (with_input received) before) (sym (ports_there at input_count (length bags) count))
      ∙ h
