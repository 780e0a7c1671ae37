-- What travels up and down through the parts of a coupled model, part by part.
use Rattle.std.proofs.Common.{◌≡◌, ◌≢◌, ℕ, zero, suc, ◌+◌, ◌-◌, List, [], ◌∷◌, ◌++◌, ◌<◌, ◌≤◌, length, drop, get_or}
use Rattle.std.proofs.Common.{subst, refl, ap, sym, ◌∙◌, arith, add-one}
use Rattle.std.specs.Prelude.{Option, Some, None}
use Rattle.std.proofs.lemmas.List.{append_assoc, drop-drop, drop_all, drop_more, set_at}
use Rattle.std.proofs.Math.ListN.{set}
use Rattle.dv_bag.specs.Bag.{Counts}
use Rattle.dv_tree.specs.Routing.{Arrived, along, along_all}
use Rattle.dv_tree.specs.Tables.{LevelTable}
use Rattle.dv_tree.specs.Nodes.{Nodes, NoNodes, level_at, nodes_by, nodes_to, with_node, atomic_count, coupled_count}
use Rattle.dv_tree.specs.Nodes.{nothing_in, from_level, leaving_nodes, kept_nodes, arriving_nodes, part_count, part_leaving, part_kept}
use Rattle.dv_tree.specs.declared.couplings.Coupling.{Coupling}
use Rattle.dv_tree.specs.declared.resolved_parts.ResolvedPart.{ResolvedPart}
use Rattle.dv_tree.proofs.Below.{nodes_of_table}

-- nothing leaves
pub along_all-none : (couplings : List (List Coupling)) (a : Arrived) → along_all couplings [] a ≡ a
along_all-none [] a = refl
along_all-none (cs ∷ couplings) a = refl

-- going up: what is left of the parts brings this to that
pub record Rises (couplings : List (List Coupling)) (nodes : Nodes) (i : ℕ) (sent : List (List Counts)) (arrived : Arrived)
    (kept : List Arrived)
    (sent_then : List (List Counts)) (arrived_then : Arrived) (kept_then : List Arrived) : Type 0 where
  pub rest : drop (atomic_count nodes) sent ≡ sent_then
  pub arrived_is : along_all (drop i couplings) (leaving_nodes nodes sent) arrived ≡ arrived_then
  pub kept_is : kept ++ kept_nodes nodes sent ≡ kept_then

-- going down
pub record Sinks (nodes : Nodes) (comes : List (List Counts)) (kept : List Arrived) (received : List (List Counts))
    (kept_then : List Arrived) (received_then : List (List Counts)) : Type 0 where
  pub rest : drop (coupled_count nodes) kept ≡ kept_then
  pub received_is : received ++ arriving_nodes nodes comes kept ≡ received_then

-- on no level there are no parts from which anything comes
pub none_at_zero : (levels : List (Option LevelTable)) (l : LevelTable) (sent : List (List Counts)) (a : Arrived) (depth : ℕ) →
    depth ≡ 0 → a ≡ along_all l.of_parts (leaving_nodes (nodes_to depth levels l) sent) a
none_at_zero levels l sent a depth none =
    sym (along_all-none l.of_parts a) ∙ ap (λ d. along_all l.of_parts (leaving_nodes (nodes_to d levels l) sent) a) (sym none)

-- along the couplings of one part, and then of those behind it
along_all-drop : (couplings : List (List Coupling)) (i : ℕ) (bags : List Counts) (leaving : List (List Counts)) (a : Arrived) →
    along_all (drop i couplings) (bags ∷ leaving) a ≡ along_all (drop (suc i) couplings) leaving (along (get_or couplings i []) bags a)
along_all-drop [] zero bags leaving a = refl
along_all-drop [] (suc i) bags leaving a = refl
along_all-drop (cs ∷ couplings) zero bags leaving a = refl
along_all-drop (cs ∷ couplings) (suc i) bags leaving a = along_all-drop couplings i bags leaving a

-- a part before others: how many components it has, what leaves it, and what is kept of it
record Precedes (nodes : Nodes) (sent : List (List Counts)) (count : ℕ) (bags : List Counts) (own : List Arrived) (others : Nodes) :
    Type 0 where
  pub counted : count + atomic_count others ≡ atomic_count nodes
  pub leaves : bags ∷ leaving_nodes others (drop count sent) ≡ leaving_nodes nodes sent
  pub keeps : own ++ kept_nodes others (drop count sent) ≡ kept_nodes nodes sent

precedes : (inside : LevelTable → Nodes) (e : ResolvedPart) (o : Option LevelTable) (others : Nodes) (sent : List (List Counts)) →
    Precedes (with_node inside e o others) sent (part_count inside o) (part_leaving inside o sent) (part_kept inside o sent) others
precedes inside e None others sent = record { counted = omega arith; leaves = refl; keeps = refl }
precedes inside e (Some l) others sent = record { counted = refl; leaves = refl; keeps = refl }

-- the part at an index, and those behind it
part_at : (inside : LevelTable → Nodes) (levels : List (Option LevelTable)) (resolved : List ResolvedPart) (i : ℕ) (e : ResolvedPart)
    (o : Option LevelTable) → i < length resolved → o ≡ level_at levels (get_or resolved i e).model →
    nodes_by inside levels (drop i resolved) ≡ with_node inside (get_or resolved i e) o (nodes_by inside levels (drop (i + 1) resolved))
part_at inside levels resolved i e o within is =
    ap (nodes_by inside levels) (drop_more resolved i e within)
    ∙ ap (λ x. with_node inside (get_or resolved i e) x (nodes_by inside levels (drop (i + 1) resolved))) (sym is)

-- up from one part
pub risen_part : (couplings : List (List Coupling)) (inside : LevelTable → Nodes) (levels : List (Option LevelTable))
    (resolved : List ResolvedPart) (i : ℕ) (e : ResolvedPart) (o : Option LevelTable) (cs : List Coupling) (sent rest : List (List Counts))
    (before arrived : Arrived) (old kept : List Arrived) {sent_then : List (List Counts)} {arrived_then : Arrived}
    {kept_then : List Arrived} → i < length resolved → o ≡ level_at levels (get_or resolved i e).model → cs ≡ get_or couplings i [] →
    Rises couplings (nodes_by inside levels (drop i resolved)) i sent before old sent_then arrived_then kept_then →
    rest ≡ drop (part_count inside o) sent → arrived ≡ along cs (part_leaving inside o sent) before →
    kept ≡ old ++ part_kept inside o sent →
    Rises couplings (nodes_by inside levels (drop (i + 1) resolved)) (i + 1) rest arrived kept sent_then arrived_then kept_then
risen_part couplings inside levels resolved i e o cs sent rest before arrived old kept within is cs_is r rest_is arrived_is kept_is =
    let others = nodes_by inside levels (drop (i + 1) resolved) in
    let nodes = part_at inside levels resolved i e o within is in
    let p = precedes inside (get_or resolved i e) o others sent in
    let count = part_count inside o in
    let bags = part_leaving inside o sent in
    let leaving = leaving_nodes others (drop count sent) in
    record {
      rest =
          ap (drop (atomic_count others)) rest_is
          ∙ (drop-drop (atomic_count others) count sent
          ∙ (ap (λ n. drop n sent) (p.counted ∙ ap atomic_count (sym nodes)) ∙ r.rest));
      arrived_is =
          ap (λ s. along_all (drop (i + 1) couplings) (leaving_nodes others s) arrived) rest_is
          ∙ (ap (along_all (drop (i + 1) couplings) leaving) (arrived_is ∙ ap (λ x. along x bags before) cs_is)
          ∙ (ap (λ n. along_all (drop n couplings) leaving (along (get_or couplings i []) bags before)) (add-one i)
          ∙ (sym (along_all-drop couplings i bags leaving before)
          ∙ (ap (λ xs. along_all (drop i couplings) xs before) (p.leaves ∙ ap (λ ns. leaving_nodes ns sent) (sym nodes))
          ∙ r.arrived_is))));
      kept_is =
          ap (λ s. kept ++ kept_nodes others s) rest_is
          ∙ (ap (λ ks. ks ++ kept_nodes others (drop count sent)) kept_is
          ∙ (append_assoc old (part_kept inside o sent) (kept_nodes others (drop count sent))
          ∙ (ap (λ ks. old ++ ks) (p.keeps ∙ ap (λ ns. kept_nodes ns sent) (sym nodes)) ∙ r.kept_is)));
    }

-- what stands in the slot of a coupled model then
pub in_slot : (l : LevelTable) (leaving : List (List Counts)) (old more pushed kept : List Arrived) (x arrived start : Arrived)
    (slot : ℕ) → kept ≡ pushed ++ more → pushed ≡ old ++ x ∷ [] → slot ≡ length old →
    arrived ≡ along_all l.of_parts leaving start → start ≡ nothing_in l →
    set kept slot arrived ≡ old ++ from_level l leaving ∷ more
in_slot l leaving old more pushed kept x arrived start slot kept_is pushed_is at arrived_is start_is =
    ap (λ ks. set ks slot arrived) (kept_is ∙ (ap (λ ks. ks ++ more) pushed_is ∙ append_assoc old (x ∷ []) more))
    ∙ (set_at old x more arrived slot (sym at)
    ∙ ap (λ a. old ++ a ∷ more) (arrived_is ∙ ap (along_all l.of_parts leaving) start_is))

-- at the end of the parts
module _ (depth : ℕ) (levels : List (Option LevelTable)) (l : LevelTable) (resolved : List ResolvedPart) (some : depth ≢ 0)
    (are : resolved ≡ l.parts) (i : ℕ) (past : length resolved ≤ i) where
  pub risen : (sent rest : List (List Counts)) (arrived start : Arrived) (kept pushed : List Arrived) →
      Rises l.of_parts (nodes_by (nodes_to (depth - 1) levels) levels (drop i resolved)) i rest arrived kept
      (drop (atomic_count (nodes_by (nodes_to (depth - 1) levels) levels resolved)) sent)
      (along_all l.of_parts (leaving_nodes (nodes_by (nodes_to (depth - 1) levels) levels resolved) sent) start)
      (pushed ++ kept_nodes (nodes_by (nodes_to (depth - 1) levels) levels resolved) sent) →
      Rises l.of_parts NoNodes i rest arrived kept (drop (atomic_count (nodes_to depth levels l)) sent)
      (along_all l.of_parts (leaving_nodes (nodes_to depth levels l) sent) start) (pushed ++ kept_nodes (nodes_to depth levels l) sent)
  risen sent rest arrived start kept pushed r =
      let From : List ResolvedPart → Type 0 =
      λ es. Rises l.of_parts (nodes_by (nodes_to (depth - 1) levels) levels es) i rest arrived kept
      (drop (atomic_count (nodes_by (nodes_to (depth - 1) levels) levels resolved)) sent)
      (along_all l.of_parts (leaving_nodes (nodes_by (nodes_to (depth - 1) levels) levels resolved) sent) start)
      (pushed ++ kept_nodes (nodes_by (nodes_to (depth - 1) levels) levels resolved) sent) in
      let All : Nodes → Type 0 =
      λ n. Rises l.of_parts NoNodes i rest arrived kept (drop (atomic_count n) sent) (along_all l.of_parts (leaving_nodes n sent) start)
      (pushed ++ kept_nodes n sent) in
      subst All (nodes_of_table depth levels l resolved some are) (subst From (drop_all i resolved past) r)

  pub sunk : (parts : List (List Counts)) (kept before : List Arrived) (comes received old : List (List Counts)) →
      Sinks (nodes_by (nodes_to (depth - 1) levels) levels (drop i resolved)) parts kept received
      (drop (coupled_count (nodes_by (nodes_to (depth - 1) levels) levels resolved)) before)
      (old ++ arriving_nodes (nodes_by (nodes_to (depth - 1) levels) levels resolved) comes before) →
      Sinks NoNodes parts kept received (drop (coupled_count (nodes_to depth levels l)) before)
      (old ++ arriving_nodes (nodes_to depth levels l) comes before)
  sunk parts kept before comes received old s =
      let From : List ResolvedPart → Type 0 =
      λ es. Sinks (nodes_by (nodes_to (depth - 1) levels) levels es) parts kept received
      (drop (coupled_count (nodes_by (nodes_to (depth - 1) levels) levels resolved)) before)
      (old ++ arriving_nodes (nodes_by (nodes_to (depth - 1) levels) levels resolved) comes before) in
      let All : Nodes → Type 0 =
      λ n. Sinks NoNodes parts kept received (drop (coupled_count n) before) (old ++ arriving_nodes n comes before) in
      subst All (nodes_of_table depth levels l resolved some are) (subst From (drop_all i resolved past) s)
