-- The network of a text's flat model: it is ready for a run, and what leaves it is linear in what is sent.
use Rattle.std.proofs.Common.{◌≡◌, ℕ, ◌+◌, ◌≤◌, cond, nat_eq, List, [], ◌∷◌, length, map, Option, None, Result, Ok, Err, IsTrue}
use Rattle.std.proofs.Common.{refl, sym, ap, ◌∙◌, subst, arith}
use Rattle.std.specs.List.{All, range_with_len}
use Rattle.std.proofs.Math.Path.{fun_ext}
use Rattle.std.proofs.lemmas.List.{length-map}
use Rattle.std.proofs.lemmas.List.Elements.{All-cons, All-head, All-nil, All-tail}
use Rattle.dv_syntax.specs.Trees.{FileTree}
use Rattle.dv_bag.specs.Bag.{Counts, IsBag, union}
use Rattle.dv_bag.specs.BagLists.{AllAreBags}
use Rattle.dv_bag.specs.Outcome.{◌>>=◌}
use Rattle.dv_bag.specs.declared.fault.Fault.{Fault}
use Rattle.dv_bag.specs.declared.state.State.{State}
use Rattle.dv_bag.proofs.Monoid.{union_bag}
use Rattle.dv_devs.specs.Behaviour.{end_of_hold}
use Rattle.dv_devs.specs.Cuts.{RiseFrom}
use Rattle.dv_devs.specs.NextTimes.{AllQuietForGood, IsReady}
use Rattle.dv_devs.specs.Outside.{AllBags, LeavesLinearly, union_of_bags, union_of_sent}
use Rattle.dv_eval.specs.Scope.{start_state}
use Rattle.dv_tree.specs.Instances.{Instance, instances, root_outputs}
use Rattle.dv_tree.specs.Routing.{leaves}
use Rattle.dv_flat.specs.Carried.{leaves_by_links}
use Rattle.dv_gen.specs.ModelCode.{phase_codes}
use Rattle.dv_plain.specs.Source.{first_component, network_of}
use Rattle.law_compiled.specs.Behaviours.{behaviour_by}
use Rattle.dv_conservative.specs.Flat.{Member, numbers, whole}
use Rattle.dv_conservative.specs.Links.{carried, inbox, sent_of}
use Rattle.law_sound.specs.Members.{flat_of, members_from}
use Rattle.law_sound.proofs.Flattened.{leaves_same, numbers_same}
use Rattle.law_sound.proofs.Linear.{all_sent_at}

-- as a run begins
pub quiet_first : (s : State) (r : Result (Option ℕ) Fault) → IsTrue (first_component s r).quiet → (first_component s r).next ≡ None
quiet_first s (Ok next) h = absurd (cc)
quiet_first s (Err f) h = refl

quiet_starts : (limit k : ℕ) (is : List Instance) → AllQuietForGood (map (λ (m : Member). m.start) (members_from limit k is))
quiet_starts limit k [] = tt
quiet_starts limit k (i ∷ is) = (
  quiet_first (start_state i.model) ((behaviour_by (phase_codes i.model)).hold (start_state i.model) >>= end_of_hold limit 0),
  quiet_starts limit (k + 1) is,
)

pub flat_ready : (limit : ℕ) (f : FileTree) → IsReady (whole (flat_of limit f))
flat_ready limit f = record {
  matched =
      length-map (flat_of limit f).members (λ (m : Member). m.behaviour)
      ∙ sym (length-map (flat_of limit f).members (λ (m : Member). m.start));
  numbered =
      length-map (flat_of limit f).members (λ (m : Member). m.number)
      ∙ sym (length-map (flat_of limit f).members (λ (m : Member). m.behaviour));
  quiet = quiet_starts limit 0 (instances f);
}

pub flat_rises : (limit : ℕ) (f : FileTree) → ((count : ℕ) → RiseFrom 0 (range_with_len 0 count)) →
    RiseFrom 0 (whole (flat_of limit f)).numbers
flat_rises limit f rise = subst (RiseFrom 0) (sym (numbers_same limit 0 (instances f))) (rise (length (instances f)))

-- what the components of a model send, of lists that may be longer
cut : List Instance → List (List Counts) → List (List Counts)
cut [] sent = []
cut (i ∷ is) [] = []
cut (i ∷ is) (x ∷ xs) = x ∷ cut is xs

cut_short : (is : List Instance) (sent : List (List Counts)) → length (cut is sent) ≤ length is
unfolding cut
cut_short [] sent = omega arith
cut_short (i ∷ is) [] = omega arith
cut_short (i ∷ is) (x ∷ xs) = let rest = cut_short is xs in omega arith

cut_bags : (is : List Instance) (sent : List (List Counts)) → AllBags sent → AllBags (cut is sent)
unfolding cut
cut_bags [] sent h = All-nil (All IsBag)
cut_bags (i ∷ is) [] h = All-nil (All IsBag)
cut_bags (i ∷ is) (x ∷ xs) h =
    All-cons (All IsBag) x (cut is xs) (All-head (All IsBag) x xs h) (cut_bags is xs (All-tail (All IsBag) x xs h))

cut_union : (is : List Instance) (a b : List (List Counts)) → cut is (union_of_sent a b) ≡ union_of_sent (cut is a) (cut is b)
unfolding cut
cut_union [] a b = refl
cut_union (i ∷ is) [] b = refl
cut_union (i ∷ is) (x ∷ xs) [] = refl
cut_union (i ∷ is) (x ∷ xs) (y ∷ ys) = ap (λ (rest : List (List Counts)). union_of_bags x y ∷ rest) (cut_union is xs ys)

cut_sent : (limit k : ℕ) (is : List Instance) (sent : List (List Counts)) (j : ℕ) →
    sent_of (numbers (members_from limit k is)) sent j ≡ sent_of (numbers (members_from limit k is)) (cut is sent) j
unfolding cut
cut_sent limit k [] sent j = refl
cut_sent limit k (i ∷ is) [] j = refl
cut_sent limit k (i ∷ is) (x ∷ xs) j =
    ap (λ (bags : List Counts). cond (nat_eq k j) x bags) (cut_sent limit (k + 1) is xs j)

-- unions of bags are bags
bags_united : (x y : List Counts) → All IsBag x → All IsBag y → All IsBag (union_of_bags x y)
bags_united [] y h k = k
bags_united (a ∷ rest) [] h k = h
bags_united (a ∷ rest) (b ∷ bs) h k =
    All-cons IsBag (union a b) (union_of_bags rest bs) (union_bag a b (All-head IsBag a rest h) (All-head IsBag b bs k))
    (bags_united rest bs (All-tail IsBag a rest h) (All-tail IsBag b bs k))

sent_united : (a b : List (List Counts)) → AllBags a → AllBags b → AllBags (union_of_sent a b)
sent_united [] b h k = k
sent_united (x ∷ xs) [] h k = h
sent_united (x ∷ xs) (y ∷ ys) h k =
    All-cons (All IsBag) (union_of_bags x y) (union_of_sent xs ys)
    (bags_united x y (All-head (All IsBag) x xs h) (All-head (All IsBag) y ys k))
    (sent_united xs ys (All-tail (All IsBag) x xs h) (All-tail (All IsBag) y ys k))

module _ (limit : ℕ) (f : FileTree) (tree : LeavesLinearly (network_of limit f))
    (by_links : (sent : List (List Counts)) → AllAreBags sent → leaves_by_links f sent ≡ leaves f sent) where
  own : List (List Counts) → List (List Counts)
  own sent = cut (instances f) sent

  leaves_of_own : (sent : List (List Counts)) → AllBags sent → (whole (flat_of limit f)).leaves sent ≡ leaves f (own sent)
  unfolding own
  leaves_of_own sent h =
      ap (λ (by : ℕ → List Counts). inbox 0 (carried (flat_of limit f).exits by) 0 (length (root_outputs f)))
      (fun_ext (λ j. cut_sent limit 0 (instances f) sent j))
      ∙ leaves_same limit f (own sent) (cut_short (instances f) sent)
      ∙ by_links (own sent) (all_sent_at (own sent) (cut_bags (instances f) sent h))

  pub flat_leaves_linearly : LeavesLinearly (whole (flat_of limit f))
  unfolding own
  flat_leaves_linearly = record {
    bags = λ sent h.
        subst (All IsBag) (sym (leaves_of_own sent h)) (tree.bags (own sent) (cut_bags (instances f) sent h));
    union = λ a b h k.
        leaves_of_own (union_of_sent a b) (sent_united a b h k)
        ∙ ap (leaves f) (cut_union (instances f) a b)
        ∙ tree.union (own a) (own b) (cut_bags (instances f) a h) (cut_bags (instances f) b k)
        ∙ sym (
        ap (λ (bags : List Counts). union_of_bags bags ((whole (flat_of limit f)).leaves b)) (leaves_of_own a h)
        ∙ ap (union_of_bags (leaves f (own a))) (leaves_of_own b k));
  }
