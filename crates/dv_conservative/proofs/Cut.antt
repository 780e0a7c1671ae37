-- A list cut to the components of a set, member by member.
use Rattle.std.proofs.Common.{◌≡◌, ℕ, suc, zero, ◌+◌, Bool, true, false, cond, nat_eq, List, [], ◌∷◌, ◌++◌, map, IsTrue, refl}
use Rattle.std.proofs.Common.{sym, ap, ◌∙◌, arith}
use Rattle.std.specs.List.{filter}
use Rattle.std.proofs.lemmas.Bool.Decides.{nat_tests}
use Rattle.dv_bag.specs.Bag.{Counts, bag_at}
use Rattle.dv_devs.specs.Behaviour.{Behaviour, Component, Reaction, reaction, emission}
use Rattle.dv_devs.specs.Network.{emissions, reactions, sent_by}
use Rattle.dv_conservative.specs.Links.{Delivery, Link, SameFor, carried, carried_by, delivered, inbox, sent_of}
use Rattle.dv_conservative.specs.Flat.{Member, behaviours, kept, numbers, received}

module _ (who : ℕ → Bool) where
  abbrev pub members_kept : List Member → List Member
  members_kept ms = filter (λ (m : Member). who m.number) ms

  pub kept_map : {X Y : Type 0} (f : X → Y) (ks : List ℕ) (xs : List X) → kept who ks (map f xs) ≡ map f (kept who ks xs)
  kept_map f [] xs = refl
  kept_map f (k ∷ ks) [] = refl
  kept_map f (k ∷ ks) (x ∷ xs) = ap (λ (ys : List _). cond (who k) (f x ∷ ys) ys) (kept_map f ks xs) ∙ moved (who k)
    where
      moved : (t : Bool) → cond t (f x ∷ map f (kept who ks xs)) (map f (kept who ks xs))
          ≡ map f (cond t (x ∷ kept who ks xs) (kept who ks xs))
      moved true = refl
      moved false = refl

  -- what is kept of a list that the members make
  pub kept_members : {X : Type 0} (f : Member → X) (ms : List Member) → map f (members_kept ms) ≡ kept who (numbers ms) (map f ms)
  kept_members f [] = refl
  kept_members f (m ∷ ms) = moved (who m.number) ∙ ap (λ (ys : List _). cond (who m.number) (f m ∷ ys) ys) (kept_members f ms)
    where
      moved : (t : Bool) → map f (cond t (m ∷ members_kept ms) (members_kept ms))
          ≡ cond t (f m ∷ map f (members_kept ms)) (map f (members_kept ms))
      moved true = refl
      moved false = refl

  emissions_of_none : (bs : List Behaviour) (now : ℕ) → emissions bs now [] ≡ []
  emissions_of_none [] now = refl
  emissions_of_none (b ∷ bs) now = refl

  reactions_of_none : (limit : ℕ) (bs : List Behaviour) (now : ℕ) (ins : List (List Counts)) → reactions limit bs now [] ins ≡ []
  reactions_of_none limit [] now ins = refl
  reactions_of_none limit (b ∷ bs) now ins = refl

  pub kept_emissions : (ms : List Member) (now : ℕ) (cs : List Component) →
      emissions (behaviours (members_kept ms)) now (kept who (numbers ms) cs) ≡ kept who (numbers ms) (emissions (behaviours ms) now cs)
  kept_emissions [] now cs = refl
  kept_emissions (m ∷ ms) now [] = emissions_of_none (behaviours (members_kept (m ∷ ms))) now
  kept_emissions (m ∷ ms) now (c ∷ cs) = moved (who m.number)
      ∙ ap (λ (ys : List (List Counts)). cond (who m.number) (sent_by c (emission m.behaviour now c) ∷ ys) ys) (kept_emissions ms now cs)
    where
      moved : (t : Bool) → emissions (behaviours (cond t (m ∷ members_kept ms) (members_kept ms))) now
          (cond t (c ∷ kept who (numbers ms) cs) (kept who (numbers ms) cs))
          ≡ cond t (sent_by c (emission m.behaviour now c) ∷ emissions (behaviours (members_kept ms)) now (kept who (numbers ms) cs))
          (emissions (behaviours (members_kept ms)) now (kept who (numbers ms) cs))
      moved true = refl
      moved false = refl

  -- events that bring the same make the same bags
  pub inbox_same : (k : ℕ) (es fs : List Delivery) (port n : ℕ) → IsTrue (who k) → SameFor who es fs → inbox k es port n ≡ inbox k fs port n
  inbox_same k es fs port zero h same = refl
  inbox_same k es fs port (suc n) h same = ap (λ (b : Counts). b ∷ inbox k es (port + 1) n) (same k port [] h)
      ∙ ap (λ (bs : List Counts). delivered k port fs [] ∷ bs) (inbox_same k es fs (port + 1) n h same)

  pub kept_reactions : (limit : ℕ) (ms : List Member) (now : ℕ) (cs : List Component) (es fs : List Delivery) → SameFor who es fs →
      reactions limit (behaviours (members_kept ms)) now (kept who (numbers ms) cs) (received (members_kept ms) es)
      ≡ kept who (numbers ms) (reactions limit (behaviours ms) now cs (received ms fs))
  kept_reactions limit [] now cs es fs same = refl
  kept_reactions limit (m ∷ ms) now [] es fs same =
      reactions_of_none limit (behaviours (members_kept (m ∷ ms))) now (received (members_kept (m ∷ ms)) es)
  kept_reactions limit (m ∷ ms) now (c ∷ cs) es fs same = moved (who m.number) refl
      ∙ ap (λ (ys : List Reaction). cond (who m.number) (reaction limit m.behaviour now c (inbox m.number fs 0 m.ports) ∷ ys) ys)
      (kept_reactions limit ms now cs es fs same)
    where
      moved : (t : Bool) → who m.number ≡ t →
          reactions limit (behaviours (cond t (m ∷ members_kept ms) (members_kept ms))) now
          (cond t (c ∷ kept who (numbers ms) cs) (kept who (numbers ms) cs))
          (received (cond t (m ∷ members_kept ms) (members_kept ms)) es)
          ≡ cond t (reaction limit m.behaviour now c (inbox m.number fs 0 m.ports) ∷ reactions limit (behaviours (members_kept ms)) now
          (kept who (numbers ms) cs) (received (members_kept ms) es))
          (reactions limit (behaviours (members_kept ms)) now (kept who (numbers ms) cs) (received (members_kept ms) es))
      moved true e = ap (λ (bags : List Counts). reaction limit m.behaviour now c bags ∷ reactions limit
          (behaviours (members_kept ms)) now (kept who (numbers ms) cs) (received (members_kept ms) es))
          (inbox_same m.number es fs 0 m.ports e same)
      moved false e = refl

  -- what a component of the set sends, by the cut lists
  sent_of_none : (js : List ℕ) (k : ℕ) → sent_of js [] k ≡ []
  sent_of_none [] k = refl
  sent_of_none (j ∷ js) k = rw (sent_of_none js k) (both (nat_eq j k))
    where
      both : (t : Bool) → cond t (let none : List Counts = [] in none) [] ≡ []
      both true = refl
      both false = refl

  pub kept_sent : (js : List ℕ) (sent : List (List Counts)) (k : ℕ) → IsTrue (who k) →
      sent_of (filter who js) (kept who js sent) k ≡ sent_of js sent k
  kept_sent [] sent k h = refl
  kept_sent (j ∷ js) [] k h = sent_of_none (filter who (j ∷ js)) k ∙ sym (sent_of_none (j ∷ js) k)
  kept_sent (j ∷ js) (bags ∷ sent) k h = moved (kept_sent js sent k h) (who j) (nat_eq j k) refl refl
    where
      moved : sent_of (filter who js) (kept who js sent) k ≡ sent_of js sent k → (t u : Bool) → who j ≡ t → nat_eq j k ≡ u →
          sent_of (cond t (j ∷ filter who js) (filter who js)) (cond t (bags ∷ kept who js sent) (kept who js sent)) k
          ≡ cond u bags (sent_of js sent k)
      moved rest true true e d = rw d refl
      moved rest true false e d = rw d rest
      moved rest false true e d =
          let same : j ≡ k = grind (arith, nat_tests) in
          absurd (cc (ap who same))
      moved rest false false e d = rest

  -- the numbers of the members that are kept
  pub kept_numbers : (ms : List Member) → numbers (members_kept ms) ≡ filter who (numbers ms)
  kept_numbers [] = refl
  kept_numbers (m ∷ ms) = moved (who m.number) ∙ ap (λ (ys : List ℕ). cond (who m.number) (m.number ∷ ys) ys) (kept_numbers ms)
    where
      moved : (t : Bool) → numbers (cond t (m ∷ members_kept ms) (members_kept ms))
          ≡ cond t (m.number ∷ numbers (members_kept ms)) (numbers (members_kept ms))
      moved true = refl
      moved false = refl

-- what links carry is a matter of what is sent where they begin
pub carried_same : (test : Link → Bool) (sent also : ℕ → List Counts) (links : List Link) →
    ((l : Link) → IsTrue (test l) → sent l.from ≡ also l.from) → carried (filter test links) sent ≡ carried (filter test links) also
carried_same test sent also [] h = refl
carried_same test sent also (l ∷ ls) h = step (carried_same test sent also ls h) (test l) refl
  where
    step : carried (filter test ls) sent ≡ carried (filter test ls) also → (t : Bool) → test l ≡ t →
        carried (cond t (l ∷ filter test ls) (filter test ls)) sent ≡ carried (cond t (l ∷ filter test ls) (filter test ls)) also
    step rest true e =
        ap (λ (bags : List Counts). carried_by l (bag_at bags l.from_port) ++ carried (filter test ls) sent) (h l e)
        ∙ ap (λ (es : List Delivery). carried_by l (bag_at (also l.from) l.from_port) ++ es) rest
    step rest false e = rest
