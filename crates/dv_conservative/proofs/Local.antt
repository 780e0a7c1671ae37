-- A share's run is its part of the whole run. No rule, fault or kind is opened here.
use Rattle.std.proofs.Common.{◌≡◌, ℕ, suc, zero, ◌<◌, Bool, true, false, not, ◌&&◌, ◌||◌, nat_eq, List, [], ◌∷◌, ◌++◌, map}
use Rattle.std.proofs.Common.{IsTrue, refl, sym, ap, ◌∙◌, arith}
use Rattle.std.specs.List.{filter}
use Rattle.std.proofs.lemmas.Bool.{and_parts}
use Rattle.std.proofs.lemmas.Bool.Decides.{nat_tests}
use Rattle.dv_bag.specs.Bag.{Counts}
use Rattle.dv_devs.specs.Behaviour.{Component, Reaction}
use Rattle.dv_devs.specs.Network.{components_after, components_at, emissions, emissions_at, instant, reactions}
use Rattle.dv_conservative.specs.Links.{Delivery, Link, SameFor, carried, delivered, is_between, links_between, sent_of}
use Rattle.dv_conservative.specs.Flat.{Flat, Member, behaviours, crossings, fed, kept, network, numbers, others, sends_by, share, whole}
use Rattle.dv_conservative.proofs.Delivered.{AreParted, brings_parted, delivered-append}
use Rattle.dv_conservative.proofs.Cut.{carried_same, kept_emissions, kept_map, kept_members, kept_numbers, kept_reactions, kept_sent}

filter_all : {X : Type 0} (xs : List X) → filter (λ x. true) xs ≡ xs
filter_all [] = refl
filter_all (x ∷ xs) = ap (λ (ys : List _). x ∷ ys) (filter_all xs)

pub filter_none : {X : Type 0} (xs : List X) → filter (λ x. false) xs ≡ []
filter_none [] = refl
filter_none (x ∷ xs) = filter_none xs

pub same_number : (a b : ℕ) → nat_eq a b ≡ true → a ≡ b
same_number a b e = grind (arith, nat_tests)

module _ (who : ℕ → Bool) (k port : ℕ) (here : IsTrue (who k)) where
  led_here : (l : Link) → IsTrue (nat_eq l.to k) → who l.to ≡ true
  led_here l e = ap who (same_number l.to k e) ∙ here

  -- of those that lead here, an entry link is the share's
  entrances_parted : (links : List Link) → AreParted k port (λ l. true) (λ l. who l.to) (λ l. false) links
  entrances_parted [] = tt
  entrances_parted (l ∷ ls) = ((λ e. let mine = led_here l e in rw mine (refl, refl)), entrances_parted ls)

  -- and a link begins at a component of the set, or else crosses
  links_parted : (links : List Link) → AreParted k port (λ l. true) (is_between who who) (is_between (others who) who) links
  links_parted [] = tt
  links_parted (l ∷ ls) = ((λ e. let mine = led_here l e in rw mine (both (who l.from))), links_parted ls)
    where
      both : (t : Bool) → (true ≡ ((t && true) || (not t && true))) × (((t && true) && (not t && true)) ≡ false)
      both true = (refl, refl)
      both false = (refl, refl)

  entrances_bring : (sent : ℕ → List Counts) (links : List Link) (bag : Counts) →
      delivered k port (carried (filter (λ (l : Link). who l.to) links) sent) bag ≡ delivered k port (carried links sent) bag
  entrances_bring sent links bag =
      sym (
      ap (λ (ls : List Link). delivered k port (carried ls sent) bag) (sym (filter_all links))
      ∙ brings_parted k port sent (λ l. true) (λ l. who l.to) (λ l. false) links bag (entrances_parted links)
      ∙ ap (λ (ls : List Link). delivered k port (carried (filter (λ (l : Link). who l.to) links) sent)
      (delivered k port (carried ls sent) bag)) (filter_none links))

  links_bring : (sent : ℕ → List Counts) (links : List Link) (bag : Counts) →
      delivered k port (carried (links_between who who links) sent)
      (delivered k port (carried (links_between (others who) who links) sent) bag) ≡ delivered k port (carried links sent) bag
  links_bring sent links bag =
      sym (
      ap (λ (ls : List Link). delivered k port (carried ls sent) bag) (sym (filter_all links))
      ∙ brings_parted k port sent (λ l. true) (is_between who who) (is_between (others who) who) links bag (links_parted links))

module _ (who : ℕ → Bool) (f : Flat) where
  -- the share's components send what they send in the whole
  pub sent_same : (sent : List (List Counts)) (k : ℕ) → IsTrue (who k) →
      sent_of (numbers (share who f).members) (kept who (numbers f.members) sent) k ≡ sent_of (numbers f.members) sent k
  sent_same sent k here = ap (λ (js : List ℕ). sent_of js (kept who (numbers f.members) sent) k) (kept_numbers who f.members)
      ∙ kept_sent who (numbers f.members) sent k here

  own_carried : (sent : List (List Counts)) →
      carried (share who f).links (sent_of (numbers (share who f).members) (kept who (numbers f.members) sent))
      ≡ carried (share who f).links (sent_of (numbers f.members) sent)
  own_carried sent = carried_same (is_between who who) (sent_of (numbers (share who f).members) (kept who (numbers f.members) sent))
      (sent_of (numbers f.members) sent) f.links (λ l h. let parts = and_parts (who l.from) (who l.to) h in sent_same sent l.from parts.0)

  -- what arrives in the share at one instant arrives there in the whole
  arrives_same : (sent : List (List Counts)) (outs : List Counts) (events : List Delivery) →
      SameFor who events (carried (links_between (others who) who f.links) (sent_of (numbers f.members) sent))
      → SameFor who (carried (share who f).entrances (λ k. outs) ++
      (carried (share who f).links (sent_of (numbers (share who f).members) (kept who (numbers f.members) sent)) ++ events))
      (carried f.entrances (λ k. outs) ++ (carried f.links (sent_of (numbers f.members) sent) ++ []))
  arrives_same sent outs events same k port bag here =
      let own = carried (share who f).links (sent_of (numbers f.members) sent) in
      delivered-append k port (carried (share who f).entrances (λ k. outs))
      (carried (share who f).links (sent_of (numbers (share who f).members) (kept who (numbers f.members) sent)) ++ events) bag
      ∙ ap (λ (es : List Delivery). delivered k port (carried (share who f).entrances (λ k. outs)) (delivered k port (es ++ events) bag))
      (own_carried sent)
      ∙ ap (delivered k port (carried (share who f).entrances (λ k. outs))) (delivered-append k port own events bag)
      ∙ ap (λ (b : Counts). delivered k port (carried (share who f).entrances (λ k. outs)) (delivered k port own b)) (same k port bag here)
      ∙ ap (delivered k port (carried (share who f).entrances (λ k. outs)))
      (links_bring who k port here (sent_of (numbers f.members) sent) f.links bag)
      ∙ entrances_bring who k port here (λ k. outs) f.entrances (delivered k port (carried f.links (sent_of (numbers f.members) sent)) bag)
      ∙ ap (delivered k port (carried f.entrances (λ k. outs)))
      (sym (delivered-append k port (carried f.links (sent_of (numbers f.members) sent)) [] bag))
      ∙ sym (delivered-append k port (carried f.entrances (λ k. outs)) (carried f.links (sent_of (numbers f.members) sent) ++ []) bag)

module _ (limit : ℕ) (f : Flat) (outside : ℕ → List Counts) (who : ℕ → Bool) (events : ℕ → List Delivery) where
  -- the true crossings came before a rank
  abbrev pub AreCrossings : ℕ → Type 0
  AreCrossings n = (j : ℕ) → j < n → SameFor who (events j) (crossings limit f outside (others who) who j)

  abbrev cut : {X : Type 0} → List X → List X
  cut xs = kept who (numbers f.members) xs

  pub instant_of_share : (n : ℕ) (cs : List Component) →
      SameFor who (events n)
      (carried (links_between (others who) who f.links) (sent_of (numbers f.members) (emissions (behaviours f.members) n cs)))
      → instant limit (network (share who f)) n (fed outside events n) (cut cs) ≡ cut (instant limit (whole f) n (outside n) cs)
  instant_of_share n cs same =
      let own = behaviours (share who f).members in
      ap (λ (sent : List (List Counts)). reactions limit own n (cut cs) ((network (share who f)).arrives sent (outside n, events n)))
      (kept_emissions who f.members n cs)
      ∙ kept_reactions who limit f.members n cs _ _ (arrives_same who f (emissions (behaviours f.members) n cs) (outside n) (events n) same)

  pub components_of_share : (n : ℕ) → AreCrossings n →
      components_at limit (network (share who f)) (fed outside events) n ≡ cut (components_at limit (whole f) outside n)
  components_of_share zero true_before = kept_members who (λ (m : Member). m.start) f.members
  components_of_share (suc n) true_before =
      let before = components_of_share n (λ j lt. true_before j (omega arith)) in
      let cs = components_at limit (whole f) outside n in
      ap (components_after limit (network (share who f)) n (fed outside events n)) before
      ∙ ap (map (λ (r : Reaction). r.component)) (instant_of_share n cs (true_before n (omega arith)))
      ∙ sym (kept_map who (λ (r : Reaction). r.component) (numbers f.members) (instant limit (whole f) n (outside n) cs))

  pub emissions_of_share : (n : ℕ) → AreCrossings n →
      emissions_at limit (network (share who f)) (fed outside events) n ≡ cut (emissions_at limit (whole f) outside n)
  emissions_of_share n true_before = ap (emissions (behaviours (share who f).members) n) (components_of_share n true_before)
      ∙ kept_emissions who f.members n (components_at limit (whole f) outside n)

  pub sends_of_share : (to : ℕ → Bool) (n : ℕ) → AreCrossings n →
      sends_by limit (share who f) (links_between who to f.links) (fed outside events) n ≡ crossings limit f outside who to n
  sends_of_share to n true_before =
      let sent = emissions_at limit (whole f) outside n in
      ap (λ (sent : List (List Counts)). carried (links_between who to f.links) (sent_of (numbers (share who f).members) sent))
      (emissions_of_share n true_before)
      ∙ carried_same (is_between who to) (sent_of (numbers (share who f).members) (cut sent)) (sent_of (numbers f.members) sent) f.links
      (λ l h. let parts = and_parts (who l.from) (to l.to) h in sent_same who f sent l.from parts.0)
