-- Links that are kept of links in the order of the ports that they lead from.
use Rattle.std.proofs.Common.{◌≡◌, Bool, true, false, cond, List, [], ◌∷◌, filter, refl, ap, subst}
use Rattle.std.proofs.lemmas.List.Kept.{IsNonDecreasingBy-filter}
use Rattle.dv_conservative.specs.Links.{Link}
use Rattle.dv_share.specs.Links.{RiseByPort, RiseBySource, leads_from}

-- two tests in either order keep the same
filters_swap : {X : Type 0} (p q : X → Bool) (xs : List X) → filter p (filter q xs) ≡ filter q (filter p xs)
filters_swap p q [] = refl
filters_swap {X} p q (x ∷ xs) = step (p x) (q x) refl refl (filters_swap p q xs)
  where
    step : (s t : Bool) → p x ≡ s → q x ≡ t → filter p (filter q xs) ≡ filter q (filter p xs) →
        filter p (cond (q x) (x ∷ filter q xs) (filter q xs)) ≡ filter q (cond (p x) (x ∷ filter p xs) (filter p xs))
    step true true is at rest = rw (is, at, is) (ap (λ (ys : List X). x ∷ ys) rest)
    step true false is at rest = rw (is, at) rest
    step false true is at rest = rw (at, is) rest
    step false false is at rest = rw (is, at) rest

pub kept_by_source : (test : Link → Bool) (ls : List Link) → RiseBySource ls → RiseBySource (filter test ls)
kept_by_source test ls rise = record {
  senders = IsNonDecreasingBy-filter (λ (l : Link). l.from) test ls rise.senders;
  ports = λ k.
      subst RiseByPort (filters_swap test (leads_from k) ls)
      (IsNonDecreasingBy-filter (λ (l : Link). l.from_port) test (filter (leads_from k) ls) (rise.ports k));
}

pub kept_by_port : (test : Link → Bool) (ls : List Link) → RiseByPort ls → RiseByPort (filter test ls)
kept_by_port test ls rise = IsNonDecreasingBy-filter (λ (l : Link). l.from_port) test ls rise
