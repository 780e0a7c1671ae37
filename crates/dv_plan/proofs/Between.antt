-- Links to a process that is not there.
use Rattle.std.proofs.Common.{◌≡◌, ℕ, ◌<◌, ◌≤◌, Bool, true, false, ◌&&◌, cond, List, [], ◌∷◌, refl, ap, ◌∙◌, arith}
use Rattle.std.proofs.lemmas.Bool.{ne_eqb}
use Rattle.dv_conservative.specs.Links.{Link, links_between}
use Rattle.dv_partition.specs.Groups.{owner_of}
use Rattle.dv_plan.specs.Cuts.{CutOf, between, owned_by}

nothing_to : (from to : ℕ → Bool) (ls : List Link) → ((k : ℕ) → to k ≡ false) → links_between from to ls ≡ []
nothing_to from to [] h = refl
nothing_to from to (l ∷ ls) h =
    ap (λ b. cond (from l.from && b) (l ∷ links_between from to ls) (links_between from to ls)) (h l.to)
    ∙ by_test (from l.from)
    ∙ nothing_to from to ls h
  where
    by_test : (t : Bool) → cond (t && false) (l ∷ links_between from to ls) (links_between from to ls) ≡ links_between from to ls
    by_test true = refl
    by_test false = refl

pub nothing_beyond : (c : CutOf) (p q : ℕ) → c.grouping.processes ≤ q → ((k : ℕ) → owner_of c.grouping k < c.grouping.processes)
    → between c p q ≡ []
nothing_beyond c p q past below =
    nothing_to (owned_by c.grouping p) (owned_by c.grouping q) c.direct
    (λ k. ne_eqb (owner_of c.grouping k) q (λ e. let less = below k in absurd (omega (arith, e, less, past))))
