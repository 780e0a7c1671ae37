-- Of what is sent in two lists, united port by port, there travels the union.
use Rattle.std.proofs.Common.{◌≡◌, List, refl, ap, sym, ◌∙◌}
use Rattle.dv_syntax.specs.Trees.{FileTree}
use Rattle.dv_bag.specs.Bag.{Counts, IsBag, union}
use Rattle.dv_tree.specs.Routing.{leaves, arrives}
use Rattle.dv_tree.specs.Unions.{Unite, AllUnite}
use Rattle.dv_tree.proofs.Kept.{leaves_kept, arrives_kept}

-- one list, the other, or both together
data Which : Type 0 where
  one : Which
  other : Which
  together : Which

abbrev among : {X : Type 0} → X → X → X → Which → X
among x y z one = x
among x y z other = y
among x y z together = z

module _ (bag : (a b : Counts) → IsBag a → IsBag b → IsBag (union a b))
    (commutative : (a b : Counts) → IsBag a → IsBag b → union a b ≡ union b a)
    (associative : (a b c : Counts) → IsBag a → IsBag b → IsBag c → union (union a b) c ≡ union a (union b c)) where
  four : (p q x y : Counts) → IsBag p → IsBag q → IsBag x → IsBag y → union (union p q) (union x y) ≡ union (union p x) (union q y)
  four p q x y hp hq hx hy =
      associative p q (union x y) hp hq (bag x y hx hy)
      ∙ (ap (union p) (sym (associative q x y hq hx hy) ∙ (ap (λ v. union v y) (commutative q x hq hx) ∙ associative x q y hx hq hy))
      ∙ sym (associative p x (union q y) hp hx (bag q y hq hy)))

  abbrev AreUnited : (Which → Counts) → Type 0
  AreUnited b = IsBag (b one) × IsBag (b other) × (b together ≡ union (b one) (b other))

  united_both : (a b : Which → Counts) → AreUnited a → AreUnited b → AreUnited (λ w. union (a w) (b w))
  united_both a b h k = (
    bag (a one) (b one) h.0 k.0,
    bag (a other) (b other) h.1 k.1,
    ap (λ v. union v (b together)) h.2
        ∙ (ap (union (union (a one) (a other))) k.2 ∙ four (a one) (a other) (b one) (b other) h.0 h.1 k.0 k.1),
  )

  pub leaves_united : (f : FileTree) (a b c : List (List Counts)) → AllUnite a b c → Unite (leaves f a) (leaves f b) (leaves f c)
  leaves_united f a b c h =
      let kept =
      leaves_kept AreUnited (tt, tt, refl) united_both f (among a b c)
      (λ k port within. ((h k).left port, (h k).right port, (h k).together port)) in
      record { left = λ port. (kept port).0; right = λ port. (kept port).1; together = λ port. (kept port).2 }

  pub arrives_united : (f : FileTree) (x y z : List Counts) (a b c : List (List Counts)) → Unite x y z → AllUnite a b c →
      AllUnite (arrives f a x) (arrives f b y) (arrives f c z)
  arrives_united f x y z a b c e h =
      let kept =
      arrives_kept AreUnited (tt, tt, refl) united_both f (among a b c) (among x y z)
      (λ k port within. ((h k).left port, (h k).right port, (h k).together port))
      (λ port within. (e.left port, e.right port, e.together port)) in
      λ k. record { left = λ port. (kept k port).0; right = λ port. (kept k port).1; together = λ port. (kept k port).2 }
