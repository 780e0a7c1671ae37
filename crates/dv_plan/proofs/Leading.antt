-- The links that lead to a process and away from it, one after the other.
use Rattle.std.proofs.Common.{◌≡◌, ℕ, suc, ◌+◌, cond, List, ◌∷◌, ap, ◌∙◌, arith}
use Rattle.std.proofs.lemmas.Bool.{eq-eqb, ne_eqb}
use Rattle.dv_conservative.specs.World.{Channel, Job, incoming_from, outgoing_from, outgoing_on}

module _ (p i : ℕ) (d : Channel) (cs : List Channel) where
  next : suc i ≡ i + 1
  next = omega arith

  pub leads_here : d.target ≡ p → incoming_from p i (d ∷ cs) ≡ i ∷ incoming_from p (i + 1) cs
  leads_here e =
      ap (λ b. cond b (i ∷ incoming_from p (suc i) cs) (incoming_from p (suc i) cs)) (eq-eqb d.target p e)
      ∙ ap (λ j. i ∷ incoming_from p j cs) next

  pub leads_elsewhere : (d.target ≡ p → ⊥) → incoming_from p i (d ∷ cs) ≡ incoming_from p (i + 1) cs
  leads_elsewhere e =
      ap (λ b. cond b (i ∷ incoming_from p (suc i) cs) (incoming_from p (suc i) cs)) (ne_eqb d.target p e)
      ∙ ap (λ j. incoming_from p j cs) next

  module _ (job : Job) where
    pub leads_away : d.source ≡ p →
        outgoing_from job p i (d ∷ cs) ≡ outgoing_on job i (record { source = p; target = d.target }) ∷ outgoing_from job p (i + 1) cs
    leads_away e =
        ap (λ b. cond b (outgoing_on job i d ∷ outgoing_from job p (suc i) cs) (outgoing_from job p (suc i) cs)) (eq-eqb d.source p e)
        ∙ ap (λ j. outgoing_on job i d ∷ outgoing_from job p j cs) next
        ∙ ap (λ s. outgoing_on job i (record { source = s; target = d.target }) ∷ outgoing_from job p (i + 1) cs) e

    pub stays_away : (d.source ≡ p → ⊥) → outgoing_from job p i (d ∷ cs) ≡ outgoing_from job p (i + 1) cs
    stays_away e =
        ap (λ b. cond b (outgoing_on job i d ∷ outgoing_from job p (suc i) cs) (outgoing_from job p (suc i) cs)) (ne_eqb d.source p e)
        ∙ ap (λ j. outgoing_from job p j cs) next
