-- The links between processes, one process after the other.
use Rattle.std.proofs.Common.{◌≡◌, ℕ, zero, suc, ◌+◌, ◌-◌, ◌*◌, ◌<◌, ◌≤◌, Bool, not, ◌&&◌, cond, nat_eq, List, ◌∷◌, ◌++◌}
use Rattle.std.proofs.Common.{length, refl, ap, ◌∙◌, arith}
use Rattle.std.proofs.lemmas.Nat.{mul-add-lt}
use Rattle.dv_conservative.specs.Channels.{channels_from, channels_of, crosses, leads_between}
use Rattle.dv_conservative.specs.Links.{Link as Meant}
use Rattle.dv_conservative.specs.World.{Channel}
use Rattle.dv_partition.specs.Groups.{Grouping, owner_of}
use Rattle.dv_plan.specs.Keys.{all_sent, lists_by, pair_key, sends, sent_by}
use Rattle.dv_share.specs.Links.{links_of}
use Rattle.dv_share.specs.declared.link.Link.{Link}
use Rattle.dv_plan.proofs.Kept.{any_links, between_test, list_at}

module _ (s : ℕ → ℕ → Bool) where
  abbrev to_one : ℕ → ℕ → List Channel → List Channel
  to_one p q rest = cond (s p q) (record { source = p; target = q } ∷ rest) rest

  -- the next target, and the next source
  pub one_target : (p q n : ℕ) → q < n → sent_by s p q (n - q) ≡ to_one p q (sent_by s p (q + 1) (n - (q + 1)))
  one_target p q n lt =
      let left : n - q ≡ suc (n - (q + 1)) = omega arith in
      let next : suc q ≡ q + 1 = omega arith in
      ap (sent_by s p q) left ∙ ap (λ r. to_one p q (sent_by s p r (n - (q + 1)))) next

  pub one_source : (p n : ℕ) → p < n → all_sent s n p (n - p) ≡ sent_by s p 0 n ++ all_sent s n (p + 1) (n - (p + 1))
  one_source p n lt =
      let left : n - p ≡ suc (n - (p + 1)) = omega arith in
      let next : suc p ≡ p + 1 = omega arith in
      ap (all_sent s n p) left ∙ ap (λ r. sent_by s p 0 n ++ all_sent s n r (n - (p + 1))) next

  module _ (owner : ℕ → ℕ) (links : List Meant) where
    same_row : (p q k : ℕ) → ((r : ℕ) → r < q + k → s p r ≡ crosses owner links p r) → sent_by s p q k ≡ channels_of owner links p q k
    same_row p q zero h = refl
    same_row p q (suc k) h =
        let rest = same_row p (suc q) k (λ r lt. h r (omega arith)) in
        ap (λ b. cond b (record { source = p; target = q } ∷ sent_by s p (suc q) k) (sent_by s p (suc q) k)) (h q (omega arith))
        ∙ ap (λ (cs : List Channel). cond (crosses owner links p q) (record { source = p; target = q } ∷ cs) cs) rest

    pub same_channels : (n p k : ℕ) → p + k ≤ n → ((a b : ℕ) → a < n → b < n → s a b ≡ crosses owner links a b) →
        all_sent s n p k ≡ channels_from owner links n p k
    same_channels n p zero le h = refl
    same_channels n p (suc k) le h =
        let lt : p < n = omega arith in
        ap (λ cs. cs ++ all_sent s n (suc p) k) (same_row p 0 n (λ r l. h p r lt (omega arith)))
        ∙ ap (λ cs. channels_of owner links p 0 n ++ cs) (same_channels n (suc p) k (omega arith) h)

-- a process sends to another one where a link crosses
module _ (g : Grouping) (below : (k : ℕ) → owner_of g k < g.processes) (ls : List Link) where
  pub sends_where_links_cross : (p q : ℕ) → p < g.processes → q < g.processes →
      sends g.processes (lists_by (pair_key g) (g.processes * g.processes) ls) p q ≡ crosses (owner_of g) (links_of ls) p q
  sends_where_links_cross p q lp lq =
      let n = g.processes in
      ap (λ (xs : List Link). not (nat_eq p q) && not (nat_eq (length xs) 0))
      (list_at (pair_key g) (n * n) (p * n + q) ls (mul-add-lt p n q n lp lq))
      ∙ ap (λ b. not (nat_eq p q) && b)
      (any_links (pair_key g) (p * n + q) (leads_between (owner_of g) p q) (between_test g below p q lq) ls)
