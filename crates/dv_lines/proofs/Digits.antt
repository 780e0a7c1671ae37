-- Pairs of digits, and words by their head.
use Rattle.std.proofs.Common.{◌≡◌, ℕ, zero, suc, ◌+◌, ◌-◌, ◌*◌, ◌/◌, ◌%◌, ◌<◌, ◌≤◌, ◌^◌, Bool, true, ◌&&◌, T, eqb, List, ◌++◌}
use Rattle.std.proofs.Common.{get_or, take, drop, ap, ◌∙◌, inl, inr, arith, eq-zero-or-pos, eqb→eq, cond}
use Rattle.std.proofs.Common.{append_assoc}
use Rattle.std.proofs.lemmas.Bool.{le-leb, lt-leb}
use lib.Ieee.Fits.{and_l, and_r}
use Rattle.std.specs.Fmt.{decimal}
use Rattle.dv_lines.specs.Digits.{last_four}
use Rattle.dv_lines.specs.Words.{word_text}
use Rattle.dv_lines.specs.declared.numbers.TheConstants.{PAIRS}
use Rattle.dv_lines.specs.declared.pieces.Word.{Word}
use Rattle.dv_lines.proofs.Stamps.{by_last_four}

-- the table has the digits of each number below 100
abbrev are_pairs : ℕ → Bool
are_pairs zero = true
are_pairs (suc p) = (eqb (get_or PAIRS (p * 2) 0) (48 + p / 10) && eqb (get_or PAIRS (p * 2 + 1) 0) (48 + p % 10)) && are_pairs p

below : (n p : ℕ) → T (are_pairs n) → p < n → (get_or PAIRS (p * 2) 0 ≡ 48 + p / 10) × (get_or PAIRS (p * 2 + 1) 0 ≡ 48 + p % 10)
below zero p t h = absurd (omega arith)
below (suc n) p t h =
    elim (eq-zero-or-pos (n - p)) [
      | inl z ↦ let e : p ≡ n = omega arith in let a = and_l _ (are_pairs n) t in rw e (eqb→eq _ _ (and_l _ _ a), eqb→eq _ _ (and_r _ _ a))
      | inr g ↦ below n p (and_r _ (are_pairs n) t) (omega arith)
    ]

pub pair_there : (p : ℕ) → p < 100 → (get_or PAIRS (p * 2) 0 ≡ 48 + p / 10) × (get_or PAIRS (p * 2 + 1) 0 ≡ 48 + p % 10)
pair_there p h = below 100 p tt h

-- a word of at most 16 bytes is its head, and a longer one is a part of other bytes
pub head_text : (bytes : List ℕ) (w : Word) → w.length ≤ 16 → word_text bytes w ≡ take w.length w.head
head_text bytes w few = ap (λ (b : Bool). cond b (take w.length w.head) (take w.length (drop w.start bytes))) (le-leb w.length 16 few)

pub part_text : (bytes : List ℕ) (w : Word) → 16 < w.length → word_text bytes w ≡ take w.length (drop w.start bytes)
part_text bytes w more = ap (λ (b : Bool). cond b (take w.length w.head) (take w.length (drop w.start bytes))) (lt-leb w.length 16 more)

-- a number by its digits before the last eight, and these
pub by_last_eight : (n : ℕ) → 0 < n / 10000 / 10000 → n < 2 ^ 64 →
    decimal n ≡ decimal (n / 10000 / 10000) ++ (last_four (n / 10000) ++ last_four n)
by_last_eight n long fits =
    by_last_four n (omega (arith, long)) fits
    ∙ ap (λ t. t ++ last_four n) (by_last_four (n / 10000) long (omega (arith, fits)))
    ∙ append_assoc (decimal (n / 10000 / 10000)) (last_four (n / 10000)) (last_four n)
