-- Sets of numbers as the bits of words.
use Rattle.std.proofs.Common.{◌≡◌, ◌≢◌, inl, inr, ℕ, ◌+◌, ◌-◌, ◌*◌, ◌/◌, ◌%◌, ◌^◌, ◌<◌, ◌≤◌, List, get_or, length, set, refl, sym, ap}
use Rattle.std.proofs.Common.{arith, ◌∙◌}
use Rattle.std.proofs.Common.{get_or-set_same, get_or-set_other, length-set, replicate, zero, suc}
use Rattle.std.proofs.lemmas.List.{length-replicate}
use Rattle.std.proofs.lemmas.Bool.{cases_eq, cases_lt}
use Rattle.std.proofs.lemmas.Nat.{and_le_l, shr-shr, trailing_le}
use Rattle.std.proofs.lemmas.Nat.Bits.{bit_at-trailing_zeros, bit_at-zero, bit_at_above, bit_at_clear_other, bit_at_clear_same, bit_at-lt}
use Rattle.std.proofs.lemmas.Nat.Bits.{bit_at_set_other, bit_at_set_same}
use Rattle.std.specs.Int.{bit_at, trailing_zeros}
use Rattle.std.specs.Int.RustNames.{bit_or}
use lib.Bits.{bit_and}
use lib.Count.{trailing_of_zero}
use Rattle.std.proofs.Common.{w64}
use Rattle.dv_agenda.specs.Sets.{IsHeaded, has}

pub has_is : (words : List ℕ) (p : ℕ) → has words p ≡ bit_at (get_or words (p / 64) 0) (p % 64)
unfolding has
has_is words p = refl

-- a word is written
written : (words : List ℕ) (p n x : ℕ) → n < 64 * length words → p / 64 ≡ n / 64
    → has (set words (n / 64) x) p ≡ bit_at x (p % 64)
written words p n x lt e =
    has_is (set words (n / 64) x) p
    ∙ ap (λ (i : ℕ). bit_at (get_or (set words (n / 64) x) i 0) (p % 64)) e
    ∙ ap (λ (y : ℕ). bit_at y (p % 64)) (get_or-set_same words (n / 64) x 0 (omega arith))

written_apart : (words : List ℕ) (p n x : ℕ) → p / 64 ≢ n / 64 → has (set words (n / 64) x) p ≡ has words p
written_apart words p n x ne =
    has_is (set words (n / 64) x) p
    ∙ ap (λ (y : ℕ). bit_at y (p % 64)) (get_or-set_other words (n / 64) (p / 64) x 0 ne)
    ∙ sym (has_is words p)

bit_is : (words : List ℕ) (p n : ℕ) → p / 64 ≡ n / 64 → has words p ≡ bit_at (get_or words (n / 64) 0) (p % 64)
bit_is words p n e = has_is words p ∙ ap (λ (i : ℕ). bit_at (get_or words i 0) (p % 64)) e

pub insert_there : (words : List ℕ) (n : ℕ) → n < 64 * length words
    → has (set words (n / 64) (bit_or (get_or words (n / 64) 0) (1 * 2 ^ (n % 64) % 18446744073709551616))) n ≡ 1
insert_there words n lt =
    written words n n _ lt refl ∙ bit_at_set_same w64 (get_or words (n / 64) 0) (n % 64) (omega arith)

pub insert_others : (words : List ℕ) (n p : ℕ) → n < 64 * length words → p ≢ n
    → has (set words (n / 64) (bit_or (get_or words (n / 64) 0) (1 * 2 ^ (n % 64) % 18446744073709551616))) p ≡ has words p
insert_others words n p lt ne = elim (cases_eq (p / 64) (n / 64)) [
  | inl e ↦
      let nd : p % 64 ≢ n % 64 = λ d. ne (omega arith) in
      written words p n _ lt e
      ∙ bit_at_set_other w64 (get_or words (n / 64) 0) (n % 64) (omega arith) (p % 64) nd
      ∙ sym (bit_is words p n e)
  | inr nw ↦ written_apart words p n _ nw
]

pub remove_others : (words : List ℕ) (n p : ℕ) → n < 64 * length words → p ≢ n
    → has (set words (n / 64) (bit_and (get_or words (n / 64) 0) (18446744073709551615 - 1 * 2 ^ (n % 64) % 18446744073709551616))) p
    ≡ has words p
remove_others words n p lt ne = elim (cases_eq (p / 64) (n / 64)) [
  | inl e ↦
      let nd : p % 64 ≢ n % 64 = λ d. ne (omega arith) in
      written words p n _ lt e
      ∙ bit_at_clear_other w64 (get_or words (n / 64) 0) (n % 64) (omega arith) (p % 64) (omega arith) nd
      ∙ sym (bit_is words p n e)
  | inr nw ↦ written_apart words p n _ nw
]

pub remove_gone : (words : List ℕ) (n : ℕ) → n < 64 * length words
    → has (set words (n / 64) (bit_and (get_or words (n / 64) 0) (18446744073709551615 - 1 * 2 ^ (n % 64) % 18446744073709551616))) n ≡ 0
remove_gone words n lt =
    written words n n _ lt refl ∙ bit_at_clear_same w64 (get_or words (n / 64) 0) (n % 64) (omega arith)

-- a word of 0 has no number
pub none_in_nil : (words : List ℕ) (n p : ℕ) → get_or words (n / 64) 0 ≡ 0 → p / 64 ≡ n / 64 → has words p ≡ 0
none_in_nil words n p nil e =
    bit_is words p n e ∙ ap (λ (y : ℕ). bit_at y (p % 64)) nil ∙ bit_at-zero (p % 64)

has_lt : (words : List ℕ) (p : ℕ) → has words p < 2
has_lt words p = let e : has words p ≡ bit_at (get_or words (p / 64) 0) (p % 64) = has_is words p in
    let l : bit_at (get_or words (p / 64) 0) (p % 64) < 2 = bit_at-lt (get_or words (p / 64) 0) (p % 64) in omega arith

-- where the heads do not have a word, it has no number
pub none_unheaded : (heads words : List ℕ) (p : ℕ) → IsHeaded heads words → has heads (p / 64) ≡ 0 → has words p ≡ 0
none_unheaded heads words p h nil = elim (cases_eq (has words p) 1) [
  | inl e ↦ let one : has heads (p / 64) ≡ 1 = h.headed p e in absurd (omega arith)
  | inr ne ↦ let l : has words p < 2 = has_lt words p in omega arith
]

-- what was there is there where a number is added or another taken out
pub kept_by : (words words2 : List ℕ) (n p : ℕ) → has words2 n ≡ 1 → ((q : ℕ) → q ≢ n → has words2 q ≡ has words q)
    → has words p ≡ 1 → has words2 p ≡ 1
kept_by words words2 n p there others h = elim (cases_eq p n) [
  | inl e ↦ ap (has words2) e ∙ there
  | inr ne ↦ others p ne ∙ h
]

pub headed_insert : (heads heads2 words words2 : List ℕ) (n : ℕ) → IsHeaded heads words → length words2 ≡ length words
    → length heads2 ≡ length heads → ((q : ℕ) → q ≢ n → has words2 q ≡ has words q) → has heads2 (n / 64) ≡ 1
    → ((q : ℕ) → q ≢ n / 64 → has heads2 q ≡ has heads q) → IsHeaded heads2 words2
headed_insert heads heads2 words words2 n h size heads_size others there heads_others =
    let room : length words ≤ 64 * length heads = h.room in
    let few : length words ≤ 2 ^ 50 = h.few in
    let heads_few : length heads ≤ 2 ^ 50 = h.heads_few in
    record {
      room = omega arith;
      few = omega arith;
      heads_few = omega arith;
      headed = λ p e. elim (cases_eq p n) [
        | inl d ↦ ap (λ (q : ℕ). has heads2 (q / 64)) d ∙ there
        | inr ne ↦ kept_by heads heads2 (n / 64) (p / 64) there heads_others (h.headed p (sym (others p ne) ∙ e))
      ];
    }

pub headed_remove : (heads words words2 : List ℕ) (n : ℕ) → IsHeaded heads words → length words2 ≡ length words
    → has words2 n ≡ 0 → ((q : ℕ) → q ≢ n → has words2 q ≡ has words q) → IsHeaded heads words2
headed_remove heads words words2 n h size gone others =
    let room : length words ≤ 64 * length heads = h.room in
    let few : length words ≤ 2 ^ 50 = h.few in
    record {
      room = omega arith;
      few = omega arith;
      heads_few = h.heads_few;
      headed = λ p e. elim (cases_eq p n) [
        | inl d ↦ let nil : has words2 p ≡ 0 = ap (has words2) d ∙ gone in absurd (omega arith)
        | inr ne ↦ h.headed p (sym (others p ne) ∙ e)
      ];
    }

-- the head of a word of 0 is taken out
pub headed_nil : (heads heads2 words : List ℕ) (n : ℕ) → IsHeaded heads words → length heads2 ≡ length heads
    → get_or words (n / 64) 0 ≡ 0 → ((q : ℕ) → q ≢ n / 64 → has heads2 q ≡ has heads q) → IsHeaded heads2 words
headed_nil heads heads2 words n h size nil others =
    let room : length words ≤ 64 * length heads = h.room in
    let heads_few : length heads ≤ 2 ^ 50 = h.heads_few in
    record {
      room = omega arith;
      few = h.few;
      heads_few = omega arith;
      headed = λ p e. elim (cases_eq (p / 64) (n / 64)) [
        | inl d ↦ let zero : has words p ≡ 0 = none_in_nil words n p nil d in absurd (omega arith)
        | inr ne ↦ others (p / 64) ne ∙ h.headed p e
      ];
    }

has-replicate : (n p : ℕ) → has (replicate n 0) p ≡ 0
has-replicate n p =
    has_is (replicate {A = ℕ} n 0) p ∙ ap (λ (y : ℕ). bit_at y (p % 64)) (nil n (p / 64)) ∙ bit_at-zero (p % 64)
  where
    nil : (m i : ℕ) → ◌≡◌ {A = ℕ} (get_or (replicate {A = ℕ} m 0) i 0) 0
    nil zero i = refl
    nil (suc m) zero = refl
    nil (suc m) (suc i) = nil m i

pub headed_new : (n m : ℕ) → n ≤ 64 * m → n ≤ 2 ^ 50 → m ≤ 2 ^ 50 → IsHeaded (replicate m 0) (replicate n 0)
headed_new n m room few heads_few =
    let a : length (replicate {A = ℕ} n 0) ≡ n = length-replicate n 0 in
    let b : length (replicate {A = ℕ} m 0) ≡ m = length-replicate m 0 in
    record {
      room = omega arith;
      few = omega arith;
      heads_few = omega arith;
      headed = λ p e. let nil : has (replicate n 0) p ≡ 0 = has-replicate n p in absurd (omega arith);
    }

-- a bit of what is left of a word
left_bit : (x s j : ℕ) → bit_at (x / 2 ^ s) j ≡ bit_at x (s + j)
left_bit x s j = ap (λ (y : ℕ). y % 2) (shr-shr x s j)

pub none_left : (words : List ℕ) (at p : ℕ) → get_or words (at / 64) 0 / 2 ^ (at % 64) ≡ 0 → at ≤ p → p < 64 * (at / 64 + 1)
    → has words p ≡ 0
none_left words at p nothing le lt =
    let e : p / 64 ≡ at / 64 = omega arith in
    let d : p % 64 ≡ at % 64 + (p - at) = omega arith in
    has_is words p
    ∙ ap (λ (i : ℕ). bit_at (get_or words i 0) (p % 64)) e
    ∙ ap (bit_at (get_or words (at / 64) 0)) d
    ∙ sym (left_bit (get_or words (at / 64) 0) (at % 64) (p - at))
    ∙ ap (λ (y : ℕ). bit_at y (p - at)) nothing
    ∙ bit_at-zero (p - at)

pub none_before : (words : List ℕ) (at p rest : ℕ) → rest ≡ get_or words (at / 64) 0 / 2 ^ (at % 64)
    → get_or words (at / 64) 0 < 2 ^ 64
    → rest ≢ 0 → rest < 2 ^ 64 → at ≤ p → p < at + trailing_zeros w64 rest → has words p ≡ 0
none_before words at p rest is below some small le lt =
    let zeros = bit_at-trailing_zeros w64 rest (omega arith) small in
    let tz : ℕ = trailing_zeros w64 rest in
    let one : bit_at rest (trailing_zeros w64 rest) ≡ 1 = zeros.1 in
    let same : at % 64 + trailing_zeros w64 rest < 64 = elim (cases_lt (at % 64 + trailing_zeros w64 rest) 64) [
      | inl l ↦ l
      | inr ge ↦
          let z : bit_at (get_or words (at / 64) 0) (at % 64 + trailing_zeros w64 rest) ≡ 0 =
          bit_at_above (get_or words (at / 64) 0) 64 (at % 64 + trailing_zeros w64 rest) below ge in
          let y : bit_at rest (trailing_zeros w64 rest) ≡ 0 =
          ap (λ (x : ℕ). bit_at x (trailing_zeros w64 rest)) is
          ∙ left_bit (get_or words (at / 64) 0) (at % 64) (trailing_zeros w64 rest) ∙ z in
          let no : 1 ≡ 0 = sym one ∙ y in
          absurd (omega arith)
    ] in
    let e : p / 64 ≡ at / 64 = omega arith in
    let d : p % 64 ≡ at % 64 + (p - at) = omega arith in
    has_is words p
    ∙ ap (λ (i : ℕ). bit_at (get_or words i 0) (p % 64)) e
    ∙ ap (bit_at (get_or words (at / 64) 0)) d
    ∙ sym (left_bit (get_or words (at / 64) 0) (at % 64) (p - at))
    ∙ ap (λ (x : ℕ). bit_at x (p - at)) (sym is)
    ∙ zeros.2 (p - at) (omega arith)

-- a bit is taken out of a word
abbrev without : ℕ → ℕ → ℕ
without x k = bit_and x (18446744073709551615 - 1 * 2 ^ k % 18446744073709551616)

pub without_gone : (x k : ℕ) → k < 64 → bit_at (bit_and x (18446744073709551615 - 1 * 2 ^ k % 18446744073709551616)) k ≡ 0
without_gone x k lt = bit_at_clear_same w64 x k lt

pub without_others : (x k p : ℕ) → k < 64 → p < 64 → p ≢ k
    → bit_at (bit_and x (18446744073709551615 - 1 * 2 ^ k % 18446744073709551616)) p ≡ bit_at x p
without_others x k p lt lp ne = bit_at_clear_other w64 x k lt p lp ne

pub without_less : (x k : ℕ) → k < 64 → bit_at x k ≡ 1 → bit_and x (18446744073709551615 - 1 * 2 ^ k % 18446744073709551616) < x
without_less x k lt one = elim (cases_eq (without x k) x) [
  | inl e ↦
      let no : ◌≡◌ {A = ℕ} 1 0 = sym one ∙ ap (λ (y : ℕ). bit_at y k) (sym e) ∙ without_gone x k lt in
      absurd (omega arith)
  | inr ne ↦ let le : without x k ≤ x = and_le_l x (18446744073709551615 - 1 * 2 ^ k % 18446744073709551616) in omega arith
]

-- no bit is set below the lowest, and of no bit in 0
pub below_lowest : (x i : ℕ) → x < 2 ^ 64 → i < trailing_zeros w64 x → bit_at x i ≡ 0
below_lowest x i small lt = elim (cases_eq x 0) [
  | inl e ↦ ap (λ (y : ℕ). bit_at y i) e ∙ bit_at-zero i
  | inr ne ↦ (bit_at-trailing_zeros w64 x (omega arith) small).2 i lt
]

pub lowest_high : (x : ℕ) → trailing_zeros w64 x ≤ 64
lowest_high x = trailing_le 64 x

-- where a bit and all below it are not set, the lowest is above
pub lowest_above : (x k : ℕ) → k < 64 → x < 2 ^ 64 → ((p : ℕ) → p ≤ k → bit_at x p ≡ 0) → k < trailing_zeros w64 x
lowest_above x k lt small none = elim (cases_eq x 0) [
  | inl e ↦ let t : trailing_zeros w64 x ≡ 64 = ap (trailing_zeros w64) e ∙ trailing_of_zero 64 in omega arith
  | inr ne ↦
      let zeros = bit_at-trailing_zeros w64 x (omega arith) small in
      elim (cases_lt k (trailing_zeros w64 x)) [
        | inl l ↦ l
        | inr ge ↦ let no : ◌≡◌ {A = ℕ} 1 0 = sym zeros.1 ∙ none (trailing_zeros w64 x) ge in absurd (omega arith)
      ]
]

-- the numbers of a word
pub has_word : (words : List ℕ) (at j : ℕ) → j < 64 → has words (64 * at + j) ≡ bit_at (get_or words at 0) j
has_word words at j lt =
    let d : (64 * at + j) / 64 ≡ at = omega arith in
    let m : (64 * at + j) % 64 ≡ j = omega arith in
    has_is words (64 * at + j)
    ∙ ap (λ (i : ℕ). bit_at (get_or words i 0) ((64 * at + j) % 64)) d
    ∙ ap (bit_at (get_or words at 0)) m

-- a word is written
pub others_written : (words : List ℕ) (at x p : ℕ) → p / 64 ≢ at → has (set words at x) p ≡ has words p
others_written words at x p ne =
    has_is (set words at x) p
    ∙ ap (λ (y : ℕ). bit_at y (p % 64)) (get_or-set_other words at (p / 64) x 0 ne)
    ∙ sym (has_is words p)

pub others_nil : (words : List ℕ) (at p : ℕ) → p / 64 ≢ at → has (set words at 0) p ≡ has words p
others_nil words at p ne = others_written words at 0 p ne

pub nil_there : (words : List ℕ) (at p : ℕ) → at < length words → p / 64 ≡ at → has (set words at 0) p ≡ 0
nil_there words at p lt e =
    has_is (set words at 0) p
    ∙ ap (λ (i : ℕ). bit_at (get_or (set words at 0) i 0) (p % 64)) e
    ∙ ap (λ (y : ℕ). bit_at y (p % 64)) (get_or-set_same words at 0 0 lt)
    ∙ bit_at-zero (p % 64)

pub headed_taken : (heads heads2 words : List ℕ) (at : ℕ) → IsHeaded heads words → at < length words
    → length heads2 ≡ length heads
    → ((q : ℕ) → q ≢ at → has heads2 q ≡ has heads q) → IsHeaded heads2 (set words at 0)
headed_taken heads heads2 words at h lt size others =
    let same : length (set words at 0) ≡ length words = length-set words at 0 in
    let room : length words ≤ 64 * length heads = h.room in
    let few : length words ≤ 2 ^ 50 = h.few in
    let heads_few : length heads ≤ 2 ^ 50 = h.heads_few in
    record {
      room = omega arith;
      few = omega arith;
      heads_few = omega arith;
      headed = λ p e. elim (cases_eq (p / 64) at) [
        | inl d ↦ let zero : has (set words at 0) p ≡ 0 = nil_there words at p lt d in absurd (omega arith)
        | inr ne ↦ others (p / 64) ne ∙ h.headed p (sym (others_nil words at p ne) ∙ e)
      ];
    }

-- a word that is not 0 has its lowest bit
lowest_there : (x : ℕ) → x ≢ 0 → x < 2 ^ 64 → (trailing_zeros w64 x < 64) × (bit_at x (trailing_zeros w64 x) ≡ 1)
lowest_there x some small =
    let zeros = bit_at-trailing_zeros w64 x (omega arith) small in (
      elim (cases_lt (trailing_zeros w64 x) 64) [
        | inl lt ↦ lt
        | inr ge ↦
            let no : ◌≡◌ {A = ℕ} 1 0 = sym zeros.1 ∙ bit_at_above x 64 (trailing_zeros w64 x) small ge in
            absurd (omega arith)
      ],
      zeros.1,
    )

-- one more number in a word that has some
pub headed_more : (heads words words2 : List ℕ) (n x : ℕ) → IsHeaded heads words → length words2 ≡ length words
    → get_or words (n / 64) 0 ≡ x → x ≢ 0 → x < 2 ^ 64 → ((q : ℕ) → q ≢ n → has words2 q ≡ has words q) → IsHeaded heads words2
headed_more heads words words2 n x h size is some small others =
    let low = lowest_there x some small in
    let lt : trailing_zeros w64 x < 64 = low.0 in
    let word : (64 * (n / 64) + trailing_zeros w64 x) / 64 ≡ n / 64 = omega arith in
    let member : has words (64 * (n / 64) + trailing_zeros w64 x) ≡ 1 =
    has_word words (n / 64) (trailing_zeros w64 x) lt ∙ ap (λ (y : ℕ). bit_at y (trailing_zeros w64 x)) is ∙ low.1 in
    headed_insert heads heads words words2 n h size refl others
    (ap (has heads) (sym word) ∙ h.headed (64 * (n / 64) + trailing_zeros w64 x) member) (λ q ne. refl)

-- the lowest bit of what is left of a word from a number on is above the number, where the set does not have it
pub none_at : (words : List ℕ) (at rest : ℕ) → rest ≡ get_or words (at / 64) 0 / 2 ^ (at % 64) → rest ≢ 0 → rest < 2 ^ 64
    → has words at ≡ 0 → 0 < trailing_zeros w64 rest
none_at words at rest is some small gone = elim (cases_lt 0 (trailing_zeros w64 rest)) [
  | inl lt ↦ lt
  | inr ge ↦
      let low = lowest_there rest some small in
      let first : trailing_zeros w64 rest ≡ 0 = omega arith in
      let here : at % 64 + 0 ≡ at % 64 = omega arith in
      let no : ◌≡◌ {A = ℕ} 1 0 =
      sym low.1 ∙ ap (bit_at rest) first ∙ ap (λ (x : ℕ). bit_at x 0) is
      ∙ left_bit (get_or words (at / 64) 0) (at % 64) 0 ∙ ap (bit_at (get_or words (at / 64) 0)) here ∙ sym (has_is words at) ∙ gone in
      absurd (omega arith)
]
