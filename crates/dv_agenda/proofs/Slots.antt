-- The order of slots is that of ticks, and time that goes on leaves all slots as they are but its own.
use Rattle.std.proofs.Common.{◌≡◌, ◌≢◌, inl, inr, ℕ, zero, suc, ◌+◌, ◌-◌, ◌*◌, ◌/◌, ◌%◌, ◌^◌, ◌<◌, ◌≤◌, cond, refl, sym, ap, arith, ◌∙◌}
use Rattle.std.proofs.Common.{zero-mul}
use Rattle.std.proofs.Math.Nat.{div-eq_of_lt, lt-div-mul-add}
use Rattle.std.proofs.Math.Pow.{pow_mono}
use Rattle.std.proofs.lemmas.Bool.{cases_eq, eq-eqb, ne_eqb}
use Rattle.std.proofs.lemmas.Nat.{leading_top, pow_pos, shr-shr, xor_shr}
use Rattle.std.proofs.lemmas.Nat.Bits.{bit_at_xor, bit_at-lt, bit_at-zero, same_from_bits}
use Rattle.std.specs.Int.{bit_at}
use Rattle.std.specs.Int.RustNames.{bit_xor}
use lib.Count.{count_leading_zeros}
use Rattle.dv_agenda.specs.Wheel.{slot, slot_from}

pub slot_same : (f level t now : ℕ) → t / 64 ≡ now / 64 → slot_from (suc f) level t now ≡ 64 * level + t % 64
unfolding slot_from
slot_same f level t now e =
    ap (λ b. cond b (64 * level + t % 64) (slot_from f (level + 1) (t / 64) (now / 64))) (eq-eqb (t / 64) (now / 64) e)

pub slot_other : (f level t now : ℕ) → t / 64 ≢ now / 64
    → slot_from (suc f) level t now ≡ slot_from f (level + 1) (t / 64) (now / 64)
unfolding slot_from
slot_other f level t now ne =
    ap (λ b. cond b (64 * level + t % 64) (slot_from f (level + 1) (t / 64) (now / 64))) (ne_eqb (t / 64) (now / 64) ne)

pub slot_none : (level t now : ℕ) → slot_from zero level t now ≡ 64 * level
unfolding slot_from
slot_none level t now = refl

slot_low : (f level t now : ℕ) → 64 * level ≤ slot_from f level t now
slot_low zero level t now = let e : slot_from zero level t now ≡ 64 * level = slot_none level t now in omega arith
slot_low (suc f) level t now = elim (cases_eq (t / 64) (now / 64)) [
  | inl e ↦ let s : slot_from (suc f) level t now ≡ 64 * level + t % 64 = slot_same f level t now e in omega arith
  | inr ne ↦
      let s : slot_from (suc f) level t now ≡ slot_from f (level + 1) (t / 64) (now / 64) = slot_other f level t now ne in
      let l : 64 * (level + 1) ≤ slot_from f (level + 1) (t / 64) (now / 64) = slot_low f (level + 1) (t / 64) (now / 64) in
      omega arith
]

-- a lower slot has earlier ticks
ordered : (f level t u now : ℕ) → now ≤ t → now ≤ u → slot_from f level t now < slot_from f level u now → t < u
ordered zero level t u now h k lt =
    let a : slot_from zero level t now ≡ 64 * level = slot_none level t now in
    let b : slot_from zero level u now ≡ 64 * level = slot_none level u now in
    absurd (omega arith)
ordered (suc f) level t u now h k lt = elim (cases_eq (t / 64) (now / 64)) [
  | inl e ↦
      let s : slot_from (suc f) level t now ≡ 64 * level + t % 64 = slot_same f level t now e in
      elim (cases_eq (u / 64) (now / 64)) [
        | inl d ↦ let r : slot_from (suc f) level u now ≡ 64 * level + u % 64 = slot_same f level u now d in omega arith
        | inr ne ↦ let gt : t / 64 ≢ u / 64 = λ d. ne (sym d ∙ e) in omega arith
      ]
  | inr ne ↦
      let s : slot_from (suc f) level t now ≡ slot_from f (level + 1) (t / 64) (now / 64) = slot_other f level t now ne in
      elim (cases_eq (u / 64) (now / 64)) [
        | inl d ↦
            let r : slot_from (suc f) level u now ≡ 64 * level + u % 64 = slot_same f level u now d in
            let l : 64 * (level + 1) ≤ slot_from f (level + 1) (t / 64) (now / 64) = slot_low f (level + 1) (t / 64) (now / 64) in
            absurd (omega arith)
        | inr nd ↦
            let r : slot_from (suc f) level u now ≡ slot_from f (level + 1) (u / 64) (now / 64) = slot_other f level u now nd in
            let i : t / 64 < u / 64 =
            ordered f (level + 1) (t / 64) (u / 64) (now / 64) (omega arith) (omega arith) (omega arith) in
            omega arith
      ]
]

-- time goes on to a tick of another slot
stays : (f level n u now : ℕ) → now ≤ n → n ≤ u → slot_from f level n now ≢ slot_from f level u now
    → slot_from f level u n ≡ slot_from f level u now
stays zero level n u now h k ne = slot_none level u n ∙ sym (slot_none level u now)
stays (suc f) level n u now h k ne = elim (cases_eq (u / 64) (now / 64)) [
  | inl e ↦
      let d : u / 64 ≡ n / 64 = omega arith in
      slot_same f level u n d ∙ sym (slot_same f level u now e)
  | inr nu ↦ elim (cases_eq (n / 64) (now / 64)) [
    | inl e ↦
        let d : u / 64 ≢ n / 64 = λ x. nu (x ∙ e) in
        slot_other f level u n d ∙ ap (slot_from f (level + 1) (u / 64)) e ∙ sym (slot_other f level u now nu)
    | inr nn ↦ elim (cases_eq (u / 64) (n / 64)) [
      | inl e ↦
          absurd (ne (slot_other f level n now nn ∙ ap (λ (x : ℕ). slot_from f (level + 1) x (now / 64)) (sym e)
          ∙ sym (slot_other f level u now nu)))
      | inr nun ↦
          let apart : slot_from f (level + 1) (n / 64) (now / 64) ≢ slot_from f (level + 1) (u / 64) (now / 64) =
          λ x. ne (slot_other f level n now nn ∙ x ∙ sym (slot_other f level u now nu)) in
          slot_other f level u n nun
          ∙ stays f (level + 1) (n / 64) (u / 64) (now / 64) (omega arith) (omega arith) apart
          ∙ sym (slot_other f level u now nu)
    ]
  ]
]

-- the digits from one on, of which the first is cut off
deeper : (t k : ℕ) → t / 64 / 2 ^ (6 * k) ≡ t / 2 ^ (6 * (k + 1))
deeper t k = let e : 6 + 6 * k ≡ 6 * (k + 1) = omega arith in
    shr-shr t 6 (6 * k) ∙ ap (λ (m : ℕ). t / 2 ^ m) e

same_deeper : (t now k : ℕ) → t / 64 ≡ now / 64 → t / 2 ^ (6 * (k + 1)) ≡ now / 2 ^ (6 * (k + 1))
same_deeper t now k e = sym (deeper t k) ∙ ap (λ (x : ℕ). x / 2 ^ (6 * k)) e ∙ deeper now k

-- the slot where a tick has one more digit that differs, and none above
slot_at : (f level l t now : ℕ) → l < f → t / 2 ^ (6 * (l + 1)) ≡ now / 2 ^ (6 * (l + 1))
    → t / 2 ^ (6 * l) ≢ now / 2 ^ (6 * l) → slot_from f level t now ≡ 64 * (level + l) + t / 2 ^ (6 * l) % 64
slot_at zero level l t now lt e ne = absurd (omega arith)
slot_at (suc f) level zero t now lt e ne =
    let d : t / 2 ^ (6 * 0) ≡ t = omega arith in
    slot_same f level t now e ∙ (let r : 64 * level + t % 64 ≡ 64 * (level + 0) + t / 2 ^ (6 * 0) % 64 = omega arith in r)
slot_at (suc f) level (suc l) t now lt e ne =
    let s : suc l ≡ l + 1 = omega arith in
    let other : t / 64 ≢ now / 64 =
    λ d. ne (ap (λ (k : ℕ). t / 2 ^ (6 * k)) s ∙ same_deeper t now l d ∙ ap (λ (k : ℕ). now / 2 ^ (6 * k)) (sym s)) in
    let e2 : t / 64 / 2 ^ (6 * (l + 1)) ≡ now / 64 / 2 ^ (6 * (l + 1)) =
    deeper t (l + 1) ∙ ap (λ (k : ℕ). t / 2 ^ (6 * (k + 1))) (sym s) ∙ e ∙ ap (λ (k : ℕ). now / 2 ^ (6 * (k + 1))) s
    ∙ sym (deeper now (l + 1)) in
    let ne2 : t / 64 / 2 ^ (6 * l) ≢ now / 64 / 2 ^ (6 * l) =
    λ d. ne (ap (λ (k : ℕ). t / 2 ^ (6 * k)) s ∙ sym (deeper t l) ∙ d ∙ deeper now l
    ∙ ap (λ (k : ℕ). now / 2 ^ (6 * k)) (sym s)) in
    let sum : 64 * (level + 1 + l) ≡ 64 * (level + suc l) = omega arith in
    slot_other f level t now other
    ∙ slot_at f (level + 1) l (t / 64) (now / 64) (omega arith) e2 ne2
    ∙ ap (λ (n : ℕ). n + t / 64 / 2 ^ (6 * l) % 64) sum
    ∙ ap (λ (x : ℕ). 64 * (level + suc l) + x % 64) (deeper t l ∙ ap (λ (k : ℕ). t / 2 ^ (6 * k)) (sym s))

-- the slot behind all digits
slot_far : (f level t now : ℕ) → t / 2 ^ (6 * f) ≢ now / 2 ^ (6 * f) → slot_from f level t now ≡ 64 * (level + f)
slot_far zero level t now ne = slot_none level t now ∙ (let e : 64 * level ≡ 64 * (level + 0) = omega arith in e)
slot_far (suc f) level t now ne =
    let s : suc f ≡ f + 1 = omega arith in
    let other : t / 64 ≢ now / 64 =
    λ d. ne (ap (λ (k : ℕ). t / 2 ^ (6 * k)) s ∙ same_deeper t now f d ∙ ap (λ (k : ℕ). now / 2 ^ (6 * k)) (sym s)) in
    let ne2 : t / 64 / 2 ^ (6 * f) ≢ now / 64 / 2 ^ (6 * f) =
    λ d. ne (ap (λ (k : ℕ). t / 2 ^ (6 * k)) s ∙ sym (deeper t f) ∙ d ∙ deeper now f
    ∙ ap (λ (k : ℕ). now / 2 ^ (6 * k)) (sym s)) in
    let sum : 64 * (level + 1 + f) ≡ 64 * (level + suc f) = omega arith in
    slot_other f level t now other ∙ slot_far f (level + 1) (t / 64) (now / 64) ne2 ∙ sum

-- numbers that differ in no bit are equal
xor_apart : (a b : ℕ) → bit_xor a b ≡ 0 → a ≡ b
xor_apart a b e = same_from_bits a b (λ i.
    let x : bit_at (bit_xor a b) i ≡ (bit_at a i + bit_at b i) % 2 = bit_at_xor a b i in
    let z : bit_at (bit_xor a b) i ≡ 0 = ap (λ (n : ℕ). bit_at n i) e ∙ bit_at-zero i in
    let l : bit_at a i < 2 = bit_at-lt a i in
    let k : bit_at b i < 2 = bit_at-lt b i in
    both (bit_at a i) (bit_at b i) l k (sym x ∙ z))
  where
    both : (m n : ℕ) → m < 2 → n < 2 → (m + n) % 2 ≡ 0 → m ≡ n
    both m n l k h = omega arith

xor_same : (a : ℕ) → bit_xor a a ≡ 0
xor_same a = same_from_bits (bit_xor a a) 0 (λ i.
    let l : bit_at a i < 2 = bit_at-lt a i in
    bit_at_xor a a i ∙ twice (bit_at a i) ∙ sym (bit_at-zero i))
  where
    twice : (m : ℕ) → (m + m) % 2 ≡ 0
    twice m = omega arith

-- where the digits from one on differ nowhere, and where they differ
agree_from : (t now k : ℕ) → bit_xor t now < 2 ^ k → t / 2 ^ k ≡ now / 2 ^ k
agree_from t now k lt = xor_apart (t / 2 ^ k) (now / 2 ^ k) (sym (xor_shr t now k) ∙ div-eq_of_lt lt)

differ_from : (t now k : ℕ) → 2 ^ k ≤ bit_xor t now → t / 2 ^ k ≢ now / 2 ^ k
differ_from t now k le e =
    let z : bit_xor t now / 2 ^ k ≡ 0 =
    xor_shr t now k ∙ ap (λ (x : ℕ). bit_xor x (now / 2 ^ k)) e ∙ xor_same (now / 2 ^ k) in
    let l : bit_xor t now < bit_xor t now / 2 ^ k * 2 ^ k + 2 ^ k = lt-div-mul-add (pow_pos k) in
    let n : bit_xor t now / 2 ^ k * 2 ^ k ≡ 0 = ap (λ (x : ℕ). x * 2 ^ k) z ∙ zero-mul (2 ^ k) in
    absurd (omega arith)

pub slots_ordered : (t u now : ℕ) → now ≤ t → now ≤ u → slot t now < slot u now → t < u
unfolding slot
slots_ordered t u now h k lt = ordered 10 0 t u now h k lt

pub slot_stays : (n u now : ℕ) → now ≤ n → n ≤ u → slot n now ≢ slot u now → slot u n ≡ slot u now
unfolding slot
slot_stays n u now h k ne = stays 10 0 n u now h k ne

pub slot_is : (t now : ℕ) → slot t now ≡ slot_from 10 0 t now
unfolding slot
slot_is t now = refl

slot_high : (f level t now : ℕ) → slot_from f level t now ≤ 64 * (level + f)
slot_high zero level t now = let e : slot_from zero level t now ≡ 64 * level = slot_none level t now in omega arith
slot_high (suc f) level t now = elim (cases_eq (t / 64) (now / 64)) [
  | inl e ↦ let s : slot_from (suc f) level t now ≡ 64 * level + t % 64 = slot_same f level t now e in omega arith
  | inr ne ↦
      let s : slot_from (suc f) level t now ≡ slot_from f (level + 1) (t / 64) (now / 64) = slot_other f level t now ne in
      let l : slot_from f (level + 1) (t / 64) (now / 64) ≤ 64 * (level + 1 + f) = slot_high f (level + 1) (t / 64) (now / 64) in
      omega arith
]

pub slot_below : (t now : ℕ) → slot t now < 641
unfolding slot
slot_below t now = let h : slot_from 10 0 t now ≤ 64 * (0 + 10) = slot_high 10 0 t now in omega arith

-- the slot of a tick that agrees from the second digit on
pub slot_near : (t now : ℕ) → bit_xor t now < 64 → slot t now ≡ t % 64
unfolding slot
slot_near t now lt = slot_same 9 0 t now (agree_from t now 6 lt) ∙ (let e : 64 * 0 + t % 64 ≡ t % 64 = omega arith in e)

-- the same by the zeros that lead what differs
pub slot_level : (t now lead : ℕ) → lead ≡ count_leading_zeros 64 (bit_xor t now) → 0 < bit_xor t now → bit_xor t now < 2 ^ 64
    → (63 - lead) / 6 ≤ 9 → slot t now ≡ 64 * ((63 - lead) / 6) + t / 2 ^ (6 * ((63 - lead) / 6)) % 64
unfolding slot
slot_level t now lead e pos small le =
    let top = leading_top 64 (bit_xor t now) pos small in
    let sum : count_leading_zeros 64 (bit_xor t now) + suc top.0 ≡ 64 = top.1 in
    let from : 2 ^ top.0 ≤ bit_xor t now = top.2 in
    let below : bit_xor t now < 2 ^ suc top.0 = top.3 in
    let low : 2 ^ (6 * ((63 - lead) / 6)) ≤ 2 ^ top.0 = pow_mono (omega arith) in
    let high : 2 ^ suc top.0 ≤ 2 ^ (6 * ((63 - lead) / 6 + 1)) = pow_mono (omega arith) in
    slot_at 10 0 ((63 - lead) / 6) t now (omega arith) (agree_from t now (6 * ((63 - lead) / 6 + 1)) (omega arith))
    (differ_from t now (6 * ((63 - lead) / 6)) (omega arith))
    ∙ ap (λ (n : ℕ). 64 * n + t / 2 ^ (6 * ((63 - lead) / 6)) % 64) (let z : 0 + (63 - lead) / 6 ≡ (63 - lead) / 6 = omega arith in z)

pub slot_beyond : (t now lead : ℕ) → lead ≡ count_leading_zeros 64 (bit_xor t now) → 0 < bit_xor t now → bit_xor t now < 2 ^ 64
    → 9 < (63 - lead) / 6 → slot t now ≡ 640
unfolding slot
slot_beyond t now lead e pos small lt =
    let top = leading_top 64 (bit_xor t now) pos small in
    let sum : count_leading_zeros 64 (bit_xor t now) + suc top.0 ≡ 64 = top.1 in
    let from : 2 ^ top.0 ≤ bit_xor t now = top.2 in
    let sixty : 60 ≤ top.0 = omega arith in
    let low : 2 ^ 60 ≤ 2 ^ top.0 = pow_mono {i = 60} sixty in
    slot_far 10 0 t now (differ_from t now 60 (omega arith))

pub lead_below : (x : ℕ) → 0 < x → x < 2 ^ 64 → count_leading_zeros 64 x ≤ 63
lead_below x pos small =
    let top = leading_top 64 x pos small in
    let sum : count_leading_zeros 64 x + suc top.0 ≡ 64 = top.1 in
    omega arith
