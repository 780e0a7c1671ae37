-- A text that has tokens is not refused.
use Rattle.std.proofs.Common.{◌≡◌, ℕ, ◌<◌, ◌≤◌, ◌^◌, List, [], ◌∷◌, length, ap, refl, sym, ◌∙◌, subst, arith, IsUtf8, Result, Err, inl, inr}
use Rattle.std.specs.Str.{IsValidUpTo}
use Rattle.std.proofs.lemmas.Bool.{cases_order}
use Rattle.std.proofs.lemmas.List.{take_all}
use Rattle.dv_lex.specs.declared.error.Refusal.{Refusal}
use Rattle.dv_lex.specs.declared.error.RefusalNumber.{RefusalNumber}
use Rattle.dv_lex.specs.declared.error.LoadError.{LoadError}
use Rattle.dv_lex.specs.declared.error.LoadError.TheVariants.{Refused}
use Rattle.dv_lex.specs.declared.error.RefusalNumber.TheVariants.{E1, E2, E3, E17}
use Rattle.dv_lex.specs.declared.token.Token.{Token}
use Rattle.dv_lex.specs.Lexemes.{Numeral}
use Rattle.dv_lex.specs.Reading.{Located, Reads, IsFirst, NoneBegins, IsInRange}
use Rattle.dv_lex.specs.Texts.{IsTokensOf, IsRefusedAs, IsRefused, ReadsUpTo, greatest_length}
use Rattle.dv_lex.proofs.Firsts.{IsFirst-same, not_IsFirst-empty}
use Rattle.dv_lex.proofs.Readings.{Reads-rest, Reads-stuck, Reads-end, IsStuck}

-- where no lexeme begins, nothing is read on
none_goes_on : (end : ℕ) (rest : List ℕ) (zs : List Located) (last : ℕ) → Reads end rest zs last [] → 0 < length rest → NoneBegins rest → ⊥
none_goes_on end rest [] last r more none = omega (arith, ap length r.1)
none_goes_on end rest (z ∷ zs) last r more none = none z.lexeme r.2.0 r.2.1 r.2.2.whole r.2.2.spelled

-- nor over a number out of range
large_goes_on : (end : ℕ) (rest : List ℕ) (zs : List Located) (last : ℕ) → Reads end rest zs last [] → (value : ℕ) (front after : List ℕ) →
    IsFirst rest (Numeral value) front after → 2 ^ 63 ≤ value → ⊥
large_goes_on end rest [] last r value front after f large =
    not_IsFirst-empty (Numeral value) front after (subst (λ (bs : List ℕ). IsFirst bs (Numeral value) front after) (sym r.1) f)
large_goes_on end rest (z ∷ zs) last r value front after f large =
    let same = IsFirst-same rest z.lexeme (Numeral value) r.2.0 r.2.1 front after r.2.2 f in
    let small : value < 2 ^ 63 = subst IsInRange same.0 r.1 in
    omega arith

pub utf8_not_valid : (text : List ℕ) (n : ℕ) → IsUtf8 text → IsValidUpTo text n → ⊥
utf8_not_valid text n utf8 valid =
    valid.longest (length text) valid.short (subst IsUtf8 (sym (take_all (length text) text (omega arith))) utf8)

pub not_refused : (text : List ℕ) (names : List (List ℕ)) (tokens : List Token) → IsTokensOf text names tokens →
    (number : RefusalNumber) (offset : ℕ) → IsRefusedAs text number offset → ⊥
not_refused text names tokens t E17 offset r = omega (arith, t.readable.short, r.0)
not_refused text names tokens t E1 offset r = utf8_not_valid text offset t.readable.utf8 r.1
not_refused text names tokens t E2 offset r =
    none_goes_on offset r.0 _ (length text) ((Reads-rest 0 text t.lexemes r.1.lexemes (length text) offset r.0 t.reads r.1.reads).2) r.2 r.3
not_refused text names tokens t E3 offset r =
    large_goes_on offset r.0 _ (length text)
    ((Reads-rest 0 text t.lexemes r.1.lexemes (length text) offset r.0 t.reads r.1.reads).2) r.2.0 r.2.1 r.2.2 r.2.3 r.2.4
not_refused text names tokens t _ offset r = r

-- where a text is refused, nothing is read
stuck_none : (bytes : List ℕ) → NoneBegins bytes → IsStuck bytes
stuck_none bytes none x front rest f range = none x front rest f.whole f.spelled

stuck_large : (bytes : List ℕ) (value : ℕ) (front rest : List ℕ) → IsFirst bytes (Numeral value) front rest → 2 ^ 63 ≤ value → IsStuck bytes
stuck_large bytes value front rest f large x other more g range =
    let same = IsFirst-same bytes x (Numeral value) other more front rest g f in
    let small : value < 2 ^ 63 = subst IsInRange same.0 range in
    omega arith

stuck_at : (text : List ℕ) (offset other : ℕ) (rest more : List ℕ) → ReadsUpTo text offset rest → ReadsUpTo text other more → IsStuck rest →
    IsStuck more → (offset ≡ other) × (rest ≡ more)
stuck_at text offset other rest more r s p q = Reads-stuck 0 text r.lexemes s.lexemes offset other rest more r.reads s.reads p q

-- the longest front that is UTF-8 is one
pub same_valid : (text : List ℕ) (m n : ℕ) → IsValidUpTo text m → IsValidUpTo text n → m ≡ n
same_valid text m n p q =
    elim (cases_order m n) [
      | inl e ↦ e
      | inr (inl l) ↦ absurd (p.longest n l q.front)
      | inr (inr l) ↦ absurd (q.longest m l p.front)
    ]

same_refusal : (text : List ℕ) (number other : RefusalNumber) (offset at : ℕ) → IsRefusedAs text number offset → IsRefusedAs text other at →
    (number ≡ other) × (offset ≡ at)
same_refusal text E17 E17 offset at r s = (refl, r.1 ∙ sym s.1)
same_refusal text E17 E1 offset at r s = absurd (omega (arith, r.0, s.0))
same_refusal text E17 E2 offset at r s = absurd (omega (arith, r.0, s.1.readable.short))
same_refusal text E17 E3 offset at r s = absurd (omega (arith, r.0, s.1.readable.short))
same_refusal text E1 E17 offset at r s = absurd (omega (arith, s.0, r.0))
same_refusal text E1 E1 offset at r s = (refl, same_valid text offset at r.1 s.1)
same_refusal text E1 E2 offset at r s = absurd (utf8_not_valid text offset s.1.readable.utf8 r.1)
same_refusal text E1 E3 offset at r s = absurd (utf8_not_valid text offset s.1.readable.utf8 r.1)
same_refusal text E2 E17 offset at r s = absurd (omega (arith, s.0, r.1.readable.short))
same_refusal text E2 E1 offset at r s = absurd (utf8_not_valid text at r.1.readable.utf8 s.1)
same_refusal text E2 E2 offset at r s = (refl, (stuck_at text offset at r.0 s.0 r.1 s.1 (stuck_none r.0 r.3) (stuck_none s.0 s.3)).0)
same_refusal text E2 E3 offset at r s =
    let same = stuck_at text offset at r.0 s.0 r.1 s.1 (stuck_none r.0 r.3) (stuck_large s.0 s.2.0 s.2.1 s.2.2 s.2.3 s.2.4) in
    absurd (r.3 (Numeral s.2.0) s.2.1 s.2.2 (same.1 ∙ s.2.3.whole) s.2.3.spelled)
same_refusal text E3 E17 offset at r s = absurd (omega (arith, s.0, r.1.readable.short))
same_refusal text E3 E1 offset at r s = absurd (utf8_not_valid text at r.1.readable.utf8 s.1)
same_refusal text E3 E2 offset at r s =
    let same = stuck_at text offset at r.0 s.0 r.1 s.1 (stuck_large r.0 r.2.0 r.2.1 r.2.2 r.2.3 r.2.4) (stuck_none s.0 s.3) in
    absurd (s.3 (Numeral r.2.0) r.2.1 r.2.2 (sym same.1 ∙ r.2.3.whole) r.2.3.spelled)
same_refusal text E3 E3 offset at r s = (
  refl,
  (stuck_at text offset at r.0 s.0 r.1 s.1 (stuck_large r.0 r.2.0 r.2.1 r.2.2 r.2.3 r.2.4)
      (stuck_large s.0 s.2.0 s.2.1 s.2.2 s.2.3 s.2.4)).0,
)
same_refusal text E17 _ offset at r s = absurd s
same_refusal text E1 _ offset at r s = absurd s
same_refusal text E2 _ offset at r s = absurd s
same_refusal text E3 _ offset at r s = absurd s
same_refusal text _ other offset at r s = absurd r

pub refusal_unique : (text : List ℕ) (r other : Refusal) → IsRefused text r → IsRefused text other → r ≡ other
refusal_unique text r other p q =
    let same = same_refusal text r.number other.number r.offset other.offset p q in
    λ i. record { number = same.0 i; offset = same.1 i }

-- the offset is one of the text, or its end
up_to_end : (text : List ℕ) (offset : ℕ) (rest : List ℕ) → ReadsUpTo text offset rest → (offset ≤ length text) × (offset ≤ greatest_length)
up_to_end text offset rest r =
    let end = Reads-end 0 text r.lexemes offset rest r.reads in
    (omega arith, omega (arith, r.readable.short))

pub refusal_offset : (text : List ℕ) (number : RefusalNumber) (offset : ℕ) → IsRefusedAs text number offset →
    (offset ≤ length text) × (offset ≤ greatest_length)
refusal_offset text E17 offset r = (omega (arith, r.1), omega (arith, r.1))
refusal_offset text E1 offset r = (omega (arith, r.1.short), omega (arith, r.0, r.1.short))
refusal_offset text E2 offset r = up_to_end text offset r.0 r.1
refusal_offset text E3 offset r = up_to_end text offset r.0 r.1
refusal_offset text _ offset r = absurd r

-- what a function that refuses the text so answers
pub refused_so : {T : Type 0} (P : RefusalNumber → Type 0) (number : RefusalNumber) (offset : ℕ) (answer : LoadError) (r : Refusal) →
    answer ≡ Refused (record { number = number; offset = offset }) → ◌≡◌ {A = Result T LoadError} (Err answer) (Err (Refused r)) → P number →
    (r.offset ≡ offset) × P r.number
refused_so P number offset answer r made was p =
    let same : ◌≡◌ {A = Refusal} (record { number = number; offset = offset }) r = cc in
    (ap (λ (x : Refusal). x.offset) (sym same), subst (λ (x : Refusal). P x.number) same p)
