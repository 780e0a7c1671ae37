-- Readings of bytes: one more lexeme, and that there is one reading.
use Rattle.std.proofs.Common.{◌≡◌, ℕ, ◌+◌, ◌<◌, ◌≤◌, List, [], ◌∷◌, ◌++◌, length, add-zero, ap, refl, sym, ◌∙◌, subst, arith}
use Rattle.std.specs.List.{AllByRecursion}
use Rattle.std.proofs.lemmas.List.{append-nil, append_assoc, length-append}
use Rattle.dv_lex.specs.Lexemes.{Lexeme, Spells}
use Rattle.dv_lex.specs.Reading.{Located, Reads, IsFirst, IsInRange}
use Rattle.dv_lex.proofs.Spellings.{not_Spells-empty}
use Rattle.dv_lex.proofs.NumberingLemmas.{AreAscending}
use Rattle.dv_lex.proofs.Firsts.{IsFirst-same, not_IsFirst-empty}

pub Reads-push : (offset : ℕ) (bytes : List ℕ) (xs : List Located) (end : ℕ) (rest : List ℕ) → Reads offset bytes xs end rest →
    (x : Located) (front after : List ℕ) → x.offset ≡ end → IsInRange x.lexeme → IsFirst rest x.lexeme front after →
    Reads offset bytes (xs ++ x ∷ []) (end + length front) after
Reads-push offset bytes [] end rest r x front after l range f =
    (l ∙ r.0, range, (front, after, subst (λ (bs : List ℕ). IsFirst bs x.lexeme front after) r.1 f, (ap (λ n. n + length front) r.0, refl)))
Reads-push offset bytes (y ∷ ys) end rest r x front after l range f =
    (r.0, r.1, (r.2.0, r.2.1, r.2.2, Reads-push (offset + length r.2.0) r.2.1 ys end rest r.2.3 x front after l range f))

same_located : (x y : Located) → x.lexeme ≡ y.lexeme → x.offset ≡ y.offset → x ≡ y
same_located x y p q = λ i. record { lexeme = p i; offset = q i }

-- a reading to the end goes on from where another reading ends
pub Reads-rest : (offset : ℕ) (bytes : List ℕ) (xs ys : List Located) (last end : ℕ) (rest : List ℕ) → Reads offset bytes xs last [] →
    Reads offset bytes ys end rest → (zs : List Located) × (xs ≡ ys ++ zs) × Reads end rest zs last []
Reads-rest offset bytes xs [] last end rest r s =
    (xs, refl, subst (λ l. Reads l rest xs last []) (sym s.0) (subst (λ (bs : List ℕ). Reads offset bs xs last []) (sym s.1) r))
Reads-rest offset bytes [] (y ∷ ys) last end rest r s =
    absurd (not_IsFirst-empty y.lexeme s.2.0 s.2.1 (subst (λ (bs : List ℕ). IsFirst bs y.lexeme s.2.0 s.2.1) (sym r.1) s.2.2))
Reads-rest offset bytes (x ∷ xs) (y ∷ ys) last end rest r s =
    let same = IsFirst-same bytes x.lexeme y.lexeme r.2.0 r.2.1 s.2.0 s.2.1 r.2.2 s.2.2 in
    let more : Reads (offset + length r.2.0) r.2.1 ys end rest =
    subst (λ (front : List ℕ). Reads (offset + length front) r.2.1 ys end rest) (sym same.1)
    (subst (λ (bs : List ℕ). Reads (offset + length s.2.0) bs ys end rest) (sym same.2) s.2.3) in
    let found = Reads-rest (offset + length r.2.0) r.2.1 xs ys last end rest r.2.3 more in
    (found.0, ap (λ (p : Located). p ∷ xs) (same_located x y same.0 (r.0 ∙ sym s.0)) ∙ ap (λ (ps : List Located). y ∷ ps) found.1, found.2)

-- no bytes are no lexemes
pub Reads-nothing : (offset : ℕ) (xs : List Located) (end : ℕ) (rest : List ℕ) → Reads offset [] xs end rest → xs ≡ []
Reads-nothing offset [] end rest r = refl
Reads-nothing offset (x ∷ xs) end rest r = absurd (not_IsFirst-empty x.lexeme r.2.0 r.2.1 r.2.2)

-- the readings of all of a text are one
pub Reads-same : (offset : ℕ) (bytes : List ℕ) (xs ys : List Located) (last end : ℕ) → Reads offset bytes xs last [] →
    Reads offset bytes ys end [] → xs ≡ ys
Reads-same offset bytes xs ys last end r s =
    let found = Reads-rest offset bytes xs ys last end [] r s in
    found.1 ∙ (ap (λ (zs : List Located). ys ++ zs) (Reads-nothing end found.0 last [] found.2) ∙ append-nil ys)

-- nothing is read at the front of the bytes: no lexeme begins them, or one that is out of range
abbrev pub IsStuck : List ℕ → Type 0
IsStuck bytes = (x : Lexeme) (front rest : List ℕ) → IsFirst bytes x front rest → IsInRange x → ⊥

-- two readings up to where nothing is read end at one offset
pub Reads-stuck : (offset : ℕ) (bytes : List ℕ) (xs ys : List Located) (end other : ℕ) (rest more : List ℕ) → Reads offset bytes xs end rest →
    Reads offset bytes ys other more → IsStuck rest → IsStuck more → (end ≡ other) × (rest ≡ more)
Reads-stuck offset bytes [] [] end other rest more r s p q = (r.0 ∙ sym s.0, r.1 ∙ sym s.1)
Reads-stuck offset bytes [] (y ∷ ys) end other rest more r s p q =
    absurd (p y.lexeme s.2.0 s.2.1 (subst (λ (bs : List ℕ). IsFirst bs y.lexeme s.2.0 s.2.1) (sym r.1) s.2.2) s.1)
Reads-stuck offset bytes (x ∷ xs) [] end other rest more r s p q =
    absurd (q x.lexeme r.2.0 r.2.1 (subst (λ (bs : List ℕ). IsFirst bs x.lexeme r.2.0 r.2.1) (sym s.1) r.2.2) r.1)
Reads-stuck offset bytes (x ∷ xs) (y ∷ ys) end other rest more r s p q =
    let same = IsFirst-same bytes x.lexeme y.lexeme r.2.0 r.2.1 s.2.0 s.2.1 r.2.2 s.2.2 in
    let on : Reads (offset + length r.2.0) r.2.1 ys other more =
    subst (λ (front : List ℕ). Reads (offset + length front) r.2.1 ys other more) (sym same.1)
    (subst (λ (bs : List ℕ). Reads (offset + length s.2.0) bs ys other more) (sym same.2) s.2.3) in
    Reads-stuck (offset + length r.2.0) r.2.1 xs ys end other rest more r.2.3 on p q

-- the offset counts the bytes that are read
pub Reads-before : (offset : ℕ) (bytes : List ℕ) (xs : List Located) (end : ℕ) (rest : List ℕ) → Reads offset bytes xs end rest →
    (before : List ℕ) × (bytes ≡ before ++ rest) × (end ≡ offset + length before)
Reads-before offset bytes [] end rest r = ([], sym r.1, r.0 ∙ sym (add-zero offset))
Reads-before offset bytes (x ∷ xs) end rest r =
    let more = Reads-before (offset + length r.2.0) r.2.1 xs end rest r.2.3 in (
      r.2.0 ++ more.0,
      r.2.2.whole ∙ (ap (λ (bs : List ℕ). r.2.0 ++ bs) more.1 ∙ sym (append_assoc r.2.0 more.0 rest)),
      omega
          (arith, more.2, length-append r.2.0 more.0),
    )

pub Reads-end : (offset : ℕ) (bytes : List ℕ) (xs : List Located) (end : ℕ) (rest : List ℕ) → Reads offset bytes xs end rest →
    end + length rest ≡ offset + length bytes
Reads-end offset bytes xs end rest r =
    let b = Reads-before offset bytes xs end rest r in
    omega (arith, b.2, ap length b.1, length-append b.0 rest)

-- a lexeme has a byte
pub some_byte : (x : Lexeme) (front : List ℕ) → Spells x front → 0 < length front
some_byte x [] h = absurd (not_Spells-empty x h)
some_byte x (b ∷ front) h = omega arith

-- each lexeme has a byte of its own
pub Reads-few : (offset : ℕ) (bytes : List ℕ) (xs : List Located) (end : ℕ) (rest : List ℕ) → Reads offset bytes xs end rest →
    length xs ≤ length bytes
Reads-few offset bytes [] end rest r = omega arith
Reads-few offset bytes (x ∷ xs) end rest r =
    let size : length bytes ≡ length r.2.0 + length r.2.1 = ap length r.2.2.whole ∙ length-append r.2.0 r.2.1 in
    let some = some_byte x.lexeme r.2.0 r.2.2.spelled in
    omega (arith, size, some, Reads-few (offset + length r.2.0) r.2.1 xs end rest r.2.3)

-- each lexeme begins at an offset of the bytes
pub Reads-offsets : (least offset : ℕ) (bytes : List ℕ) (xs : List Located) (end : ℕ) (rest : List ℕ) → Reads offset bytes xs end rest →
    least < offset → AllByRecursion (λ (x : Located). least < x.offset) xs
Reads-offsets least offset bytes [] end rest r low = tt
Reads-offsets least offset bytes (x ∷ xs) end rest r low =
    (omega (arith, r.0), Reads-offsets least (offset + length r.2.0) r.2.1 xs end rest r.2.3 (omega arith))

pub Reads-below : (most offset : ℕ) (bytes : List ℕ) (xs : List Located) (end : ℕ) (rest : List ℕ) → Reads offset bytes xs end rest →
    offset + length bytes ≤ most → AllByRecursion (λ (x : Located). x.offset < most) xs
Reads-below most offset bytes [] end rest r high = tt
Reads-below most offset bytes (x ∷ xs) end rest r high =
    let size : length bytes ≡ length r.2.0 + length r.2.1 = ap length r.2.2.whole ∙ length-append r.2.0 r.2.1 in
    let some = some_byte x.lexeme r.2.0 r.2.2.spelled in
    (omega (arith, r.0), Reads-below most (offset + length r.2.0) r.2.1 xs end rest r.2.3 (omega arith))

pub Reads-ascending : (offset : ℕ) (bytes : List ℕ) (xs : List Located) (end : ℕ) (rest : List ℕ) → Reads offset bytes xs end rest →
    AreAscending xs
Reads-ascending offset bytes [] end rest r = tt
Reads-ascending offset bytes (x ∷ xs) end rest r =
    let some = some_byte x.lexeme r.2.0 r.2.2.spelled in (
      Reads-offsets x.offset (offset + length r.2.0) r.2.1 xs end rest r.2.3 (omega (arith, r.0)),
      Reads-ascending (offset + length r.2.0) r.2.1 xs end rest r.2.3,
    )
