-- What a writer took of a text, step by step.
use Rattle.std.proofs.Common.{◌≡◌, ℕ, ◌<◌, List, [], ◌++◌, length, arith, take, drop, subst, take-append-drop, Option, None, Some}
use Rattle.std.proofs.Common.{Result, Ok, Err, OnErr, refl, sym, ap, ◌∙◌, append_assoc, append-nil}
use Rattle.std.proofs.lemmas.List.{length-append}
use Rattle.std.specs.Io.KnownBytes.{Appends}
use Rattle.dv_text.specs.Writing.{AppendsBeginning, StopsShort, TakesFront}

pub Appends-nothing : (known : Option (List ℕ)) → Appends known known []
Appends-nothing None = tt
Appends-nothing (Some xs) = sym (append-nil xs)

-- two fronts that follow each other make one
pub Appends-append : (a b c : Option (List ℕ)) (s t : List ℕ) → Appends a b s → Appends b c t → Appends a c (s ++ t)
Appends-append None b c s t p q = tt
Appends-append (Some xs) None c s t p q = absurd p
Appends-append (Some xs) (Some ys) None s t p q = absurd q
Appends-append (Some xs) (Some ys) (Some zs) s t p q = q ∙ ap (λ z. z ++ t) p ∙ append_assoc xs s t

-- nothing is taken yet
pub TakesFront-nothing : (known : Option (List ℕ)) (text : List ℕ) → TakesFront known known text text
TakesFront-nothing known text = record { front = []; whole = refl; appends = Appends-nothing known }

-- one front, and then one of what it left
pub TakesFront-then : {a b c : Option (List ℕ)} {s t u : List ℕ} → TakesFront a b s t → TakesFront b c t u → TakesFront a c s u
TakesFront-then {a} {b} {c} {s} {t} {u} p q = record {
  front = p.front ++ q.front;
  whole = p.whole ∙ ap (λ z. p.front ++ z) q.whole ∙ sym (append_assoc p.front q.front u);
  appends = Appends-append a b c p.front q.front p.appends q.appends;
}

-- what comes after it is left too
pub TakesFront-before : {a b : Option (List ℕ)} {s t : List ℕ} (more : List ℕ) → TakesFront a b s t → TakesFront a b (s ++ more) (t ++ more)
TakesFront-before {a} {b} {s} {t} more p =
    record { front = p.front; whole = ap (λ z. z ++ more) p.whole ∙ append_assoc p.front t more; appends = p.appends }

-- all of it
pub Appends-from_taken : {a b : Option (List ℕ)} {s : List ℕ} → TakesFront a b s [] → Appends a b s
Appends-from_taken {a} {b} {s} p = let P : List ℕ → Type 0 = λ z. Appends a b z in subst P (sym (p.whole ∙ append-nil p.front)) p.appends

pub TakesFront-all : {a b : Option (List ℕ)} {s : List ℕ} → Appends a b s → TakesFront a b s []
TakesFront-all {a} {b} {s} p = record { front = s; whole = sym (append-nil s); appends = p }

-- a write that took n bytes
pub TakesFront-write : {a b : Option (List ℕ)} (s : List ℕ) (n : ℕ) → Appends a b (take n s) → TakesFront a b s (drop n s)
TakesFront-write s n p = record { front = take n s; whole = sym (take-append-drop n s); appends = p }

-- a front is a beginning
pub AppendsBeginning-from : {a b : Option (List ℕ)} {s t : List ℕ} → TakesFront a b s t → AppendsBeginning a b s
AppendsBeginning-from {a} {b} {s} {t} p = record { rest = t; takes = p }

pub AppendsBeginning-nothing : (known : Option (List ℕ)) (text : List ℕ) → AppendsBeginning known known text
AppendsBeginning-nothing known text = record { rest = text; takes = TakesFront-nothing known text }

-- a front, and then a beginning of what it left
pub AppendsBeginning-after : {a b c : Option (List ℕ)} {s t : List ℕ} → TakesFront a b s t → AppendsBeginning b c t → AppendsBeginning a c s
AppendsBeginning-after p q = record { rest = q.rest; takes = TakesFront-then p q.takes }

-- a front that is not all
pub StopsShort-from : {a b : Option (List ℕ)} {s t : List ℕ} → TakesFront a b s t → 0 < length t → StopsShort a b s
StopsShort-from {a} {b} {s} {t} p some = record { rest = t; takes = p; more = some }

pub StopsShort-after : {a b c : Option (List ℕ)} {s t : List ℕ} → TakesFront a b s t → StopsShort b c t → StopsShort a c s
StopsShort-after p q = record { rest = q.rest; takes = TakesFront-then p q.takes; more = q.more }

pub AppendsBeginning-short : {a b : Option (List ℕ)} {s : List ℕ} → StopsShort a b s → AppendsBeginning a b s
AppendsBeginning-short p = record { rest = p.rest; takes = p.takes }

-- what ends in some text is not empty
pub some-behind : (front text : List ℕ) → 0 < length text → 0 < length (front ++ text)
some-behind front text some = omega (arith, length-append front text)

-- a beginning of a text is short of a longer one
pub StopsShort-longer : {a b : Option (List ℕ)} {s : List ℕ} (more : List ℕ) → 0 < length more → AppendsBeginning a b s →
    StopsShort a b (s ++ more)
StopsShort-longer more some p =
    record { rest = p.rest ++ more; takes = TakesFront-before more p.takes; more = some-behind p.rest more some }

-- it is a beginning of a longer text too
pub AppendsBeginning-longer : {a b : Option (List ℕ)} {s : List ℕ} (more : List ℕ) → AppendsBeginning a b s →
    AppendsBeginning a b (s ++ more)
AppendsBeginning-longer more p = record { rest = p.rest ++ more; takes = TakesFront-before more p.takes }

-- one text was written whole; the next one, or a beginning of it, comes behind it
pub TakesFront-whole : {a b : Option (List ℕ)} (s t : List ℕ) → Appends a b s → TakesFront a b (s ++ t) t
TakesFront-whole s t p = record { front = s; whole = refl; appends = p }

pub AppendsBeginning-behind : {a b c : Option (List ℕ)} (s t : List ℕ) → Appends a b s → AppendsBeginning b c t →
    AppendsBeginning a c (s ++ t)
AppendsBeginning-behind s t p q = AppendsBeginning-after (TakesFront-whole s t p) q

pub StopsShort-behind : {a b c : Option (List ℕ)} (s t : List ℕ) → Appends a b s → StopsShort b c t → StopsShort a c (s ++ t)
StopsShort-behind s t p q = StopsShort-after (TakesFront-whole s t p) q

-- the next one failed, and some text was to come behind it
pub StopsShort-between : {a b c : Option (List ℕ)} (s t u : List ℕ) → Appends a b s → AppendsBeginning b c t → 0 < length u →
    StopsShort a c (s ++ (t ++ u))
StopsShort-between s t u p q some = StopsShort-behind s (t ++ u) p (StopsShort-longer u some q)

-- the same of an equal text
pub TakesFront-text : {a b : Option (List ℕ)} {s t r : List ℕ} → s ≡ t → TakesFront a b s r → TakesFront a b t r
TakesFront-text {a} {b} {s} {t} {r} e p = let P : List ℕ → Type 0 = λ z. TakesFront a b z r in subst P e p

pub TakesFront-left : {a b : Option (List ℕ)} {s r q : List ℕ} → r ≡ q → TakesFront a b s r → TakesFront a b s q
TakesFront-left {a} {b} {s} {r} {q} e p = let P : List ℕ → Type 0 = λ z. TakesFront a b s z in subst P e p

pub AppendsBeginning-text : {a b : Option (List ℕ)} {s t : List ℕ} → s ≡ t → AppendsBeginning a b s → AppendsBeginning a b t
AppendsBeginning-text {a} {b} {s} {t} e p = let P : List ℕ → Type 0 = λ z. AppendsBeginning a b z in subst P e p

apart : (line left text more : List ℕ) → left ≡ text ++ more → line ++ left ≡ (line ++ text) ++ more
apart line left text more e = ap (λ z. line ++ z) e ∙ sym (append_assoc line text more)

-- the next text went through the line
pub TakesFront-more : {a b c : Option (List ℕ)} {whole : List ℕ} (line line' left text more : List ℕ) →
    TakesFront a b whole (line ++ left) → left ≡ text ++ more → TakesFront b c (line ++ text) line' → TakesFront a c whole (line' ++ more)
TakesFront-more line line' left text more before e next =
    TakesFront-then (TakesFront-left (apart line left text more e) before) (TakesFront-before more next)

-- the next text was put into the line
pub TakesFront-pushed : {a b : Option (List ℕ)} {whole : List ℕ} (line line' left text more : List ℕ) →
    TakesFront a b whole (line ++ left) → left ≡ text ++ more → line' ≡ line ++ text → TakesFront a b whole (line' ++ more)
TakesFront-pushed line line' left text more before e next =
    TakesFront-left (apart line left text more e ∙ ap (λ z. z ++ more) (sym next)) before

-- the line was handed over, where it was long
pub TakesFront-handed : {a b c : Option (List ℕ)} {whole : List ℕ} (line line' more : List ℕ) → TakesFront a b whole (line ++ more) →
    TakesFront b c line line' → TakesFront a c whole (line' ++ more)
TakesFront-handed line line' more before next = TakesFront-then before (TakesFront-before more next)

-- the next text failed
pub AppendsBeginning-more : {a b c : Option (List ℕ)} {whole : List ℕ} (line left text more : List ℕ) →
    TakesFront a b whole (line ++ left) → left ≡ text ++ more → AppendsBeginning b c (line ++ text) → AppendsBeginning a c whole
AppendsBeginning-more line left text more before e next =
    AppendsBeginning-after (TakesFront-left (apart line left text more e) before) (AppendsBeginning-longer more next)

pub AppendsBeginning-handed : {a b c : Option (List ℕ)} {whole : List ℕ} (line more : List ℕ) → TakesFront a b whole (line ++ more) →
    AppendsBeginning b c line → AppendsBeginning a c whole
AppendsBeginning-handed line more before next = AppendsBeginning-after before (AppendsBeginning-longer more next)

-- nothing is left
pub TakesFront-rest : {a b : Option (List ℕ)} {whole : List ℕ} (line more : List ℕ) → more ≡ [] → TakesFront a b whole (line ++ more) →
    TakesFront a b whole line
TakesFront-rest line more none before = TakesFront-left (ap (λ z. line ++ z) none ∙ append-nil line) before

pub OnErr-always : {T E P : Type 0} (r : Result T E) → P → OnErr r P
OnErr-always (Ok x) p = tt
OnErr-always (Err e) p = p
