-- Tokens that end too early can go on: a reader completes them.
use Rattle.std.proofs.Common.{◌≡◌, ℕ, zero, suc, ◌<◌, Bool, true, false, List, [], ◌∷◌, ◌++◌, length, Ok, Err, refl, ap, subst}
use Rattle.std.proofs.Common.{◌∙◌, ◌⊎◌, inl, inr, append_assoc, arith}
use Rattle.std.proofs.lemmas.Bool.{cases_Bool}
use Rattle.dv_lex.specs.declared.token.Token.{Token}
use Rattle.dv_lex.specs.declared.token.TokenKind.{TokenKind}
use Rattle.dv_lex.specs.declared.token.TokenKind.TheVariants as kind
use Rattle.dv_lex.specs.declared.token.Keyword.{Keyword}
use Rattle.dv_lex.specs.declared.token.Symbol.{Symbol}
use Rattle.dv_lex.specs.declared.token.Symbol.TheVariants as symbol
use Rattle.dv_parser.specs.Reading.{Obstacle, Unexpected, TooDeep, TooShort, Read, read_then, choose, same_kind, begins, after}
use Rattle.dv_parser.specs.Reading.{Reader, offset_at, name_of, name_at, number_of, number_at, many_at, braces_at}
use Rattle.dv_parser.proofs.Tokens.{ok_is, err_ok, then_is, same_kind-same, err_is}
use Rattle.dv_parser.proofs.Readers.{Shortens, Always}
use Rattle.law_dead_ends.proofs.Steady.{IsAt, SteadyAt, IsSteady, ByFirst, ReadsOn, Leaves, StopsThere, known_by_first, AtEnd}
use Rattle.law_dead_ends.proofs.Steady.{by_first, itself_to, one_then, behind_read, then_steady, choose_at as choose_steady}
use Rattle.law_dead_ends.proofs.Steady.{IsOfFirst, begins_of_first, ok_err, many_step, many_steady}

-- a token of a kind
abbrev pub of_kind : TokenKind → Token
of_kind k = record { kind = k; offset = 0 }

abbrev pub a_number : Token
a_number = of_kind (kind.Number 0)

abbrev pub a_name : Token
a_name = of_kind (kind.Name 0)

abbrev pub a_sign : Symbol → Token
a_sign s = of_kind (kind.Symbol s)

abbrev pub a_word : Keyword → Token
a_word k = of_kind (kind.Keyword k)

abbrev pub empty_braces : List Token
empty_braces = a_sign symbol.OpenBrace ∷ a_sign symbol.CloseBrace ∷ []

-- the tokens end before what is read does, or with it
abbrev pub Unfinished : {A : Type 0} → Read (A × List Token) → Type 0
Unfinished {A = A} r = (r ≡ Err TooShort) ⊎ ((x : A) × (r ≡ Ok (x, [])))

-- with some tokens behind them, the tokens are read, whatever follows that may
pub record Completion {A : Type 0} (read : Reader A) (Ends : List Token → Type 0) (ts : List Token) : Type 0 where
  pub more : List Token
  pub reads : (rest : List Token) → Ends rest → (x : A) × (read (ts ++ (more ++ rest)) ≡ Ok (x, rest))

pub record CompletesAt {A : Type 0} (read : Reader A) (Ends : List Token → Type 0) (ts : List Token) : Type 0 where
  pub completion : Unfinished (read ts) → Completion read Ends ts

-- a steady reader, which completes tokens of which there are some
pub record CompletesSome {A : Type 0} (read : Reader A) (Ends : List Token → Type 0) : Type 0 where
  pub steady : IsSteady read
  pub behind : (t : Token) (us : List Token) → CompletesAt read Ends (t ∷ us)

-- the same, and the tokens of `fill` are read, so it completes any tokens
pub record Completes {A : Type 0} (read : Reader A) (Ends : List Token → Type 0) (fill : List Token) : Type 0 where
  pub some : CompletesSome read Ends
  pub filled : (rest : List Token) → Ends rest → (x : A) × (read (fill ++ rest) ≡ Ok (x, rest))

abbrev pub Begins : TokenKind → List Token → Type 0
Begins k rest = begins k rest ≡ true

pub each : {A : Type 0} {read : Reader A} {Ends : List Token → Type 0} {fill : List Token} → Completes read Ends fill
    → (ts : List Token) → CompletesAt read Ends ts
each {fill = fill} c [] = record { completion = λ u. record { more = fill; reads = c.filled } }
each c (t ∷ us) = c.some.behind t us

-- a reader that answers the same where this token comes first
agree : {A : Type 0} (f g : Reader A) (Ends : List Token → Type 0) (t : Token) → ((us : List Token) → f (t ∷ us) ≡ g (t ∷ us))
    → (us : List Token) → CompletesAt g Ends (t ∷ us) → CompletesAt f Ends (t ∷ us)
agree f g Ends t h us c = record {
  completion = λ u.
      let m = c.completion (subst Unfinished (h us) u) in
      record { more = m.more; reads = λ rest e. let r = m.reads rest e in (r.0, h (us ++ (m.more ++ rest)) ∙ r.1) };
}

-- ---- By the first token

-- what a reader does with tokens that begin with this one, where those behind it are completed
abbrev pub OnFirst : {A : Type 0} → Reader A → (List Token → Type 0) → Token → Type 0
OnFirst read Ends t = ByFirst (λ next. (fill : List Token) × Completes next Ends fill) read t

cons_nil : (t : Token) (ts : List Token) → t ∷ ts ≡ [] → ⊥
cons_nil t ts e = cc

left_over : {A : Type 0} (x : A) (t : Token) (ts : List Token) → Unfinished {A = A} (Ok (x, t ∷ ts)) → ⊥
left_over x t ts (inl e) = ok_err _ _ e
left_over {A = A} x t ts (inr f) = cons_nil t ts (ap (λ (z : A × List Token). z.1) (ok_is _ _ f.1))

stopped : {A : Type 0} (o : Obstacle) (n : ℕ) → IsAt o n → Unfinished {A = A} (Err o) → ⊥
stopped o n at (inl e) = subst (λ (p : Obstacle). IsAt p n) (err_is _ _ e) at
stopped o n at (inr f) = err_ok _ _ f.1

on_first : {A : Type 0} (read : Reader A) (Ends : List Token → Type 0) (t : Token) → OnFirst read Ends t → (us : List Token)
    → CompletesAt read Ends (t ∷ us)
on_first read Ends t (ReadsOn next c h) us = record {
  completion = λ u.
      let m = (each c.1 us).completion (subst Unfinished (h us) u) in
      record { more = m.more; reads = λ rest e. let r = m.reads rest e in (r.0, h (us ++ (m.more ++ rest)) ∙ r.1) };
}
on_first read Ends t (Leaves x h) us = record { completion = λ u. absurd (left_over x t us (subst Unfinished (h us) u)) }
on_first read Ends t (StopsThere o at h) us = record { completion = λ u. absurd (stopped o t.offset at (subst Unfinished (h us) u)) }

pub some_by_first : {A : Type 0} (read : Reader A) (Ends : List Token → Type 0) → AtEnd read → ((t : Token) → OnFirst read Ends t)
    → CompletesSome read Ends
some_by_first read Ends at_end h = record {
  steady = by_first read at_end (λ t. known_by_first (λ next c. c.1.some.steady) (h t));
  behind = λ t. on_first read Ends t (h t);
}

-- what reads nothing
pub leaves_complete : {A : Type 0} (x : A) (Ends : List Token → Type 0) → Completes (λ ts. Ok (x, ts)) Ends []
leaves_complete x Ends = record {
  some = some_by_first _ Ends (inr (x, refl)) (λ t. Leaves x (λ ts. refl));
  filled = λ rest h. (x, refl);
}

-- ---- One reader after another

-- the first reader is unfinished, or the second is behind what the first reads
Parted : {A B : Type 0} → Read (A × List Token) → (A × List Token → Read (B × List Token)) → Type 0
Parted {A = A} r f = Unfinished r ⊎ ((x : A) × (u : Token) × (us : List Token) × (r ≡ Ok (x, u ∷ us)) × Unfinished (f (x, u ∷ us)))

parted_ok : {A B : Type 0} (f : A × List Token → Read (B × List Token)) (x : A) (rest : List Token) → Unfinished (f (x, rest))
    → Parted (Ok (x, rest)) f
unfolding Parted
parted_ok f x [] h = inl (inr (x, refl))
parted_ok f x (u ∷ us) h = inr (x, u, us, refl, h)

parted_err : {A B : Type 0} (o : Obstacle) (f : A × List Token → Read (B × List Token)) → Unfinished {A = B} (Err o)
    → Parted {A = A} (Err o) f
unfolding Parted
parted_err o f (inl e) = inl (inl (ap Err (err_is _ _ e)))
parted_err o f (inr g) = absurd (err_ok _ _ g.1)

parted_unfinished : {A B : Type 0} (r : Read (A × List Token)) (f : A × List Token → Read (B × List Token))
    → Unfinished (read_then r f) → Parted r f
unfolding read_then
parted_unfinished (Ok x) f h = parted_ok f x.0 x.1 h
parted_unfinished (Err o) f h = parted_err o f h

-- the second reader reads what fills it behind a completion of the first
filled_behind : {A B : Type 0} (first : Reader A) (second : ℕ → A → Reader B) (Ends1 Ends2 : List Token → Type 0) (fill2 ts : List Token)
    → Completion first Ends1 ts
    → ((offset : ℕ) (x : A) (rest : List Token) → Ends2 rest → (y : B) × (second offset x (fill2 ++ rest) ≡ Ok (y, rest)))
    → ((rest : List Token) → Ends2 rest → Ends1 (fill2 ++ rest))
    → Completion (one_then first second) Ends2 ts
filled_behind first second Ends1 Ends2 fill2 ts c filled follows = record {
  more = c.more ++ fill2;
  reads = λ rest h.
      let us : List Token = ts ++ ((c.more ++ fill2) ++ rest) in
      let r = c.reads (fill2 ++ rest) (follows rest h) in
      let here : first us ≡ Ok (r.0, fill2 ++ rest) = ap (λ (v : List Token). first (ts ++ v)) (append_assoc c.more fill2 rest) ∙ r.1 in
      let f = filled (offset_at us) r.0 rest h in
      (f.0, then_is (first us) _ (r.0, fill2 ++ rest) here ∙ f.1);
}

then_at : {A B : Type 0} (first : Reader A) (second : ℕ → A → Reader B) (Ends1 Ends2 : List Token → Type 0) (fill2 ts : List Token)
    → SteadyAt first ts → CompletesAt first Ends1 ts
    → ((offset : ℕ) (x : A) (rest : List Token) → Ends2 rest → (y : B) × (second offset x (fill2 ++ rest) ≡ Ok (y, rest)))
    → ((rest : List Token) → Ends2 rest → Ends1 (fill2 ++ rest))
    → ((x : A) (rest : List Token) → first ts ≡ Ok (x, rest) → CompletesAt (second (offset_at ts) x) Ends2 rest)
    → CompletesAt (one_then first second) Ends2 ts
unfolding Parted
then_at first second Ends1 Ends2 fill2 ts s c filled follows each2 = record {
  completion = λ u. elim (parted_unfinished (first ts) (λ x. second (offset_at ts) x.0 x.1) u) [
    | inl f ↦ filled_behind first second Ends1 Ends2 fill2 ts (c.completion f) filled follows
    | inr a ↦
        let m = (each2 a.0 (a.1 ∷ a.2) a.3).completion a.4 in
        let on = itself_to (second (offset_at ts) a.0) [] a.1 a.2 refl in
        let g = behind_read first second ts (a.1 ∷ a.2) a.0 a.1 a.2 _ s a.3 on in
        record {
          more = m.more;
          reads = λ rest h.
              let r = m.reads rest h in
              let last : List Token = m.more ++ rest in
              let whole : ts ++ last ≡ g.front ++ a.1 ∷ (a.2 ++ last) =
              ap (λ (us : List Token). us ++ last) g.whole ∙ append_assoc g.front (a.1 ∷ a.2) last in
              (r.0, ap (one_then first second) whole ∙ g.steady (a.2 ++ last) ∙ r.1);
        }
  ];
}

pub then_completes_some : {A B : Type 0} {first : Reader A} (second : ℕ → A → Reader B) {Ends1 Ends2 : List Token → Type 0}
    {fill2 : List Token} → CompletesSome first Ends1
    → ((rest : List Token) → Ends2 rest → Ends1 (fill2 ++ rest)) → ((offset : ℕ) (x : A) → Completes (second offset x) Ends2 fill2)
    → CompletesSome (one_then first second) Ends2
then_completes_some {first = first} second {Ends1 = Ends1} {Ends2 = Ends2} {fill2 = fill2} c follows c2 = record {
  steady = then_steady first second c.steady (λ offset x. (c2 offset x).some.steady);
  behind = λ t us. then_at first second Ends1 Ends2 fill2 (t ∷ us) (c.steady (t ∷ us)) (c.behind t us)
      (λ offset x. (c2 offset x).filled) follows (λ x rest e. each (c2 (offset_at (t ∷ us)) x) rest);
}

pub then_completes : {A B : Type 0} {first : Reader A} (second : ℕ → A → Reader B) {Ends1 Ends2 : List Token → Type 0}
    {fill1 fill2 : List Token} → Completes first Ends1 fill1
    → ((rest : List Token) → Ends2 rest → Ends1 (fill2 ++ rest)) → ((offset : ℕ) (x : A) → Completes (second offset x) Ends2 fill2)
    → Completes (one_then first second) Ends2 (fill1 ++ fill2)
unfolding filled_behind
then_completes {first = first} second {Ends1 = Ends1} {Ends2 = Ends2} {fill1 = fill1} {fill2 = fill2} c follows c2 = record {
  some = then_completes_some second c.some follows c2;
  filled = (filled_behind first second Ends1 Ends2 fill2 [] (record { more = fill1; reads = c.filled })
      (λ offset x. (c2 offset x).filled) follows).reads;
}

-- ---- A choice by the first token

choose_at : {A : Type 0} (test : List Token → Bool) (one two : Reader A) (Ends : List Token → Type 0) (t : Token) (us : List Token)
    → IsOfFirst test → CompletesAt one Ends (t ∷ us) → CompletesAt two Ends (t ∷ us)
    → CompletesAt (λ ts. choose (test ts) (one ts) (two ts)) Ends (t ∷ us)
unfolding choose
choose_at test one two Ends t us of_first c d =
    elim (cases_Bool (test (t ∷ us))) [
      | inl e ↦ agree (λ ts. choose (test ts) (one ts) (two ts)) one Ends t (λ other. rw (of_first [] t other us ∙ e) refl) us c
      | inr e ↦ agree (λ ts. choose (test ts) (one ts) (two ts)) two Ends t (λ other. rw (of_first [] t other us ∙ e) refl) us d
    ]

-- Where nothing stands, the second of the two is filled.
pub choose_completes_by : {A : Type 0} {one two : Reader A} (test : List Token → Bool) {Ends : List Token → Type 0} {fill : List Token}
    → IsOfFirst test → CompletesSome one Ends → ((rest : List Token) → Ends rest → test (fill ++ rest) ≡ false)
    → Completes two Ends fill → Completes (λ ts. choose (test ts) (one ts) (two ts)) Ends fill
unfolding choose
choose_completes_by {one = one} {two = two} test {Ends = Ends} of_first c other d = record {
  some = record {
    steady = λ ts. choose_steady test one two ts of_first (c.steady ts) (d.some.steady ts);
    behind = λ t us. choose_at test one two Ends t us of_first (c.behind t us) (d.some.behind t us);
  };
  filled = λ rest h. rw (other rest h) (d.filled rest h);
}

pub choose_completes : {A : Type 0} {one two : Reader A} (k : TokenKind) {Ends : List Token → Type 0} {fill : List Token}
    → CompletesSome one Ends → ((rest : List Token) → Ends rest → begins k (fill ++ rest) ≡ false)
    → Completes two Ends fill → Completes (λ ts. choose (begins k ts) (one ts) (two ts)) Ends fill
choose_completes k c other d = choose_completes_by (begins k) (begins_of_first k) c other d

-- ---- Single tokens

pub after_completes : {B : Type 0} (k : TokenKind) (second : ℕ → Reader B) {Ends : List Token → Type 0} {fill : List Token}
    → ((offset : ℕ) → Completes (second offset) Ends fill)
    → Completes (λ us. read_then (after k us) (λ rest. second (offset_at us) rest)) Ends (of_kind k ∷ fill)
unfolding after offset_at choose read_then
after_completes k second {Ends = Ends} {fill = fill} c = record {
  some = some_by_first _ Ends (inl refl) (λ t. elim (cases_Bool (same_kind t.kind k)) [
    | inl e ↦ ReadsOn (second t.offset) (fill, c t.offset) (λ ts. rw e refl)
    | inr e ↦ StopsThere (Unexpected t.offset) refl (λ ts. rw e refl)
  ]);
  filled = λ rest h. rw (same_kind-same k) ((c 0).filled rest h);
}

-- where there is no room behind a token
pub deep_completes : {B : Type 0} (k : TokenKind) (Ends : List Token → Type 0)
    → CompletesSome {A = B} (λ us. read_then (after k us) (λ rest. Err (TooDeep (offset_at us)))) Ends
unfolding after offset_at choose read_then
deep_completes k Ends =
    some_by_first _ Ends (inl refl) (λ t. elim (cases_Bool (same_kind t.kind k)) [
      | inl e ↦ StopsThere (TooDeep t.offset) refl (λ ts. rw e refl)
      | inr e ↦ StopsThere (Unexpected t.offset) refl (λ ts. rw e refl)
    ])

pub name_completes : Completes name_at Always (a_name ∷ [])
unfolding name_at
name_completes = record {
  some = some_by_first name_at Always (inl refl) (λ t. one t.kind t.offset t (λ ts. refl) refl);
  filled = λ rest h. (record { number = 0; offset = 0 }, refl);
}
  where
    one : (k : TokenKind) (offset : ℕ) (t : Token) → ((ts : List Token) → name_at (t ∷ ts) ≡ name_of k offset ts) → t.offset ≡ offset
        → OnFirst name_at Always t
    one (kind.Name n) offset t h at = ReadsOn _ ([], leaves_complete (record { number = n; offset = offset }) Always) h
    one _ offset t h at = StopsThere (Unexpected offset) at h

pub number_completes : Completes number_at Always (a_number ∷ [])
unfolding number_at
number_completes = record {
  some = some_by_first number_at Always (inl refl) (λ t. one t.kind t.offset t (λ ts. refl) refl);
  filled = λ rest h. (record { value = 0; offset = 0 }, refl);
}
  where
    one : (k : TokenKind) (offset : ℕ) (t : Token) → ((ts : List Token) → number_at (t ∷ ts) ≡ number_of k offset ts) → t.offset ≡ offset
        → OnFirst number_at Always t
    one (kind.Number n) offset t h at = ReadsOn _ ([], leaves_complete (record { value = n; offset = offset }) Always) h
    one _ offset t h at = StopsThere (Unexpected offset) at h

-- ---- Lists

many_stops : {A : Type 0} (one : Reader A) (stop : TokenKind) (rest : List Token) → Begins stop rest → many_at one stop rest ≡ Ok ([], rest)
unfolding many_at choose
many_stops one stop rest h = rw h refl

one_read : {A : Type 0} (one : Reader A) (stop : TokenKind) (x : A) (rest : List Token) → Begins stop rest
    → read_then {B = List A × List Token} (many_at one stop rest) (λ xs. Ok (x ∷ xs.0, xs.1)) ≡ Ok (x ∷ [], rest)
unfolding read_then
one_read one stop x rest h = rw (many_stops one stop rest h) refl

many_within : {A : Type 0} (one : Reader A) (stop : TokenKind) (Ends : List Token → Type 0) (fill : List Token) → Shortens one
    → Completes one Ends fill → ((rest : List Token) → Begins stop rest → Ends rest)
    → (n : ℕ) (ts : List Token) → length ts < n → CompletesAt (many_at one stop) (Begins stop) ts
many_within one stop Ends fill short c ends zero ts lt = absurd (omega (arith, lt))
many_within {A = A} one stop Ends fill short c ends (suc n) [] lt =
    record { completion = λ u. record { more = []; reads = λ rest h. ([], many_stops one stop rest h) } }
many_within {A = A} one stop Ends fill short c ends (suc n) (t ∷ us) lt =
    agree (many_at one stop) _ (Begins stop) t (λ other. many_step one stop short (t ∷ other)) us
    (choose_at (begins stop) (λ ts. Ok ([], ts)) _ (Begins stop) t us (begins_of_first stop)
    ((leaves_complete [] (Begins stop)).some.behind t us)
    (then_at one (λ offset x ts. read_then (many_at one stop ts) (λ xs. Ok (x ∷ xs.0, xs.1))) Ends (Begins stop) [] (t ∷ us)
    (c.some.steady (t ∷ us)) (c.some.behind t us) (λ offset x rest h. (x ∷ [], one_read one stop x rest h)) ends (λ x rest e.
    then_at (many_at one stop) (λ offset xs ts. Ok (x ∷ xs, ts)) (Begins stop) (Begins stop) [] rest
    (many_steady one stop short c.some.steady rest)
    (many_within one stop Ends fill short c ends n rest (omega (arith, short (t ∷ us) (x, rest) e, lt)))
    (λ offset xs last h. (x ∷ xs, refl)) (λ last h. h) (λ xs last f. each (leaves_complete (x ∷ xs) (Begins stop)) last))))

pub many_completes : {A : Type 0} {one : Reader A} (stop : TokenKind) {Ends : List Token → Type 0} {fill : List Token} → Shortens one
    → Completes one Ends fill → ((rest : List Token) → Begins stop rest → Ends rest) → Completes (many_at one stop) (Begins stop) []
many_completes {one = one} stop {Ends = Ends} {fill = fill} short c ends = record {
  some = record {
    steady = many_steady one stop short c.some.steady;
    behind = λ t us. many_within one stop Ends fill short c ends (suc (length (t ∷ us))) (t ∷ us) (omega arith);
  };
  filled = λ rest h. ([], many_stops one stop rest h);
}

pub braces_complete : {A : Type 0} {one : Reader A} {Ends : List Token → Type 0} {fill : List Token} → Shortens one
    → Completes one Ends fill → ((rest : List Token) → Begins (kind.Symbol symbol.CloseBrace) rest → Ends rest)
    → Completes (braces_at one) Always empty_braces
unfolding braces_at
braces_complete short c ends =
    after_completes (kind.Symbol symbol.OpenBrace) _ (λ _.
    then_completes _ (many_completes (kind.Symbol symbol.CloseBrace) short c ends) (λ rest h. refl) (λ _ xs.
    after_completes (kind.Symbol symbol.CloseBrace) _ (λ _. leaves_complete xs Always)))
