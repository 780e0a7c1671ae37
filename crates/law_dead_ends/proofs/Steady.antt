-- What a reader answers depends on the tokens up to the one at which it stops: others may follow that one.
use Rattle.std.proofs.Common.{◌≡◌, ℕ, zero, suc, ◌<◌, Bool, true, false, List, [], ◌∷◌, ◌++◌, length, Ok, Err, refl, sym, ap}
use Rattle.std.proofs.Common.{subst, ◌∙◌, ◌⊎◌, inl, inr, append_assoc, arith}
use Rattle.std.proofs.lemmas.Bool.{cases_Bool}
use Rattle.dv_lex.specs.declared.token.Token.{Token}
use Rattle.dv_lex.specs.declared.token.TokenKind.{TokenKind}
use Rattle.dv_parser.specs.Reading.{Obstacle, Unexpected, TooDeep, TooShort, Read, read_then, choose, begins, Reader}
use Rattle.dv_parser.specs.Reading.{begins_name, begins_truth, begins_call, offset_at, many, many_at}
use Rattle.dv_parser.proofs.Tokens.{then_ok, ok_is, err_ok, err_is, same_after, then_err}
use Rattle.dv_parser.proofs.Readers.{Shortens, same_many}

-- an obstacle at the token of an offset
abbrev pub IsAt : Obstacle → ℕ → Type 0
IsAt (Unexpected offset) n = n ≡ offset
IsAt (TooDeep offset) n = n ≡ offset
IsAt TooShort n = ⊥

-- up to a token the reader answers this, whatever follows that token
pub record UpTo {A : Type 0} (read : Reader A) (ts : List Token) (t : Token) (more : List Token)
    (answer : List Token → Read (A × List Token)) : Type 0 where
  pub front : List Token
  pub whole : ts ≡ front ++ t ∷ more
  pub steady : (other : List Token) → read (front ++ t ∷ other) ≡ answer other

-- the reader reads what is before a token, whatever follows that one
abbrev pub GoesOn : {A : Type 0} → Reader A → List Token → A → Token → List Token → Type 0
GoesOn read ts x t more = UpTo read ts t more (λ other. Ok (x, t ∷ other))

-- the reader stops at a token, whatever follows that one
pub record Stops {A : Type 0} (read : Reader A) (ts : List Token) (o : Obstacle) : Type 0 where
  pub front : List Token
  pub token : Token
  pub behind : List Token
  pub whole : ts ≡ front ++ token ∷ behind
  pub at : IsAt o token.offset
  pub steady : (other : List Token) → read (front ++ token ∷ other) ≡ Err o

-- another reader stops at the same token
abbrev pub stops_as : {A B : Type 0} {read : Reader A} {again : Reader B} {ts : List Token} {o : Obstacle} (g : Stops read ts o)
    → ((other : List Token) → again (g.front ++ g.token ∷ other) ≡ Err o) → Stops again ts o
stops_as g h = record { front = g.front; token = g.token; behind = g.behind; whole = g.whole; at = g.at; steady = h }

abbrev pub to_stop : {A : Type 0} {read : Reader A} {ts : List Token} {o : Obstacle} (g : Stops read ts o)
    → UpTo read ts g.token g.behind (λ other. Err o)
to_stop g = record { front = g.front; whole = g.whole; steady = g.steady }

abbrev pub stop_at : {A : Type 0} {read : Reader A} {ts : List Token} {o : Obstacle} (t : Token) (more : List Token) → IsAt o t.offset
    → UpTo read ts t more (λ other. Err o) → Stops read ts o
stop_at t more at g = record { front = g.front; token = t; behind = more; whole = g.whole; at = at; steady = g.steady }

pub record SteadyAt {A : Type 0} (read : Reader A) (ts : List Token) : Type 0 where
  pub goes_on : (x : A) (t : Token) (more : List Token) → read ts ≡ Ok (x, t ∷ more) → GoesOn read ts x t more
  pub stops : (o : Obstacle) → read ts ≡ Err o → (o ≡ TooShort) ⊎ Stops read ts o

abbrev pub IsSteady : {A : Type 0} → Reader A → Type 0
IsSteady read = (ts : List Token) → SteadyAt read ts

pub ok_err : {A : Type 0} (x : A) (o : Obstacle) → ◌≡◌ {A = Read A} (Ok x) (Err o) → ⊥
ok_err x o e = cc

-- a reader that answers the same
pub same_steady : {A : Type 0} (f g : Reader A) → ((ts : List Token) → f ts ≡ g ts) → (ts : List Token) → SteadyAt g ts → SteadyAt f ts
same_steady {A = A} f g h ts s = subst (λ (r : Reader A). SteadyAt r ts) (λ i us. sym (h us) i) s

-- ---- By the first token

-- What a reader does with tokens that begin with this one: it reads on by a reader of which this is known, leaves them as
-- they are, or stops.
pub data ByFirst {A : Type 0} (Known : Reader A → Type 0) (read : Reader A) (t : Token) : Type 0 where
  ReadsOn : (next : Reader A) → Known next → ((ts : List Token) → read (t ∷ ts) ≡ next ts) → ByFirst Known read t
  Leaves : (x : A) → ((ts : List Token) → read (t ∷ ts) ≡ Ok (x, t ∷ ts)) → ByFirst Known read t
  StopsThere : (o : Obstacle) → IsAt o t.offset → ((ts : List Token) → read (t ∷ ts) ≡ Err o) → ByFirst Known read t

pub known_by_first : {A : Type 0} {P Q : Reader A → Type 0} {read : Reader A} {t : Token} → ((next : Reader A) → P next → Q next)
    → ByFirst P read t → ByFirst Q read t
known_by_first f (ReadsOn next known h) = ReadsOn next (f next known) h
known_by_first f (Leaves x h) = Leaves x h
known_by_first f (StopsThere o at h) = StopsThere o at h

-- what another reader answers behind the first token
abbrev pub behind_first : {A : Type 0} {read next : Reader A} (u : Token) {us more : List Token} {t : Token}
    {answer : List Token → Read (A × List Token)} → ((ts : List Token) → read (u ∷ ts) ≡ next ts) → UpTo next us t more answer
    → UpTo read (u ∷ us) t more answer
behind_first u {t = t} h g = record {
  front = u ∷ g.front;
  whole = ap (λ (ts : List Token). u ∷ ts) g.whole;
  steady = λ other. h (g.front ++ t ∷ other) ∙ g.steady other;
}

first_goes_on : {A : Type 0} (read : Reader A) (u : Token) (us : List Token) (x : A) (t : Token) (more : List Token)
    → ByFirst IsSteady read u → read (u ∷ us) ≡ Ok (x, t ∷ more) → GoesOn read (u ∷ us) x t more
first_goes_on read u us x t more (ReadsOn next s h) e = behind_first u h ((s us).goes_on x t more (sym (h us) ∙ e))
first_goes_on {A = A} read u us x t more (Leaves y h) e =
    let p : ◌≡◌ {A = A × List Token} (y, u ∷ us) (x, t ∷ more) = ok_is _ _ (sym (h us) ∙ e) in
    let value : y ≡ x = ap (λ (z : A × List Token). z.0) p in
    let whole : u ∷ us ≡ t ∷ more = ap (λ (z : A × List Token). z.1) p in
    let token : u ≡ t = cc in
    record {
      front = [];
      whole = whole;
      steady = λ other. subst (λ (v : Token). read (v ∷ other) ≡ Ok (x, v ∷ other)) token
          (h other ∙ ap (λ (z : A). Ok (z, u ∷ other)) value);
    }
first_goes_on read u us x t more (StopsThere o at h) e = absurd (err_ok _ _ (sym (h us) ∙ e))

first_stops : {A : Type 0} (read : Reader A) (u : Token) (us : List Token) (o : Obstacle) → ByFirst IsSteady read u
    → read (u ∷ us) ≡ Err o → (o ≡ TooShort) ⊎ Stops read (u ∷ us) o
first_stops read u us o (ReadsOn next s h) e =
    elim ((s us).stops o (sym (h us) ∙ e)) [
      | inl short ↦ inl short
      | inr g ↦ inr (stop_at g.token g.behind g.at (behind_first u h (to_stop g)))
    ]
first_stops read u us o (Leaves y h) e = absurd (ok_err _ _ (sym (h us) ∙ e))
first_stops read u us o (StopsThere p at h) e =
    let same : p ≡ o = err_is _ _ (sym (h us) ∙ e) in
    inr (stop_at u us (subst (λ (q : Obstacle). IsAt q u.offset) same at)
    (record { front = []; whole = refl; steady = λ other. h other ∙ ap Err same }))

-- at the end, a reader stops or has read
abbrev pub AtEnd : {A : Type 0} → Reader A → Type 0
AtEnd {A = A} read = (read [] ≡ Err TooShort) ⊎ ((x : A) × (read [] ≡ Ok (x, [])))

nil_cons : (t : Token) (ts : List Token) → [] ≡ t ∷ ts → ⊥
nil_cons t ts e = cc

end_steady : {A : Type 0} (read : Reader A) → AtEnd read → SteadyAt read []
end_steady read (inl short) = record {
  goes_on = λ x t more e. absurd (err_ok _ _ (sym short ∙ e));
  stops = λ o e. inl (sym (err_is _ _ (sym short ∙ e)));
}
end_steady {A = A} read (inr found) = record {
  goes_on = λ x t more e. absurd (nil_cons t more (ap (λ (z : A × List Token). z.1) (ok_is _ _ (sym found.1 ∙ e))));
  stops = λ o e. absurd (ok_err _ _ (sym found.1 ∙ e));
}

pub by_first : {A : Type 0} (read : Reader A) → AtEnd read → ((t : Token) → ByFirst IsSteady read t) → IsSteady read
by_first read at_end h [] = end_steady read at_end
by_first read at_end h (u ∷ us) = record {
  goes_on = λ x t more e. first_goes_on read u us x t more (h u) e;
  stops = λ o e. first_stops read u us o (h u) e;
}

-- ---- What reads nothing

leaves_steady : {A : Type 0} (x : A) → IsSteady (λ ts. Ok (x, ts))
leaves_steady x = by_first _ (inr (x, refl)) (λ t. Leaves x (λ ts. refl))

-- ---- One reader after another

same_offset : (front : List Token) (t : Token) (more other : List Token) → offset_at (front ++ t ∷ more) ≡ offset_at (front ++ t ∷ other)
unfolding offset_at
same_offset [] t more other = refl
same_offset (u ∷ front) t more other = refl

-- what is read stays, also where more is kept behind it
wider : {A : Type 0} (read : Reader A) (ts : List Token) (x : A) (kept : List Token) (t : Token) (more : List Token)
    → SteadyAt read ts → read ts ≡ Ok (x, kept ++ t ∷ more)
    → (front : List Token) × (ts ≡ front ++ (kept ++ t ∷ more)) ×
    ((other : List Token) → read (front ++ (kept ++ t ∷ other)) ≡ Ok (x, kept ++ t ∷ other))
wider read ts x [] t more s e = let g = s.goes_on x t more e in (g.front, g.whole, g.steady)
wider read ts x (u ∷ kept) t more s e =
    let g = s.goes_on x u (kept ++ t ∷ more) e in
    (g.front, g.whole, λ other. g.steady (kept ++ t ∷ other))

-- a reader, and one behind it
abbrev pub one_then : {A B : Type 0} → Reader A → (ℕ → A → Reader B) → Reader B
one_then first second us = read_then (first us) (λ x. second (offset_at us) x.0 x.1)

-- up to any token a reader answers what it answers
abbrev pub itself_to : {A : Type 0} (read : Reader A) {ts : List Token} (front : List Token) (t : Token) (more : List Token)
    → ts ≡ front ++ t ∷ more → UpTo read ts t more (λ other. read (front ++ t ∷ other))
itself_to read front t more whole = record { front = front; whole = whole; steady = λ other. refl }

-- what the second reader answers up to a token, the two answer
pub behind_read : {A B : Type 0} (first : Reader A) (second : ℕ → A → Reader B) (ts rest : List Token) (x : A) (t : Token)
    (more : List Token) (answer : List Token → Read (B × List Token)) → SteadyAt first ts → first ts ≡ Ok (x, rest)
    → UpTo (second (offset_at ts) x) rest t more answer → UpTo (one_then first second) ts t more answer
unfolding read_then
behind_read {A = A} first second ts rest x t more answer s e g =
    let w = wider first ts x g.front t more s (e ∙ ap (λ (us : List Token). Ok (x, us)) g.whole) in
    let whole : ts ≡ (w.0 ++ g.front) ++ t ∷ more = w.1 ∙ sym (append_assoc w.0 g.front (t ∷ more)) in
    let read_first : (other : List Token) → first ((w.0 ++ g.front) ++ t ∷ other) ≡ Ok (x, g.front ++ t ∷ other) =
    λ other. ap first (append_assoc w.0 g.front (t ∷ other)) ∙ w.2 other in
    let offset_is : (other : List Token) → offset_at ((w.0 ++ g.front) ++ t ∷ other) ≡ offset_at ts =
    λ other. same_offset (w.0 ++ g.front) t other more ∙ ap offset_at (sym whole) in
    record { front = w.0 ++ g.front; whole = whole; steady = λ other. rw (read_first other, offset_is other) (g.steady other) }

parted : {A B : Type 0} (r : Read A) (f : A → Read B) (o : Obstacle) → read_then r f ≡ Err o
    → (r ≡ Err o) ⊎ ((x : A) × (r ≡ Ok x) × (f x ≡ Err o))
unfolding read_then
parted (Ok x) f o e = inr (x, refl, e)
parted (Err p) f o e = inl (ap Err (err_is p o e))

then_at : {A B : Type 0} (first : Reader A) (second : ℕ → A → Reader B) (ts : List Token) → SteadyAt first ts
    → ((x : A) (rest : List Token) → first ts ≡ Ok (x, rest) → SteadyAt (second (offset_at ts) x) rest)
    → SteadyAt (one_then first second) ts
then_at first second ts s h = record {
  goes_on = λ y t more e.
      let a = then_ok (first ts) (λ x. second (offset_at ts) x.0 x.1) (y, t ∷ more) e in
      behind_read first second ts a.0.1 a.0.0 t more _ s a.1 ((h a.0.0 a.0.1 a.1).goes_on y t more a.2);
  stops = λ o e.
      elim (parted (first ts) (λ x. second (offset_at ts) x.0 x.1) o e) [
        | inl f ↦ elim (s.stops o f) [
          | inl short ↦ inl short
          | inr g ↦ inr (stops_as g (λ other. then_err (first (g.front ++ g.token ∷ other)) _ o (g.steady other)))
        ]
        | inr a ↦ elim ((h a.0.0 a.0.1 a.1).stops o a.2) [
          | inl short ↦ inl short
          | inr g ↦ inr (stop_at g.token g.behind g.at (behind_read first second ts a.0.1 a.0.0 g.token g.behind _ s a.1 (to_stop g)))
        ]
      ];
}

pub then_steady : {A B : Type 0} (first : Reader A) (second : ℕ → A → Reader B) → IsSteady first
    → ((offset : ℕ) (x : A) → IsSteady (second offset x)) → IsSteady (one_then first second)
then_steady first second s h ts = then_at first second ts (s ts) (λ x rest e. h (offset_at ts) x rest)

-- ---- A choice by the first token

abbrev pub IsOfFirst : (List Token → Bool) → Type 0
IsOfFirst test = (front : List Token) (t : Token) (more other : List Token) → test (front ++ t ∷ more) ≡ test (front ++ t ∷ other)

pub begins_of_first : (k : TokenKind) → IsOfFirst (begins k)
begins_of_first k [] t more other = refl
begins_of_first k (u ∷ front) t more other = refl

pub begins_name_of_first : IsOfFirst begins_name
begins_name_of_first [] t more other = refl
begins_name_of_first (u ∷ front) t more other = refl

pub begins_truth_of_first : IsOfFirst begins_truth
begins_truth_of_first [] t more other = refl
begins_truth_of_first (u ∷ front) t more other = refl

pub begins_call_of_first : IsOfFirst begins_call
begins_call_of_first [] t more other = refl
begins_call_of_first (u ∷ front) t more other = refl

pub choose_at : {A : Type 0} (test : List Token → Bool) (one two : Reader A) (ts : List Token) → IsOfFirst test → SteadyAt one ts
    → SteadyAt two ts → SteadyAt (λ us. choose (test us) (one us) (two us)) ts
unfolding choose
choose_at {A = A} test one two ts of_first y n =
    elim (cases_Bool (test ts)) [
      | inl e ↦ branch true e one (λ us h. rw h refl) y
      | inr e ↦ branch false e two (λ us h. rw h refl) n
    ]
  where
    branch : (b : Bool) → test ts ≡ b → (read : Reader A)
        → ((us : List Token) → test us ≡ b → choose (test us) (one us) (two us) ≡ read us) → SteadyAt read ts
        → SteadyAt (λ us. choose (test us) (one us) (two us)) ts
    branch b e read h s = record {
      goes_on = λ x t more f.
          let g = s.goes_on x t more (sym (h ts e) ∙ f) in
          let test_is : (other : List Token) → test (g.front ++ t ∷ other) ≡ b =
          λ other. of_first g.front t other more ∙ ap test (sym g.whole) ∙ e in
          record { front = g.front; whole = g.whole; steady = λ other. h (g.front ++ t ∷ other) (test_is other) ∙ g.steady other };
      stops = λ o f.
          elim (s.stops o (sym (h ts e) ∙ f)) [
            | inl short ↦ inl short
            | inr g ↦
                let test_is : (other : List Token) → test (g.front ++ g.token ∷ other) ≡ b =
                λ other. of_first g.front g.token other g.behind ∙ ap test (sym g.whole) ∙ e in
                inr (stops_as g (λ other. h (g.front ++ g.token ∷ other) (test_is other) ∙ g.steady other))
          ];
    }

-- ---- Lists

pub many_step : {A : Type 0} (one : Reader A) (stop : TokenKind) → Shortens one → (ts : List Token) → many_at one stop ts ≡ choose
    (begins stop ts) (Ok ([], ts)) (read_then (one ts) (λ x. read_then (many_at one stop x.1) (λ xs. Ok (x.0 ∷ xs.0, xs.1))))
unfolding many_at
many_step {A = A} one stop s ts =
    ap (λ (rest : Read (List A × List Token)). choose (begins stop ts) (Ok ([], ts)) rest)
    (same_after (one ts) (λ x. read_then (many one stop (length ts) x.1) (λ xs. Ok (x.0 ∷ xs.0, xs.1)))
    (λ x. read_then (many one stop (suc (length x.1)) x.1) (λ xs. Ok (x.0 ∷ xs.0, xs.1)))
    (λ x e. ap (λ (r : Read (List A × List Token)). read_then r (λ xs. Ok (x.0 ∷ xs.0, xs.1)))
    (same_many one stop s (length ts) (suc (length x.1)) x.1 (omega (arith, s ts x e)) (omega arith))))

many_within : {A : Type 0} (one : Reader A) (stop : TokenKind) → Shortens one → IsSteady one → (n : ℕ) (ts : List Token)
    → length ts < n → SteadyAt (many_at one stop) ts
many_within one stop short s zero ts lt = absurd (omega (arith, lt))
many_within {A = A} one stop short s (suc n) ts lt =
    same_steady (many_at one stop) _ (many_step one stop short) ts
    (choose_at (begins stop) (λ us. Ok ([], us)) _ ts (begins_of_first stop) (leaves_steady [] ts)
    (then_at one (λ offset x us. read_then (many_at one stop us) (λ xs. Ok (x ∷ xs.0, xs.1))) ts (s ts) (λ x rest e.
    then_at (many_at one stop) (λ offset xs us. Ok (x ∷ xs, us)) rest
    (many_within one stop short s n rest (omega (arith, short ts (x, rest) e, lt))) (λ xs last f. leaves_steady (x ∷ xs) last))))

pub many_steady : {A : Type 0} (one : Reader A) (stop : TokenKind) → Shortens one → IsSteady one → IsSteady (many_at one stop)
many_steady one stop short s ts = many_within one stop short s (suc (length ts)) ts (omega arith)
