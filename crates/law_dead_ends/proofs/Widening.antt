-- A narrow and a wide reader, to which less is too deep: the wide one answers the same, or goes past the token that is too
-- deep to the narrow one.
use Rattle.std.proofs.Common.{◌≡◌, ℕ, zero, suc, ◌<◌, Bool, true, false, List, [], ◌∷◌, ◌++◌, length, Ok, Err, refl, sym, ap}
use Rattle.std.proofs.Common.{subst, ◌∙◌, inl, inr, arith}
use Rattle.std.proofs.lemmas.Bool.{cases_Bool}
use Rattle.std.proofs.lemmas.List.{append_cancel_right}
use Rattle.dv_lex.specs.declared.token.Token.{Token}
use Rattle.dv_lex.specs.declared.token.TokenKind.{TokenKind}
use Rattle.dv_lex.specs.declared.token.TokenKind.TheVariants as kind
use Rattle.dv_lex.specs.declared.token.Keyword.TheVariants as keyword
use Rattle.dv_lex.specs.declared.token.Symbol.TheVariants as symbol
use Rattle.dv_syntax.specs.declared.tree.BagCall.{BagCall}
use Rattle.dv_syntax.specs.declared.tree.BagCall.TheVariants as call
use Rattle.dv_syntax.specs.Grammar.{call_word}
use Rattle.dv_parser.specs.Reading.{Unexpected, TooDeep, TooShort, Read, read_then, choose, same_kind, begins, after, offset_at}
use Rattle.dv_parser.specs.Reading.{Reader, name_of, name_at, number_of, number_at, truth_at, word_of_at, call_word_at, many_at}
use Rattle.dv_parser.specs.Reading.{braces_at}
use Rattle.dv_parser.proofs.Tokens.{then_is, err_is, then_err}
use Rattle.dv_parser.proofs.Readers.{Shortens, Always}
use Rattle.law_dead_ends.proofs.Steady.{itself_to, Stops, to_stop, stop_at, stops_as, SteadyAt, IsSteady, IsOfFirst}
use Rattle.law_dead_ends.proofs.Steady.{begins_of_first, ok_err, behind_first, one_then, behind_read, many_step, many_steady}
use Rattle.law_dead_ends.proofs.Completions.{of_kind, a_number, a_name, a_word, empty_braces, Unfinished, Completes, Begins}
use Rattle.law_dead_ends.proofs.Completions.{leaves_complete, then_completes, choose_completes_by, after_completes}
use Rattle.law_dead_ends.proofs.Completions.{name_completes, number_completes, many_completes}

-- a token of a kind, and a reader behind it
abbrev pub token_then : {B : Type 0} → TokenKind → (ℕ → Reader B) → Reader B
token_then k second us = read_then (after k us) (λ rest. second (offset_at us) rest)

abbrev pub either : {A : Type 0} → (List Token → Bool) → Reader A → Reader A → Reader A
either test one two us = choose (test us) (one us) (two us)

-- nothing is too deep
pub record IsShallow {A : Type 0} (read : Read A) : Type 0 where
  pub never : (offset : ℕ) → read ≡ Err (TooDeep offset) → ⊥

-- Both readers answer the same, and nothing is too deep; or a token is too deep to the narrow one, and the wide one goes past
-- it: where that token is the last, the wide one is not finished.
pub data WidensAt {A : Type 0} (narrow wide : Reader A) (ts : List Token) : Type 0 where
  AnswersSame : narrow ts ≡ wide ts → IsShallow (narrow ts) → WidensAt narrow wide ts
  GoesPast : (offset : ℕ) → (stop : Stops narrow ts (TooDeep offset))
      → Unfinished (wide (stop.front ++ stop.token ∷ [])) → WidensAt narrow wide ts

-- Both readers complete tokens, and the wide one goes past what is too deep to the narrow one.
pub record Widens {A : Type 0} (narrow wide : Reader A) (Ends : List Token → Type 0) (fill : List Token) : Type 0 where
  pub narrow_completes : Completes narrow Ends fill
  pub wide_completes : Completes wide Ends fill
  pub each : (ts : List Token) → WidensAt narrow wide ts

-- readers that answer the same
same_widens : {A : Type 0} (narrow wide n w : Reader A) → ((ts : List Token) → narrow ts ≡ n ts) → ((ts : List Token) → wide ts ≡ w ts)
    → (ts : List Token) → WidensAt n w ts → WidensAt narrow wide ts
same_widens {A = A} narrow wide n w h k ts a =
    subst (λ (r : Reader A). WidensAt narrow r ts) (λ i us. sym (k us) i)
    (subst (λ (r : Reader A). WidensAt r w ts) (λ i us. sym (h us) i) a)

-- ---- By the first token

-- what two readers do with tokens that begin with this one: they read on, leave them as they are, refuse the token, or the
-- narrow one finds it too deep
pub data WidensBy {A : Type 0} (narrow wide : Reader A) (t : Token) : Type 0 where
  ReadOn : (n w : Reader A) → ((ts : List Token) → WidensAt n w ts)
      → ((ts : List Token) → narrow (t ∷ ts) ≡ n ts) → ((ts : List Token) → wide (t ∷ ts) ≡ w ts) → WidensBy narrow wide t
  Leave : (x : A) → ((ts : List Token) → narrow (t ∷ ts) ≡ Ok (x, t ∷ ts)) → ((ts : List Token) → wide (t ∷ ts) ≡ Ok (x, t ∷ ts))
      → WidensBy narrow wide t
  Refuse : (offset : ℕ) → ((ts : List Token) → narrow (t ∷ ts) ≡ Err (Unexpected offset))
      → ((ts : List Token) → wide (t ∷ ts) ≡ Err (Unexpected offset)) → WidensBy narrow wide t
  Deep : ((ts : List Token) → narrow (t ∷ ts) ≡ Err (TooDeep t.offset)) → wide (t ∷ []) ≡ Err TooShort → WidensBy narrow wide t

-- both answer this, and it is not that something is too deep
alike : {A : Type 0} (narrow wide : Reader A) (ts : List Token) (answer : Read (A × List Token))
    → ((offset : ℕ) → answer ≡ Err (TooDeep offset) → ⊥) → narrow ts ≡ answer → wide ts ≡ answer → WidensAt narrow wide ts
alike narrow wide ts answer never n w = AnswersSame (n ∙ sym w) (record { never = λ offset e. never offset (sym n ∙ e) })

pub unexpected_deep : (m n : ℕ) → Unexpected m ≡ TooDeep n → ⊥
unexpected_deep m n e = cc

short_deep : (n : ℕ) → TooShort ≡ TooDeep n → ⊥
short_deep n e = cc

by_token : {A : Type 0} (narrow wide : Reader A) (t : Token) → WidensBy narrow wide t → (us : List Token) → WidensAt narrow wide (t ∷ us)
by_token narrow wide t (ReadOn n w c h k) us =
    elim (c us) [
      | AnswersSame e s ↦ AnswersSame (h us ∙ e ∙ sym (k us)) (record { never = λ offset f. s.never offset (sym (h us) ∙ f) })
      | GoesPast offset s u ↦
          GoesPast offset (stop_at s.token s.behind s.at (behind_first t h (to_stop s)))
          (subst Unfinished (sym (k (s.front ++ s.token ∷ []))) u)
    ]
by_token narrow wide t (Leave x h k) us = alike narrow wide (t ∷ us) (Ok (x, t ∷ us)) (λ offset. ok_err _ _) (h us) (k us)
by_token narrow wide t (Refuse offset h k) us =
    alike narrow wide (t ∷ us) (Err (Unexpected offset)) (λ n e. unexpected_deep offset n (err_is _ _ e)) (h us) (k us)
by_token narrow wide t (Deep h k) us =
    GoesPast t.offset (record { front = []; token = t; behind = us; whole = refl; at = refl; steady = h }) (inl k)

pub by_first : {A : Type 0} (narrow wide : Reader A) → WidensAt narrow wide [] → ((t : Token) → WidensBy narrow wide t)
    → (ts : List Token) → WidensAt narrow wide ts
by_first narrow wide at_end h [] = at_end
by_first narrow wide at_end h (t ∷ us) = by_token narrow wide t (h t) us

-- at the end both find too little
both_short : {A : Type 0} (narrow wide : Reader A) → narrow [] ≡ Err TooShort → wide [] ≡ Err TooShort → WidensAt narrow wide []
both_short narrow wide n w = alike narrow wide [] (Err TooShort) (λ offset e. short_deep offset (err_is _ _ e)) n w

-- ---- What reads nothing

pub leaves_at : {A : Type 0} (narrow wide : Reader A) (ts : List Token) (x : A) → narrow ts ≡ Ok (x, ts) → wide ts ≡ Ok (x, ts)
    → WidensAt narrow wide ts
leaves_at narrow wide ts x n w = alike narrow wide ts (Ok (x, ts)) (λ offset. ok_err _ _) n w

pub leaves_widens : {A : Type 0} (x : A) (Ends : List Token → Type 0) → Widens (λ ts. Ok (x, ts)) (λ ts. Ok (x, ts)) Ends []
leaves_widens x Ends = record {
  narrow_completes = leaves_complete x Ends;
  wide_completes = leaves_complete x Ends;
  each = λ ts. leaves_at _ _ ts x refl refl;
}

-- ---- One reader after another

nothing_before : (front : List Token) (t : Token) (more : List Token) → [] ≡ front ++ t ∷ more → ⊥
nothing_before [] t more e = cc
nothing_before (u ∷ front) t more e = cc

-- a steady reader is unfinished at the end of the tokens
at_end : {A : Type 0} (read : Reader A) → IsSteady read → Unfinished (read [])
at_end {A = A} read s = by_answer (read []) refl
  where
    of_rest : (x : A) (rest : List Token) → read [] ≡ Ok (x, rest) → Unfinished {A = A} (Ok (x, rest))
    of_rest x [] e = inr (x, refl)
    of_rest x (t ∷ more) e = let g = (s []).goes_on x t more e in absurd (nothing_before g.front t more g.whole)

    by_answer : (a : Read (A × List Token)) → read [] ≡ a → Unfinished a
    by_answer (Ok x) e = of_rest x.0 x.1 e
    by_answer (Err o) e =
        elim ((s []).stops o e) [
          | inl short ↦ inl (ap Err short)
          | inr g ↦ absurd (nothing_before g.front g.token g.behind g.whole)
        ]

unfinished_then : {A B : Type 0} (r : Read (A × List Token)) (f : A × List Token → Read (B × List Token)) → Unfinished r
    → ((x : A) → Unfinished (f (x, []))) → Unfinished (read_then r f)
unfolding read_then
unfinished_then r f (inl e) h = inl (rw e refl)
unfinished_then r f (inr x) h = rw x.1 (h x.0)

same_front : (ts a b rest : List Token) → ts ≡ a ++ rest → ts ≡ b ++ rest → b ≡ a
same_front ts a b rest p q = append_cancel_right b a rest (sym q ∙ p)

pub then_at : {A B : Type 0} (narrow wide : Reader A) (n w : ℕ → A → Reader B) (ts : List Token) → SteadyAt narrow ts → SteadyAt wide ts
    → ((offset : ℕ) (x : A) → Unfinished (w offset x [])) → WidensAt narrow wide ts
    → ((x : A) (rest : List Token) → narrow ts ≡ Ok (x, rest) → WidensAt (n (offset_at ts) x) (w (offset_at ts) x) rest)
    → WidensAt (one_then narrow n) (one_then wide w) ts
then_at narrow wide n w ts ns ws ends (GoesPast offset s u) h =
    GoesPast offset (stops_as s (λ other. then_err (narrow (s.front ++ s.token ∷ other)) _ (TooDeep offset) (s.steady other)))
    (unfinished_then (wide (s.front ++ s.token ∷ [])) _ u (ends (offset_at (s.front ++ s.token ∷ []))))
then_at {A = A} {B = B} narrow wide n w ts ns ws ends (AnswersSame e s) h = by_answer (narrow ts) refl
  where
    by_answer : (a : Read (A × List Token)) → narrow ts ≡ a → WidensAt (one_then narrow n) (one_then wide w) ts
    by_answer (Err o) f =
        alike _ _ ts (Err o) (λ offset g. s.never offset (f ∙ ap Err (err_is _ _ g)))
        (then_err (narrow ts) _ o f) (then_err (wide ts) _ o (sym e ∙ f))
    by_answer (Ok x) f =
        let there = then_is (narrow ts) (λ x. n (offset_at ts) x.0 x.1) x f in
        let here = then_is (wide ts) (λ x. w (offset_at ts) x.0 x.1) x (sym e ∙ f) in
        elim (h x.0 x.1 f) [
          | AnswersSame d r ↦ AnswersSame (there ∙ d ∙ sym here) (record { never = λ offset g. r.never offset (sym there ∙ g) })
          | GoesPast offset g u ↦
              let past = behind_read narrow n ts x.1 x.0 g.token g.behind _ ns f (to_stop g) in
              let on = itself_to (w (offset_at ts) x.0) g.front g.token g.behind g.whole in
              let over = behind_read wide w ts x.1 x.0 g.token g.behind _ ws (sym e ∙ f) on in
              let front : over.front ≡ past.front = same_front ts past.front over.front (g.token ∷ g.behind) past.whole over.whole in
              GoesPast offset (stop_at g.token g.behind g.at past)
              (subst (λ (us : List Token). Unfinished (one_then wide w (us ++ g.token ∷ []))) front
              (subst Unfinished (sym (over.steady [])) u))
        ]

pub then_widens : {A B : Type 0} {narrow wide : Reader A} (n w : ℕ → A → Reader B) {Ends1 Ends2 : List Token → Type 0}
    {fill1 fill2 : List Token} → Widens narrow wide Ends1 fill1 → ((rest : List Token) → Ends2 rest → Ends1 (fill2 ++ rest))
    → ((offset : ℕ) (x : A) → Widens (n offset x) (w offset x) Ends2 fill2)
    → Widens (one_then narrow n) (one_then wide w) Ends2 (fill1 ++ fill2)
then_widens {narrow = narrow} {wide = wide} n w a follows h = record {
  narrow_completes = then_completes n a.narrow_completes follows (λ offset x. (h offset x).narrow_completes);
  wide_completes = then_completes w a.wide_completes follows (λ offset x. (h offset x).wide_completes);
  each = λ ts.
      then_at narrow wide n w ts (a.narrow_completes.some.steady ts) (a.wide_completes.some.steady ts)
      (λ offset x. at_end (w offset x) (h offset x).wide_completes.some.steady) (a.each ts) (λ x rest e. (h (offset_at ts) x).each rest);
}

-- ---- A choice by the first token

pub choose_at : {A : Type 0} (test : List Token → Bool) (n w m v : Reader A) (ts : List Token) → IsOfFirst test → WidensAt n w ts
    → WidensAt m v ts → WidensAt (either test n m) (either test w v) ts
unfolding choose
choose_at {A = A} test n w m v ts of_first y z =
    elim (cases_Bool (test ts)) [
      | inl e ↦ branch true e n w (λ us h. rw h refl) (λ us h. rw h refl) y
      | inr e ↦ branch false e m v (λ us h. rw h refl) (λ us h. rw h refl) z
    ]
  where
    branch : (b : Bool) → test ts ≡ b → (narrow wide : Reader A) → ((us : List Token) → test us ≡ b → either test n m us ≡ narrow us)
        → ((us : List Token) → test us ≡ b → either test w v us ≡ wide us)
        → WidensAt narrow wide ts → WidensAt (either test n m) (either test w v) ts
    branch b e narrow wide h k (AnswersSame d s) =
        AnswersSame (h ts e ∙ d ∙ sym (k ts e)) (record { never = λ offset f. s.never offset (sym (h ts e) ∙ f) })
    branch b e narrow wide h k (GoesPast offset s u) =
        let test_is : (other : List Token) → test (s.front ++ s.token ∷ other) ≡ b =
        λ other. of_first s.front s.token other s.behind ∙ ap test (sym s.whole) ∙ e in
        GoesPast offset (stops_as s (λ other. h (s.front ++ s.token ∷ other) (test_is other) ∙ s.steady other))
        (subst Unfinished (sym (k (s.front ++ s.token ∷ []) (test_is []))) u)

-- Where nothing stands, the second of the two is filled.
pub choose_widens_by : {A : Type 0} {n w m v : Reader A} (test : List Token → Bool) {Ends : List Token → Type 0}
    {other fill : List Token} → IsOfFirst test → Widens n w Ends other
    → ((rest : List Token) → Ends rest → test (fill ++ rest) ≡ false) → Widens m v Ends fill
    → Widens (either test n m) (either test w v) Ends fill
choose_widens_by {n = n} {w = w} {m = m} {v = v} test of_first a without b = record {
  narrow_completes = choose_completes_by test of_first a.narrow_completes.some without b.narrow_completes;
  wide_completes = choose_completes_by test of_first a.wide_completes.some without b.wide_completes;
  each = λ ts. choose_at test n w m v ts of_first (a.each ts) (b.each ts);
}

pub choose_widens : {A : Type 0} {n w m v : Reader A} (k : TokenKind) {Ends : List Token → Type 0} {other fill : List Token}
    → Widens n w Ends other → ((rest : List Token) → Ends rest → begins k (fill ++ rest) ≡ false) → Widens m v Ends fill
    → Widens (either (begins k) n m) (either (begins k) w v) Ends fill
choose_widens k a without b = choose_widens_by (begins k) (begins_of_first k) a without b

-- ---- Single tokens

pub after_each : {B : Type 0} (k : TokenKind) (n w : ℕ → Reader B) → ((offset : ℕ) (ts : List Token) → WidensAt (n offset) (w offset) ts)
    → (ts : List Token) → WidensAt (token_then k n) (token_then k w) ts
unfolding after offset_at choose read_then
after_each k n w h =
    by_first _ _ (both_short _ _ refl refl) (λ t.
    elim (cases_Bool (same_kind t.kind k)) [
      | inl e ↦ ReadOn (n t.offset) (w t.offset) (h t.offset) (λ ts. rw e refl) (λ ts. rw e refl)
      | inr e ↦ Refuse t.offset (λ ts. rw e refl) (λ ts. rw e refl)
    ])

pub after_widens : {B : Type 0} (k : TokenKind) (n w : ℕ → Reader B) {Ends : List Token → Type 0} {fill : List Token}
    → ((offset : ℕ) → Widens (n offset) (w offset) Ends fill) → Widens (token_then k n) (token_then k w) Ends (of_kind k ∷ fill)
after_widens k n w h = record {
  narrow_completes = after_completes k n (λ offset. (h offset).narrow_completes);
  wide_completes = after_completes k w (λ offset. (h offset).wide_completes);
  each = after_each k n w (λ offset. (h offset).each);
}

-- where behind a token of a kind there is no room for the narrow reader, and the wide one goes on
pub deep_each : {A : Type 0} (narrow wide : Reader A) (k : TokenKind) → narrow [] ≡ Err TooShort → wide [] ≡ Err TooShort
    → ((t : Token) (ts : List Token) → same_kind t.kind k ≡ true → narrow (t ∷ ts) ≡ Err (TooDeep t.offset))
    → ((t : Token) → same_kind t.kind k ≡ true → wide (t ∷ []) ≡ Err TooShort)
    → ((t : Token) (ts : List Token) → same_kind t.kind k ≡ false → narrow (t ∷ ts) ≡ Err (Unexpected t.offset))
    → ((t : Token) (ts : List Token) → same_kind t.kind k ≡ false → wide (t ∷ ts) ≡ Err (Unexpected t.offset))
    → (ts : List Token) → WidensAt narrow wide ts
deep_each narrow wide k n w deep on refuses also =
    by_first narrow wide (both_short narrow wide n w) (λ t.
    elim (cases_Bool (same_kind t.kind k)) [
      | inl e ↦ Deep (λ ts. deep t ts e) (on t e)
      | inr e ↦ Refuse t.offset (λ ts. refuses t ts e) (λ ts. also t ts e)
    ])

pub name_widens : Widens name_at name_at Always (a_name ∷ [])
unfolding name_at
name_widens = record {
  narrow_completes = name_completes;
  wide_completes = name_completes;
  each = by_first name_at name_at (both_short _ _ refl refl) (λ t. one t.kind t.offset t (λ ts. refl));
}
  where
    one : (k : TokenKind) (offset : ℕ) (t : Token) → ((ts : List Token) → name_at (t ∷ ts) ≡ name_of k offset ts) → WidensBy name_at name_at t
    one (kind.Name n) offset t h = ReadOn _ _ (leaves_widens (record { number = n; offset = offset }) Always).each h h
    one _ offset t h = Refuse offset h h

pub number_widens : Widens number_at number_at Always (a_number ∷ [])
unfolding number_at
number_widens = record {
  narrow_completes = number_completes;
  wide_completes = number_completes;
  each = by_first number_at number_at (both_short _ _ refl refl) (λ t. one t.kind t.offset t (λ ts. refl));
}
  where
    one : (k : TokenKind) (offset : ℕ) (t : Token) → ((ts : List Token) → number_at (t ∷ ts) ≡ number_of k offset ts)
        → WidensBy number_at number_at t
    one (kind.Number n) offset t h = ReadOn _ _ (leaves_widens (record { value = n; offset = offset }) Always).each h h
    one _ offset t h = Refuse offset h h

pub truth_widens : Widens truth_at truth_at Always (a_word keyword.False ∷ [])
unfolding truth_at
truth_widens =
    choose_widens (kind.Keyword keyword.True)
    (after_widens (kind.Keyword keyword.True) _ _ (λ _. leaves_widens true Always)) (λ rest h. refl)
    (after_widens (kind.Keyword keyword.False) _ _ (λ _. leaves_widens false Always))

word_of_widens : (c : BagCall) → Widens (word_of_at c) (word_of_at c) Always (a_word (call_word c) ∷ [])
unfolding word_of_at
word_of_widens c = after_widens (kind.Keyword (call_word c)) _ _ (λ _. leaves_widens c Always)

pub call_word_widens : Widens call_word_at call_word_at Always (a_word keyword.Front ∷ [])
unfolding call_word_at
call_word_widens =
    choose_widens (kind.Keyword keyword.Size) (word_of_widens call.Size) (λ rest h. refl)
    (choose_widens (kind.Keyword keyword.Sum) (word_of_widens call.Sum) (λ rest h. refl)
    (choose_widens (kind.Keyword keyword.Least) (word_of_widens call.Least) (λ rest h. refl)
    (choose_widens (kind.Keyword keyword.Most) (word_of_widens call.Most) (λ rest h. refl) (word_of_widens call.Front))))

-- ---- Lists

many_within : {A : Type 0} (narrow wide : Reader A) (stop : TokenKind) → Shortens narrow → Shortens wide → IsSteady narrow
    → IsSteady wide → ((ts : List Token) → WidensAt narrow wide ts)
    → (n : ℕ) (ts : List Token) → length ts < n → WidensAt (many_at narrow stop) (many_at wide stop) ts
many_within narrow wide stop ns ws sn sw each zero ts lt = absurd (omega (arith, lt))
many_within {A = A} narrow wide stop ns ws sn sw each (suc n) ts lt =
    let ends : Unfinished (many_at wide stop []) = at_end (many_at wide stop) (many_steady wide stop ws sw) in
    same_widens (many_at narrow stop) (many_at wide stop) _ _ (many_step narrow stop ns) (many_step wide stop ws) ts
    (choose_at (begins stop) (λ us. Ok ([], us)) (λ us. Ok ([], us)) _ _ ts (begins_of_first stop) (leaves_at _ _ ts [] refl refl)
    (then_at narrow wide
    (λ _ x us. read_then (many_at narrow stop us) (λ xs. Ok (x ∷ xs.0, xs.1)))
    (λ _ x us. read_then (many_at wide stop us) (λ xs. Ok (x ∷ xs.0, xs.1))) ts
    (sn ts) (sw ts) (λ _ x. unfinished_then (many_at wide stop []) _ ends (λ xs. inr (x ∷ xs, refl))) (each ts)
    (λ x rest e.
    then_at (many_at narrow stop) (many_at wide stop) (λ _ xs us. Ok (x ∷ xs, us)) (λ _ xs us. Ok (x ∷ xs, us)) rest
    (many_steady narrow stop ns sn rest) (many_steady wide stop ws sw rest) (λ _ xs. inr (x ∷ xs, refl))
    (many_within narrow wide stop ns ws sn sw each n rest (omega (arith, ns ts (x, rest) e, lt)))
    (λ xs last f. leaves_at _ _ last (x ∷ xs) refl refl))))

pub many_widens : {A : Type 0} {narrow wide : Reader A} (stop : TokenKind) {Ends : List Token → Type 0} {fill : List Token}
    → Shortens narrow → Shortens wide → Widens narrow wide Ends fill → ((rest : List Token) → Begins stop rest → Ends rest)
    → Widens (many_at narrow stop) (many_at wide stop) (Begins stop) []
many_widens {narrow = narrow} {wide = wide} stop ns ws a ends = record {
  narrow_completes = many_completes stop ns a.narrow_completes ends;
  wide_completes = many_completes stop ws a.wide_completes ends;
  each = λ ts.
      many_within narrow wide stop ns ws a.narrow_completes.some.steady a.wide_completes.some.steady a.each (suc (length ts)) ts
      (omega arith);
}

pub braces_widens : {A : Type 0} {narrow wide : Reader A} {Ends : List Token → Type 0} {fill : List Token} → Shortens narrow
    → Shortens wide → Widens narrow wide Ends fill → ((rest : List Token) → Begins (kind.Symbol symbol.CloseBrace) rest → Ends rest)
    → Widens (braces_at narrow) (braces_at wide) Always empty_braces
unfolding braces_at
braces_widens ns ws a ends =
    after_widens (kind.Symbol symbol.OpenBrace) _ _ (λ _.
    then_widens _ _ (many_widens (kind.Symbol symbol.CloseBrace) ns ws a ends) (λ rest h. refl) (λ _ xs.
    after_widens (kind.Symbol symbol.CloseBrace) _ _ (λ _. leaves_widens xs Always)))
