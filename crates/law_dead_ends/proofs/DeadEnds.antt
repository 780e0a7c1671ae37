-- The token that a refusal names is the first with which no file goes on.
use Rattle.std.proofs.Common.{◌≡◌, ℕ, zero, suc, ◌<◌, ◌≤◌, All, arith, List, [], ◌∷◌, ◌++◌, length, Some, Ok, Err, refl, sym}
use Rattle.std.proofs.Common.{ap, subst, ◌∙◌, inl, inr, append_assoc}
use Rattle.dv_lex.specs.declared.error.Refusal.{Refusal}
use Rattle.dv_lex.specs.declared.token.Token.{Token}
use Rattle.dv_source.specs.Grammar.{IsFileWithin}
use Rattle.dv_syntax.specs.Written.{WrittenFile}
use Rattle.dv_syntax.specs.Grammar.{Limits, the_limits}
use Rattle.dv_parser.specs.Reading.{Obstacle, Unexpected, TooDeep, TooShort, Read, file_at, refusal_of, refusal_in}
use Rattle.dv_parser.specs.Reading.{refusal_of_tokens}
use Rattle.law_dead_ends.specs.Refusals.{BeginsFileWithin, BeginsFile, BeginsFileAtAnyDepth, NoneBeginsAt, IsNumberOf, IsDeadEnd}
use Rattle.dv_parser.proofs.Tokens.{some_is, err_is}
use Rattle.dv_parser.proofs.Models.{file_refused}
use Rattle.law_dead_ends.proofs.Depths.{HaveRoom, AreWidened, our_room, wide_room, above, above_theirs, above_ours, file_within}
use Rattle.law_dead_ends.proofs.Steady.{IsAt, Stops, stops_as, ok_err}
use Rattle.law_dead_ends.proofs.Completions.{Unfinished}
use Rattle.law_dead_ends.proofs.Widening.{WidensAt, AnswersSame, GoesPast, unexpected_deep}
use Rattle.law_dead_ends.proofs.ModelReaders.{whole_at, whole_widens, whole_steady, whole_err, file_err, begins_file}

-- where a reader of files stops at a token, no file goes on
none_begins : (limits : Limits) (ts : List Token) (o : Obstacle) (g : Stops (whole_at limits) ts o)
    → ¬ BeginsFileWithin limits (g.front ++ g.token ∷ [])
none_begins limits ts o g b =
    let is : IsFileWithin limits (g.front ++ g.token ∷ b.0) b.1 =
    subst (λ (us : List Token). IsFileWithin limits us b.1) (append_assoc g.front (g.token ∷ []) b.0) b.2 in
    file_refused limits (g.front ++ g.token ∷ b.0) o (file_err limits _ o (g.steady b.0)) b.1 is

offset_is : (o : Obstacle) (n end : ℕ) → IsAt o n → n ≡ (refusal_of o end).offset
offset_is (Unexpected offset) n end at = at
offset_is (TooDeep offset) n end at = at
offset_is TooShort n end at = absurd at

-- where the reader stops first, a file begins with the tokens before
record StopsFirst (limits : Limits) (ts : List Token) (o : Obstacle) : Type 0 where
  stops : Stops (whole_at limits) ts o
  begun : BeginsFileWithin limits stops.front

same_stop : (limits : Limits) (ts : List Token) (o p : Obstacle) (g : Stops (whole_at limits) ts o)
    → Stops (whole_at limits) g.front p → p ≡ o
same_stop limits ts o p g h =
    let whole : g.front ++ g.token ∷ g.behind ≡ h.front ++ h.token ∷ (h.behind ++ g.token ∷ g.behind) =
    ap (λ (us : List Token). us ++ g.token ∷ g.behind) h.whole ∙ append_assoc h.front (h.token ∷ h.behind) (g.token ∷ g.behind) in
    err_is _ _ (sym (h.steady (h.behind ++ g.token ∷ g.behind)) ∙ ap (whole_at limits) (sym whole) ∙ g.steady g.behind)

-- a stop among the tokens before a stop
earlier : (limits : Limits) (ts : List Token) (o p : Obstacle) (g : Stops (whole_at limits) ts o)
    → Stops (whole_at limits) g.front p → Stops (whole_at limits) ts o
earlier limits ts o p g h =
    let same : p ≡ o = same_stop limits ts o p g h in
    record {
      front = h.front;
      token = h.token;
      behind = h.behind ++ g.token ∷ g.behind;
      whole = g.whole ∙ ap (λ (us : List Token). us ++ g.token ∷ g.behind) h.whole ∙ append_assoc h.front (h.token ∷ h.behind)
          (g.token ∷ g.behind);
      at = subst (λ (q : Obstacle). IsAt q h.token.offset) same h.at;
      steady = λ other. h.steady other ∙ ap Err same;
    }

-- what is read of the tokens before a stop leaves none of them
read_before : (limits : Limits) → HaveRoom limits → (ts : List Token) (o : Obstacle) (g : Stops (whole_at limits) ts o)
    (x : WrittenFile) (rest : List Token) → whole_at limits g.front ≡ Ok (x, rest) → Unfinished (whole_at limits g.front)
read_before limits room ts o g x [] e = inr (x, e)
read_before limits room ts o g x (u ∷ us) e =
    let h = (whole_steady limits room g.front).goes_on x u us e in
    let whole : g.front ++ g.token ∷ g.behind ≡ h.front ++ u ∷ (us ++ g.token ∷ g.behind) =
    ap (λ (v : List Token). v ++ g.token ∷ g.behind) h.whole ∙ append_assoc h.front (u ∷ us) (g.token ∷ g.behind) in
    absurd (ok_err _ _ (sym (h.steady (us ++ g.token ∷ g.behind)) ∙ ap (whole_at limits) (sym whole) ∙ g.steady g.behind))

shorter_front : (front : List Token) (t : Token) (behind : List Token) → length front < length (front ++ t ∷ behind)
shorter_front [] t behind = omega arith
shorter_front (u ∷ front) t behind = omega (arith, shorter_front front t behind)

-- by what is read of the tokens before a stop, where a stop among those leads to the first
stop_by : (limits : Limits) → HaveRoom limits → (ts : List Token) (o : Obstacle) (g : Stops (whole_at limits) ts o)
    → ((h : Stops (whole_at limits) ts o) → length h.front < length g.front → StopsFirst limits ts o)
    → (a : Read (WrittenFile × List Token)) → whole_at limits g.front ≡ a → StopsFirst limits ts o
unfolding earlier
stop_by limits room ts o g again (Ok x) e =
    record { stops = g; begun = begins_file limits room g.front (read_before limits room ts o g x.0 x.1 e) }
stop_by limits room ts o g again (Err p) e =
    elim ((whole_steady limits room g.front).stops p e) [
      | inl short ↦ record { stops = g; begun = begins_file limits room g.front (inl (e ∙ ap Err short)) }
      | inr h ↦ again (earlier limits ts o p g h)
          (subst (λ (us : List Token). length h.front < length us) (sym h.whole) (shorter_front h.front h.token h.behind))
    ]

first_stop : (limits : Limits) → HaveRoom limits → (n : ℕ) (ts : List Token) (o : Obstacle) (g : Stops (whole_at limits) ts o)
    → length g.front < n → StopsFirst limits ts o
first_stop limits room zero ts o g lt = absurd (omega (arith, lt))
first_stop limits room (suc n) ts o g lt =
    stop_by limits room ts o g (λ h less. first_stop limits room n ts o h (omega (arith, less, lt))) (whole_at limits g.front) refl

-- ---- Fronts of one list

-- of two fronts of one list, each with the token behind it: they are the same, or one begins with the other and its token
data Fronts (a : List Token) (t : Token) (b : List Token) (u : Token) : Type 0 where
  Same : a ≡ b → Fronts a t b u
  Longer : (more : List Token) → a ≡ (b ++ u ∷ []) ++ more → Fronts a t b u
  Shorter : (more : List Token) → b ≡ (a ++ t ∷ []) ++ more → Fronts a t b u

tail_is : (x y : Token) (xs ys : List Token) → x ∷ xs ≡ y ∷ ys → (x ≡ y) × (xs ≡ ys)
tail_is x y xs ys e = (cc, cc)

fronts : (a : List Token) (t : Token) (c b : List Token) (u : Token) (d : List Token) → a ++ t ∷ c ≡ b ++ u ∷ d → Fronts a t b u
fronts [] t c [] u d e = Same refl
fronts [] t c (y ∷ b) u d e = let p = tail_is _ _ _ _ e in Shorter b (ap (λ (z : Token). z ∷ b) (sym p.0))
fronts (x ∷ a) t c [] u d e = let p = tail_is _ _ _ _ e in Longer a (ap (λ (z : Token). z ∷ a) p.0)
fronts (x ∷ a) t c (y ∷ b) u d e = let p = tail_is _ _ _ _ e in with_head x y p.0 (fronts a t c b u d p.1)
  where
    with_head : (x y : Token) → x ≡ y → Fronts a t b u → Fronts (x ∷ a) t (y ∷ b) u
    with_head x y h (Same q) = Same cc
    with_head x y h (Longer more q) = Longer more cc
    with_head x y h (Shorter more q) = Shorter more cc

-- the front of what begins a file begins it
begins_front : (limits : Limits) (front more : List Token) → BeginsFileWithin limits (front ++ more) → BeginsFileWithin limits front
begins_front limits front more b =
    (more ++ b.0, b.1, subst (λ (us : List Token). IsFileWithin limits us b.1) (append_assoc front more b.0) b.2)

head_is : (front : List Token) (t u : Token) (c d : List Token) → front ++ t ∷ c ≡ front ++ u ∷ d → t ≡ u
head_is [] t u c d e = (tail_is _ _ _ _ e).0
head_is (x ∷ front) t u c d e = head_is front t u c d (tail_is _ _ _ _ e).1

-- ---- The number of the refusal

-- a token that can't stand there stops the reader within greater limits too
still_stops : (wide : Limits) → AreWidened the_limits wide → (ts : List Token) (offset : ℕ)
    → Stops (whole_at the_limits) ts (Unexpected offset) → Stops (whole_at wide) ts (Unexpected offset)
still_stops wide g ts offset s = stops_as s (λ other.
    let us : List Token = s.front ++ s.token ∷ other in
    by_answer us ((whole_widens the_limits wide g).each us) (s.steady other))
  where
    by_answer : (us : List Token) → WidensAt (whole_at the_limits) (whole_at wide) us → whole_at the_limits us ≡ Err (Unexpected offset)
        → whole_at wide us ≡ Err (Unexpected offset)
    by_answer us (AnswersSame e shallow) stop = sym e ∙ stop
    by_answer us (GoesPast n d u) stop =
        absurd (unexpected_deep offset n (err_is _ _ (sym stop ∙ ap (whole_at the_limits) d.whole ∙ d.steady d.behind)))

none_deeper : (ts : List Token) (offset : ℕ) (s : Stops (whole_at the_limits) ts (Unexpected offset))
    → ¬ BeginsFileAtAnyDepth (s.front ++ s.token ∷ [])
unfolding still_stops
none_deeper ts offset s b =
    let wide : Limits = above b.0 in
    let us : List Token = (s.front ++ s.token ∷ []) ++ b.1.0 in
    none_begins wide ts (Unexpected offset) (still_stops wide (above_ours b.0) ts offset s)
    (b.1.0, b.1.1, file_within b.0 wide (above_theirs b.0) us b.1.1 b.1.2)

-- a file that is nested deeper begins with the tokens up to one that is too deep
begins_deeper : (wide : Limits) → AreWidened the_limits wide → (ts : List Token) (offset : ℕ)
    (s : Stops (whole_at the_limits) ts (TooDeep offset))
    → BeginsFile s.front → BeginsFileWithin wide (s.front ++ s.token ∷ [])
begins_deeper wide g ts offset s begun = by_answer ((whole_widens the_limits wide g).each ts)
  where
    -- the tokens up to the one that the wider reader goes past
    past : (n : ℕ) (d : Stops (whole_at the_limits) ts (TooDeep n)) → BeginsFileWithin wide (d.front ++ d.token ∷ [])
        → Fronts d.front d.token s.front s.token → BeginsFileWithin wide (s.front ++ s.token ∷ [])
    past n d b (Same e) =
        let whole : s.front ++ d.token ∷ d.behind ≡ s.front ++ s.token ∷ s.behind =
        ap (λ (us : List Token). us ++ d.token ∷ d.behind) (sym e) ∙ sym d.whole ∙ s.whole in
        let token : d.token ≡ s.token = head_is s.front d.token s.token d.behind s.behind whole in
        subst (BeginsFileWithin wide) (ap (λ (us : List Token). us ++ d.token ∷ []) e ∙ ap (λ (t : Token). s.front ++ t ∷ []) token) b
    past n d b (Longer more e) =
        let longer : d.front ++ d.token ∷ [] ≡ (s.front ++ s.token ∷ []) ++ (more ++ d.token ∷ []) =
        ap (λ (us : List Token). us ++ d.token ∷ []) e ∙ append_assoc (s.front ++ s.token ∷ []) more (d.token ∷ []) in
        begins_front wide (s.front ++ s.token ∷ []) (more ++ d.token ∷ []) (subst (BeginsFileWithin wide) longer b)
    past n d b (Shorter more e) =
        absurd (none_begins the_limits ts (TooDeep n) d (begins_front the_limits (d.front ++ d.token ∷ []) more (subst BeginsFile e begun)))

    by_answer : WidensAt (whole_at the_limits) (whole_at wide) ts → BeginsFileWithin wide (s.front ++ s.token ∷ [])
    by_answer (AnswersSame e shallow) = absurd (shallow.never offset (ap (whole_at the_limits) s.whole ∙ s.steady s.behind))
    by_answer (GoesPast n d u) =
        past n d (begins_file wide (wide_room the_limits wide g.greater) (d.front ++ d.token ∷ []) u)
        (fronts d.front d.token d.behind s.front s.token s.behind (sym d.whole ∙ s.whole))

number_is : (ts : List Token) (o : Obstacle) (end : ℕ) (s : Stops (whole_at the_limits) ts o) → BeginsFile s.front
    → IsNumberOf (refusal_of o end).number (s.front ++ s.token ∷ [])
number_is ts (Unexpected offset) end s begun = none_deeper ts offset s
number_is ts (TooDeep offset) end s begun = (above the_limits, begins_deeper (above the_limits) (above_ours the_limits) ts offset s begun)
number_is ts TooShort end s begun = absurd s.at

-- ---- The refusal of tokens

stopped : (ts : List Token) (end : ℕ) (o : Obstacle) → file_at the_limits ts ≡ Err o → IsDeadEnd ts end (refusal_of o end)
stopped ts end o e =
    elim ((whole_steady the_limits our_room ts).stops o (whole_err the_limits ts o e)) [
      | inl short ↦ inr (
        ap
            (λ (p : Obstacle). refusal_of p end) short,
        record {
          begun = begins_file the_limits our_room ts
              (inl (whole_err the_limits ts o e ∙ ap Err short));
          none = λ f is. file_refused the_limits ts o e f is;
        },
      )
      | inr s ↦
          let first = first_stop the_limits our_room (suc (length s.front)) ts o s (omega arith) in
          let g = first.stops in
          inl (record {
            first = record {
              before = g.front;
              token = g.token;
              behind = g.behind;
              whole = g.whole;
              at = offset_is o g.token.offset end g.at;
              begun = first.begun;
              none = none_begins the_limits ts o g;
            };
            number = number_is ts o end g first.begun;
          })
    ]

pub dead_end : (ts : List Token) (end : ℕ) (r : Refusal) → refusal_of_tokens ts end ≡ Some r → IsDeadEnd ts end r
dead_end ts end r h = by_answer (file_at the_limits ts) refl h
  where
    by_answer : (a : Read WrittenFile) → file_at the_limits ts ≡ a → refusal_in a end ≡ Some r → IsDeadEnd ts end r
    by_answer (Ok f) e h = cc
    by_answer (Err o) e h = subst (IsDeadEnd ts end) (some_is _ _ h) (stopped ts end o e)

-- a refusal lies at a token, or at the end
token_among : (P : Token → Type 0) (before : List Token) (t : Token) (behind : List Token) → All P (before ++ t ∷ behind) → P t
token_among P [] t behind h = h 0 t (omega arith)
token_among P (u ∷ before) t behind h = token_among P before t behind (λ k d lt. h (suc k) d (omega (arith, lt)))

pub within_text : (ts : List Token) (end : ℕ) (r : Refusal) → All (λ (t : Token). t.offset < end) ts → refusal_of_tokens ts end ≡ Some r
    → r.offset ≤ end
within_text ts end r all h =
    elim (dead_end ts end r h) [
      | inl w ↦
          let d = w.first in
          let here : All (λ (t : Token). t.offset < end) (d.before ++ d.token ∷ d.behind) =
          subst (All (λ (t : Token). t.offset < end)) d.whole all in
          omega (arith, token_among (λ (t : Token). t.offset < end) d.before d.token d.behind here, d.at)
      | inr d ↦ omega (arith, ap (λ (q : Refusal). q.offset) d.0)
    ]

-- ---- There is one such token

pub one_first : (ts : List Token) (m n : ℕ) (a : NoneBeginsAt ts m) (b : NoneBeginsAt ts n) → a.before ≡ b.before
one_first ts m n a b = by (fronts a.before a.token a.behind b.before b.token b.behind (sym a.whole ∙ b.whole))
  where
    by : Fronts a.before a.token b.before b.token → a.before ≡ b.before
    by (Same e) = e
    by (Longer more e) = absurd (b.none (begins_front the_limits (b.before ++ b.token ∷ []) more (subst BeginsFile e a.begun)))
    by (Shorter more e) = absurd (a.none (begins_front the_limits (a.before ++ a.token ∷ []) more (subst BeginsFile e b.begun)))

pub one_offset : (ts : List Token) (m n : ℕ) → NoneBeginsAt ts m → NoneBeginsAt ts n → m ≡ n
one_offset ts m n a b =
    let whole : a.before ++ a.token ∷ a.behind ≡ a.before ++ b.token ∷ b.behind =
    sym a.whole ∙ b.whole ∙ ap (λ (us : List Token). us ++ b.token ∷ b.behind) (sym (one_first ts m n a b)) in
    sym a.at ∙ ap (λ (t : Token). t.offset) (head_is a.before a.token b.token a.behind b.behind whole) ∙ b.at

pub none_at_end : (ts : List Token) (n : ℕ) → NoneBeginsAt ts n → ¬ BeginsFile ts
none_at_end ts n a b = a.none
    (begins_front the_limits (a.before ++ a.token ∷ []) a.behind
    (subst BeginsFile (a.whole ∙ sym (append_assoc a.before (a.token ∷ []) a.behind)) b))
