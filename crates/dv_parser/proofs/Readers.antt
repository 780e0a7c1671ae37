-- Readers, and lists of what one reader reads.
use Rattle.std.proofs.Common.{◌≡◌, ℕ, zero, suc, ◌<◌, Bool, true, false, List, [], ◌∷◌, ◌++◌, length, map, Ok, Err, refl, sym, ap, subst}
use Rattle.std.proofs.Common.{◌∙◌, append_assoc, inl, inr, arith}
use Rattle.std.specs.List.{flat_map, AllByRecursion}
use Rattle.dv_lex.specs.declared.token.Token.{Token}
use Rattle.dv_lex.specs.declared.token.TokenKind.{TokenKind}
use Rattle.dv_lex.specs.declared.token.TokenKind.TheVariants as kind
use Rattle.dv_lex.specs.declared.token.Symbol.TheVariants as symbol
use Rattle.dv_syntax.specs.Grammar.{Spelled, sign, braces}
use Rattle.dv_syntax.proofs.Lengths.{Spells-length}
use Rattle.dv_parser.specs.declared.parse_error.ParseError.{ParseError}
use Rattle.dv_parser.specs.declared.parse_error.ParseError.TheVariants as parse_error
use Rattle.dv_parser.specs.Reading.{Obstacle, Read, Fails, read_then, becoming, choose, begins, many, many_at, with_front}
use Rattle.dv_parser.specs.Reading.{braces_at, Reader, obstacle_of}
use Rattle.dv_parser.proofs.Tokens.{then_ok, chosen, ok_is, err_is, err_ok, same_after, Spans, nothing, span_end, then_spans, split}
use Rattle.dv_parser.proofs.Tokens.{first, after_spans}

-- ---- Readers

-- whatever follows
abbrev pub Always : List Token → Type 0
Always rest = Unit {0}

pub all_any : {A : Type 0} (xs : List A) → AllByRecursion (λ x. Unit {0}) xs
all_any [] = tt
all_any (x ∷ xs) = (tt, all_any xs)

-- What is read is spelled so and is one of those. What is spelled so is read, where what follows can.
pub record IsReader {A : Type 0} (read : Reader A) (spelling : A → List Spelled) (Is : A → Type 0)
    (Ends : List Token → Type 0) : Type 0 where
  pub sound : (ts : List Token) (x : A × List Token) → read ts ≡ Ok x → Spans (spelling x.0) ts x.1 × Is x.0
  pub complete : (x : A) (ts rest : List Token) → Is x → Spans (spelling x) ts rest → Ends rest → read ts ≡ Ok (x, rest)

-- The same of what is spelled as one thing and read as another, which that stands for.
pub record IsReaderFor {A W : Type 0} (read : Reader A) (given : W → A) (spelling : W → List Spelled) (Is : W → Type 0)
    (Ends : List Token → Type 0) : Type 0 where
  pub sound : (ts : List Token) (x : A × List Token) → read ts ≡ Ok x → (w : W) × (given w ≡ x.0) × Spans (spelling w) ts x.1 × Is w
  pub complete : (w : W) (ts rest : List Token) → Is w → Spans (spelling w) ts rest → Ends rest → read ts ≡ Ok (given w, rest)

pub stands_itself : {A : Type 0} {read : Reader A} {spelling : A → List Spelled} {Is : A → Type 0} {Ends : List Token → Type 0}
    → IsReader read spelling Is Ends → IsReaderFor read (λ x. x) spelling Is Ends
stands_itself r = record { sound = λ ts x e. let s = r.sound ts x e in (x.0, refl, s.0, s.1); complete = r.complete }

-- Nothing that is read begins as what stops the list, and what follows one may be another or the stop.
pub record IsListed {W : Type 0} (spelling : W → List Spelled) (Ends : List Token → Type 0) (stop : TokenKind) : Type 0 where
  pub opens : (x : W) (ts rest : List Token) → Spans (spelling x) ts rest → begins stop ts ≡ false
  pub before : (x : W) (ts rest : List Token) → Spans (spelling x) ts rest → Ends ts
  pub at_stop : (ts : List Token) → begins stop ts ≡ true → Ends ts
  pub some : (x : W) → 0 < length (spelling x)

abbrev pub Shortens : {A : Type 0} → (Reader A) → Type 0
Shortens {A = A} read = (ts : List Token) (x : A × List Token) → read ts ≡ Ok x → length x.1 < length ts

pub shortens_for : {A W : Type 0} (read : Reader A) (given : W → A) (spelling : W → List Spelled) (Is : W → Type 0)
    (Ends : List Token → Type 0) (stop : TokenKind) → IsReaderFor read given spelling Is Ends → IsListed spelling Ends stop
    → Shortens read
shortens_for read given spelling Is Ends stop r l ts x e =
    let s = r.sound ts x e in
    omega (arith, Spells-length (spelling s.0) ts x.1 s.2.spells, l.some s.0)

pub shortens : {A : Type 0} (read : Reader A) (spelling : A → List Spelled) (Is : A → Type 0)
    (Ends : List Token → Type 0) (stop : TokenKind) → IsReader read spelling Is Ends → IsListed spelling Ends stop → Shortens read
shortens read spelling Is Ends stop r l = shortens_for read (λ x. x) spelling Is Ends stop (stands_itself r) l

many_sound : {A W : Type 0} (one : Reader A) (given : W → A) (spelling : W → List Spelled) (Is : W → Type 0)
    (Ends : List Token → Type 0) → IsReaderFor one given spelling Is Ends → (stop : TokenKind) (more : ℕ) (ts : List Token)
    (x : List A × List Token) → many one stop more ts ≡ Ok x
    → (ws : List W) × (map given ws ≡ x.0) × Spans (flat_map spelling ws) ts x.1 × AllByRecursion Is ws
many_sound one given spelling Is Ends r stop zero ts x e = absurd (err_ok _ _ e)
many_sound {A = A} {W = W} one given spelling Is Ends r stop (suc more) ts x e =
    elim (chosen _ _ _ _ e) [
      | inl p ↦ subst Found (ok_is _ _ p.1) ([], refl, nothing, tt)
      | inr p ↦
          let a = then_ok _ _ _ p.1 in
          let b = then_ok _ _ _ a.2 in
          let s = r.sound ts a.0 a.1 in
          let t = many_sound one given spelling Is Ends r stop more a.0.1 b.0 b.1 in
          subst Found (ok_is _ _ b.2) (s.0 ∷ t.0, both s.1 t.1, then_spans s.2 t.2, (s.3, t.3))
    ]
  where
    Found : List A × List Token → Type 0
    Found y = (ws : List W) × (map given ws ≡ y.0) × Spans (flat_map spelling ws) ts y.1 × AllByRecursion Is ws

    both : {x y : A} {xs ys : List A} → x ≡ y → xs ≡ ys → x ∷ xs ≡ y ∷ ys
    both p q = cc

-- the list ends where its stop comes
ends_list : {W : Type 0} (spelling : W → List Spelled) (Ends : List Token → Type 0) (stop : TokenKind) → IsListed spelling Ends stop
    → (xs : List W) (ts rest : List Token) → Spans (flat_map spelling xs) ts rest → begins stop rest ≡ true → Ends ts
ends_list spelling Ends stop l [] ts rest h e = l.at_stop ts (ap (begins stop) h.spells ∙ e)
ends_list spelling Ends stop l (x ∷ xs) ts rest h e = let s = split (spelling x) (flat_map spelling xs) h in l.before x ts s.0 s.1

many_complete : {A W : Type 0} (one : Reader A) (given : W → A) (spelling : W → List Spelled) (Is : W → Type 0)
    (Ends : List Token → Type 0) → IsReaderFor one given spelling Is Ends → (stop : TokenKind) → IsListed spelling Ends stop
    → (more : ℕ) (xs : List W) (ts rest : List Token)
    → AllByRecursion Is xs → Spans (flat_map spelling xs) ts rest → begins stop rest ≡ true → length ts < more
    → many one stop more ts ≡ Ok (map given xs, rest)
unfolding choose read_then
many_complete one given spelling Is Ends r stop l zero xs ts rest all h e lt = absurd (omega (arith, lt))
many_complete one given spelling Is Ends r stop l (suc more) [] ts rest all h e lt =
    let b : begins stop ts ≡ true = ap (begins stop) h.spells ∙ e in
    rw (b, h.spells) refl
many_complete one given spelling Is Ends r stop l (suc more) (x ∷ xs) ts rest all h e lt =
    let s = split (spelling x) (flat_map spelling xs) h in
    let b = l.opens x ts s.0 s.1 in
    let a = r.complete x ts s.0 all.0 s.1 (ends_list spelling Ends stop l xs s.0 rest s.2 e) in
    let len = Spells-length (spelling x) ts s.0 s.1.spells in
    let t = many_complete one given spelling Is Ends r stop l more xs s.0 rest all.1 s.2 e (omega (arith, len, lt, l.some x)) in
    rw (b, a, t) refl

pub many_reader_for : {A W : Type 0} (one : Reader A) (given : W → A) (spelling : W → List Spelled) (Is : W → Type 0)
    (Ends : List Token → Type 0) → IsReaderFor one given spelling Is Ends
    → (stop : TokenKind) → IsListed spelling Ends stop
    → IsReaderFor (many_at one stop) (map given) (flat_map spelling) (AllByRecursion Is) (λ rest. begins stop rest ≡ true)
unfolding many_at
many_reader_for one given spelling Is Ends r stop l = record {
  sound = λ ts x e. many_sound one given spelling Is Ends r stop (suc (length ts)) ts x e;
  complete = λ xs ts rest all h e. many_complete one given spelling Is Ends r stop l (suc (length ts)) xs ts rest all h e (omega arith);
}

map_itself : {A : Type 0} (xs : List A) → map (λ x. x) xs ≡ xs
map_itself [] = refl
map_itself (x ∷ xs) = ap (λ ys. x ∷ ys) (map_itself xs)

-- lists of what stands for itself
listed_itself : {A : Type 0} {read : Reader (List A)} {spelling : List A → List Spelled} {Is : List A → Type 0}
    {Ends : List Token → Type 0} → IsReaderFor read (map (λ x. x)) spelling Is Ends → IsReader read spelling Is Ends
listed_itself {A = A} {spelling = spelling} {Is = Is} r = record {
  sound = λ ts x e.
      let s = r.sound ts x e in
      subst (λ (xs : List A). Spans (spelling xs) ts x.1 × Is xs) (sym (map_itself s.0) ∙ s.1) (s.2, s.3);
  complete = λ xs ts rest is h ends. r.complete xs ts rest is h ends ∙ ap (λ (ys : List A). Ok (ys, rest)) (map_itself xs);
}

pub many_reader : {A : Type 0} (one : Reader A) (spelling : A → List Spelled) (Is : A → Type 0)
    (Ends : List Token → Type 0) → IsReader one spelling Is Ends
    → (stop : TokenKind) → IsListed spelling Ends stop → IsReader (many_at one stop) (flat_map spelling) (AllByRecursion Is)
    (λ rest. begins stop rest ≡ true)
many_reader one spelling Is Ends r stop l =
    listed_itself (many_reader_for one (λ x. x) spelling Is Ends (stands_itself r) stop l)

abbrev close : Spelled
close = sign symbol.CloseBrace

pub braces_reader_for : {A W : Type 0} (one : Reader A) (given : W → A) (spelling : W → List Spelled) (Is : W → Type 0)
    (Ends : List Token → Type 0) → IsReaderFor one given spelling Is Ends
    → IsListed spelling Ends (kind.Symbol symbol.CloseBrace)
    → IsReaderFor (braces_at one) (map given) (λ xs. braces (flat_map spelling xs)) (AllByRecursion Is) Always
unfolding braces_at read_then
braces_reader_for {A = A} {W = W} one given spelling Is Ends r l =
    let all = many_reader_for one given spelling Is Ends r (kind.Symbol symbol.CloseBrace) l in
    record {
      sound = λ ts x e.
          let a = then_ok _ _ _ e in
          let b = then_ok _ _ _ a.2 in
          let c = then_ok _ _ _ b.2 in
          let s = all.sound a.0 b.0 b.1 in
          subst (λ (y : List A × List Token).
          (ws : List W) × (map given ws ≡ y.0) × Spans (braces (flat_map spelling ws)) ts y.1 × AllByRecursion Is ws) (ok_is _ _ c.2)
          (s.0, s.1, after_spans a.1 (then_spans s.2 (after_spans c.1 nothing)), s.3);
      complete = λ xs ts rest is h ends.
          let f = first h in
          let s = split (flat_map spelling xs) (close ∷ []) f.spelled in
          let c = first s.2 in
          let m = all.complete xs f.behind s.0 is s.1 (c.begins (kind.Symbol symbol.CloseBrace)) in
          rw (f.after, m, c.after, span_end c.spelled) refl;
    }

pub braces_reader : {A : Type 0} (one : Reader A) (spelling : A → List Spelled) (Is : A → Type 0)
    (Ends : List Token → Type 0) → IsReader one spelling Is Ends
    → IsListed spelling Ends (kind.Symbol symbol.CloseBrace) → IsReader (braces_at one) (λ xs. braces (flat_map spelling xs))
    (AllByRecursion Is) Always
braces_reader one spelling Is Ends r l = listed_itself (braces_reader_for one (λ x. x) spelling Is Ends (stands_itself r) l)

-- ---- One turn of a loop that reads a list

pub same_many : {A : Type 0} (one : Reader A) (stop : TokenKind) → Shortens one → (a b : ℕ) (ts : List Token) → length ts < a
    → length ts < b → many one stop a ts ≡ many one stop b ts
same_many one stop s zero b ts la lb = absurd (omega (arith, la))
same_many one stop s (suc a) zero ts la lb = absurd (omega (arith, lb))
same_many {A = A} one stop s (suc a) (suc b) ts la lb =
    ap (λ (rest : Read (List A × List Token)). choose (begins stop ts) (Ok ([], ts)) rest)
    (same_after (one ts) (λ x. read_then (many one stop a x.1) (λ xs. Ok (x.0 ∷ xs.0, xs.1)))
    (λ x. read_then (many one stop b x.1) (λ xs. Ok (x.0 ∷ xs.0, xs.1)))
    (λ x e. ap (λ (r : Read (List A × List Token)). read_then r (λ xs. Ok (x.0 ∷ xs.0, xs.1)))
    (same_many one stop s a b x.1 (omega (arith, s ts x e, la)) (omega (arith, s ts x e, lb)))))

pub front_nothing : {A : Type 0} (read : Read (List A × List Token)) → with_front [] read ≡ read
unfolding read_then
front_nothing (Ok x) = refl
front_nothing (Err o) = refl

-- what the second reader gives comes later
pub later : {A B C : Type 0} (r : Read A) (f : A → Read C) (g : A → Read B) (h : B → Read C) → ((x : A) → f x ≡ read_then (g x) h)
    → read_then r f ≡ read_then (read_then r g) h
unfolding read_then
later (Ok x) f g h e = e x
later (Err o) f g h e = refl

pub same_chosen : {A B : Type 0} (b : Bool) (x y : Read A) (f : A → Read B) (u v : Read B) → u ≡ read_then x f → v ≡ read_then y f
    → choose b u v ≡ read_then (choose b x y) f
unfolding choose
same_chosen true x y f u v p q = p
same_chosen false x y f u v p q = q

pub err_kept : {A B : Type 0} (r : Read A) (f : A → B) (o : Obstacle) → read_then r (λ x. Ok (f x)) ≡ Err o → r ≡ Err o
unfolding read_then
err_kept (Ok x) f o e = absurd cc
err_kept (Err p) f o e = ap Err (err_is p o e)

becoming_more : {A B : Type 0} (f g : List A → B) (x : A) (read : Read (List A × List Token)) → ((xs : List A) → f (x ∷ xs) ≡ g xs)
    → becoming f (read_then read (λ xs. Ok (x ∷ xs.0, xs.1))) ≡ becoming g read
unfolding read_then
becoming_more f g x (Err o) h = refl
becoming_more {B = B} f g x (Ok y) h = ap (λ (b : B). Ok (b, y.1)) (h y.0)

-- one more is read
pub turn_some : {A B : Type 0} (one : Reader A) (stop : TokenKind) (f g : List A → B) (ts : List Token) (x : A)
    (rest : List Token) → Shortens one → ((xs : List A) → f (x ∷ xs) ≡ g xs) → begins stop ts ≡ false → one ts ≡ Ok (x, rest)
    → becoming g (many_at one stop rest) ≡ becoming f (many_at one stop ts)
unfolding many_at choose read_then
turn_some {A = A} one stop f g ts x rest s h b e =
    let short = s ts (x, rest) e in
    let here : many one stop (suc (length ts)) ts ≡ read_then (many one stop (length ts) rest) (λ xs. Ok (x ∷ xs.0, xs.1)) =
    rw (b, e) refl in
    sym (ap (becoming f) here ∙ becoming_more f g x (many one stop (length ts) rest) h ∙ ap (becoming g)
    (same_many one stop s (length ts) (suc (length rest)) rest (omega (arith, short)) (omega arith)))

pub front_more : {A : Type 0} (front : List A) (x : A) (xs : List A) → front ++ (x ∷ xs) ≡ (front ++ x ∷ []) ++ xs
front_more front x xs = sym (append_assoc front (x ∷ []) xs)

pub turn_stop : {A B : Type 0} (one : Reader A) (stop : TokenKind) (f : List A → B) (ts : List Token) → begins stop ts ≡ true
    → becoming f (many_at one stop ts) ≡ Ok (f [], ts)
unfolding many_at choose read_then
turn_stop one stop f ts b = rw b refl

-- what fails where another fails, fails with its error
pub fails_as : {A B : Type 0} (e : ParseError) (r : Read A) (s : Read B) → ((o : Obstacle) → r ≡ Err o → s ≡ Err o) → Fails e r
    → Fails e s
fails_as parse_error.Memory r s h f = tt
fails_as (parse_error.Stopped o) r s h f = h (obstacle_of o) f

pub turn_fails : {A B : Type 0} (e : ParseError) (one : Reader A) (stop : TokenKind) (f : List A → B) (ts : List Token)
    (total : Read (B × List Token)) → begins stop ts ≡ false → Fails e (one ts) → becoming f (many_at one stop ts) ≡ total
    → Fails e total
unfolding many_at choose read_then
turn_fails e one stop f ts total b h so_far = fails_as e (one ts) total (λ o g. sym so_far ∙ rw (b, g) refl) h

pub turn_stopped : {A B : Type 0} (o : Obstacle) (one : Reader A) (stop : TokenKind) (f : List A → B) (ts : List Token)
    (total : Read (B × List Token)) → begins stop ts ≡ false → one ts ≡ Err o → becoming f (many_at one stop ts) ≡ total
    → total ≡ Err o
unfolding many_at choose read_then
turn_stopped o one stop f ts total b h so_far = sym so_far ∙ rw (b, h) refl
