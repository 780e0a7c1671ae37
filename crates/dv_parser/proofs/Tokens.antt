-- Spellings one after the other, and single tokens.
use Rattle.std.proofs.Common.{◌≡◌, ℕ, Bool, true, false, eqb, List, [], ◌∷◌, ◌++◌, get_or, Option, Some, None, Ok}
use Rattle.std.proofs.Common.{Err, refl, sym, ap, subst, ◌∙◌, ◌⊎◌, inl, inr}
use Rattle.std.specs.Prelude.{IsTrue, ◌↔◌}
use Rattle.std.proofs.lemmas.Bool.{eqb-true, eq-eqb, false≢true}
use Rattle.dv_lex.specs.declared.token.Token.{Token}
use Rattle.dv_lex.specs.declared.token.TokenKind.{TokenKind}
use Rattle.dv_lex.specs.declared.token.TokenKind.TheVariants as kind
use Rattle.dv_lex.specs.declared.token.Keyword.{Keyword}
use Rattle.dv_lex.specs.declared.token.Keyword.TheVariants as keyword
use Rattle.dv_lex.specs.declared.token.Symbol.{Symbol}
use Rattle.dv_lex.specs.declared.token.Symbol.TheVariants as symbol
use Rattle.dv_syntax.specs.declared.tree.Name.{Name}
use Rattle.dv_syntax.specs.declared.tree.Number.{Number}
use Rattle.dv_syntax.specs.declared.tree.BagCall.{BagCall}
use Rattle.dv_syntax.specs.declared.tree.BagCall.TheVariants as call
use Rattle.dv_syntax.specs.Grammar.{Spelled, At, Anywhere, Spells, name, number, word, word_at, truth_word, call_word}
use Rattle.dv_parser.specs.Reading.{Obstacle, Read, read_then, choose, maybe, keyword_number, symbol_number, same_kind, begins}
use Rattle.dv_parser.specs.Reading.{Reader, after, is_name, begins_name, name_of, name_at, number_of, number_at, truth_at}
use Rattle.dv_parser.specs.Reading.{word_of_at, call_word_at, offset_at}

-- ---- What was read

pub then_ok : {A B : Type 0} (r : Read A) (f : A → Read B) (y : B) → read_then r f ≡ Ok y → (x : A) × (r ≡ Ok x) × (f x ≡ Ok y)
unfolding read_then
then_ok (Ok x) f y e = (x, refl, e)
then_ok (Err o) f y e = absurd cc

pub then_is : {A B : Type 0} (r : Read A) (f : A → Read B) (x : A) → r ≡ Ok x → read_then r f ≡ f x
unfolding read_then
then_is r f x e = rw e refl

pub then_err : {A B : Type 0} (r : Read A) (f : A → Read B) (o : Obstacle) → r ≡ Err o → read_then r f ≡ Err o
unfolding read_then
then_err r f o e = rw e refl

-- where a test holds, its first branch is taken
pub here : {A : Type 0} {b : Bool} {x z : A} (y : A) → b ≡ true → x ≡ z → choose b x y ≡ z
unfolding choose
here y e h = rw e h

-- where it does not, its second
pub past : {A : Type 0} {b : Bool} {y z : A} (x : A) → b ≡ false → y ≡ z → choose b x y ≡ z
unfolding choose
past x e h = rw e h

pub chosen : {A : Type 0} (b : Bool) (x y z : A) → choose b x y ≡ z → ((b ≡ true) × (x ≡ z)) ⊎ ((b ≡ false) × (y ≡ z))
unfolding choose
chosen true x y z e = inl (refl, e)
chosen false x y z e = inr (refl, e)

pub maybe_is : {A B : Type 0} (o : Option A) (n : B) (s : A → B) (z : B) → maybe o n s ≡ z
    → ((o ≡ None) × (n ≡ z)) ⊎ ((x : A) × (o ≡ Some x) × (s x ≡ z))
unfolding maybe
maybe_is None n s z e = inl (refl, e)
maybe_is (Some x) n s z e = inr (x, refl, e)

pub some_is : {A : Type 0} (x y : A) → Some x ≡ Some y → x ≡ y
some_is x y e = cc

pub ok_is : {A : Type 0} (x y : A) → ◌≡◌ {A = Read A} (Ok x) (Ok y) → x ≡ y
ok_is x y e = cc

pub err_ok : {A : Type 0} (o : Obstacle) (x : A) → ◌≡◌ {A = Read A} (Err o) (Ok x) → ⊥
err_ok o x e = cc

pub err_is : {A : Type 0} (p o : Obstacle) → ◌≡◌ {A = Read A} (Err p) (Err o) → p ≡ o
err_is p o e = cc

pub none_some : {A : Type 0} (x : A) → None ≡ Some x → ⊥
none_some x e = cc

-- two readers that answer the same behind what a first one read
pub same_after : {A B : Type 0} (r : Read A) (f g : A → Read B) → ((x : A) → r ≡ Ok x → f x ≡ g x) → read_then r f ≡ read_then r g
unfolding read_then
same_after (Ok x) f g h = h x refl
same_after (Err o) f g h = refl

-- ---- Spellings one after the other

pub record Spans (ss : List Spelled) (ts rest : List Token) : Type 0 where
  pub spells : Spells ss ts rest

pub nothing : {ts : List Token} → Spans [] ts ts
nothing = record { spells = refl }

pub span_end : {ts rest : List Token} → Spans [] ts rest → ts ≡ rest
span_end h = h.spells

spells_both : (a b : List Spelled) (ts mid rest : List Token) → Spells a ts mid → Spells b mid rest → Spells (a ++ b) ts rest
spells_both [] b ts mid rest h k = subst (λ (x : List Token). Spells b x rest) (sym h) k
spells_both (s ∷ a) b [] mid rest h k = absurd h
spells_both (s ∷ a) b (t ∷ ts) mid rest h k = (h.0, spells_both a b ts mid rest h.1 k)

pub then_spans : {a b : List Spelled} {ts mid rest : List Token} → Spans a ts mid → Spans b mid rest → Spans (a ++ b) ts rest
then_spans {a = a} {b = b} {ts = ts} {mid = mid} {rest = rest} h k = record { spells = spells_both a b ts mid rest h.spells k.spells }

spells_each : (a b : List Spelled) (ts rest : List Token) → Spells (a ++ b) ts rest
    → (mid : List Token) × Spans a ts mid × Spans b mid rest
spells_each [] b ts rest h = (ts, nothing, record { spells = h })
spells_each (s ∷ a) b [] rest h = absurd h
spells_each (s ∷ a) b (t ∷ ts) rest h = let r = spells_each a b ts rest h.1 in (r.0, record { spells = (h.0, r.1.spells) }, r.2)

pub split : (a b : List Spelled) {ts rest : List Token} → Spans (a ++ b) ts rest → (mid : List Token) × Spans a ts mid × Spans b mid rest
split a b {ts = ts} {rest = rest} h = spells_each a b ts rest h.spells

-- ---- Kinds

keywords : List Keyword
keywords =
    keyword.Atomic ∷ keyword.Coupled ∷ keyword.Root ∷ keyword.In ∷ keyword.Out ∷ keyword.Var ∷ keyword.Flag ∷ keyword.Bag
    ∷ keyword.Phases ∷ keyword.Start ∷ keyword.Hold ∷ keyword.Forever ∷ keyword.Output ∷ keyword.Internal ∷ keyword.External
    ∷ keyword.Confluent ∷ keyword.Part ∷ keyword.Link ∷ keyword.Itself ∷ keyword.If ∷ keyword.Else ∷ keyword.For ∷ keyword.Add
    ∷ keyword.To ∷ keyword.Drop ∷ keyword.From ∷ keyword.Send ∷ keyword.Goto ∷ keyword.True ∷ keyword.False ∷ keyword.Not
    ∷ keyword.And ∷ keyword.Or ∷ keyword.Elapsed ∷ keyword.Size ∷ keyword.Sum ∷ keyword.Least ∷ keyword.Most ∷ keyword.Times
    ∷ keyword.Version ∷ keyword.Queue ∷ keyword.Push ∷ keyword.Pop ∷ keyword.Front ∷ keyword.Const ∷ keyword.Each ∷ keyword.When ∷ []

symbols : List Symbol
symbols =
    symbol.Assign ∷ symbol.Arrow ∷ symbol.Range ∷ symbol.Unequal ∷ symbol.AtMost ∷ symbol.AtLeast ∷ symbol.OpenBrace
    ∷ symbol.CloseBrace ∷ symbol.OpenParen ∷ symbol.CloseParen ∷ symbol.Semicolon ∷ symbol.Colon ∷ symbol.Comma ∷ symbol.Dot
    ∷ symbol.Equal ∷ symbol.Less ∷ symbol.Greater ∷ symbol.Plus ∷ symbol.Minus ∷ symbol.Star ∷ symbol.Slash ∷ symbol.Percent
    ∷ []

keyword_again : (k : Keyword) → get_or keywords (keyword_number k) keyword.Atomic ≡ k
unfolding keywords
keyword_again keyword.Atomic = refl
keyword_again keyword.Coupled = refl
keyword_again keyword.Root = refl
keyword_again keyword.In = refl
keyword_again keyword.Out = refl
keyword_again keyword.Var = refl
keyword_again keyword.Flag = refl
keyword_again keyword.Bag = refl
keyword_again keyword.Phases = refl
keyword_again keyword.Start = refl
keyword_again keyword.Hold = refl
keyword_again keyword.Forever = refl
keyword_again keyword.Output = refl
keyword_again keyword.Internal = refl
keyword_again keyword.External = refl
keyword_again keyword.Confluent = refl
keyword_again keyword.Part = refl
keyword_again keyword.Link = refl
keyword_again keyword.Itself = refl
keyword_again keyword.If = refl
keyword_again keyword.Else = refl
keyword_again keyword.For = refl
keyword_again keyword.Add = refl
keyword_again keyword.To = refl
keyword_again keyword.Drop = refl
keyword_again keyword.From = refl
keyword_again keyword.Send = refl
keyword_again keyword.Goto = refl
keyword_again keyword.True = refl
keyword_again keyword.False = refl
keyword_again keyword.Not = refl
keyword_again keyword.And = refl
keyword_again keyword.Or = refl
keyword_again keyword.Elapsed = refl
keyword_again keyword.Size = refl
keyword_again keyword.Sum = refl
keyword_again keyword.Least = refl
keyword_again keyword.Most = refl
keyword_again keyword.Times = refl
keyword_again keyword.Version = refl
keyword_again keyword.Queue = refl
keyword_again keyword.Push = refl
keyword_again keyword.Pop = refl
keyword_again keyword.Front = refl
keyword_again keyword.Const = refl
keyword_again keyword.Each = refl
keyword_again keyword.When = refl

symbol_again : (s : Symbol) → get_or symbols (symbol_number s) symbol.Assign ≡ s
unfolding symbols
symbol_again symbol.Assign = refl
symbol_again symbol.Arrow = refl
symbol_again symbol.Range = refl
symbol_again symbol.Unequal = refl
symbol_again symbol.AtMost = refl
symbol_again symbol.AtLeast = refl
symbol_again symbol.OpenBrace = refl
symbol_again symbol.CloseBrace = refl
symbol_again symbol.OpenParen = refl
symbol_again symbol.CloseParen = refl
symbol_again symbol.Semicolon = refl
symbol_again symbol.Colon = refl
symbol_again symbol.Comma = refl
symbol_again symbol.Dot = refl
symbol_again symbol.Equal = refl
symbol_again symbol.Less = refl
symbol_again symbol.Greater = refl
symbol_again symbol.Plus = refl
symbol_again symbol.Minus = refl
symbol_again symbol.Star = refl
symbol_again symbol.Slash = refl
symbol_again symbol.Percent = refl

same_keyword : (a b : Keyword) → eqb (keyword_number a) (keyword_number b) ≡ true → a ≡ b
same_keyword a b e = sym (keyword_again a) ∙ ap (λ (n : ℕ). get_or keywords n keyword.Atomic) (eqb-true _ _ e) ∙ keyword_again b

same_symbol : (a b : Symbol) → eqb (symbol_number a) (symbol_number b) ≡ true → a ≡ b
same_symbol a b e = sym (symbol_again a) ∙ ap (λ (n : ℕ). get_or symbols n symbol.Assign) (eqb-true _ _ e) ∙ symbol_again b

pub same_kind-true : (a b : TokenKind) → same_kind a b ≡ true → a ≡ b
same_kind-true (kind.Name a) (kind.Name b) e = ap kind.Name (eqb-true _ _ e)
same_kind-true (kind.Number a) (kind.Number b) e = ap kind.Number (eqb-true _ _ e)
same_kind-true (kind.Keyword a) (kind.Keyword b) e = ap kind.Keyword (same_keyword a b e)
same_kind-true (kind.Symbol a) (kind.Symbol b) e = ap kind.Symbol (same_symbol a b e)
same_kind-true _ _ e = absurd cc

pub same_kind-same : (a : TokenKind) → same_kind a a ≡ true
same_kind-same (kind.Name a) = eq-eqb a a refl
same_kind-same (kind.Number a) = eq-eqb a a refl
same_kind-same (kind.Keyword a) = eq-eqb _ _ refl
same_kind-same (kind.Symbol a) = eq-eqb _ _ refl

is_false : (x : Bool) → (x ≡ true → ⊥) → false ≡ x
is_false true h = absurd (h refl)
is_false false h = refl

-- a test that answers whether two kinds are one
pub same_kind_decided : (r : Bool) (a b : TokenKind) → IsTrue r ↔ (a ≡ b) → r ≡ same_kind a b
same_kind_decided true a b h = sym (ap (same_kind a) (sym (h.0 refl)) ∙ same_kind-same a)
same_kind_decided false a b h = is_false (same_kind a b) (λ e. false≢true (h.1 (same_kind-true a b e)))

-- ---- Single tokens

-- the kind that a spelling asks for
abbrev pub kind_of : Spelled → TokenKind
kind_of (At k offset) = k
kind_of (Anywhere k) = k

abbrev pub AtOffset : Spelled → ℕ → Type 0
AtOffset (At k offset) n = n ≡ offset
AtOffset (Anywhere k) n = Unit {0}

-- what is known of tokens that begin with a token so spelled
pub record First (s : Spelled) (ss : List Spelled) (ts rest : List Token) : Type 0 where
  pub behind : List Token
  pub after : after (kind_of s) ts ≡ Ok behind
  pub begins : (k : TokenKind) → begins k ts ≡ same_kind (kind_of s) k
  pub begins_name : begins_name ts ≡ is_name (kind_of s)
  pub offset : AtOffset s (offset_at ts)
  pub spelled : Spans ss behind rest

front : (s : Spelled) (ss : List Spelled) (ts rest : List Token) → Spells (s ∷ ss) ts rest → First s ss ts rest
unfolding after choose offset_at
front s ss [] rest h = absurd h
front (At k offset) ss (t ∷ ts) rest h = record {
  behind = ts;
  after = rw (h.0.0, same_kind-same k) refl;
  begins = λ j. ap (λ (i : TokenKind). same_kind i j) h.0.0;
  begins_name = ap is_name h.0.0;
  offset = h.0.1;
  spelled = record { spells = h.1 };
}
front (Anywhere k) ss (t ∷ ts) rest h = record {
  behind = ts;
  after = rw (h.0, same_kind-same k) refl;
  begins = λ j. ap (λ (i : TokenKind). same_kind i j) h.0;
  begins_name = ap is_name h.0;
  offset = tt;
  spelled = record { spells = h.1 };
}

pub first : {s : Spelled} {ss : List Spelled} {ts rest : List Token} → Spans (s ∷ ss) ts rest → First s ss ts rest
first {s = s} {ss = ss} {ts = ts} {rest = rest} h = front s ss ts rest h.spells

-- the tokens begin with what the reader reads as this
pub record FirstRead {A : Type 0} (reader : Reader A) (x : A) (ss : List Spelled) (ts rest : List Token) : Type 0 where
  pub behind : List Token
  pub read : reader ts ≡ Ok (x, behind)
  pub spelled : Spans ss behind rest

name_front : (n : Name) (ss : List Spelled) (ts rest : List Token) → Spells (name n ∷ ss) ts rest → FirstRead name_at n ss ts rest
unfolding name_at
name_front n ss [] rest h = absurd h
name_front n ss (t ∷ ts) rest h = record { behind = ts; read = rw (h.0.0, h.0.1) refl; spelled = record { spells = h.1 } }

pub first_name : (n : Name) {ss : List Spelled} {ts rest : List Token} → Spans (name n ∷ ss) ts rest → FirstRead name_at n ss ts rest
first_name n {ss = ss} {ts = ts} {rest = rest} h = name_front n ss ts rest h.spells

number_front : (n : Number) (ss : List Spelled) (ts rest : List Token) → Spells (number n ∷ ss) ts rest → FirstRead number_at n ss ts rest
unfolding number_at
number_front n ss [] rest h = absurd h
number_front n ss (t ∷ ts) rest h = record { behind = ts; read = rw (h.0.0, h.0.1) refl; spelled = record { spells = h.1 } }

pub first_number : (n : Number) {ss : List Spelled} {ts rest : List Token} → Spans (number n ∷ ss) ts rest
    → FirstRead number_at n ss ts rest
first_number n {ss = ss} {ts = ts} {rest = rest} h = number_front n ss ts rest h.spells

pub first_truth : (b : Bool) {ss : List Spelled} {ts rest : List Token} → Spans (word (truth_word b) ∷ ss) ts rest
    → FirstRead truth_at b ss ts rest
unfolding truth_at read_then
first_truth true h =
    let f = first h in
    record { behind = f.behind; read = here _ (f.begins _) (rw f.after refl); spelled = f.spelled }
first_truth false h =
    let f = first h in
    record { behind = f.behind; read = past _ (f.begins _) (rw f.after refl); spelled = f.spelled }

pub first_call : (c : BagCall) {ss : List Spelled} {ts rest : List Token} → Spans (word (call_word c) ∷ ss) ts rest
    → FirstRead call_word_at c ss ts rest
unfolding call_word_at word_of_at read_then
first_call call.Size h =
    let f = first h in
    record { behind = f.behind; read = here _ (f.begins _) (rw f.after refl); spelled = f.spelled }
first_call call.Sum h =
    let f = first h in
    record { behind = f.behind; read = past _ (f.begins _) (here _ (f.begins _) (rw f.after refl)); spelled = f.spelled }
first_call call.Least h =
    let f = first h in
    let b = f.begins in
    record { behind = f.behind; read = past _ (b _) (past _ (b _) (here _ (b _) (rw f.after refl))); spelled = f.spelled }
first_call call.Most h =
    let f = first h in
    let b = f.begins in
    record { behind = f.behind; read = past _ (b _) (past _ (b _) (past _ (b _) (here _ (b _) (rw f.after refl)))); spelled = f.spelled }
first_call call.Front h =
    let f = first h in
    let b = f.begins in
    record { behind = f.behind; read = past _ (b _) (past _ (b _) (past _ (b _) (past _ (b _) (rw f.after refl)))); spelled = f.spelled }

unplaced_spells : (k : TokenKind) (offset : ℕ) (ss : List Spelled) (ts rest : List Token) → Spells (At k offset ∷ ss) ts rest
    → Spells (Anywhere k ∷ ss) ts rest
unplaced_spells k offset ss [] rest h = absurd h
unplaced_spells k offset ss (t ∷ ts) rest h = (h.0.0, h.1)

-- a token whose offset is kept is one that stands anywhere
pub unplaced : {k : TokenKind} {offset : ℕ} {ss : List Spelled} {ts rest : List Token} → Spans (At k offset ∷ ss) ts rest
    → Spans (Anywhere k ∷ ss) ts rest
unplaced {k = k} {offset = offset} {ss = ss} {ts = ts} {rest = rest} h = record { spells = unplaced_spells k offset ss ts rest h.spells }

-- ---- The other way: a token that was read, before what is spelled

after_spells : (k : TokenKind) (ss : List Spelled) (ts mid rest : List Token) → after k ts ≡ Ok mid → Spells ss mid rest
    → Spells (At k (offset_at ts) ∷ ss) ts rest
unfolding after offset_at
after_spells k ss [] mid rest e h = absurd cc
after_spells k ss (t ∷ ts) mid rest e h =
    elim (chosen _ _ _ _ e) [
      | inl p ↦ ((same_kind-true _ _ p.0, refl), subst (λ (x : List Token). Spells ss x rest) (sym (ok_is _ _ p.1)) h)
      | inr p ↦ absurd (err_ok _ _ p.1)
    ]

pub after_spans_at : {k : TokenKind} {ss : List Spelled} {ts mid rest : List Token} → after k ts ≡ Ok mid → Spans ss mid rest
    → Spans (At k (offset_at ts) ∷ ss) ts rest
after_spans_at {k = k} {ss = ss} {ts = ts} {mid = mid} {rest = rest} e h = record { spells = after_spells k ss ts mid rest e h.spells }

pub after_spans : {k : TokenKind} {ss : List Spelled} {ts mid rest : List Token} → after k ts ≡ Ok mid → Spans ss mid rest
    → Spans (Anywhere k ∷ ss) ts rest
after_spans e h = unplaced (after_spans_at e h)

name_of-name : (k : TokenKind) (offset : ℕ) (ts : List Token) (x : Name × List Token) → name_of k offset ts ≡ Ok x
    → (k ≡ kind.Name x.0.number) × (offset ≡ x.0.offset) × (ts ≡ x.1)
name_of-name (kind.Name n) offset ts x e =
    let p = ok_is _ _ e in
    let number = ap (λ (y : Name × List Token). kind.Name y.0.number) p in
    (number, ap (λ (y : Name × List Token). y.0.offset) p, ap (λ (y : Name × List Token). y.1) p)
name_of-name _ offset ts x e = absurd (err_ok _ _ e)

name_spells : (ss : List Spelled) (ts rest : List Token) (x : Name × List Token) → name_at ts ≡ Ok x → Spells ss x.1 rest
    → Spells (name x.0 ∷ ss) ts rest
unfolding name_at
name_spells ss [] rest x e h = absurd (err_ok _ _ e)
name_spells ss (t ∷ ts) rest x e h =
    let p = name_of-name t.kind t.offset ts x e in ((p.0, p.1), subst (λ (y : List Token). Spells ss y rest) (sym p.2) h)

pub name_spans : {ss : List Spelled} {ts rest : List Token} {x : Name × List Token} → name_at ts ≡ Ok x → Spans ss x.1 rest
    → Spans (name x.0 ∷ ss) ts rest
name_spans {ss = ss} {ts = ts} {rest = rest} {x = x} e h = record { spells = name_spells ss ts rest x e h.spells }

number_of-number : (k : TokenKind) (offset : ℕ) (ts : List Token) (x : Number × List Token) → number_of k offset ts ≡ Ok x
    → (k ≡ kind.Number x.0.value) × (offset ≡ x.0.offset) × (ts ≡ x.1)
number_of-number (kind.Number n) offset ts x e =
    let p = ok_is _ _ e in
    let value = ap (λ (y : Number × List Token). kind.Number y.0.value) p in
    (value, ap (λ (y : Number × List Token). y.0.offset) p, ap (λ (y : Number × List Token). y.1) p)
number_of-number _ offset ts x e = absurd (err_ok _ _ e)

number_spells : (ss : List Spelled) (ts rest : List Token) (x : Number × List Token) → number_at ts ≡ Ok x → Spells ss x.1 rest
    → Spells (number x.0 ∷ ss) ts rest
unfolding number_at
number_spells ss [] rest x e h = absurd (err_ok _ _ e)
number_spells ss (t ∷ ts) rest x e h =
    let p = number_of-number t.kind t.offset ts x e in ((p.0, p.1), subst (λ (y : List Token). Spells ss y rest) (sym p.2) h)

pub number_spans : {ss : List Spelled} {ts rest : List Token} {x : Number × List Token} → number_at ts ≡ Ok x → Spans ss x.1 rest
    → Spans (number x.0 ∷ ss) ts rest
number_spans {ss = ss} {ts = ts} {rest = rest} {x = x} e h = record { spells = number_spells ss ts rest x e h.spells }

-- what is known of a word that was read as this, before what is spelled
abbrev WordSpans : {A : Type 0} → (A → Keyword) → List Spelled → List Token → List Token → A × List Token → Type 0
WordSpans word_of ss ts rest x = Spans ss x.1 rest → Spans (word_at (word_of x.0) (offset_at ts) ∷ ss) ts rest

pub truth_spans : {ss : List Spelled} {ts rest : List Token} {x : Bool × List Token} → truth_at ts ≡ Ok x
    → WordSpans truth_word ss ts rest x
unfolding truth_at
truth_spans {ss = ss} {ts = ts} {rest = rest} e =
    elim (chosen _ _ _ _ e) [
      | inl p ↦ let a = then_ok _ _ _ p.1 in subst (WordSpans truth_word ss ts rest) (ok_is _ _ a.2) (after_spans_at a.1)
      | inr p ↦ let a = then_ok _ _ _ p.1 in subst (WordSpans truth_word ss ts rest) (ok_is _ _ a.2) (after_spans_at a.1)
    ]

word_of_spans : (c : BagCall) (ss : List Spelled) (ts rest : List Token) (x : BagCall × List Token) → word_of_at c ts ≡ Ok x
    → WordSpans call_word ss ts rest x
unfolding word_of_at
word_of_spans c ss ts rest x e = let a = then_ok _ _ _ e in subst (WordSpans call_word ss ts rest) (ok_is _ _ a.2) (after_spans_at a.1)

pub call_spans : {ss : List Spelled} {ts rest : List Token} {x : BagCall × List Token} → call_word_at ts ≡ Ok x
    → WordSpans call_word ss ts rest x
unfolding call_word_at
call_spans {ss = ss} {ts = ts} {rest = rest} {x = x} e =
    elim (chosen _ _ _ _ e) [
      | inl p ↦ word_of_spans call.Size ss ts rest x p.1
      | inr p ↦ elim (chosen _ _ _ _ p.1) [
        | inl q ↦ word_of_spans call.Sum ss ts rest x q.1
        | inr q ↦ elim (chosen _ _ _ _ q.1) [
          | inl r ↦ word_of_spans call.Least ss ts rest x r.1
          | inr r ↦ elim (chosen _ _ _ _ r.1) [
            | inl s ↦ word_of_spans call.Most ss ts rest x s.1
            | inr s ↦ word_of_spans call.Front ss ts rest x s.1
          ]
        ]
      ]
    ]
