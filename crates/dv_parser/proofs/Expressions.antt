-- What is read as an expression is spelled so, and what is spelled so is read.
use Rattle.std.proofs.Common.{◌≡◌, ℕ, zero, suc, ◌+◌, ◌-◌, ◌<◌, ◌≤◌, Bool, true, false, ltb, leb, ◌&&◌, List, [], ◌∷◌, Option}
use Rattle.std.proofs.Common.{Some, None, Ok, Err, refl, ap, subst, ◌∙◌, inl, inr, arith}
use Rattle.std.specs.Prelude.{IfSome}
use Rattle.std.proofs.lemmas.Bool.{ltb-true, leb-true, lt-ltb, lt-leb, le-leb, le-ltb}
use Rattle.dv_lex.specs.declared.token.Token.{Token}
use Rattle.dv_lex.specs.declared.token.TokenKind.{TokenKind}
use Rattle.dv_lex.specs.declared.token.TokenKind.TheVariants as kind
use Rattle.dv_lex.specs.declared.token.Keyword.{Keyword}
use Rattle.dv_lex.specs.declared.token.Keyword.TheVariants as keyword
use Rattle.dv_lex.specs.declared.token.Symbol.{Symbol}
use Rattle.dv_lex.specs.declared.token.Symbol.TheVariants as symbol
use Rattle.dv_syntax.specs.declared.tree.Name.{Name}
use Rattle.dv_syntax.specs.declared.tree.Number.{Number}
use Rattle.dv_syntax.specs.declared.tree.Prefix.{Prefix}
use Rattle.dv_syntax.specs.declared.tree.Prefix.TheVariants as prefix
use Rattle.dv_syntax.specs.declared.tree.Operator.{Operator}
use Rattle.dv_syntax.specs.declared.tree.Operator.TheVariants as operator
use Rattle.dv_syntax.specs.declared.tree.BagCall.{BagCall}
use Rattle.dv_syntax.specs.declared.tree.BagCall.TheVariants as call
use Rattle.dv_syntax.specs.Trees.{Expression, Literal, TruthValue, Named, Parens, Prefixed, Binary, Call, Elapsed, Times}
use Rattle.dv_syntax.specs.Grammar.{Spelled, Anywhere, Spells, sign, word_at, name, number, Limits, truth_word, call_word}
use Rattle.dv_syntax.specs.Grammar.{prefix_rank, operator_kind, operator_rank, left_rank, rank, depth, IsWellFormed}
use Rattle.dv_syntax.specs.Grammar.{IsExpression, expression_spelling}
use Rattle.dv_parser.specs.Reading.{Obstacle, TooDeep, Read, read_then, within, offset_at, choose, maybe, begins, begins_truth}
use Rattle.dv_parser.specs.Reading.{Reader, begins_call, keyword_operator, symbol_operator, operator_of, goes_on, operator_at}
use Rattle.dv_parser.specs.Reading.{call_at, elapsed_at, leaf_at, parens_at, prefixed_at, times_at, primary_at, turns}
use Rattle.dv_parser.specs.Reading.{expression_at}
use Rattle.dv_parser.proofs.Tokens.{then_ok, then_is, here, past, chosen, maybe_is, ok_is, err_ok, some_is, none_some}
use Rattle.dv_parser.proofs.Tokens.{same_after, Spans, nothing, span_end, then_spans, split, first, first_name, first_number}
use Rattle.dv_parser.proofs.Tokens.{first_truth, first_call, unplaced, after_spans, after_spans_at, name_spans, number_spans}
use Rattle.dv_parser.proofs.Tokens.{truth_spans, call_spans}
use Rattle.dv_parser.proofs.Readers.{IsReader}

-- readers of operands, by the level
abbrev Operands : Type 0
Operands = ℕ → Reader Expression

-- an expression that was read, and what is known of it
pub record IsRead (limit level : ℕ) (e : Expression) (ts rest : List Token) : Type 0 where
  pub spelled : Spans (expression_spelling e) ts rest
  pub formed : IsWellFormed e
  pub within : depth e ≤ limit
  pub ranked : level ≤ rank e

abbrev pub Reads : (limit level : ℕ) → List Token → Expression × List Token → Type 0
Reads limit level ts x = IsRead limit level x.0 ts x.1

abbrev IsSound : Operands → ℕ → Type 0
IsSound operand limit =
    (level : ℕ) (ts : List Token) (x : Expression × List Token) → level ≤ 7 → operand level ts ≡ Ok x → Reads limit level ts x

prefix_rank-le : (o : Prefix) → prefix_rank o ≤ 7
prefix_rank-le prefix.Minus = omega arith
prefix_rank-le prefix.Not = omega arith

-- what is no deeper than one
leaf_is : {limit level : ℕ} {e : Expression} {ts rest : List Token} → level ≤ 7 → depth e ≡ 1 → rank e ≡ 8 → IsWellFormed e
    → Spans (expression_spelling e) ts rest → IsRead (suc limit) level e ts rest
leaf_is low deep ranked formed spelled =
    record { spelled = spelled; formed = formed; within = omega (arith, deep); ranked = omega (arith, low, ranked) }

call_read : (limit level : ℕ) → level ≤ 7 → (ts : List Token) (x : Expression × List Token) → call_at ts ≡ Ok x
    → Reads (suc limit) level ts x
unfolding call_at
call_read limit level low ts x e =
    let a = then_ok _ _ _ e in
    let b = then_ok _ _ _ a.2 in
    let c = then_ok _ _ _ b.2 in
    let d = then_ok _ _ _ c.2 in
    subst (Reads (suc limit) level ts) (ok_is _ _ d.2)
    (leaf_is low refl refl tt (call_spans a.1 (after_spans b.1 (name_spans c.1 (after_spans d.1 nothing)))))

elapsed_read : (limit level : ℕ) → level ≤ 7 → (ts : List Token) (x : Expression × List Token) → elapsed_at ts ≡ Ok x
    → Reads (suc limit) level ts x
unfolding elapsed_at
elapsed_read limit level low ts x e =
    let a = then_ok _ _ _ e in
    subst (Reads (suc limit) level ts) (ok_is _ _ a.2) (leaf_is low refl refl tt (after_spans_at a.1 nothing))

leaf_read : (limit level : ℕ) → level ≤ 7 → (ts : List Token) (x : Expression × List Token) → leaf_at ts ≡ Ok x
    → Reads (suc limit) level ts x
unfolding leaf_at
leaf_read limit level low ts x e =
    elim (chosen _ _ _ _ e) [
      | inl p ↦
          let a = then_ok _ _ _ p.1 in
          subst (Reads (suc limit) level ts) (ok_is _ _ a.2) (leaf_is low refl refl tt (name_spans a.1 nothing))
      | inr p ↦ elim (chosen _ _ _ _ p.1) [
        | inl q ↦
            let a = then_ok _ _ _ q.1 in
            subst (Reads (suc limit) level ts) (ok_is _ _ a.2) (leaf_is low refl refl tt (truth_spans a.1 nothing))
        | inr q ↦ elim (chosen _ _ _ _ q.1) [
          | inl r ↦ call_read limit level low ts x r.1
          | inr r ↦ elim (chosen _ _ _ _ r.1) [
            | inl u ↦ elapsed_read limit level low ts x u.1
            | inr u ↦
                let a = then_ok _ _ _ u.1 in
                subst (Reads (suc limit) level ts) (ok_is _ _ a.2) (leaf_is low refl refl tt (number_spans a.1 nothing))
          ]
        ]
      ]
    ]

pub within_ok : {A : Type 0} (limit offset : ℕ) (read : Read A) (x : A) → within limit offset read ≡ Ok x → read ≡ Ok x
unfolding within
within_ok zero offset read x e = absurd (err_ok _ _ e)
within_ok (suc limit) offset read x e = e

pub within_room : {A : Type 0} (limit offset : ℕ) (read : Read A) (x : A) → within limit offset read ≡ Ok x → 0 < limit
unfolding within
within_room zero offset read x e = absurd (err_ok _ _ e)
within_room (suc limit) offset read x e = omega arith

pub within_positive : {A : Type 0} (limit offset : ℕ) (read : Read A) → 0 < limit → within limit offset read ≡ read
unfolding within
within_positive zero offset read lt = absurd (omega (arith, lt))
within_positive (suc limit) offset read lt = refl

parens_read : (operand : Operands) (limit level : ℕ) → IsSound operand limit → level ≤ 7 → (ts : List Token)
    (x : Expression × List Token) → parens_at operand limit ts ≡ Ok x → Reads (suc limit) level ts x
unfolding parens_at
parens_read operand limit level sound low ts x e =
    let a = then_ok _ _ _ e in
    let b = then_ok _ _ _ a.2 in
    let c = then_ok _ _ _ b.2 in
    let r = sound 0 a.0 b.0 (omega arith) (within_ok _ _ _ _ b.1) in
    subst (Reads (suc limit) level ts) (ok_is _ _ c.2) (record {
      spelled = after_spans_at a.1 (then_spans r.spelled (after_spans c.1 nothing));
      formed = r.formed;
      within = omega (arith, r.within);
      ranked = omega (arith, low);
    })

prefixed_read : (o : Prefix) (operand : Operands) (limit level : ℕ) → IsSound operand limit → level ≤ prefix_rank o → (ts : List Token)
    (x : Expression × List Token) → prefixed_at o operand limit ts ≡ Ok x → Reads (suc limit) level ts x
unfolding prefixed_at
prefixed_read o operand limit level sound low ts x e =
    let a = then_ok _ _ _ e in
    let b = then_ok _ _ _ a.2 in
    let r = sound (prefix_rank o) a.0 b.0 (prefix_rank-le o) (within_ok _ _ _ _ b.1) in
    subst (Reads (suc limit) level ts) (ok_is _ _ b.2) (record {
      spelled = after_spans_at a.1 r.spelled;
      formed = (r.formed, r.ranked);
      within = omega (arith, r.within);
      ranked = low;
    })

times_read : (operand : Operands) (limit level : ℕ) → IsSound operand limit → level ≤ 7 → (ts : List Token) (x : Expression × List Token)
    → times_at operand limit ts ≡ Ok x → Reads (suc limit) level ts x
unfolding times_at
times_read operand limit level sound low ts x e =
    let a = then_ok _ _ _ e in
    let b = then_ok _ _ _ a.2 in
    let c = then_ok _ _ _ b.2 in
    let d = then_ok _ _ _ c.2 in
    let f = then_ok _ _ _ d.2 in
    let g = then_ok _ _ _ f.2 in
    let r = sound 0 b.0 c.0 (omega arith) c.1 in
    let behind = after_spans d.1 (name_spans f.1 (after_spans g.1 nothing)) in
    subst (Reads (suc limit) level ts) (ok_is _ _ g.2) (record {
      spelled = after_spans_at a.1 (after_spans (within_ok _ _ _ _ b.1) (then_spans r.spelled behind));
      formed = r.formed;
      within = omega (arith, r.within);
      ranked = omega (arith, low);
    })

pub and_true : (a b : Bool) → (a && b) ≡ true → (a ≡ true) × (b ≡ true)
and_true true b e = (refl, e)
and_true false b e = absurd cc

primary_read : (operand : Operands) (limit level : ℕ) → IsSound operand limit → level ≤ 7 → (ts : List Token)
    (x : Expression × List Token) → primary_at operand limit level ts ≡ Ok x → Reads (suc limit) level ts x
unfolding primary_at
primary_read operand limit level sound low ts x e =
    elim (chosen _ _ _ _ e) [
      | inl p ↦ parens_read operand limit level sound low ts x p.1
      | inr p ↦ elim (chosen _ _ _ _ p.1) [
        | inl t ↦ times_read operand limit level sound low ts x t.1
        | inr t ↦ elim (chosen _ _ _ _ t.1) [
          | inl q ↦ prefixed_read prefix.Minus operand limit level sound low ts x q.1
          | inr q ↦ elim (chosen _ _ _ _ q.1) [
            | inl r ↦ prefixed_read prefix.Not operand limit level sound (leb-true _ _ (and_true _ _ r.0).1) ts x r.1
            | inr r ↦ leaf_read limit level low ts x r.1
          ]
        ]
      ]
    ]

keyword_operator-is : (k : Keyword) (o : Operator) → keyword_operator k ≡ Some o → kind.Keyword k ≡ operator_kind o
keyword_operator-is keyword.Or o e = ap operator_kind (some_is _ _ e)
keyword_operator-is keyword.And o e = ap operator_kind (some_is _ _ e)
keyword_operator-is _ o e = absurd (none_some _ e)

symbol_operator-is : (s : Symbol) (o : Operator) → symbol_operator s ≡ Some o → kind.Symbol s ≡ operator_kind o
symbol_operator-is symbol.Plus o e = ap operator_kind (some_is _ _ e)
symbol_operator-is symbol.Minus o e = ap operator_kind (some_is _ _ e)
symbol_operator-is symbol.Star o e = ap operator_kind (some_is _ _ e)
symbol_operator-is symbol.Slash o e = ap operator_kind (some_is _ _ e)
symbol_operator-is symbol.Percent o e = ap operator_kind (some_is _ _ e)
symbol_operator-is symbol.Equal o e = ap operator_kind (some_is _ _ e)
symbol_operator-is symbol.Unequal o e = ap operator_kind (some_is _ _ e)
symbol_operator-is symbol.Less o e = ap operator_kind (some_is _ _ e)
symbol_operator-is symbol.AtMost o e = ap operator_kind (some_is _ _ e)
symbol_operator-is symbol.Greater o e = ap operator_kind (some_is _ _ e)
symbol_operator-is symbol.AtLeast o e = ap operator_kind (some_is _ _ e)
symbol_operator-is _ o e = absurd (none_some _ e)

operator_of-is : (k : TokenKind) (o : Operator) → operator_of k ≡ Some o → k ≡ operator_kind o
unfolding operator_of
operator_of-is (kind.Keyword k) o e = keyword_operator-is k o e
operator_of-is (kind.Symbol s) o e = symbol_operator-is s o e
operator_of-is _ o e = absurd (none_some _ e)

-- what an operator that goes on with an expression tells
record IsNext (level : ℕ) (left : Expression) (ts : List Token) (o : Operator) (rest : List Token) : Type 0 where
  pub spelled : Spans (Anywhere (operator_kind o) ∷ []) ts rest
  pub above : level ≤ operator_rank o
  pub fits : left_rank o ≤ rank left

operator_at-next : (level : ℕ) (left : Expression) (ts : List Token) (x : Operator × List Token) → operator_at level left ts ≡ Some x
    → IsNext level left ts x.0 x.1
unfolding operator_at goes_on
operator_at-next level left [] x e = absurd (none_some _ e)
operator_at-next level left (t ∷ ts) x e =
    elim (maybe_is _ _ _ _ e) [
      | inl a ↦ absurd (none_some _ a.1)
      | inr a ↦ elim (chosen _ _ _ _ a.2) [
        | inl p ↦
            let both = and_true _ _ p.0 in
            subst (λ (y : Operator × List Token). IsNext level left (t ∷ ts) y.0 y.1) (some_is _ _ p.1)
            (record {
              spelled = record { spells = (operator_of-is t.kind a.0 a.1, refl) };
              above = leb-true _ _ both.0;
              fits = leb-true _ _ both.1;
            })
        | inr p ↦ absurd (none_some _ p.1)
      ]
    ]

pub operator_rank-le : (o : Operator) → operator_rank o ≤ 6
operator_rank-le operator.Or = omega arith
operator_rank-le operator.And = omega arith
operator_rank-le operator.Add = omega arith
operator_rank-le operator.Subtract = omega arith
operator_rank-le operator.Multiply = omega arith
operator_rank-le operator.Divide = omega arith
operator_rank-le operator.Remainder = omega arith
operator_rank-le operator.Equal = omega arith
operator_rank-le operator.Unequal = omega arith
operator_rank-le operator.Less = omega arith
operator_rank-le operator.AtMost = omega arith
operator_rank-le operator.Greater = omega arith
operator_rank-le operator.AtLeast = omega arith

operator_rank-left : (o : Operator) → operator_rank o ≤ left_rank o
operator_rank-left operator.Or = omega arith
operator_rank-left operator.And = omega arith
operator_rank-left operator.Add = omega arith
operator_rank-left operator.Subtract = omega arith
operator_rank-left operator.Multiply = omega arith
operator_rank-left operator.Divide = omega arith
operator_rank-left operator.Remainder = omega arith
operator_rank-left operator.Equal = omega arith
operator_rank-left operator.Unequal = omega arith
operator_rank-left operator.Less = omega arith
operator_rank-left operator.AtMost = omega arith
operator_rank-left operator.Greater = omega arith
operator_rank-left operator.AtLeast = omega arith

turns_read : (operand : Operands) (limit : ℕ) → IsSound operand limit → (more level : ℕ) (left : Expression) (ts mid : List Token)
    (x : Expression × List Token)
    → IsRead (suc limit) level left ts mid → turns operand (suc limit) more level left mid ≡ Ok x → Reads (suc limit) level ts x
turns_read operand limit sound zero level left ts mid x so_far e =
    elim (maybe_is _ _ _ _ e) [
      | inl p ↦ subst (Reads (suc limit) level ts) (ok_is _ _ p.1) so_far
      | inr p ↦ absurd (err_ok _ _ p.2)
    ]
turns_read operand limit sound (suc more) level left ts mid x so_far e =
    elim (maybe_is _ _ _ _ e) [
      | inl p ↦ subst (Reads (suc limit) level ts) (ok_is _ _ p.1) so_far
      | inr p ↦
          let o = p.0 in
          let next = operator_at-next level left mid o p.1 in
          elim (chosen _ _ _ _ p.2) [
            | inl q ↦
                let shallow : depth left < suc limit = ltb-true _ _ q.0 in
                let a = then_ok _ _ _ q.1 in
                let right = a.0 in
                let r = sound (operator_rank o.0 + 1) o.1 right (omega (arith, operator_rank-le o.0)) a.1 in
                turns_read operand limit sound more level (Binary o.0 left right.0) ts right.1 x
                (record {
                  spelled = then_spans so_far.spelled (then_spans next.spelled r.spelled);
                  formed = (so_far.formed, r.formed, next.fits, omega (arith, r.ranked));
                  within = omega (arith, r.within, shallow);
                  ranked = next.above;
                }) a.2
            | inr q ↦ absurd (err_ok _ _ q.1)
          ]
    ]

pub expression_read : (limit level : ℕ) (ts : List Token) (x : Expression × List Token) → level ≤ 7 → expression_at limit level ts ≡ Ok x
    → Reads limit level ts x
unfolding expression_at
expression_read zero level ts x low e = absurd (err_ok _ _ e)
expression_read (suc limit) level ts x low e =
    let a = then_ok _ _ _ e in
    let sound : IsSound (expression_at limit) limit = λ l us y h f. expression_read limit l us y h f in
    turns_read (expression_at limit) limit sound (suc limit) level a.0.0 ts a.0.1 x
    (primary_read (expression_at limit) limit level sound low ts a.0 a.1) a.2

-- at any level
primary_within : (operand : Operands) (limit level : ℕ) → IsSound operand limit → (ts : List Token) (x : Expression × List Token)
    → primary_at operand limit level ts ≡ Ok x → depth x.0 ≤ suc limit
unfolding primary_at
primary_within operand limit level sound ts x e =
    elim (chosen _ _ _ _ e) [
      | inl p ↦ (parens_read operand limit 0 sound (omega arith) ts x p.1).within
      | inr p ↦ elim (chosen _ _ _ _ p.1) [
        | inl t ↦ (times_read operand limit 0 sound (omega arith) ts x t.1).within
        | inr t ↦ elim (chosen _ _ _ _ t.1) [
          | inl q ↦ (prefixed_read prefix.Minus operand limit 0 sound (omega arith) ts x q.1).within
          | inr q ↦ elim (chosen _ _ _ _ q.1) [
            | inl r ↦ (prefixed_read prefix.Not operand limit 0 sound (omega arith) ts x r.1).within
            | inr r ↦ (leaf_read limit 0 (omega arith) ts x r.1).within
          ]
        ]
      ]
    ]

pub primary_depth : (limit level : ℕ) (ts : List Token) (x : Expression × List Token)
    → primary_at (expression_at limit) limit level ts ≡ Ok x → depth x.0 ≤ suc limit
primary_depth limit level ts x e = primary_within (expression_at limit) limit level (λ l us y h f. expression_read limit l us y h f) ts x e

-- ---- What is spelled so is read

-- no operator above the rank comes first
abbrev pub IsLoose : ℕ → List Token → Type 0
IsLoose r [] = Unit {0}
IsLoose r (t ∷ ts) = IfSome (operator_of t.kind) (λ o. operator_rank o ≤ r)

operator_of-kind : (o : Operator) → operator_of (operator_kind o) ≡ Some o
unfolding operator_of
operator_of-kind operator.Or = refl
operator_of-kind operator.And = refl
operator_of-kind operator.Add = refl
operator_of-kind operator.Subtract = refl
operator_of-kind operator.Multiply = refl
operator_of-kind operator.Divide = refl
operator_of-kind operator.Remainder = refl
operator_of-kind operator.Equal = refl
operator_of-kind operator.Unequal = refl
operator_of-kind operator.Less = refl
operator_of-kind operator.AtMost = refl
operator_of-kind operator.Greater = refl
operator_of-kind operator.AtLeast = refl

-- above what comes first no operator goes on
stops_below : (level : ℕ) (left : Expression) (o : Option Operator) (r : ℕ) (ts : List Token) → IfSome o (λ o. operator_rank o ≤ r)
    → r < level → maybe {B = Option (Operator × List Token)} o None (λ o. choose (goes_on level left o) (Some (o, ts)) None) ≡ None
unfolding maybe goes_on choose
stops_below level left None r ts h lt = refl
stops_below level left (Some o) r ts h lt =
    let low : leb level (operator_rank o) ≡ false = lt-leb _ _ (omega (arith, h)) in
    rw low refl

operator_at-none : (level : ℕ) (left : Expression) (r : ℕ) (ts : List Token) → IsLoose r ts → r < level → operator_at level left ts ≡ None
unfolding operator_at
operator_at-none level left r [] h lt = refl
operator_at-none level left r (t ∷ ts) h lt = stops_below level left (operator_of t.kind) r ts h lt

operator_at-some : (level : ℕ) (left : Expression) (o : Operator) (t : Token) (ts : List Token) → t.kind ≡ operator_kind o
    → level ≤ operator_rank o → left_rank o ≤ rank left → operator_at level left (t ∷ ts) ≡ Some (o, ts)
unfolding operator_at goes_on choose maybe
operator_at-some level left o t ts k above fits =
    let is : operator_of t.kind ≡ Some o = ap operator_of k ∙ operator_of-kind o in
    let a : leb level (operator_rank o) ≡ true = le-leb _ _ above in
    let f : leb (left_rank o) (rank left) ≡ true = le-leb _ _ fits in
    rw (is, a, f) refl

same_choice : {A B : Type 0} (r : Read A) (b : Bool) (o : Obstacle) (f g : A → Read B) → ((x : A) → f x ≡ g x) → choose b (read_then r f)
    (Err o) ≡ choose b (read_then r g) (Err o)
unfolding choose read_then
same_choice (Ok x) true o f g h = h x
same_choice (Err p) true o f g h = refl
same_choice r false o f g h = refl

same_maybe : {A B : Type 0} (o : Option A) (n : B) (f g : A → B) → ((x : A) → f x ≡ g x) → maybe o n f ≡ maybe o n g
unfolding maybe
same_maybe None n f g h = refl
same_maybe (Some x) n f g h = h x

weaker : (o : Option Operator) (r s : ℕ) → r ≤ s → IfSome o (λ o. operator_rank o ≤ r) → IfSome o (λ o. operator_rank o ≤ s)
weaker None r s le h = tt
weaker (Some o) r s le h = omega (arith, h)

-- turns beyond what the limit allows change nothing
same_turns : (operand : Operands) (limit a b level : ℕ) (left : Expression) (ts : List Token) → limit ≤ a + depth left
    → limit ≤ b + depth left → turns operand limit a level left ts ≡ turns operand limit b level left ts
unfolding maybe choose read_then
same_turns operand limit zero zero level left ts ha hb = refl
same_turns operand limit zero (suc b) level left ts ha hb =
    let deep : ltb (depth left) limit ≡ false = le-ltb _ _ (omega arith) in
    rw deep refl
same_turns operand limit (suc a) zero level left ts ha hb =
    let deep : ltb (depth left) limit ≡ false = le-ltb _ _ (omega arith) in
    rw deep refl
same_turns operand limit (suc a) (suc b) level left ts ha hb =
    let each : (o : Operator × List Token) →
    (choose (ltb (depth left) limit)
    (read_then (operand (operator_rank o.0 + 1) o.1) (λ right. turns operand limit a level (Binary o.0 left right.0) right.1))
    (Err (TooDeep (offset_at ts))))
    ≡ (choose (ltb (depth left) limit)
    (read_then (operand (operator_rank o.0 + 1) o.1) (λ right. turns operand limit b level (Binary o.0 left right.0) right.1))
    (Err (TooDeep (offset_at ts)))) =
    λ o. same_choice (operand (operator_rank o.0 + 1) o.1) (ltb (depth left) limit) (TooDeep (offset_at ts)) _ _
    (λ right. same_turns operand limit a b level (Binary o.0 left right.0) right.1 (omega arith) (omega arith)) in
    same_maybe (operator_at level left ts) _ _ _ each

pub turns_stop : (operand : Operands) (limit more level : ℕ) (left : Expression) (ts : List Token) → operator_at level left ts ≡ None
    → turns operand limit more level left ts ≡ Ok (left, ts)
unfolding maybe
turns_stop operand limit zero level left ts e = rw e refl
turns_stop operand limit (suc more) level left ts e = rw e refl

pub turns_step : (operand : Operands) (limit level : ℕ) (left : Expression) (ts : List Token) (o : Operator × List Token)
    → operator_at level left ts ≡ Some o → depth left < limit
    → turns operand limit limit level left ts ≡ read_then (operand (operator_rank o.0 + 1) o.1)
    (λ right. turns operand limit limit level (Binary o.0 left right.0) right.1)
unfolding maybe choose read_then
turns_step operand zero level left ts o e lt = absurd (omega (arith, lt))
turns_step operand (suc m) level left ts o e lt =
    let shallow : ltb (depth left) (suc m) ≡ true = lt-ltb _ _ lt in
    rw (e, shallow) (same_after (operand (operator_rank o.0 + 1) o.1) _ _
    (λ right _. same_turns operand (suc m) m (suc m) level (Binary o.0 left right.0) right.1 (omega arith) (omega arith)))

pub turns_deep : (operand : Operands) (limit more level : ℕ) (left : Expression) (ts : List Token) (o : Operator × List Token)
    → operator_at level left ts ≡ Some o → limit ≤ depth left → turns operand limit more level left ts ≡ Err (TooDeep (offset_at ts))
unfolding maybe choose
turns_deep operand limit zero level left ts o e le = rw e refl
turns_deep operand limit (suc more) level left ts o e le =
    let deep : ltb (depth left) limit ≡ false = le-ltb _ _ le in
    rw (e, deep) refl

-- no operator comes first
abbrev pub IsClosed : List Token → Type 0
IsClosed [] = Unit {0}
IsClosed (t ∷ ts) = operator_of t.kind ≡ None

closed_spells : (k : TokenKind) (ss : List Spelled) (ts rest : List Token) → operator_of k ≡ None → Spells (Anywhere k ∷ ss) ts rest
    → IsClosed ts
closed_spells k ss [] rest e h = absurd h
closed_spells k ss (t ∷ ts) rest e h = ap operator_of h.0 ∙ e

pub closed_front : {k : TokenKind} {ss : List Spelled} {ts rest : List Token} → operator_of k ≡ None → Spans (Anywhere k ∷ ss) ts rest
    → IsClosed ts
closed_front {k = k} {ss = ss} {ts = ts} {rest = rest} e h = closed_spells k ss ts rest e h.spells

IsLoose-closed : (r : ℕ) (ts : List Token) → IsClosed ts → IsLoose r ts
IsLoose-closed r [] h = tt
IsLoose-closed r (t ∷ ts) h = rw h tt

IsLoose-front : (r : ℕ) (o : Operator) (ss : List Spelled) (ts rest : List Token) → operator_rank o ≤ r
    → Spans (Anywhere (operator_kind o) ∷ ss) ts rest → IsLoose r ts
IsLoose-front r o ss [] rest le h = absurd h.spells
IsLoose-front r o ss (t ∷ ts) rest le h =
    let e : operator_of t.kind ≡ Some o = ap operator_of h.spells.0 ∙ operator_of-kind o in
    rw e le

IsLoose-weaker : (r s : ℕ) (ts : List Token) → r ≤ s → IsLoose r ts → IsLoose s ts
IsLoose-weaker r s [] le h = tt
IsLoose-weaker r s (t ∷ ts) le h = weaker (operator_of t.kind) r s le h

pub operator_at-closed : (level : ℕ) (left : Expression) (ts : List Token) → IsClosed ts → operator_at level left ts ≡ None
unfolding operator_at maybe
operator_at-closed level left [] h = refl
operator_at-closed level left (t ∷ ts) h = rw h refl

operator_at-front : (level : ℕ) (left : Expression) (o : Operator) (ss : List Spelled) (ts rest : List Token) → level ≤ operator_rank o
    → left_rank o ≤ rank left → Spans (Anywhere (operator_kind o) ∷ ss) ts rest
    → (behind : List Token) × (operator_at level left ts ≡ Some (o, behind)) × Spans ss behind rest
operator_at-front level left o ss [] rest above fits h = absurd h.spells
operator_at-front level left o ss (t ∷ ts) rest above fits h =
    (ts, operator_at-some level left o t ts h.spells.0 above fits, record { spells = h.spells.1 })

pub positive_depth : (e : Expression) → 0 < depth e
positive_depth (Literal n) = omega arith
positive_depth (TruthValue offset value) = omega arith
positive_depth (Named n) = omega arith
positive_depth (Parens offset e) = omega arith
positive_depth (Prefixed o offset e) = omega arith
positive_depth (Binary o a b) = omega arith
positive_depth (Call c offset b) = omega arith
positive_depth (Elapsed offset) = omega arith
positive_depth (Times offset e b) = omega arith

-- what begins with no sign or word of another operand is a leaf
primary_leaf : (operand : Operands) (limit level : ℕ) (ts : List Token) {read : Read (Expression × List Token)}
    → begins (kind.Symbol symbol.OpenParen) ts ≡ false → begins (kind.Keyword keyword.Times) ts ≡ false
    → begins (kind.Symbol symbol.Minus) ts ≡ false → begins (kind.Keyword keyword.Not) ts ≡ false → leaf_at ts ≡ read
    → primary_at operand limit level ts ≡ read
unfolding primary_at
primary_leaf operand limit level ts a b c d h = past _ a (past _ b (past _ (rw c refl) (past _ (rw d refl) h)))

no_truth : (ts : List Token) → begins (kind.Keyword keyword.True) ts ≡ false → begins (kind.Keyword keyword.False) ts ≡ false
    → begins_truth ts ≡ false
no_truth ts a b = rw (a, b) refl

no_call : (ts : List Token) → begins (kind.Keyword keyword.Size) ts ≡ false → begins (kind.Keyword keyword.Sum) ts ≡ false
    → begins (kind.Keyword keyword.Least) ts ≡ false → begins (kind.Keyword keyword.Most) ts ≡ false
    → begins (kind.Keyword keyword.Front) ts ≡ false → begins_call ts ≡ false
no_call ts a b c d e = rw (a, b, c, d, e) refl

number_again : (operand : Operands) (limit level : ℕ) (n : Number) {ts rest : List Token} → Spans (number n ∷ []) ts rest
    → primary_at operand limit level ts ≡ Ok (Literal n, rest)
unfolding leaf_at read_then
number_again operand limit level n {ts = ts} h =
    let b = (first h).begins in
    let g = first_number n h in
    primary_leaf operand limit level _ (b _) (b _) (b _) (b _)
    (past _ (first h).begins_name (past _ (no_truth ts (b _) (b _)) (past _ (no_call ts (b _) (b _) (b _) (b _) (b _)) (past _ (b _)
    (rw (g.read, span_end g.spelled) refl)))))

elapsed_again : (operand : Operands) (limit level offset : ℕ) {ts rest : List Token} → Spans (word_at keyword.Elapsed offset ∷ []) ts rest
    → primary_at operand limit level ts ≡ Ok (Elapsed offset, rest)
unfolding leaf_at elapsed_at read_then
elapsed_again operand limit level offset {ts = ts} h =
    let f = first h in
    let b = f.begins in
    primary_leaf operand limit level _ (b _) (b _) (b _) (b _)
    (past _ f.begins_name (past _ (no_truth ts (b _) (b _)) (past _ (no_call ts (b _) (b _) (b _) (b _) (b _)) (here _ (b _)
    (rw (f.after, f.offset, span_end f.spelled) refl)))))

truth_again : (operand : Operands) (limit level offset : ℕ) (value : Bool) {ts rest : List Token}
    → Spans (word_at (truth_word value) offset ∷ []) ts rest → primary_at operand limit level ts ≡ Ok (TruthValue offset value, rest)
unfolding leaf_at read_then
truth_again operand limit level offset true h =
    let f = first h in
    let b = f.begins in
    let g = first_truth true (unplaced h) in
    primary_leaf operand limit level _ (b _) (b _) (b _) (b _)
    (past _ f.begins_name (here _ (rw (b (kind.Keyword keyword.True)) refl) (rw (g.read, f.offset, span_end g.spelled) refl)))
truth_again operand limit level offset false h =
    let f = first h in
    let b = f.begins in
    let g = first_truth false (unplaced h) in
    primary_leaf operand limit level _ (b _) (b _) (b _) (b _)
    (past _ f.begins_name (here _ (rw (b (kind.Keyword keyword.True), b (kind.Keyword keyword.False)) refl)
    (rw (g.read, f.offset, span_end g.spelled) refl)))

name_again : (operand : Operands) (limit level : ℕ) (n : Name) {ts rest : List Token} → Spans (name n ∷ []) ts rest
    → primary_at operand limit level ts ≡ Ok (Named n, rest)
unfolding leaf_at read_then
name_again operand limit level n h =
    let b = (first h).begins in
    let g = first_name n h in
    primary_leaf operand limit level _ (b _) (b _) (b _) (b _) (here _ (first h).begins_name (rw (g.read, span_end g.spelled) refl))

-- what begins with the word of a call and is read as a call
call_leaf : (operand : Operands) (limit level : ℕ) (c : BagCall) {offset : ℕ} {ss : List Spelled} {ts rest : List Token}
    → Spans (word_at (call_word c) offset ∷ ss) ts rest → primary_at operand limit level ts ≡ call_at ts
unfolding leaf_at
call_leaf operand limit level call.Size {ts = ts} h =
    let b = (first h).begins in
    primary_leaf operand limit level _ (b _) (b _) (b _) (b _)
    (past _ (first h).begins_name (past _ (no_truth ts (b _) (b _)) (here _ (rw (b (kind.Keyword keyword.Size)) refl) refl)))
call_leaf operand limit level call.Sum {ts = ts} h =
    let b = (first h).begins in
    primary_leaf operand limit level _ (b _) (b _) (b _) (b _)
    (past _ (first h).begins_name (past _ (no_truth ts (b _) (b _))
    (here _ (rw (b (kind.Keyword keyword.Size), b (kind.Keyword keyword.Sum)) refl) refl)))
call_leaf operand limit level call.Least {ts = ts} h =
    let b = (first h).begins in
    let least = b (kind.Keyword keyword.Least) in
    primary_leaf operand limit level _ (b _) (b _) (b _) (b _)
    (past _ (first h).begins_name (past _ (no_truth ts (b _) (b _))
    (here _ (rw (b (kind.Keyword keyword.Size), b (kind.Keyword keyword.Sum), least) refl) refl)))
call_leaf operand limit level call.Most {ts = ts} h =
    let b = (first h).begins in
    let least = b (kind.Keyword keyword.Least) in
    let most = b (kind.Keyword keyword.Most) in
    primary_leaf operand limit level _ (b _) (b _) (b _) (b _)
    (past _ (first h).begins_name (past _ (no_truth ts (b _) (b _))
    (here _ (rw (b (kind.Keyword keyword.Size), b (kind.Keyword keyword.Sum), least, most) refl) refl)))
call_leaf operand limit level call.Front {ts = ts} h =
    let b = (first h).begins in
    let least = b (kind.Keyword keyword.Least) in
    let most = b (kind.Keyword keyword.Most) in
    let front = b (kind.Keyword keyword.Front) in
    primary_leaf operand limit level _ (b _) (b _) (b _) (b _)
    (past _ (first h).begins_name (past _ (no_truth ts (b _) (b _))
    (here _ (rw (b (kind.Keyword keyword.Size), b (kind.Keyword keyword.Sum), least, most, front) refl) refl)))

call_again : (operand : Operands) (limit level : ℕ) (c : BagCall) (offset : ℕ) (b : Name) {ts rest : List Token}
    → Spans (expression_spelling (Call c offset b)) ts rest → primary_at operand limit level ts ≡ Ok (Call c offset b, rest)
unfolding call_at read_then
call_again operand limit level c offset b h =
    let g = first_call c (unplaced h) in
    let opened = first g.spelled in
    let bag = first_name b opened.spelled in
    let close = first bag.spelled in
    call_leaf operand limit level c h ∙ rw (g.read, opened.after, bag.read, close.after, (first h).offset, span_end close.spelled) refl

times_again : (operand : Operands) (limit level offset : ℕ) (e : Expression) (b : Name) (ts rest : List Token)
    → Spans (expression_spelling (Times offset e b)) ts rest
    → ((us vs : List Token) → Spans (expression_spelling e) us vs → IsClosed vs → operand 0 us ≡ Ok (e, vs))
    → primary_at operand (suc limit) level ts ≡ Ok (Times offset e b, rest)
unfolding primary_at times_at within read_then operator_of
times_again operand limit level offset e b ts rest h inner =
    let f = first h in
    let opened = first f.spelled in
    let s = split (expression_spelling e) (sign symbol.Comma ∷ name b ∷ sign symbol.CloseParen ∷ []) opened.spelled in
    let i = inner opened.behind s.0 s.1 (closed_front refl s.2) in
    let comma = first s.2 in
    let bag = first_name b comma.spelled in
    let close = first bag.spelled in
    past _ (f.begins _) (here _ (f.begins _)
    (rw (f.after, opened.after, i, comma.after, bag.read, close.after, f.offset, span_end close.spelled) refl))

parens_again : (operand : Operands) (limit level offset : ℕ) (e : Expression) (ts rest : List Token)
    → Spans (expression_spelling (Parens offset e)) ts rest
    → ((us vs : List Token) → Spans (expression_spelling e) us vs → IsClosed vs → operand 0 us ≡ Ok (e, vs))
    → primary_at operand (suc limit) level ts ≡ Ok (Parens offset e, rest)
unfolding primary_at parens_at within read_then operator_of
parens_again operand limit level offset e ts rest h inner =
    let f = first h in
    let s = split (expression_spelling e) (sign symbol.CloseParen ∷ []) f.spelled in
    let i = inner f.behind s.0 s.1 (closed_front refl s.2) in
    let c = first s.2 in
    here _ (f.begins _) (rw (f.after, i, c.after, f.offset, span_end c.spelled) refl)

prefixed_again : (o : Prefix) (operand : Operands) (limit level offset : ℕ) (e : Expression) (ts rest : List Token) → level ≤ prefix_rank o
    → Spans (expression_spelling (Prefixed o offset e)) ts rest
    → ((us : List Token) → Spans (expression_spelling e) us rest → operand (prefix_rank o) us ≡ Ok (e, rest))
    → primary_at operand (suc limit) level ts ≡ Ok (Prefixed o offset e, rest)
unfolding primary_at prefixed_at within read_then
prefixed_again prefix.Minus operand limit level offset e ts rest low h inner =
    let f = first h in
    let i = inner f.behind f.spelled in
    let l : leb level 7 ≡ true = le-leb _ _ low in
    past _ (f.begins _) (past _ (f.begins _) (here _ (rw (f.begins (kind.Symbol symbol.Minus), l) refl) (rw (f.after, i, f.offset) refl)))
prefixed_again prefix.Not operand limit level offset e ts rest low h inner =
    let f = first h in
    let i = inner f.behind f.spelled in
    let l : leb level 3 ≡ true = le-leb _ _ low in
    past _ (f.begins _) (past _ (f.begins _) (past _ (rw (f.begins (kind.Symbol symbol.Minus)) refl)
    (here _ (rw (f.begins (kind.Keyword keyword.Not), l) refl) (rw (f.after, i, f.offset) refl))))

-- no operator between two operands binds as tightly as one before its operand
apart : (p : Prefix) (o : Operator) → operator_rank o ≤ prefix_rank p → operator_rank o < prefix_rank p
apart prefix.Minus o le = omega (arith, operator_rank-le o)
apart prefix.Not operator.Or le = omega arith
apart prefix.Not operator.And le = omega arith
apart prefix.Not operator.Add le = omega (arith, le)
apart prefix.Not operator.Subtract le = omega (arith, le)
apart prefix.Not operator.Multiply le = omega (arith, le)
apart prefix.Not operator.Divide le = omega (arith, le)
apart prefix.Not operator.Remainder le = omega (arith, le)
apart prefix.Not operator.Equal le = omega (arith, le)
apart prefix.Not operator.Unequal le = omega (arith, le)
apart prefix.Not operator.Less le = omega (arith, le)
apart prefix.Not operator.AtMost le = omega (arith, le)
apart prefix.Not operator.Greater le = omega (arith, le)
apart prefix.Not operator.AtLeast le = omega (arith, le)

below_prefix : (p : Prefix) (o : Option Operator) → IfSome o (λ o. operator_rank o ≤ prefix_rank p)
    → IfSome o (λ o. operator_rank o ≤ prefix_rank p - 1)
below_prefix p None h = tt
below_prefix p (Some o) h = omega (arith, apart p o h)

positive_rank : (p : Prefix) → prefix_rank p - 1 < prefix_rank p
positive_rank prefix.Minus = omega arith
positive_rank prefix.Not = omega arith

-- behind the operand of a prefix no operator goes on with the operand
prefixed_stops : (p : Prefix) (e : Expression) (ts : List Token) → IsLoose (prefix_rank p) ts → operator_at (prefix_rank p) e ts ≡ None
prefixed_stops p e [] h = operator_at-none (prefix_rank p) e (prefix_rank p - 1) [] tt (positive_rank p)
prefixed_stops p e (t ∷ ts) h =
    operator_at-none (prefix_rank p) e (prefix_rank p - 1) (t ∷ ts) (below_prefix p (operator_of t.kind) h) (positive_rank p)

then_turns : (limit level : ℕ) (e : Expression) (ts rest : List Token) → primary_at (expression_at limit) limit level ts ≡ Ok (e, rest)
    → expression_at (suc limit) level ts ≡ turns (expression_at limit) (suc limit) (suc limit) level e rest
unfolding expression_at read_then
then_turns limit level e ts rest h = rw h refl

expression_again : (e : Expression) (limit level : ℕ) (ts rest : List Token) → IsWellFormed e → depth e ≤ suc limit → level ≤ rank e
    → level ≤ 7 → IsLoose (rank e) rest → Spans (expression_spelling e) ts rest
    → expression_at (suc limit) level ts ≡ turns (expression_at limit) (suc limit) (suc limit) level e rest
expression_again (Literal n) limit level ts rest formed within ranked low loose h =
    then_turns limit level (Literal n) ts rest (number_again (expression_at limit) limit level n h)
expression_again (TruthValue offset value) limit level ts rest formed within ranked low loose h =
    then_turns limit level (TruthValue offset value) ts rest (truth_again (expression_at limit) limit level offset value h)
expression_again (Named n) limit level ts rest formed within ranked low loose h =
    then_turns limit level (Named n) ts rest (name_again (expression_at limit) limit level n h)
expression_again (Parens offset e) zero level ts rest formed within ranked low loose h = absurd (omega (arith, within, positive_depth e))
expression_again (Parens offset e) (suc limit) level ts rest formed within ranked low loose h =
    then_turns (suc limit) level (Parens offset e) ts rest
    (parens_again (expression_at (suc limit)) limit level offset e ts rest h (λ us vs k closed.
    expression_again e limit 0 us vs formed (omega (arith, within)) (omega arith) (omega arith) (IsLoose-closed (rank e) vs closed) k
    ∙ turns_stop (expression_at limit) (suc limit) (suc limit) 0 e vs (operator_at-closed 0 e vs closed)))
expression_again (Prefixed o offset e) zero level ts rest formed within ranked low loose h = absurd (omega (arith, within, positive_depth e))
expression_again (Prefixed o offset e) (suc limit) level ts rest formed within ranked low loose h =
    then_turns (suc limit) level (Prefixed o offset e) ts rest
    (prefixed_again o (expression_at (suc limit)) limit level offset e ts rest ranked h (λ us k.
    expression_again e limit (prefix_rank o) us rest formed.0 (omega (arith, within)) formed.1 (prefix_rank-le o)
    (IsLoose-weaker (prefix_rank o) (rank e) rest formed.1 loose) k
    ∙ turns_stop (expression_at limit) (suc limit) (suc limit) (prefix_rank o) e rest (prefixed_stops o e rest loose)))
expression_again (Binary o a b) zero level ts rest formed within ranked low loose h = absurd (omega (arith, within, positive_depth a))
expression_again (Binary o a b) (suc limit) level ts rest formed within ranked low loose h =
    let k : ℕ = suc limit in
    let s = split (expression_spelling a) (Anywhere (operator_kind o) ∷ expression_spelling b) h in
    let tight : operator_rank o ≤ rank a = omega (arith, operator_rank-left o, formed.2) in
    let left = expression_again a k level ts s.0 formed.0 (omega (arith, within)) (omega (arith, ranked, tight)) low
    (IsLoose-front (rank a) o (expression_spelling b) s.0 rest tight s.2) s.1 in
    let next = operator_at-front level a o (expression_spelling b) s.0 rest ranked formed.2 s.2 in
    let step = turns_step (expression_at k) (suc k) level a s.0 (o, next.0) next.1 (omega (arith, within)) in
    let right : expression_at k (operator_rank o + 1) next.0 ≡ Ok (b, rest) =
    expression_again b limit (operator_rank o + 1) next.0 rest formed.1 (omega (arith, within)) (omega (arith, formed.3))
    (omega (arith, operator_rank-le o)) (IsLoose-weaker (operator_rank o) (rank b) rest (omega (arith, formed.3)) loose) next.2
    ∙ turns_stop (expression_at limit) k k (operator_rank o + 1) b rest
    (operator_at-none (operator_rank o + 1) b (operator_rank o) rest loose (omega arith)) in
    left ∙ step ∙ then_is (expression_at k (operator_rank o + 1) next.0)
    (λ right. turns (expression_at k) (suc k) (suc k) level (Binary o a right.0) right.1) (b, rest) right
expression_again (Call c offset b) limit level ts rest formed within ranked low loose h =
    then_turns limit level (Call c offset b) ts rest (call_again (expression_at limit) limit level c offset b h)
expression_again (Elapsed offset) limit level ts rest formed within ranked low loose h =
    then_turns limit level (Elapsed offset) ts rest (elapsed_again (expression_at limit) limit level offset h)
expression_again (Times offset e b) zero level ts rest formed within ranked low loose h = absurd (omega (arith, within, positive_depth e))
expression_again (Times offset e b) (suc limit) level ts rest formed within ranked low loose h =
    then_turns (suc limit) level (Times offset e b) ts rest
    (times_again (expression_at (suc limit)) limit level offset e b ts rest h (λ us vs k closed.
    expression_again e limit 0 us vs formed (omega (arith, within)) (omega arith) (omega arith) (IsLoose-closed (rank e) vs closed) k
    ∙ turns_stop (expression_at limit) (suc limit) (suc limit) 0 e vs (operator_at-closed 0 e vs closed)))

all_read : (limit : ℕ) (e : Expression) (ts rest : List Token) → IsWellFormed e → depth e ≤ limit
    → Spans (expression_spelling e) ts rest → IsClosed rest → expression_at limit 0 ts ≡ Ok (e, rest)
all_read zero e ts rest formed within h closed = absurd (omega (arith, within, positive_depth e))
all_read (suc limit) e ts rest formed within h closed =
    expression_again e limit 0 ts rest formed within (omega arith) (omega arith) (IsLoose-closed (rank e) rest closed) h
    ∙ turns_stop (expression_at limit) (suc limit) (suc limit) 0 e rest (operator_at-closed 0 e rest closed)

pub expression_reader : (limits : Limits) → IsReader (expression_at limits.expression 0) expression_spelling (IsExpression limits) IsClosed
expression_reader limits = record {
  sound = λ ts x e.
      let r = expression_read limits.expression 0 ts x (omega arith) e in
      (r.spelled, record { formed = r.formed; within = r.within });
  complete = λ x ts rest is h closed. all_read limits.expression x ts rest is.formed is.within h closed;
}
