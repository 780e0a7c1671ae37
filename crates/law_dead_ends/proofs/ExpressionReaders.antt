-- The readers of expressions complete them, and go further with a greater limit on depth.
use Rattle.std.proofs.Common.{◌≡◌, ℕ, zero, suc, ◌+◌, ◌<◌, ◌≤◌, ltb, true, List, [], ◌∷◌, Option, Some, None, Ok, Err, refl}
use Rattle.std.proofs.Common.{inl, inr, ◌⊎◌, arith}
use Rattle.std.proofs.lemmas.Bool.{cases_Bool, ltb-true, lt-ltb}
use Rattle.dv_lex.specs.declared.token.Token.{Token}
use Rattle.dv_lex.specs.declared.token.TokenKind.TheVariants as kind
use Rattle.dv_lex.specs.declared.token.Keyword.TheVariants as keyword
use Rattle.dv_lex.specs.declared.token.Symbol.TheVariants as symbol
use Rattle.dv_syntax.specs.declared.tree.Prefix.{Prefix}
use Rattle.dv_syntax.specs.declared.tree.Prefix.TheVariants as prefix
use Rattle.dv_syntax.specs.Trees.{Expression, Literal, TruthValue, Named, Parens, Prefixed, Binary, Call, Elapsed, Times}
use Rattle.dv_syntax.specs.Grammar.{Limits, prefix_kind, prefix_rank, operator_rank, depth}
use Rattle.dv_parser.specs.Reading.{TooDeep, TooShort, read_then, within, choose, maybe, begins_name, begins_truth, begins_call}
use Rattle.dv_parser.specs.Reading.{Reader, begins_prefix, after, number_at, offset_at, operator_of, goes_on, operator_at}
use Rattle.dv_parser.specs.Reading.{call_at, elapsed_at, leaf_at, parens_at, prefixed_at, times_at, primary_at, turns}
use Rattle.dv_parser.specs.Reading.{expression_at}
use Rattle.dv_parser.proofs.Expressions.{expression_read, primary_depth, positive_depth, operator_rank-le, IsClosed}
use Rattle.dv_parser.proofs.Expressions.{operator_at-closed, turns_stop}
use Rattle.law_dead_ends.proofs.Depths.{AreWidened}
use Rattle.law_dead_ends.proofs.Steady.{IsOfFirst, begins_of_first, begins_name_of_first, begins_truth_of_first}
use Rattle.law_dead_ends.proofs.Steady.{begins_call_of_first, ReadsOn, Leaves, StopsThere}
use Rattle.law_dead_ends.proofs.Completions.{a_number, a_name, a_sign, a_word, CompletesSome, Completes, some_by_first}
use Rattle.law_dead_ends.proofs.Completions.{leaves_complete, then_completes, choose_completes, choose_completes_by}
use Rattle.law_dead_ends.proofs.Completions.{after_completes, deep_completes, name_completes}
use Rattle.law_dead_ends.proofs.Widening.{WidensAt, Widens, ReadOn, Leave, Deep, by_first, leaves_at, leaves_widens, then_at}
use Rattle.law_dead_ends.proofs.Widening.{then_widens, choose_at, choose_widens, choose_widens_by, after_each, after_widens}
use Rattle.law_dead_ends.proofs.Widening.{deep_each, name_widens, number_widens, truth_widens, call_word_widens}

-- ---- Operands that no operator joins

call_widens : Widens call_at call_at IsClosed (a_word keyword.Front ∷ a_sign symbol.OpenParen ∷ a_name ∷ a_sign symbol.CloseParen ∷ [])
unfolding call_at
call_widens =
    then_widens _ _ call_word_widens (λ rest h. tt) (λ offset c.
    after_widens (kind.Symbol symbol.OpenParen) _ _ (λ _.
    then_widens _ _ name_widens (λ rest h. tt) (λ _ b.
    after_widens (kind.Symbol symbol.CloseParen) _ _ (λ _. leaves_widens (Call c offset b) IsClosed))))

elapsed_widens : Widens elapsed_at elapsed_at IsClosed (a_word keyword.Elapsed ∷ [])
unfolding elapsed_at
elapsed_widens = after_widens (kind.Keyword keyword.Elapsed) _ _ (λ offset. leaves_widens (Elapsed offset) IsClosed)

leaf_widens : Widens leaf_at leaf_at IsClosed (a_number ∷ [])
unfolding leaf_at
leaf_widens =
    choose_widens_by begins_name begins_name_of_first
    (then_widens _ _ name_widens (λ rest h. tt) (λ _ n. leaves_widens (Named n) IsClosed)) (λ rest h. refl)
    (choose_widens_by begins_truth begins_truth_of_first
    (then_widens _ _ truth_widens (λ rest h. tt) (λ offset v. leaves_widens (TruthValue offset v) IsClosed)) (λ rest h. refl)
    (choose_widens_by begins_call begins_call_of_first call_widens (λ rest h. refl)
    (choose_widens (kind.Keyword keyword.Elapsed) elapsed_widens (λ rest h. refl)
    (then_widens _ _ number_widens (λ rest h. tt) (λ _ n. leaves_widens (Literal n) IsClosed)))))

-- ---- Completions of operands

-- operands are completed where the limit leaves room for one
abbrev WhereRoom : ℕ → Type 0
WhereRoom zero = Unit {0}
WhereRoom (suc limit) = (level : ℕ) → Completes (expression_at (suc limit) level) IsClosed (a_number ∷ [])

parens_complete : (limit : ℕ) → WhereRoom limit → CompletesSome (parens_at (expression_at limit) limit) IsClosed
unfolding parens_at within read_then operator_of
parens_complete zero c = deep_completes (kind.Symbol symbol.OpenParen) IsClosed
parens_complete (suc limit) c =
    (after_completes (kind.Symbol symbol.OpenParen) _ (λ offset.
    then_completes _ (c 0) (λ rest h. refl) (λ _ e.
    after_completes (kind.Symbol symbol.CloseParen) _ (λ _. leaves_complete (Parens offset e) IsClosed)))).some

prefixed_completes : (o : Prefix) (limit : ℕ) → WhereRoom limit → CompletesSome (prefixed_at o (expression_at limit) limit) IsClosed
unfolding prefixed_at within read_then
prefixed_completes o zero c = deep_completes (prefix_kind o) IsClosed
prefixed_completes o (suc limit) c =
    (after_completes (prefix_kind o) _ (λ offset.
    then_completes _ (c (prefix_rank o)) (λ rest h. h) (λ _ e. leaves_complete (Prefixed o offset e) IsClosed))).some

times_complete : (limit : ℕ) → WhereRoom limit → CompletesSome (times_at (expression_at limit) limit) IsClosed
unfolding times_at within read_then operator_of
times_complete zero c = deep_completes (kind.Keyword keyword.Times) IsClosed
times_complete (suc limit) c =
    (after_completes (kind.Keyword keyword.Times) _ (λ offset.
    after_completes (kind.Symbol symbol.OpenParen) _ (λ _.
    then_completes _ (c 0) (λ rest h. refl) (λ _ e.
    after_completes (kind.Symbol symbol.Comma) _ (λ _.
    then_completes _ name_completes (λ rest h. tt) (λ _ b.
    after_completes (kind.Symbol symbol.CloseParen) _ (λ _. leaves_complete (Times offset e b) IsClosed))))))).some

begins_prefix_of_first : (o : Prefix) (level : ℕ) → IsOfFirst (begins_prefix o level)
begins_prefix_of_first o level [] t more other = refl
begins_prefix_of_first o level (u ∷ front) t more other = refl

primary_completes : (limit level : ℕ) → WhereRoom limit
    → Completes (primary_at (expression_at limit) limit level) IsClosed (a_number ∷ [])
unfolding primary_at
primary_completes limit level c =
    choose_completes (kind.Symbol symbol.OpenParen) (parens_complete limit c) (λ rest h. refl)
    (choose_completes (kind.Keyword keyword.Times) (times_complete limit c) (λ rest h. refl)
    (choose_completes_by (begins_prefix prefix.Minus level) (begins_prefix_of_first prefix.Minus level)
    (prefixed_completes prefix.Minus limit c) (λ rest h. refl)
    (choose_completes_by (begins_prefix prefix.Not level) (begins_prefix_of_first prefix.Not level)
    (prefixed_completes prefix.Not limit c) (λ rest h. refl) leaf_widens.narrow_completes)))

cases_option : {A : Type 0} (o : Option A) → (o ≡ None) ⊎ ((x : A) × (o ≡ Some x))
cases_option None = inl refl
cases_option (Some x) = inr (x, refl)

-- where a left operand lies less deep than the limit, there is room for a right one
room : (limit : ℕ) → WhereRoom limit → (left : Expression) → depth left < suc limit
    → (level : ℕ) → Completes (expression_at limit level) IsClosed (a_number ∷ [])
room zero c left lt level = absurd (omega (arith, lt, positive_depth left))
room (suc limit) c left lt level = c level

turns_complete : (limit : ℕ) → WhereRoom limit → (more level : ℕ) (left : Expression)
    → Completes (turns (expression_at limit) (suc limit) more level left) IsClosed []
unfolding operator_at maybe choose offset_at
turns_complete limit c zero level left = record {
  some = some_by_first _ IsClosed (inr (left, refl)) (λ t. elim (cases_option (operator_of t.kind)) [
    | inl e ↦ Leaves left (λ ts. rw e refl)
    | inr o ↦ elim (cases_Bool (goes_on level left o.0)) [
      | inl e ↦ StopsThere (TooDeep t.offset) refl (λ ts. rw (o.1, e) refl)
      | inr e ↦ Leaves left (λ ts. rw (o.1, e) refl)
    ]
  ]);
  filled = λ rest h. (left, turns_stop (expression_at limit) (suc limit) zero level left rest (operator_at-closed level left rest h));
}
turns_complete limit c (suc more) level left = record {
  some = some_by_first _ IsClosed (inr (left, refl)) (λ t. elim (cases_option (operator_of t.kind)) [
    | inl e ↦ Leaves left (λ ts. rw e refl)
    | inr o ↦ elim (cases_Bool (goes_on level left o.0)) [
      | inl e ↦ elim (cases_Bool (ltb (depth left) (suc limit))) [
        | inl d ↦
            let right_level : ℕ = operator_rank o.0 + 1 in
            ReadsOn (λ ts. read_then (expression_at limit right_level ts)
            (λ right. turns (expression_at limit) (suc limit) more level (Binary o.0 left right.0) right.1)) (
              a_number ∷ [],
              then_completes (λ _ right. turns (expression_at limit) (suc limit) more level (Binary o.0 left right))
                  (room limit c left (ltb-true _ _ d) right_level) (λ rest h. h)
                  (λ _ right. turns_complete limit c more level (Binary o.0 left right)),
            )
            (λ ts. rw (o.1, e, d) refl)
        | inr d ↦ StopsThere (TooDeep t.offset) refl (λ ts. rw (o.1, e, d) refl)
      ]
      | inr e ↦ Leaves left (λ ts. rw (o.1, e) refl)
    ]
  ]);
  filled = λ rest h. (left, turns_stop (expression_at limit) (suc limit) (suc more) level left rest (operator_at-closed level left rest h));
}

operands_complete : (limit : ℕ) → WhereRoom limit
unfolding expression_at
operands_complete zero = tt
operands_complete (suc limit) = λ level.
    then_completes (λ _ e. turns (expression_at limit) (suc limit) (suc limit) level e)
    (primary_completes limit level (operands_complete limit)) (λ rest h. h)
    (λ _ e. turns_complete limit (operands_complete limit) (suc limit) level e)

-- ---- Operands within greater limits

-- operands widen where the limit leaves room for one
abbrev WidenWhereRoom : ℕ → ℕ → Type 0
WidenWhereRoom zero wide = Unit {0}
WidenWhereRoom (suc narrow) wide =
    (level : ℕ) → Widens (expression_at (suc narrow) level) (expression_at wide level) IsClosed (a_number ∷ [])

-- an expression is no less than one token
pub no_expression : (limit level : ℕ) → expression_at limit level [] ≡ Err TooShort
unfolding expression_at primary_at leaf_at number_at choose read_then
no_expression zero level = refl
no_expression (suc limit) level = refl

parens_widen : (n w : ℕ) → n < w → WidenWhereRoom n w
    → (ts : List Token) → WidensAt (parens_at (expression_at n) n) (parens_at (expression_at w) w) ts
unfolding parens_at after offset_at choose within read_then operator_of
parens_widen n zero lt c = absurd (omega (arith, lt))
parens_widen zero (suc w) lt c =
    deep_each _ _ (kind.Symbol symbol.OpenParen) refl refl
    (λ t ts e. rw e refl) (λ t e. rw (e, no_expression (suc w) 0) refl) (λ t ts e. rw e refl) (λ t ts e. rw e refl)
parens_widen (suc n) (suc w) lt c =
    after_each (kind.Symbol symbol.OpenParen) _ _ (λ offset.
    (then_widens _ _ (c 0) (λ rest h. refl) (λ _ e.
    after_widens (kind.Symbol symbol.CloseParen) _ _ (λ _. leaves_widens (Parens offset e) IsClosed))).each)

prefixed_widens : (o : Prefix) (n w : ℕ) → n < w → WidenWhereRoom n w
    → (ts : List Token) → WidensAt (prefixed_at o (expression_at n) n) (prefixed_at o (expression_at w) w) ts
unfolding prefixed_at after offset_at choose within read_then
prefixed_widens o n zero lt c = absurd (omega (arith, lt))
prefixed_widens o zero (suc w) lt c =
    deep_each _ _ (prefix_kind o) refl refl
    (λ t ts e. rw e refl) (λ t e. rw (e, no_expression (suc w) (prefix_rank o)) refl) (λ t ts e. rw e refl) (λ t ts e. rw e refl)
prefixed_widens o (suc n) (suc w) lt c =
    after_each (prefix_kind o) _ _ (λ offset.
    (then_widens _ _ (c (prefix_rank o)) (λ rest h. h) (λ _ e. leaves_widens (Prefixed o offset e) IsClosed)).each)

times_widen : (n w : ℕ) → n < w → WidenWhereRoom n w
    → (ts : List Token) → WidensAt (times_at (expression_at n) n) (times_at (expression_at w) w) ts
unfolding times_at after offset_at choose within read_then operator_of
times_widen n zero lt c = absurd (omega (arith, lt))
times_widen zero (suc w) lt c =
    deep_each _ _ (kind.Keyword keyword.Times) refl refl
    (λ t ts e. rw e refl) (λ t e. rw e refl) (λ t ts e. rw e refl) (λ t ts e. rw e refl)
times_widen (suc n) (suc w) lt c =
    after_each (kind.Keyword keyword.Times) _ _ (λ offset.
    (after_widens (kind.Symbol symbol.OpenParen) _ _ (λ _.
    then_widens _ _ (c 0) (λ rest h. refl) (λ _ e.
    after_widens (kind.Symbol symbol.Comma) _ _ (λ _.
    then_widens _ _ name_widens (λ rest h. tt) (λ _ b.
    after_widens (kind.Symbol symbol.CloseParen) _ _ (λ _. leaves_widens (Times offset e b) IsClosed)))))).each)

primary_widens : (n w level : ℕ) → n < w → WidenWhereRoom n w
    → (ts : List Token) → WidensAt (primary_at (expression_at n) n level) (primary_at (expression_at w) w level) ts
unfolding primary_at
primary_widens n w level lt c ts =
    choose_at _ _ _ _ _ ts (begins_of_first (kind.Symbol symbol.OpenParen)) (parens_widen n w lt c ts)
    (choose_at _ _ _ _ _ ts (begins_of_first (kind.Keyword keyword.Times)) (times_widen n w lt c ts)
    (choose_at _ _ _ _ _ ts (begins_prefix_of_first prefix.Minus level) (prefixed_widens prefix.Minus n w lt c ts)
    (choose_at _ _ _ _ _ ts (begins_prefix_of_first prefix.Not level) (prefixed_widens prefix.Not n w lt c ts) (leaf_widens.each ts))))

turns_end : (operand : ℕ → Reader Expression) (limit more level : ℕ) (left : Expression)
    → turns operand limit more level left [] ≡ Ok (left, [])
turns_end operand limit more level left = turns_stop operand limit more level left [] (operator_at-closed level left [] tt)

-- where a left operand lies less deep than the limit, right ones widen
right_widens : (n w : ℕ) → WidenWhereRoom n w → (left : Expression) → depth left < suc n
    → (level : ℕ) → Widens (expression_at n level) (expression_at w level) IsClosed (a_number ∷ [])
right_widens zero w c left lt level = absurd (omega (arith, lt, positive_depth left))
right_widens (suc n) w c left lt level = c level

turns_widen : (n w : ℕ) → n < w → WidenWhereRoom n w → (more over level : ℕ) (left : Expression)
    → depth left ≤ suc n → suc n ≤ more + depth left → suc w ≤ over + depth left
    → (ts : List Token) → WidensAt (turns (expression_at n) (suc n) more level left) (turns (expression_at w) (suc w) over level left) ts
unfolding operator_at maybe choose offset_at read_then
turns_widen n w lt c more zero level left deep a b = absurd (omega (arith, lt, deep, b))
turns_widen n w lt c zero (suc over) level left deep a b =
    by_first _ _ (leaves_at _ _ [] left refl refl) (λ t.
    elim (cases_option (operator_of t.kind)) [
      | inl e ↦ Leave left (λ ts. rw e refl) (λ ts. rw e refl)
      | inr o ↦ elim (cases_Bool (goes_on level left o.0)) [
        | inl e ↦
            let wide : ltb (depth left) (suc w) ≡ true = lt-ltb _ _ (omega (arith, lt, deep)) in
            Deep (λ ts. rw (o.1, e) refl) (rw (o.1, e, wide, no_expression w (operator_rank o.0 + 1)) refl)
        | inr e ↦ Leave left (λ ts. rw (o.1, e) refl) (λ ts. rw (o.1, e) refl)
      ]
    ])
turns_widen n w lt c (suc more) (suc over) level left deep a b =
    by_first _ _ (leaves_at _ _ [] left refl refl) (λ t.
    elim (cases_option (operator_of t.kind)) [
      | inl e ↦ Leave left (λ ts. rw e refl) (λ ts. rw e refl)
      | inr o ↦ elim (cases_Bool (goes_on level left o.0)) [
        | inl e ↦
            let wide : ltb (depth left) (suc w) ≡ true = lt-ltb _ _ (omega (arith, lt, deep)) in
            let right_level : ℕ = operator_rank o.0 + 1 in
            elim (cases_Bool (ltb (depth left) (suc n))) [
              | inl d ↦
                  let less : depth left < suc n = ltb-true _ _ d in
                  let right_ones = right_widens n w c left less right_level in
                  let joined_narrow : Expression → Reader Expression =
                  λ right. turns (expression_at n) (suc n) more level (Binary o.0 left right) in
                  let joined_wide : Expression → Reader Expression =
                  λ right. turns (expression_at w) (suc w) over level (Binary o.0 left right) in
                  ReadOn
                  (λ ts. read_then (expression_at n right_level ts) (λ right. joined_narrow right.0 right.1))
                  (λ ts. read_then (expression_at w right_level ts) (λ right. joined_wide right.0 right.1))
                  (λ ts. then_at (expression_at n right_level) (expression_at w right_level) (λ _ right. joined_narrow right)
                  (λ _ right. joined_wide right) ts
                  (right_ones.narrow_completes.some.steady ts) (right_ones.wide_completes.some.steady ts)
                  (λ _ right. inr (Binary o.0 left right, turns_end (expression_at w) (suc w) over level (Binary o.0 left right)))
                  (right_ones.each ts) (λ right rest f.
                  let r = expression_read n right_level ts (right, rest) (omega (arith, operator_rank-le o.0)) f in
                  turns_widen n w lt c more over level (Binary o.0 left right) (omega (arith, less, r.within)) (omega (arith, a))
                  (omega (arith, b)) rest))
                  (λ ts. rw (o.1, e, d) refl) (λ ts. rw (o.1, e, wide) refl)
              | inr d ↦ Deep (λ ts. rw (o.1, e, d) refl) (rw (o.1, e, wide, no_expression w right_level) refl)
            ]
        | inr e ↦ Leave left (λ ts. rw (o.1, e) refl) (λ ts. rw (o.1, e) refl)
      ]
    ])

operands_widen : (n w : ℕ) → n < w → WidenWhereRoom n w
unfolding expression_at
operands_widen zero w lt = tt
operands_widen (suc n) zero lt = absurd (omega (arith, lt))
operands_widen (suc n) (suc w) lt = λ level.
    let less : n < w = omega (arith, lt) in
    let c = operands_widen n w less in
    record {
      narrow_completes = operands_complete (suc n) level;
      wide_completes = operands_complete (suc w) level;
      each = λ ts.
          then_at (primary_at (expression_at n) n level) (primary_at (expression_at w) w level)
          (λ _. turns (expression_at n) (suc n) (suc n) level) (λ _. turns (expression_at w) (suc w) (suc w) level) ts
          ((primary_completes n level (operands_complete n)).some.steady ts)
          ((primary_completes w level (operands_complete w)).some.steady ts)
          (λ _ e. inr (e, turns_end (expression_at w) (suc w) (suc w) level e)) (primary_widens n w level less c ts)
          (λ e rest f. turns_widen n w less c (suc n) (suc w) level e (primary_depth n level ts (e, rest) f) (omega arith)
          (omega arith) rest);
    }

-- ---- Expressions

some_operand : (n w : ℕ) → 0 < n → n < w → Widens (expression_at n 0) (expression_at w 0) IsClosed (a_number ∷ [])
some_operand zero w some lt = absurd (omega (arith, some))
some_operand (suc n) w some lt = operands_widen (suc n) w lt 0

pub expression_widens : (n w : Limits) → AreWidened n w
    → Widens (expression_at n.expression 0) (expression_at w.expression 0) IsClosed (a_number ∷ [])
expression_widens n w g = some_operand n.expression w.expression g.room.expression g.greater.expression
