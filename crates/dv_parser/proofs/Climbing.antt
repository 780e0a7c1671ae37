-- The turns of the loop that reads an expression.
use Rattle.std.proofs.Common.{◌≡◌, ℕ, zero, suc, ◌+◌, ◌-◌, ◌<◌, ◌≤◌, List, Some, None, Ok, Err, refl, sym, ap, ◌∙◌, arith}
use Rattle.dv_lex.specs.declared.token.Token.{Token}
use Rattle.dv_syntax.specs.declared.tree.Operator.{Operator}
use Rattle.dv_syntax.specs.Trees.{Expression, Binary}
use Rattle.dv_syntax.specs.Grammar.{operator_rank, depth}
use Rattle.dv_parser.specs.Reading.{Obstacle, TooDeep, read_then, offset_at, operator_at, primary_at, turns, expression_at, more_at}
use Rattle.dv_parser.proofs.Tokens.{then_is, then_err}
use Rattle.dv_parser.proofs.Expressions.{turns_stop, turns_step, turns_deep}

first_is : (limit level : ℕ) (ts : List Token) → 0 < limit
    → expression_at limit level ts
    ≡ read_then (primary_at (expression_at (limit - 1)) (limit - 1) level ts) (λ e. more_at limit level e.0 e.1)
unfolding expression_at more_at
first_is zero level ts lt = absurd (omega (arith, lt))
first_is (suc limit) level ts lt =
    let less : limit ≡ suc limit - 1 = omega arith in
    ap (λ (n : ℕ). read_then (primary_at (expression_at n) n level ts)
    (λ e. turns (expression_at n) (suc limit) (suc limit) level e.0 e.1)) less

pub first_err : (limit level : ℕ) (ts : List Token) (o : Obstacle) → 0 < limit
    → primary_at (expression_at (limit - 1)) (limit - 1) level ts ≡ Err o → expression_at limit level ts ≡ Err o
first_err limit level ts o lt e = first_is limit level ts lt ∙ then_err _ _ o e

pub first_some : (limit level : ℕ) (ts rest : List Token) (e : Expression) → 0 < limit
    → primary_at (expression_at (limit - 1)) (limit - 1) level ts ≡ Ok (e, rest)
    → more_at limit level e rest ≡ expression_at limit level ts
first_some limit level ts rest e lt h = sym (first_is limit level ts lt ∙ then_is _ _ (e, rest) h)

pub next_stop : (limit level : ℕ) (left : Expression) (ts : List Token) → operator_at level left ts ≡ None
    → more_at limit level left ts ≡ Ok (left, ts)
unfolding more_at
next_stop limit level left ts h = turns_stop (expression_at (limit - 1)) limit limit level left ts h

pub next_deep : (limit level : ℕ) (left : Expression) (o : Operator) (ts behind : List Token)
    → operator_at level left ts ≡ Some (o, behind) → limit ≤ depth left → more_at limit level left ts ≡ Err (TooDeep (offset_at ts))
unfolding more_at
next_deep limit level left o ts behind h deep = turns_deep (expression_at (limit - 1)) limit limit level left ts (o, behind) h deep

pub next_err : (limit level : ℕ) (left : Expression) (o : Operator) (ts behind : List Token) (p : Obstacle)
    → operator_at level left ts ≡ Some (o, behind) → depth left < limit
    → expression_at (limit - 1) (operator_rank o + 1) behind ≡ Err p → more_at limit level left ts ≡ Err p
unfolding more_at read_then
next_err limit level left o ts behind p h shallow e =
    turns_step (expression_at (limit - 1)) limit level left ts (o, behind) h shallow ∙ rw e refl

pub next_some : (limit level : ℕ) (left right : Expression) (o : Operator) (ts behind rest : List Token)
    → operator_at level left ts ≡ Some (o, behind) → depth left < limit
    → expression_at (limit - 1) (operator_rank o + 1) behind ≡ Ok (right, rest)
    → more_at limit level (Binary o left right) rest ≡ more_at limit level left ts
unfolding more_at read_then
next_some limit level left right o ts behind rest h shallow e =
    sym (turns_step (expression_at (limit - 1)) limit level left ts (o, behind) h shallow ∙ rw e refl)

pub ruleset climbing = (first_err, first_some, next_stop, next_deep, next_err, next_some)
