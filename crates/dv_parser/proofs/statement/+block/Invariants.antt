use Rattle.std.proofs.Common.{◌≡◌, ◌+◌, ◌*◌, length, map}
use Rattle.dv_lex.specs.declared.token.TokenKind.TheVariants as kind
use Rattle.dv_lex.specs.declared.token.Symbol.TheVariants as symbol
use Rattle.dv_parser.specs.Reading.{single_of, many_at, our_limits, with_front}
use Rattle.dv_parser.proofs.Statements.{inside_at}
use Rattle.dv_parser.proofs.statement.+block.Given as goal

abbrev pub decreases-block : goal.decreases-block
decreases-block l = 6 * l.limit + 3

abbrev pub decreases-statements : goal.decreases-statements
decreases-statements l = 6 * l.limit + 2

abbrev pub decreases-statement : goal.decreases-statement
decreases-statement l = 6 * l.limit + 1

abbrev pub decreases-after_else : goal.decreases-after_else
decreases-after_else l = 6 * l.limit + 5

abbrev pub decreases-other : goal.decreases-other
decreases-other l = 6 * l.limit + 4

abbrev pub decreases-if_statement : goal.decreases-if_statement
decreases-if_statement l = 6 * l.limit

abbrev pub decreases-for_statement : goal.decreases-for_statement
decreases-for_statement l = 6 * l.limit

abbrev pub invariant-statements-loop-alloc : goal.invariant-statements-loop-alloc
invariant-statements-loop-alloc l =
    with_front (map single_of l.statements.items) (many_at (inside_at (our_limits l.short) l.limit l.loops) (kind.Symbol symbol.CloseBrace) l.rest)
    ≡ many_at (inside_at (our_limits l.short) l.limit l.loops) (kind.Symbol symbol.CloseBrace) l.tokens

abbrev pub decreases-statements-loop-alloc : goal.decreases-statements-loop-alloc
decreases-statements-loop-alloc l = length l.rest
