use Rattle.std.proofs.Common.{◌≡◌, length}
use Rattle.dv_lex.specs.declared.token.TokenKind.TheVariants as kind
use Rattle.dv_lex.specs.declared.token.Symbol.TheVariants as symbol
use Rattle.dv_parser.specs.Reading.{with_front, many_at, further_name_at}
use Rattle.dv_parser.proofs.atomic.further_names.Given as goal

abbrev pub invariant-loop-rest : goal.invariant-loop-rest
invariant-loop-rest l =
    with_front l.names.items (many_at further_name_at (kind.Symbol symbol.Semicolon) l.rest) ≡ with_front l.fn.names.items
    (many_at further_name_at (kind.Symbol symbol.Semicolon) l.tokens)

abbrev pub decreases-loop-rest : goal.decreases-loop-rest
decreases-loop-rest l = length l.rest
