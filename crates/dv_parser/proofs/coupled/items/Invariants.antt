use Rattle.std.proofs.Common.{◌≡◌, length, map}
use Rattle.dv_lex.specs.declared.token.TokenKind.TheVariants as kind
use Rattle.dv_lex.specs.declared.token.Symbol.TheVariants as symbol
use Rattle.dv_source.specs.Sources.{coupled_item_of}
use Rattle.dv_parser.specs.Reading.{with_front, many_at, coupled_item_at}
use Rattle.dv_parser.proofs.coupled.items.Given as goal

abbrev pub invariant-loop-rest : goal.invariant-loop-rest
invariant-loop-rest l =
    with_front (map coupled_item_of l.items.items) (many_at coupled_item_at (kind.Symbol symbol.CloseBrace) l.rest) ≡ many_at
    coupled_item_at (kind.Symbol symbol.CloseBrace) l.tokens

abbrev pub decreases-loop-rest : goal.decreases-loop-rest
decreases-loop-rest l = length l.rest
