use Rattle.std.proofs.Common.{◌≡◌, length, map}
use Rattle.dv_lex.specs.declared.token.TokenKind.TheVariants as kind
use Rattle.dv_lex.specs.declared.token.Symbol.TheVariants as symbol
use Rattle.dv_source.specs.Sources.{item_of}
use Rattle.dv_parser.specs.Reading.{with_front, many_at, item_at, our_limits}
use Rattle.dv_parser.proofs.atomic.items.Given as goal

abbrev pub invariant-loop-alloc : goal.invariant-loop-alloc
invariant-loop-alloc l =
    with_front (map item_of l.items.items) (many_at (item_at (our_limits l.short)) (kind.Symbol symbol.CloseBrace) l.rest) ≡ many_at
    (item_at (our_limits l.short)) (kind.Symbol symbol.CloseBrace) l.tokens

abbrev pub decreases-loop-alloc : goal.decreases-loop-alloc
decreases-loop-alloc l = length l.rest
