use Rattle.std.proofs.Common.{◌≡◌, length, map}
use Rattle.dv_lex.specs.declared.token.TokenKind.TheVariants as kind
use Rattle.dv_lex.specs.declared.token.Keyword.TheVariants as keyword
use Rattle.dv_source.specs.Sources.{written_model}
use Rattle.dv_parser.specs.Reading.{with_front, many_at, model_at, our_limits}
use Rattle.dv_parser.proofs.file.models.Given as goal

abbrev pub invariant-loop-alloc : goal.invariant-loop-alloc
invariant-loop-alloc l =
    with_front (map written_model l.models.items) (many_at (model_at (our_limits l.short)) (kind.Keyword keyword.Root) l.rest) ≡ many_at (model_at (our_limits l.short))
    (kind.Keyword keyword.Root) l.tokens

abbrev pub decreases-loop-alloc : goal.decreases-loop-alloc
decreases-loop-alloc l = length l.rest
