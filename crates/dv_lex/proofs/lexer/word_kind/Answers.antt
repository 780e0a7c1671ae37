use Rattle.std.proofs.Common.{refl, sym, Some, ap}
use Rattle.dv_lex.specs.declared.token.TokenKind.TheVariants as kind
use Rattle.dv_lex.specs.Lexemes.{Identifier, Reserved}
use Rattle.dv_lex.proofs.lexer.word_kind.Goals as goal

pub returns-in-Some : goal.returns-in-Some
returns-in-Some c = (Reserved c.in-Some.keyword, c.in-Some.ensures, refl, refl)

pub returns-in_ok-number-in-None : goal.returns-in_ok-number-in-None
returns-in_ok-number-in-None c = (
  Identifier c.args.word.now,
  (refl, c.requires.word, c.in-None.ensures),
  c.in_ok-number-in-None.ensures.added,
  ap (λ n. Some (kind.Name n)) (sym c.in_ok-number-in-None.ensures.number),
)
