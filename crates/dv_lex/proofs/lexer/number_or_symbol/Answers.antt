use Rattle.std.proofs.Common.{ap, refl, sym, ◌∙◌, Some}
use Rattle.std.specs.Str.Parse.{digits_value}
use Rattle.dv_lex.specs.declared.token.TokenKind.TheVariants as kind
use Rattle.dv_lex.specs.Lexemes.{Numeral, Sign, symbol_text}
use Rattle.dv_lex.proofs.Firsts.{IsFirst-numeral, IsFirst-sign, digits-split, NoneBegins-first}
use Rattle.dv_lex.proofs.lexer.number_or_symbol.Goals as goal

-- a number
pub returns-in_default-clause-refused : goal.returns-in_default-clause-refused
returns-in_default-clause-refused c = (
  refl,
  (
    digits_value 10 c.split_digits.result.0.now,
    c.split_digits.result.0.now,
    c.split_digits.result.1.now,
    IsFirst-numeral c.args.text.now c.split_digits.result.0.now c.split_digits.result.1.now c.split_digits.ensures
        (digits-split c.args.first c.args.text.now c.split_digits.result.0.now c.split_digits.result.1.now c.requires.first
        (sym c.is_ascii_digit.ensures.value ∙ c.if-is_ascii_digit.true) c.split_digits.ensures),
    c.in_default.ensures,
  ),
)

pub returns-then-is_ascii_digit-clause-token : goal.returns-then-is_ascii_digit-clause-token
returns-then-is_ascii_digit-clause-token c names =
    record {
      lexeme = Numeral (digits_value 10 c.split_digits.result.0.now);
      front = c.split_digits.result.0.now;
      first = IsFirst-numeral c.args.text.now c.split_digits.result.0.now c.split_digits.result.1.now c.split_digits.ensures
          (digits-split c.args.first c.args.text.now c.split_digits.result.0.now c.split_digits.result.1.now c.requires.first
          (sym c.is_ascii_digit.ensures.value ∙ c.if-is_ascii_digit.true) c.split_digits.ensures);
      range = c.in-Some.ensures.1;
      table = refl;
      kind = ap (λ n. Some (kind.Number n)) (sym c.in-Some.ensures.0);
      at_offset = refl;
    }

-- a symbol
pub returns-in_default-symbol-clause-refused : goal.returns-in_default-symbol-clause-refused
returns-in_default-symbol-clause-refused c = (
  refl,
  NoneBegins-first c.args.first c.args.text.now c.requires.first c.requires.no_blank c.requires.no_comment c.requires.no_word
      (sym c.is_ascii_digit.ensures.value ∙ c.if-is_ascii_digit.false) c.in_default-symbol.ensures,
)

pub returns-clause-token : goal.returns-clause-token
returns-clause-token c names = record {
  lexeme = Sign c.in-Some-symbol.symbol;
  front = symbol_text c.in-Some-symbol.symbol;
  first = IsFirst-sign c.args.text.now c.in-Some-symbol.symbol c.in-Some-symbol.rest.now c.in-Some-symbol.ensures;
  range = tt;
  table = refl;
  kind = refl;
  at_offset = refl;
}
