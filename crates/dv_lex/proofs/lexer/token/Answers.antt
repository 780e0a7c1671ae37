use Rattle.std.proofs.Common.{refl, sym, ◌∙◌}
use Rattle.dv_lex.proofs.Spellings.{word_class}
use Rattle.dv_lex.proofs.Firsts.{IsFirst-word, IsWord-split, word_in_range}
use Rattle.dv_lex.proofs.lexer.token.Goals as goal

-- a word
pub word_kind-requires-clause-word : goal.word_kind-requires-clause-word
word_kind-requires-clause-word c =
    IsWord-split c.args.first c.args.text.now c.split_word.result.0.now c.split_word.result.1.now c.requires.first
    (sym c.starts_name.ensures ∙ c.if-starts_name.true) c.split_word.ensures

pub returns-then-starts_name-clause-token : goal.returns-then-starts_name-clause-token
returns-then-starts_name-clause-token c =
    let word =
    IsWord-split c.args.first c.args.text.now c.split_word.result.0.now c.split_word.result.1.now c.requires.first
    (sym c.starts_name.ensures ∙ c.if-starts_name.true) c.split_word.ensures in
    let class = word_class c.in_ok-kind.ensures.0 c.split_word.result.0.now word c.in_ok-kind.ensures.1 in
    record {
      lexeme = c.in_ok-kind.ensures.0;
      front = c.split_word.result.0.now;
      first =
          IsFirst-word c.args.text.now c.split_word.result.0.now c.split_word.result.1.now c.in_ok-kind.ensures.0
          c.split_word.ensures class c.in_ok-kind.ensures.1;
      range = word_in_range c.in_ok-kind.ensures.0 class;
      table = c.in_ok-kind.ensures.2;
      kind = c.in_ok-kind.ensures.3;
      at_offset = refl;
    }
