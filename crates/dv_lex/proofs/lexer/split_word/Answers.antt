use Rattle.std.proofs.Common.{not, rules}
use Rattle.std.proofs.lemmas.Fn.{always_returns_same}
use Rattle.dv_lex.specs.Lexemes.{continues_name}
use Rattle.dv_lex.proofs.Characters.{SplitsCharacters-found, SplitsCharacters-name_bytes, SplitsCharacters-whole}
use Rattle.dv_lex.proofs.lexer.split_word.Goals as goal

pub returns-then-begins_with_ascii : goal.returns-then-begins_with_ascii
returns-then-begins_with_ascii c =
    SplitsCharacters-name_bytes c.args.text.now c.split_name_bytes.result.0.now c.split_name_bytes.result.1.now c.split_name_bytes.ensures
    (c.begins_with_ascii.ensures c.if-begins_with_ascii.true)

pub returns-in-Some : goal.returns-in-Some
returns-in-Some c =
    let found = c.in-Some.ensures.cases.1 (λ d. not (continues_name d)) (always_returns_same _ _ _ (λ a r f k. search rules)) in
    rw (c.split_at.ensures.front, c.split_at.ensures.back)
    (SplitsCharacters-found continues_name c.args.text.now c.in-Some.end c.in-Some.ensures.cases.0 found)

pub returns-in-None : goal.returns-in-None
returns-in-None c =
    let none = c.in-None.ensures.cases (λ d. not (continues_name d)) (always_returns_same _ _ _ (λ a r f k. search rules)) in
    SplitsCharacters-whole continues_name c.args.text.now none
