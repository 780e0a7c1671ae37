use Rattle.std.proofs.Common.{ℕ, Err, ap, ◌∙◌}
use Rattle.dv_lex.specs.declared.error.LoadError.TheVariants.{Refused}
use Rattle.dv_lex.specs.declared.error.RefusalNumber.TheVariants.{E1}
use Rattle.dv_lex.proofs.Refusals.{same_valid, utf8_not_valid}
use Rattle.dv_lex.proofs.lexer.tokens.Goals as goal

pub returns-in-Err-clause-not_text : goal.returns-in-Err-clause-not_text
returns-in-Err-clause-not_text c offset refused =
    ap Err (c.refused-in-Err.ensures ∙ ap (λ (p : ℕ). Refused (record { number = E1; offset = p }))
    (c.valid_up_to.ensures ∙ same_valid c.args.text.now _ offset c.in-Err.ensures.cases.1 refused.1))

pub returns-in-Ok-clause-not_text : goal.returns-in-Ok-clause-not_text
returns-in-Ok-clause-not_text c offset refused =
    absurd (utf8_not_valid c.args.text.now offset (c.in-Ok.ensures.cases.1) refused.1)
