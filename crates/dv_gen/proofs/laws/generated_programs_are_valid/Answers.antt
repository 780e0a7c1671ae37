use Rattle.std.proofs.Common.{[], ◌∷◌, subst}
use Rattle.dv_code.specs.Valid.{IsValid}
use Rattle.dv_gen.specs.Resolved.{type_of}
use Rattle.dv_gen.proofs.Marks.{same_code, same_code_all}
use Rattle.dv_gen.proofs.Validity.{hold_valid, rule_valid}
use Rattle.dv_gen.proofs.laws.generated_programs_are_valid.Goals as goal

pub returns-clause-rule : goal.returns-clause-rule
returns-clause-rule c shape depth body typed =
    subst (IsValid shape [] depth) (same_code_all body 0 [] _) (rule_valid shape depth body typed)

pub returns-clause-hold : goal.returns-clause-hold
returns-clause-hold c shape e typed =
    subst (IsValid shape (type_of e ∷ []) 0) (same_code e 0 [] [] _) (hold_valid shape e typed)
