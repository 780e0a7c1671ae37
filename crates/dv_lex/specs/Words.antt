-- The text of a refusal.
use Rattle.std.specs.Prelude.{ℕ, List, ◌++◌, codes}
use Rattle.std.specs.Fmt.{decimal}
use Rattle.dv_lex.specs.declared.error.RefusalNumber.{RefusalNumber}
use Rattle.dv_lex.specs.declared.error.RefusalNumber.TheVariants.{E1, E2, E3, E4, E5, E6, E7, E8, E9, E10, E11, E12, E13, E14}
use Rattle.dv_lex.specs.declared.error.RefusalNumber.TheVariants.{E15, E16, E17}
use Rattle.dv_lex.specs.declared.error.TextError.{TextError}

abbrev pub refusal_word : RefusalNumber → List ℕ
refusal_word E1 = codes "E1"
refusal_word E2 = codes "E2"
refusal_word E3 = codes "E3"
refusal_word E4 = codes "E4"
refusal_word E5 = codes "E5"
refusal_word E6 = codes "E6"
refusal_word E7 = codes "E7"
refusal_word E8 = codes "E8"
refusal_word E9 = codes "E9"
refusal_word E10 = codes "E10"
refusal_word E11 = codes "E11"
refusal_word E12 = codes "E12"
refusal_word E13 = codes "E13"
refusal_word E14 = codes "E14"
refusal_word E15 = codes "E15"
refusal_word E16 = codes "E16"
refusal_word E17 = codes "E17"

-- `E7 line 3`
abbrev pub error_words : TextError → List ℕ
error_words e = refusal_word e.number ++ (codes " line " ++ decimal e.line)
