-- The text of a refusal.
use Rattle.std.specs.Prelude.{ℕ, List, ◌++◌, codes}
use Rattle.std.specs.Fmt.{decimal}
use Rattle.dv_inputs.specs.declared.error.InputRefusalNumber.{InputRefusalNumber}
use Rattle.dv_inputs.specs.declared.error.InputRefusalNumber.TheVariants.{I1, I2, I3, I4, I5}
use Rattle.dv_inputs.specs.declared.error.InputRefusal.{InputRefusal}

abbrev pub number_word : InputRefusalNumber → List ℕ
number_word I1 = codes "I1"
number_word I2 = codes "I2"
number_word I3 = codes "I3"
number_word I4 = codes "I4"
number_word I5 = codes "I5"

-- `I3 line 2`
abbrev pub refusal_words : InputRefusal → List ℕ
refusal_words r = number_word r.number ++ (codes " line " ++ decimal r.line)
