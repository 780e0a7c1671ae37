-- The codes that are explained: those of refusals and of faults.
use Rattle.std.specs.Prelude.{ℕ, List, [], ◌∷◌, map, codes, Option, option_map}
use Rattle.std.specs.Char.{to_ascii_uppercase}
use Rattle.std.specs.List.{find}
use Rattle.std.specs.Option.{option_or}
use Rattle.std.specs.Str.{bytes_eq}
use Rattle.std.specs.Borrow.{Bor}
use Rattle.dv_explain.specs.declared.explanation.Explanation.{Explanation}

-- the numbers of refusals of models
abbrev pub refusal_codes : List (List ℕ)
refusal_codes =
    codes "E1" ∷ codes "E2" ∷ codes "E3" ∷ codes "E4" ∷ codes "E5" ∷ codes "E6" ∷ codes "E7" ∷ codes "E8" ∷ codes "E9"
    ∷ codes "E10" ∷ codes "E11" ∷ codes "E12" ∷ codes "E13" ∷ codes "E14" ∷ codes "E15" ∷ codes "E16" ∷ codes "E17" ∷ codes "E18" ∷ []

-- those of refusals of inputs
abbrev pub input_codes : List (List ℕ)
input_codes = codes "I1" ∷ codes "I2" ∷ codes "I3" ∷ codes "I4" ∷ codes "I5" ∷ []

-- those of refusals of partitions
abbrev pub partition_codes : List (List ℕ)
partition_codes = codes "Q1" ∷ codes "Q2" ∷ codes "Q3" ∷ codes "Q4" ∷ []

-- the names of faults
abbrev pub fault_codes : List (List ℕ)
fault_codes =
    codes "overflow" ∷ codes "divide" ∷ codes "range" ∷ codes "empty" ∷ codes "full" ∷ codes "negative" ∷ codes "microsteps"
    ∷ codes "flood" ∷ []

-- the codes of explanations
abbrev pub codes_of : List Explanation → List (List ℕ)
codes_of explanations = map (λ (e : Explanation). e.code.now) explanations

-- the code of an explanation that was found
abbrev pub code_found : Option (Bor Explanation) → Option (List ℕ)
code_found found = option_map (λ (e : Bor Explanation). e.now.code.now) found

-- the first of these explanations that has the code
abbrev pub explanation_in : List Explanation → List ℕ → Option Explanation
explanation_in explanations code = find (λ (e : Explanation). bytes_eq e.code.now code) explanations

-- a code, where it is one of these
abbrev pub code_in : List (List ℕ) → List ℕ → Option (List ℕ)
code_in known code = find (λ (one : List ℕ). bytes_eq one code) known

-- a code, where it is explained
abbrev pub explained_code : List ℕ → Option (List ℕ)
explained_code code =
    option_or (option_or (option_or (code_in refusal_codes code) (code_in input_codes code)) (code_in partition_codes code))
    (code_in fault_codes code)

-- the code that is explained where one is asked for that may be written in small letters
abbrev pub explained_in_any_case : List ℕ → Option (List ℕ)
explained_in_any_case code = option_or (explained_code code) (explained_code (map to_ascii_uppercase code))
