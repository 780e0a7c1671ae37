-- Which of several refusals is the answer: the one at the least offset, and at one offset the one with the least number.
use Rattle.std.specs.Prelude.{ℕ, Bool, ◌&&◌, ◌||◌, nat_eq, nat_lt, if◌then◌else◌, List, [], ◌∷◌, Option, Some, None}
use Rattle.dv_lex.specs.declared.error.RefusalNumber.{RefusalNumber}
use Rattle.dv_lex.specs.declared.error.RefusalNumber.TheVariants.{E1, E2, E3, E4, E5, E6, E7, E8, E9, E10, E11, E12, E13, E14}
use Rattle.dv_lex.specs.declared.error.RefusalNumber.TheVariants.{E15, E16, E17}
use Rattle.dv_lex.specs.declared.error.Refusal.{Refusal}

-- the number that is printed for a refusal
abbrev pub ordinal : RefusalNumber → ℕ
ordinal E1 = 1
ordinal E2 = 2
ordinal E3 = 3
ordinal E4 = 4
ordinal E5 = 5
ordinal E6 = 6
ordinal E7 = 7
ordinal E8 = 8
ordinal E9 = 9
ordinal E10 = 10
ordinal E11 = 11
ordinal E12 = 12
ordinal E13 = 13
ordinal E14 = 14
ordinal E15 = 15
ordinal E16 = 16
ordinal E17 = 17

-- whether the first refusal comes before the second
abbrev pub precedes : Refusal → Refusal → Bool
precedes a b = nat_lt a.offset b.offset || (nat_eq a.offset b.offset && nat_lt (ordinal a.number) (ordinal b.number))

-- the earlier of two refusals, of which the first may be missing
abbrev pub earlier : Option Refusal → Refusal → Refusal
earlier None r = r
earlier (Some first) r = if precedes r first then r else first

-- the first of the refusals, if there is one
abbrev pub first_after : Option Refusal → List Refusal → Option Refusal
first_after found [] = found
first_after found (r ∷ rs) = first_after (Some (earlier found r)) rs

abbrev pub first_refusal : List Refusal → Option Refusal
first_refusal rs = first_after None rs
