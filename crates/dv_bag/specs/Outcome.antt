-- What a function returns that may run out of memory, compared with what is specified.
use Rattle.std.specs.Prelude.{◌≡◌, Result, Ok, Err}
use Rattle.dv_bag.specs.declared.fault.Fault.{Fault}
use Rattle.dv_bag.specs.declared.fault.RuleError.{RuleError}
use Rattle.dv_bag.specs.declared.fault.RuleError.TheVariants as error

-- the specified result is this fault; nothing is said if memory runs out
abbrev pub Fails : {X : Type 0} → RuleError → Result X Fault → Type 0
Fails (error.Fault f) meant = meant ≡ Err f
Fails error.Memory meant = Unit {0}

-- the result is the specified one, unless memory ran out
abbrev pub Gives : {X : Type 0} → Result X RuleError → Result X Fault → Type 0
Gives (Ok x) meant = meant ≡ Ok x
Gives (Err e) meant = Fails e meant

infixl 10 ◌>>=◌
-- continues with a value, or ends with the fault
abbrev pub ◌>>=◌ : {A B : Type 0} → Result A Fault → (A → Result B Fault) → Result B Fault
(Ok x) >>= f = f x
(Err e) >>= f = Err e
