use Rattle.std.proofs.Common.{ℕ, List, [], ◌∷◌, ◌≢◌, ◌∙◌, ap, rules}
use Rattle.std.specs.Str.{bytes_eq}
use Rattle.dv_bag.specs.Words.{fault_word}
use Rattle.dv_bag.specs.declared.fault.Fault.{Fault}
use Rattle.dv_bag.specs.declared.fault.Fault.TheVariants.{Overflow, Divide, Range, Empty, Full, Negative, Microsteps, Flood}
use Rattle.dv_bag.proofs.Words.{AreOthers, all_differ, none_differs, one_more_differs, words_agree}
use Rattle.dv_bag.proofs.fault.FaultFromStr.from_str.Goals as goal

abbrev faults : List Fault
faults = Overflow ∷ Divide ∷ Range ∷ Empty ∷ Full ∷ Negative ∷ Microsteps ∷ Flood ∷ []

none_has : (word : List ℕ) → AreOthers fault_word word faults → (fault : Fault) → word ≢ fault_word fault
none_has word others Overflow = others 0 Overflow (search rules)
none_has word others Divide = others 1 Divide (search rules)
none_has word others Range = others 2 Range (search rules)
none_has word others Empty = others 3 Empty (search rules)
none_has word others Full = others 4 Full (search rules)
none_has word others Negative = others 5 Negative (search rules)
none_has word others Microsteps = others 6 Microsteps (search rules)
none_has word others Flood = others 7 Flood (search rules)

pub loop-fault-init : goal.loop-fault-init
loop-fault-init c = none_differs fault_word _

pub returns-then-eq : goal.returns-then-eq
returns-then-eq c = words_agree _ _ (c.if-eq.ensures ∙ ap (λ w. bytes_eq w c.args.word.now) c.word.ensures)

pub loop-fault-preserved : goal.loop-fault-preserved
loop-fault-preserved c = one_more_differs fault_word _ faults c.loop-fault.fault-index Overflow c.loop-fault-test.true
    c.loop-fault.invariant (c.if-eq.ensures ∙ ap (λ w. bytes_eq w c.args.word.now) c.word.ensures)

pub returns : goal.returns
returns c = none_has _ (all_differ fault_word _ faults c.loop-fault.fault-index c.loop-fault-test.false c.loop-fault.invariant)
