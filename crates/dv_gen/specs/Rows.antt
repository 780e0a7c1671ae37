-- Rules with their programs.
use Rattle.std.specs.Prelude.{ℕ, ℤ, Bool, List, [], ◌∷◌, pos, Some}
use Rattle.dv_bag.specs.Arrivals.{Arrivals}
use Rattle.dv_bag.specs.Bag.{Counts}
use Rattle.dv_bag.specs.declared.collection.Collection.TheVariants as collection
use Rattle.dv_bag.specs.declared.discipline.Change.TheVariants as change
use Rattle.dv_bag.specs.declared.discipline.Discipline.TheVariants as discipline
use Rattle.dv_bag.specs.declared.state.Datum.TheVariants as datum
use Rattle.dv_bag.specs.declared.state.Effect.{Effect}
use Rattle.dv_bag.specs.declared.state.State.{State}
use Rattle.dv_code.specs.Shape.{Shape}
use Rattle.dv_code.specs.Machine.{Outcome, begins, run}
use Rattle.dv_code.specs.declared.shape.ProgramSort.TheVariants.{External}
use Rattle.dv_code.specs.declared.shape.Slot.TheVariants.{Ranged, Flagged, Holding}
use Rattle.dv_code.specs.declared.instruction.Source.TheVariants.{Own, Port}
use Rattle.dv_code.specs.declared.instruction.Leaf.TheVariants.{Flag, Front, Item, Number, Variable}
use Rattle.dv_code.specs.declared.instruction.Binary.TheVariants.{Add, Divide, Equal, Less, Multiply}
use Rattle.dv_code.specs.declared.instruction.Action.TheVariants.{SetVariable}
use Rattle.dv_code.specs.declared.instruction.Action.TheVariants as action
use Rattle.dv_code.specs.declared.instruction.Deed.TheVariants.{Go, Pop}
use Rattle.dv_code.specs.declared.instruction.Instruction.{Instruction}
use Rattle.dv_code.specs.declared.instruction.Instruction.TheVariants as code
use Rattle.dv_gen.specs.Resolved.{Expression, Read, Infix, And, Statements, Done, Act, Obey, When, If, For}

-- the shape of an external rule, with a sum up to 100, a flag, a bag of at most two values, an input port and two phases
abbrev pub store : Shape
store = record {
  slots = Ranged (pos 0) (pos 100) ∷ Flagged ∷ Holding discipline.Bag 2 ∷ [];
  inputs = 1;
  outputs = 0;
  phases = 2;
  sort = External;
}

-- its state, in the first phase
abbrev pub stock : ℕ → Bool → Counts → State
stock sum flag bag = record {
  phase = 0;
  variables = datum.Number (pos sum) ∷ datum.Flag flag ∷ datum.Held (collection.Bag bag) ∷ [];
}

-- this state, nothing sent, and a goto to the second phase
abbrev pub to_second_phase : State → Effect
to_second_phase s = record { state = s; sent = []; goto = Some 1 }

-- a run of a program of the store after a number of steps
abbrev pub outcome_after : ℕ → List Instruction → Arrivals → State → Outcome
outcome_after n instructions arrivals s = run store instructions arrivals n (begins store s)

-- this bag at the input port
abbrev pub delivery : Counts → Arrivals
delivery bag = record { received = bag ∷ []; elapsed = 0 }

-- a 3, a 20 and a 30 at the input port
abbrev pub mixed_delivery : Arrivals
mixed_delivery = delivery ((pos 3, 1) ∷ (pos 20, 1) ∷ (pos 30, 1) ∷ [])

-- a 4 three times
abbrev pub even_delivery : Arrivals
even_delivery = delivery ((pos 4, 3) ∷ [])

-- a 99
abbrev pub great_delivery : Arrivals
great_delivery = delivery ((pos 99, 1) ∷ [])

-- Each value that arrived is added to the bag if the flag is on and the value is less than the sum; else it is added to the sum. Then the
-- rule goes to the second phase.
abbrev pub intake : Statements
intake =
    For (Port 0)
    (If (And (Read (Flag 1)) (Infix Less (Read (Item 0)) (Read (Variable 0))))
    (Act (action.Change change.Add 2) (Read (Item 0)) Done)
    (Act (SetVariable 0) (Infix Add (Read (Variable 0)) (Read (Item 0))) Done)
    Done)
    (Obey (Go 1) Done)

-- its program
abbrev pub intake_code : List Instruction
intake_code =
    code.Loop (Port 0) 15
    ∷ code.Push (Flag 1)
    ∷ code.FalseKeep 6
    ∷ code.Push (Item 0)
    ∷ code.Push (Variable 0)
    ∷ code.Combine Less
    ∷ code.JumpFalse 10
    ∷ code.Push (Item 0)
    ∷ code.Perform (action.Change change.Add 2)
    ∷ code.Jump 14
    ∷ code.Push (Variable 0)
    ∷ code.Push (Item 0)
    ∷ code.Combine Add
    ∷ code.Perform (SetVariable 0)
    ∷ code.Next 1
    ∷ code.Do (Go 1)
    ∷ code.End
    ∷ []

-- the sum becomes 7 if the flag is on; then the rule goes to the second phase
abbrev pub reset : Statements
reset = When (Read (Flag 1)) (Act (SetVariable 0) (Read (Number (pos 7))) Done) (Obey (Go 1) Done)

-- its program: after the block comes the next instruction, with no jump
abbrev pub reset_code : List Instruction
reset_code =
    code.Push (Flag 1)
    ∷ code.JumpFalse 4
    ∷ code.Push (Number (pos 7))
    ∷ code.Perform (SetVariable 0)
    ∷ code.Do (Go 1)
    ∷ code.End
    ∷ []

-- whether 0 is 1, and 1 divided by 0 is 0
abbrev pub false_before_fault : Expression
false_before_fault =
    And
    (Infix Equal (Read (Number (pos 0))) (Read (Number (pos 1))))
    (Infix Equal (Infix Divide (Read (Number (pos 1))) (Read (Number (pos 0)))) (Read (Number (pos 0))))

-- the shape of an external rule, with a number up to 999, a queue of at most three values, an input port and two phases
abbrev pub desk : Shape
desk = record {
  slots = Ranged (pos 0) (pos 999) ∷ Holding discipline.Queue 3 ∷ [];
  inputs = 1;
  outputs = 0;
  phases = 2;
  sort = External;
}

-- its state, in the first phase
abbrev pub waiting : ℕ → List ℤ → State
waiting number queue = record { phase = 0; variables = datum.Number (pos number) ∷ datum.Held (collection.Queue queue) ∷ [] }

-- a run of a program of the desk after a number of steps
abbrev pub outcome_at_desk : ℕ → List Instruction → Arrivals → State → Outcome
outcome_at_desk n instructions arrivals s = run desk instructions arrivals n (begins desk s)

-- a 3 and a 5 at the input port
abbrev pub two_delivered : Arrivals
two_delivered = delivery ((pos 3, 1) ∷ (pos 5, 1) ∷ [])

-- Each value that arrived is added at the end of the queue. The first one becomes the number and is removed. The others are appended to the
-- number as digits, and one is removed from the queue for each. Then the rule goes to the second phase.
abbrev pub service : Statements
service =
    For (Port 0) (Act (action.Change change.Push 1) (Read (Item 0)) Done)
    (Act (SetVariable 0) (Read (Front 1))
    (Obey (Pop 1)
    (For (Own discipline.Queue 1)
    (Act (SetVariable 0) (Infix Add (Infix Multiply (Read (Variable 0)) (Read (Number (pos 10)))) (Read (Item 0)))
    (Obey (Pop 1) Done))
    (Obey (Go 1) Done))))

-- its program
abbrev pub service_code : List Instruction
service_code =
    code.Loop (Port 0) 4
    ∷ code.Push (Item 0)
    ∷ code.Perform (action.Change change.Push 1)
    ∷ code.Next 1
    ∷ code.Push (Front 1)
    ∷ code.Perform (SetVariable 0)
    ∷ code.Do (Pop 1)
    ∷ code.Loop (Own discipline.Queue 1) 16
    ∷ code.Push (Variable 0)
    ∷ code.Push (Number (pos 10))
    ∷ code.Combine Multiply
    ∷ code.Push (Item 0)
    ∷ code.Combine Add
    ∷ code.Perform (SetVariable 0)
    ∷ code.Do (Pop 1)
    ∷ code.Next 8
    ∷ code.Do (Go 1)
    ∷ code.End
    ∷ []

-- the first value is removed
abbrev pub leaving : Statements
leaving = Obey (Pop 1) Done

-- its program
abbrev pub leaving_code : List Instruction
leaving_code = code.Do (Pop 1) ∷ code.End ∷ []
