-- Instructions as text, in the words of a listing.
use Rattle.std.specs.Prelude.{ℕ, Bool, true, false, List, ◌++◌, codes}
use Rattle.std.specs.Fmt.{decimal, signed_decimal}
use Rattle.dv_bag.specs.declared.discipline.Change.TheVariants as change
use Rattle.dv_bag.specs.declared.discipline.Discipline.TheVariants as discipline
use Rattle.dv_code.specs.declared.instruction.Source.{Source}
use Rattle.dv_code.specs.declared.instruction.Source.TheVariants.{Own, Port}
use Rattle.dv_code.specs.declared.instruction.Leaf.{Leaf}
use Rattle.dv_code.specs.declared.instruction.Leaf.TheVariants as leaf
use Rattle.dv_code.specs.declared.instruction.Unary.{Unary}
use Rattle.dv_code.specs.declared.instruction.Unary.TheVariants.{Negate, Not, Times}
use Rattle.dv_code.specs.declared.instruction.Binary.{Binary}
use Rattle.dv_code.specs.declared.instruction.Binary.TheVariants.{Add, Subtract, Multiply, Divide, Remainder, Equal, Unequal}
use Rattle.dv_code.specs.declared.instruction.Binary.TheVariants.{Less, AtMost, Greater, AtLeast, Same, Different}
use Rattle.dv_code.specs.declared.instruction.Action.{Action}
use Rattle.dv_code.specs.declared.instruction.Action.TheVariants as action
use Rattle.dv_code.specs.declared.instruction.Deed.{Deed}
use Rattle.dv_code.specs.declared.instruction.Deed.TheVariants.{Go, Pop}
use Rattle.dv_code.specs.declared.instruction.Instruction.{Instruction}
use Rattle.dv_code.specs.declared.instruction.Instruction.TheVariants.{Push, Apply, Combine, Perform, Do, Jump, JumpFalse}
use Rattle.dv_code.specs.declared.instruction.Instruction.TheVariants.{FalseKeep, TrueKeep, Loop, Next, End}

abbrev pub source_words : Source → List ℕ
source_words (Own discipline.Bag index) = codes "bag " ++ decimal index
source_words (Own discipline.Queue index) = codes "queue " ++ decimal index
source_words (Port port) = codes "port " ++ decimal port

abbrev pub truth_words : Bool → List ℕ
truth_words true = codes "true"
truth_words false = codes "false"

abbrev pub leaf_words : Leaf → List ℕ
leaf_words (leaf.Number n) = signed_decimal n
leaf_words (leaf.Truth b) = truth_words b
leaf_words (leaf.Variable index) = codes "variable " ++ decimal index
leaf_words (leaf.Flag index) = codes "flag " ++ decimal index
leaf_words (leaf.Item loop) = codes "item " ++ decimal loop
leaf_words leaf.Elapsed = codes "elapsed"
leaf_words (leaf.Size s) = codes "size of " ++ source_words s
leaf_words (leaf.Sum s) = codes "sum of " ++ source_words s
leaf_words (leaf.Least s) = codes "least of " ++ source_words s
leaf_words (leaf.Most s) = codes "most of " ++ source_words s
leaf_words (leaf.Front index) = codes "front of queue " ++ decimal index

abbrev pub unary_words : Unary → List ℕ
unary_words Negate = codes "negate"
unary_words Not = codes "not"
unary_words (Times s) = codes "times in " ++ source_words s

abbrev pub binary_words : Binary → List ℕ
binary_words Add = codes "add"
binary_words Subtract = codes "subtract"
binary_words Multiply = codes "multiply"
binary_words Divide = codes "divide"
binary_words Remainder = codes "remainder"
binary_words Equal = codes "equal"
binary_words Unequal = codes "unequal"
binary_words Less = codes "less"
binary_words AtMost = codes "at most"
binary_words Greater = codes "greater"
binary_words AtLeast = codes "at least"
binary_words Same = codes "same"
binary_words Different = codes "different"

abbrev pub action_words : Action → List ℕ
action_words (action.SetVariable index) = codes "set variable " ++ decimal index
action_words (action.SetFlag index) = codes "set flag " ++ decimal index
action_words (action.Change change.Add index) = codes "add to bag " ++ decimal index
action_words (action.Change change.Drop index) = codes "drop from bag " ++ decimal index
action_words (action.Change change.Push index) = codes "push to queue " ++ decimal index
action_words (action.Send port) = codes "send by port " ++ decimal port

abbrev pub deed_words : Deed → List ℕ
deed_words (Go phase) = codes "go to phase " ++ decimal phase
deed_words (Pop index) = codes "pop from queue " ++ decimal index

-- a jump names where it leads; a loop, its collection and the address past it
abbrev pub instruction_words : Instruction → List ℕ
instruction_words (Push l) = codes "push " ++ leaf_words l
instruction_words (Apply u) = unary_words u
instruction_words (Combine o) = binary_words o
instruction_words (Perform a) = action_words a
instruction_words (Do d) = deed_words d
instruction_words (Jump to) = codes "jump to " ++ decimal to
instruction_words (JumpFalse to) = codes "if false jump to " ++ decimal to
instruction_words (FalseKeep to) = codes "if false keep and jump to " ++ decimal to
instruction_words (TrueKeep to) = codes "if true keep and jump to " ++ decimal to
instruction_words (Loop s past) = codes "loop over " ++ (source_words s ++ (codes " up to " ++ decimal past))
instruction_words (Next first) = codes "next from " ++ decimal first
instruction_words End = codes "end"
