-- Bags, queues and loops in worked rows, over a model with a variable tally of the range 0..9999, a bag or a queue of at most 6
-- values, an input port and an output port.
use Rattle.std.specs.Prelude.{ℕ, ℤ, pos, List, [], ◌∷◌, replicate, None, Result}
use Rattle.dv_syntax.specs.declared.tree.Name.{Name}
use Rattle.dv_syntax.specs.declared.tree.Command.TheVariants.{Pop}
use Rattle.dv_syntax.specs.declared.tree.BagCall.TheVariants.{Size, Least}
use Rattle.dv_syntax.specs.declared.tree.Operator.TheVariants.{Add, Multiply, Equal, Greater}
use Rattle.dv_syntax.specs.Trees.{Expression, Named, Binary, Call, Elapsed, Statements, Done, Assign, Does, Send, For, Changes}
use Rattle.dv_bag.specs.Bag.{Counts}
use Rattle.dv_bag.specs.Collections.{discipline_of}
use Rattle.dv_bag.specs.declared.collection.Collection.{Collection}
use Rattle.dv_bag.specs.declared.collection.Collection.TheVariants as collection
use Rattle.dv_bag.specs.declared.discipline.Change.TheVariants as change
use Rattle.dv_bag.specs.declared.discipline.Discipline.{Discipline}
use Rattle.dv_bag.specs.declared.fault.Fault.{Fault}
use Rattle.dv_bag.specs.declared.value.Value.{Value}
use Rattle.dv_bag.specs.declared.state.Datum.TheVariants as datum
use Rattle.dv_bag.specs.declared.state.State.{State}
use Rattle.dv_bag.specs.declared.state.Effect.{Effect}
use Rattle.dv_eval.specs.declared.scope.Domain.TheVariants as domain
use Rattle.dv_eval.specs.Scope.{Scope}
use Rattle.dv_eval.specs.Edges.{number}
use Rattle.dv_bag.specs.Arrivals.{Arrivals, nothing_arrived}
use Rattle.dv_eval.specs.Meaning.{effect_of, meaning, moment_in, outermost}

abbrev pub named : ℕ → Name
named n = record { number = n; offset = 1 }

abbrev pub tally : Name
tally = named 0

abbrev pub bag : Name
bag = named 1

-- the queue, in a model that has one in the place of the bag
abbrev pub queue : Name
queue = named 1

abbrev pub port : Name
port = named 2

-- the variable of a loop
abbrev pub item : Name
item = named 3

-- the input port
abbrev pub requests : Name
requests = named 4

abbrev pub tally_and : Discipline → Scope
tally_and d = record {
  variables = (0, domain.Number (record { low = pos 0; high = pos 9999; start = pos 0 })) ∷ (1, domain.Held d 6) ∷ [];
  phases = [];
  inputs = 4 ∷ [];
  outputs = 2 ∷ [];
}

abbrev pub holding : ℤ → Collection → State
holding count c = record { phase = 0; variables = datum.Number count ∷ datum.Held c ∷ [] }

-- the value and the effect in a state with this collection, with what arrived
abbrev pub value_over : Collection → Arrivals → Expression → Result Value Fault
value_over c arrivals e = meaning (tally_and (discipline_of c)) (moment_in (outermost arrivals) (holding (pos 0) c)) e

abbrev pub effect_over : Collection → Arrivals → Statements → Result Effect Fault
effect_over c arrivals body = effect_of (tally_and (discipline_of c)) body arrivals (holding (pos 0) c)

-- the number and the collection after a rule, and what it sent
abbrev pub left_over : ℤ → Collection → Counts → Effect
left_over count c sent = record { state = holding count c; sent = sent ∷ []; goto = None }

-- the same for a bag with these values
abbrev pub value_with : Counts → Expression → Result Value Fault
value_with values e = value_over (collection.Bag values) nothing_arrived e

abbrev pub effect_with : Counts → Statements → Result Effect Fault
effect_with values body = effect_over (collection.Bag values) nothing_arrived body

abbrev pub left : ℤ → Counts → Counts → Effect
left count values sent = left_over count (collection.Bag values) sent

-- and for a queue with them
abbrev pub value_queued : List ℤ → Expression → Result Value Fault
value_queued values e = value_over (collection.Queue values) nothing_arrived e

abbrev pub effect_queued : List ℤ → Statements → Result Effect Fault
effect_queued values body = effect_over (collection.Queue values) nothing_arrived body

abbrev pub queued : ℤ → List ℤ → Effect
queued count values = left_over count (collection.Queue values) []

-- 2, 3 and 3
abbrev pub two_threes : Counts
two_threes = (pos 2, 1) ∷ (pos 3, 2) ∷ []

-- a number of ones, in a queue
abbrev pub ones : ℕ → List ℤ
ones n = replicate n (pos 1)

-- the greatest number twice
abbrev pub great : Counts
great = (pos 9223372036854775807, 2) ∷ []

-- size(bag) > 0
abbrev pub some_there : Expression
some_there = Binary Greater (Call Size 1 bag) (number 0)

-- least(bag) = 1
abbrev pub least_is_one : Expression
least_is_one = Binary Equal (Call Least 1 bag) (number 1)

-- for item in bag { .. }
abbrev pub for_each : Statements → Statements
for_each block = For 1 item bag block Done

-- tally := tally * 10 + item; and what follows
abbrev pub digit_before : Statements → Statements
digit_before rest = Assign tally (Binary Add (Binary Multiply (Named tally) (number 10)) (Named item)) rest

abbrev pub next_digit : Statements
next_digit = digit_before Done

-- send port item;
abbrev pub send_it : Statements
send_it = Send 1 port (Named item) Done

-- add item to bag;
abbrev pub add_it : Statements
add_it = Changes change.Add 1 (Named item) bag Done

-- push item to queue; and what follows
abbrev pub push_it : Statements → Statements
push_it rest = Changes change.Push 1 (Named item) queue rest

-- pop queue;
abbrev pub pop_one : Statements
pop_one = Does Pop 1 queue Done

-- tally := tally * 10 + item; push item to queue; pop queue;
abbrev pub turn_over : Statements
turn_over = digit_before (push_it pop_one)

-- for item in bag { for item in bag { tally := tally * 10 + item; } }
abbrev pub nested : Statements
nested = for_each (for_each next_digit)

-- these values at the input port, and the ticks since the last transition
abbrev pub arrived : Counts → ℕ → Arrivals
arrived values ticks = record { received = values ∷ []; elapsed = ticks }

-- the value if the bag of the state has some values, and others arrived
abbrev pub value_when : Counts → Counts → Expression → Result Value Fault
value_when values received e = value_over (collection.Bag values) (arrived received 1) e

-- the ticks since the last transition
abbrev pub elapsed_when : ℕ → Result Value Fault
elapsed_when ticks = value_over (collection.Bag []) (arrived [] ticks) (Elapsed 1)

-- the effect if the bag of the state has some values, and others arrived
abbrev pub effect_when : Counts → Counts → Statements → Result Effect Fault
effect_when values received body = effect_over (collection.Bag values) (arrived received 1) body

-- for item in requests { .. }
abbrev pub for_each_request : Statements → Statements
for_each_request block = For 1 item requests block Done
