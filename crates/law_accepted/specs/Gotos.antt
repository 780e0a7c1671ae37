-- Where statements go.
use Rattle.std.specs.Prelude.{ℕ, List, [], ◌∷◌, ◌++◌}
use Rattle.dv_syntax.specs.Trees.{Statements, Done, Assign, Does, Send, If, IfElse, For, Changes}
use Rattle.dv_syntax.specs.declared.tree.Name.{Name}
use Rattle.dv_syntax.specs.declared.tree.Command.{Command}
use Rattle.dv_syntax.specs.declared.tree.Command.TheVariants as command

-- the name of the phase to which a command goes
abbrev pub goto_of : Command → Name → List ℕ
goto_of command.Goto name = name.number ∷ []
goto_of command.Pop name = []

-- the names of the phases to which statements go, in the order of the text
abbrev pub gotos_in : Statements → List ℕ
gotos_in Done = []
gotos_in (Assign variable e rest) = gotos_in rest
gotos_in (Does c offset name rest) = goto_of c name ++ gotos_in rest
gotos_in (Send offset port e rest) = gotos_in rest
gotos_in (If offset e block rest) = gotos_in block ++ gotos_in rest
gotos_in (IfElse offset e block other rest) = gotos_in block ++ (gotos_in other ++ gotos_in rest)
gotos_in (For offset v b block rest) = gotos_in block ++ gotos_in rest
gotos_in (Changes c offset e x rest) = gotos_in rest
