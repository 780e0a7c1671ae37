-- The subcommands by their names, and the options of each.
use Rattle.std.specs.Prelude.{ℕ, Bool, ◌||◌, false, if◌then◌else◌, List, Option, Some, None, bytes_eq, codes}
use Rattle.dv_command.specs.declared.subcommand.Subcommand.{Subcommand}
use Rattle.dv_command.specs.declared.subcommand.Subcommand.TheVariants.{Check, Code, Explain, Graph, Plan, Plot, Run, Stats, Table, Vcd}

-- the subcommand of this name
abbrev pub subcommand_named : List ℕ → Option Subcommand
subcommand_named word =
    if bytes_eq word (codes "check") then Some Check
    else if bytes_eq word (codes "code") then Some Code
    else if bytes_eq word (codes "explain") then Some Explain
    else if bytes_eq word (codes "graph") then Some Graph
    else if bytes_eq word (codes "plan") then Some Plan
    else if bytes_eq word (codes "plot") then Some Plot
    else if bytes_eq word (codes "run") then Some Run
    else if bytes_eq word (codes "stats") then Some Stats
    else if bytes_eq word (codes "table") then Some Table
    else if bytes_eq word (codes "vcd") then Some Vcd
    else None

-- the options by which a model is divided
abbrev pub plan_takes_value : List ℕ → Bool
plan_takes_value name = bytes_eq name (codes "--partition") || bytes_eq name (codes "--processes")

-- the options of a graph: those by which the model is divided, and what is shown
abbrev pub graph_takes_value : List ℕ → Bool
graph_takes_value name = plan_takes_value name || bytes_eq name (codes "--depth") || bytes_eq name (codes "--model")

-- the options of curves: which ticks are shown
abbrev pub plot_takes_value : List ℕ → Bool
plot_takes_value name = bytes_eq name (codes "--from") || bytes_eq name (codes "--to")

-- the options of an excerpt: which ticks are asked for, and which components
abbrev pub excerpt_takes_value : List ℕ → Bool
excerpt_takes_value name = bytes_eq name (codes "--from") || bytes_eq name (codes "--only") || bytes_eq name (codes "--to")

-- the options of numbers: what of the trace counts, and between which ports times are taken
abbrev pub stats_takes_value : List ℕ → Bool
stats_takes_value name = excerpt_takes_value name || bytes_eq name (codes "--flow")

-- the options of a run that take a value: its own, those by which its model is divided, and those of its numbers
abbrev pub run_takes_value : List ℕ → Bool
run_takes_value name =
    bytes_eq name (codes "--horizon") || bytes_eq name (codes "--inputs") || bytes_eq name (codes "--microsteps")
    || bytes_eq name (codes "--rounds") || bytes_eq name (codes "--workers") || plan_takes_value name || stats_takes_value name

-- the options of a value change dump
abbrev pub vcd_takes_value : List ℕ → Bool
vcd_takes_value name = bytes_eq name (codes "--inputs") || bytes_eq name (codes "--timescale") || excerpt_takes_value name

-- whether a subcommand has an option of this name that takes a value
abbrev pub takes_value : Subcommand → List ℕ → Bool
takes_value Run name = run_takes_value name
takes_value Plan name = plan_takes_value name
takes_value Graph name = graph_takes_value name
takes_value Plot name = plot_takes_value name
takes_value Check name = false
takes_value Code name = false
takes_value Explain name = false
takes_value Stats name = stats_takes_value name || bytes_eq name (codes "--inputs")
takes_value Table name = excerpt_takes_value name || bytes_eq name (codes "--inputs")
takes_value Vcd name = vcd_takes_value name

-- the flags of a run
abbrev pub run_has_flag : List ℕ → Bool
run_has_flag name =
    bytes_eq name (codes "--by-value") || bytes_eq name (codes "--csv") || bytes_eq name (codes "--explain") || bytes_eq name (codes "--progress")
    || bytes_eq name (codes "--quantiles") || bytes_eq name (codes "--stats")

-- the flags of curves
abbrev pub plot_has_flag : List ℕ → Bool
plot_has_flag name = bytes_eq name (codes "--explain") || bytes_eq name (codes "--partial")

-- the flags of numbers
abbrev pub stats_has_flag : List ℕ → Bool
stats_has_flag name =
    bytes_eq name (codes "--by-value") || bytes_eq name (codes "--csv") || bytes_eq name (codes "--explain") || bytes_eq name (codes "--partial")
    || bytes_eq name (codes "--quantiles")

-- the flags of a table
abbrev pub table_has_flag : List ℕ → Bool
table_has_flag name = bytes_eq name (codes "--explain") || bytes_eq name (codes "--json") || bytes_eq name (codes "--partial")

-- the flags of a value change dump
abbrev pub vcd_has_flag : List ℕ → Bool
vcd_has_flag name =
    bytes_eq name (codes "--explain") || bytes_eq name (codes "--hold-ports") || bytes_eq name (codes "--partial")

-- whether a subcommand has a flag of this name: an option without a value
abbrev pub is_flag : Subcommand → List ℕ → Bool
is_flag Explain name = false
is_flag Check name = bytes_eq name (codes "--explain") || bytes_eq name (codes "--warn")
is_flag Code name = bytes_eq name (codes "--explain")
is_flag Graph name = bytes_eq name (codes "--explain")
is_flag Plan name = bytes_eq name (codes "--explain")
is_flag Plot name = plot_has_flag name
is_flag Run name = run_has_flag name
is_flag Stats name = stats_has_flag name
is_flag Table name = table_has_flag name
is_flag Vcd name = vcd_has_flag name
