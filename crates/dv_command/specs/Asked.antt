-- What words ask for.
use Rattle.std.specs.Prelude.{◌≡◌, ℕ, ◌^◌, ◌-◌, Bool, true, false, ◌||◌, ◌&&◌, MatchBool, IsSomeAnd, ⊤, List, [], ◌∷◌, ◌++◌}
use Rattle.std.specs.Prelude.{Option, Some, None, option_map, is_some, nat_le, string_bytes, bytes_eq, codes}
use Rattle.std.specs.Prelude.{Result, Ok, Err, ◌<◌, length, map}
use Rattle.std.specs.declared.string.String.{String}
use Rattle.dv_time.specs.Limits.{greatest_tick, greatest_limit}
use Rattle.dv_explain.specs.Codes.{explained_in_any_case}
use Rattle.dv_command.specs.declared.subcommand.Subcommand.{Subcommand}
use Rattle.dv_command.specs.declared.subcommand.Subcommand.TheVariants as subcommand
use Rattle.dv_command.specs.declared.request.Request.{Request}
use Rattle.dv_command.specs.declared.request.Request.TheVariants.{Check, Run, Code, Plan, Graph, Plot, Vcd, Stats, Table, Explain, Version}
use Rattle.dv_command.specs.declared.request.ModelFile.{ModelFile}
use Rattle.dv_command.specs.declared.request.PartitionChoice.{PartitionChoice}
use Rattle.dv_command.specs.declared.request.PartitionChoice.TheVariants.{File, Count}
use Rattle.dv_command.specs.Numbers.{number_in}
use Rattle.dv_command.specs.Subcommands.{subcommand_named}
use Rattle.dv_command.specs.Words.{Said, Ready, at_most_one, given, said_by, values}
use Rattle.dv_command.specs.declared.request.RequestError.{RequestError}
use Rattle.dv_command.specs.declared.request.RequestError.TheVariants.{Memory, Usage}
use Rattle.dv_command.specs.declared.request.Check.{Check as CheckRequest}
use Rattle.dv_command.specs.declared.request.Excerpt.{Excerpt}
use Rattle.dv_command.specs.declared.request.Flow.{Flow}
use Rattle.dv_command.specs.declared.request.Graph.{Graph as GraphRequest}
use Rattle.dv_command.specs.declared.request.GraphChoice.{GraphChoice}
use Rattle.dv_command.specs.declared.request.GraphChoice.TheVariants.{All, Depth, Phases}
use Rattle.dv_command.specs.declared.request.Plan.{Plan as PlanRequest}
use Rattle.dv_command.specs.declared.request.Plot.{Plot as PlotRequest}
use Rattle.dv_command.specs.declared.request.Run.{Run as RunRequest}
use Rattle.dv_command.specs.declared.request.Stats.{Stats as StatsRequest}
use Rattle.dv_command.specs.declared.request.StatsChoice.{StatsChoice}
use Rattle.dv_command.specs.declared.request.Table.{Table as TableRequest}
use Rattle.dv_command.specs.declared.request.TraceFiles.{TraceFiles}
use Rattle.dv_command.specs.declared.request.Waves.{Waves}
use Rattle.dv_command.specs.declared.unasked.Unasked.{Unasked}
use Rattle.dv_command.specs.declared.unasked.Unasked.TheVariants as unasked

-- what fits, or `None` if nothing fits
abbrev pub IsFitting : {A : Type 0} → (A → Type 0) → Option A → Type 0
IsFitting {A} Fits None = (x : A) → ¬ (Fits x)
IsFitting Fits (Some x) = Fits x

-- what is true of an answer: `Nothing` is the answer `None`; if memory ran out, there is no answer
abbrev pub IfAnswered : {A : Type 0} → Result A Unasked → (Option A → Type 0) → Type 0
IfAnswered (Ok x) Holds = Holds (Some x)
IfAnswered (Err why) Holds = why ≡ unasked.Nothing → Holds None

-- the microstep limit of a run if none is given
abbrev pub usual_limit : ℕ
usual_limit = 20

-- the most workers that a run may have
abbrev pub most_workers : ℕ
most_workers = 256

-- whether a flag is given; `None` if it is given more than once
abbrev pub flag_in : List ℕ → List Said → Option Bool
flag_in name said = option_map (λ text. is_some text) (at_most_one (given name said))

-- the value of an option, if it is given; `None` if it is given more than once
abbrev pub text_in : List ℕ → List Said → Option (Option (List ℕ))
text_in name said = at_most_one (given name said)

-- an option that may be given once is not given
abbrev pub is_nothing : Option (Option (List ℕ)) → Bool
is_nothing None = false
is_nothing (Some None) = true
is_nothing (Some (Some text)) = false

-- whether an option is not given
abbrev pub is_left_out : List ℕ → List Said → Bool
is_left_out name said = is_nothing (text_in name said)

-- the number in the value of an option, if it is given; `None` if the value is no number in this range
abbrev pub number_of : ℕ → ℕ → Option (List ℕ) → Option (Option ℕ)
number_of least greatest None = Some None
number_of least greatest (Some text) = option_map (λ n. Some n) (number_in least greatest text)

-- applies `rest` to the value of an option; `None` if the option is given more than once
abbrev pub of_text : {A : Type 0} → Option (Option (List ℕ)) → (Option (List ℕ) → Option A) → Option A
of_text None rest = None
of_text (Some text) rest = rest text

-- the number of an option, if it is given; `None` if it is given more than once, or if its value is no number in this range
abbrev pub count_in : ℕ → ℕ → List ℕ → List Said → Option (Option ℕ)
count_in least greatest name said = of_text (text_in name said) (number_of least greatest)

-- the value of an option that need not be given
abbrev pub or_usual : ℕ → Option (Option ℕ) → Option ℕ
or_usual usual None = None
or_usual usual (Some None) = Some usual
or_usual usual (Some (Some n)) = Some n

-- the value of an option that has to be given
abbrev pub required : Option (Option ℕ) → Option ℕ
required None = None
required (Some given) = given

-- the file of a partition, if one was chosen
abbrev pub file_of : Option PartitionChoice → Option (List ℕ)
file_of None = None
file_of (Some (File name)) = Some (string_bytes name)
file_of (Some (Count n)) = None

-- the number of processes, if that was chosen
abbrev pub processes_of : Option PartitionChoice → Option ℕ
processes_of None = None
processes_of (Some (File name)) = None
processes_of (Some (Count n)) = Some n

-- a partition is a file or a number of processes, or neither is given
pub record AsksPartition (said : List Said) (partition : Option PartitionChoice) : Type 0 where
  pub file : text_in (codes "--partition") said ≡ Some (file_of partition)
  pub processes : count_in 0 (2 ^ 32 - 1) (codes "--processes") said ≡ Some (processes_of partition)

-- `MODEL [--explain]`
pub record AsksModel (said : List Said) (file : ModelFile) : Type 0 where
  pub model : values said ≡ string_bytes file.model ∷ []
  pub explained : flag_in (codes "--explain") said ≡ Some file.explained

-- `MODEL [--warn] [--explain]`
pub record AsksCheck (said : List Said) (check : CheckRequest) : Type 0 where
  pub file : AsksModel said check.file
  pub warned : flag_in (codes "--warn") said ≡ Some check.warned

-- `MODEL [--partition F | --processes N] [--explain]`
pub record AsksPlan (said : List Said) (plan : PlanRequest) : Type 0 where
  pub model : values said ≡ string_bytes plan.model ∷ []
  pub partition : AsksPartition said plan.partition
  pub explained : flag_in (codes "--explain") said ≡ Some plan.explained

-- the depth of a graph, if one was chosen
abbrev pub depth_of : GraphChoice → Option ℕ
depth_of All = None
depth_of (Depth n) = Some n
depth_of (Phases name) = None

-- the model whose phases a graph shows, if one was chosen
abbrev pub phases_of : GraphChoice → Option (List ℕ)
phases_of All = None
phases_of (Depth n) = None
phases_of (Phases name) = Some (string_bytes name)

-- a graph shows all components, or those down to a depth, or the phases of a model
pub record AsksGraphChoice (said : List Said) (choice : GraphChoice) : Type 0 where
  pub depth : count_in 0 (2 ^ 64 - 1) (codes "--depth") said ≡ Some (depth_of choice)
  pub phases : text_in (codes "--model") said ≡ Some (phases_of choice)

-- `MODEL [--depth N] [--partition F | --processes N] [--explain]`, or `MODEL --model NAME [--explain]`
pub record AsksGraph (said : List Said) (graph : GraphRequest) : Type 0 where
  pub file : AsksModel said graph.file
  pub partition : AsksPartition said graph.partition
  pub choice : AsksGraphChoice said graph.choice
  pub undivided : (is_some (phases_of graph.choice) && is_some graph.partition) ≡ false

-- an option whose value is a text, and which need not be given
abbrev pub AsksText : {Z : Type 0} → List ℕ → List Said → Option (String Z) → Type 0
AsksText name said text = text_in name said ≡ Some (option_map string_bytes text)

-- `--horizon H`, which has to be given
abbrev pub AsksHorizon : List Said → ℕ → Type 0
AsksHorizon said horizon = required (count_in 0 greatest_tick (codes "--horizon") said) ≡ Some horizon

-- `--microsteps L`
abbrev pub AsksMicrosteps : List Said → ℕ → Type 0
AsksMicrosteps said microsteps = or_usual usual_limit (count_in 1 greatest_limit (codes "--microsteps") said) ≡ Some microsteps

-- `--rounds N`, `--workers N`, or neither
pub record AsksDriving (said : List Said) (rounds workers : Option ℕ) : Type 0 where
  pub rounds_given : count_in 0 (2 ^ 64 - 1) (codes "--rounds") said ≡ Some rounds
  pub workers_given : count_in 1 most_workers (codes "--workers") said ≡ Some workers
  pub not_both : (is_some rounds && is_some workers) ≡ false

-- whether the last tick is not before the first one, if both are given
abbrev pub are_in_order : Option ℕ → Option ℕ → Bool
are_in_order (Some first) (Some last) = nat_le first last
are_in_order _ _ = true

-- `[--from T] [--to T]`
pub record AsksWindow (said : List Said) (first last : Option ℕ) : Type 0 where
  pub first_given : count_in 0 greatest_tick (codes "--from") said ≡ Some first
  pub last_given : count_in 0 greatest_tick (codes "--to") said ≡ Some last
  pub in_order : are_in_order first last ≡ true

-- `[--from T] [--to T] [--only PATH]`
pub record AsksExcerpt (said : List Said) (excerpt : Excerpt) : Type 0 where
  pub window : AsksWindow said excerpt.from excerpt.to
  pub only : AsksText (codes "--only") said excerpt.only

-- the ports between which times are taken, if they are given
abbrev pub ports_of : Option Flow → Option (List ℕ)
ports_of None = None
ports_of (Some flow) = Some (string_bytes flow.ports)

-- whether values that are the same are paired
abbrev pub pairs_values : Option Flow → Bool
pairs_values None = false
pairs_values (Some flow) = flow.by_value

-- `[--flow FROM:TO [--by-value]]`
pub record AsksFlow (said : List Said) (flow : Option Flow) : Type 0 where
  pub ports : text_in (codes "--flow") said ≡ Some (ports_of flow)
  pub by_value : flag_in (codes "--by-value") said ≡ Some (pairs_values flow)

-- `[--from T] [--to T] [--only PATH] [--flow FROM:TO [--by-value]] [--quantiles] [--csv]`
pub record AsksStatsChoice (said : List Said) (choice : StatsChoice) : Type 0 where
  pub excerpt : AsksExcerpt said choice.excerpt
  pub flow : AsksFlow said choice.flow
  pub quantiles : flag_in (codes "--quantiles") said ≡ Some choice.quantiles
  pub csv : flag_in (codes "--csv") said ≡ Some choice.csv

-- whether none of these is given
abbrev pub has_no_stats_choice : List Said → Bool
has_no_stats_choice said =
    is_left_out (codes "--from") said && is_left_out (codes "--to") said && is_left_out (codes "--only") said
    && is_left_out (codes "--flow") said && is_left_out (codes "--by-value") said
    && is_left_out (codes "--quantiles") said && is_left_out (codes "--csv") said

-- `--stats`, with what numbers are wanted; or none of these words
abbrev pub AsksRunStats : List Said → Option StatsChoice → Type 0
AsksRunStats said None = (flag_in (codes "--stats") said ≡ Some false) × (has_no_stats_choice said ≡ true)
AsksRunStats said (Some choice) = (flag_in (codes "--stats") said ≡ Some true) × AsksStatsChoice said choice

-- `MODEL --horizon H [--partition F | --processes N] [--inputs F] [--microsteps L] [--rounds N | --workers N] [--stats ..] [--progress] [--explain]`
pub record AsksRun (said : List Said) (run : RunRequest) : Type 0 where
  pub model : values said ≡ string_bytes run.model ∷ []
  pub partition : AsksPartition said run.partition
  pub inputs : AsksText (codes "--inputs") said run.inputs
  pub horizon : AsksHorizon said run.horizon
  pub microsteps : AsksMicrosteps said run.microsteps
  pub driving : AsksDriving said run.rounds run.workers
  pub explained : flag_in (codes "--explain") said ≡ Some run.explained
  pub stats : AsksRunStats said run.stats
  pub progress : flag_in (codes "--progress") said ≡ Some run.progress

-- `MODEL TRACE [--partial] [--explain]`
pub record AsksTrace (said : List Said) (files : TraceFiles) : Type 0 where
  pub names : values said ≡ string_bytes files.model ∷ (string_bytes files.trace ∷ [])
  pub partial : flag_in (codes "--partial") said ≡ Some files.partial
  pub explained : flag_in (codes "--explain") said ≡ Some files.explained

-- `MODEL TRACE [--inputs F] [--from T] [--to T] [--only PATH] [--hold-ports] [--timescale T] [--partial] [--explain]`
pub record AsksWaves (said : List Said) (waves : Waves) : Type 0 where
  pub files : AsksTrace said waves.files
  pub excerpt : AsksExcerpt said waves.excerpt
  pub inputs : AsksText (codes "--inputs") said waves.inputs
  pub holds_ports : flag_in (codes "--hold-ports") said ≡ Some waves.holds_ports
  pub timescale : AsksText (codes "--timescale") said waves.timescale

-- `MODEL TRACE [--inputs F]`, what is counted, `[--partial] [--explain]`
pub record AsksStats (said : List Said) (stats : StatsRequest) : Type 0 where
  pub files : AsksTrace said stats.files
  pub inputs : AsksText (codes "--inputs") said stats.inputs
  pub choice : AsksStatsChoice said stats.choice

-- `MODEL TRACE [--inputs F] [--from T] [--to T] [--only PATH] [--json] [--partial] [--explain]`
pub record AsksTable (said : List Said) (table : TableRequest) : Type 0 where
  pub files : AsksTrace said table.files
  pub excerpt : AsksExcerpt said table.excerpt
  pub inputs : AsksText (codes "--inputs") said table.inputs
  pub json : flag_in (codes "--json") said ≡ Some table.json

-- `MODEL TRACE NAME.. [--from T] [--to T] [--partial] [--explain]`
pub record AsksPlot (said : List Said) (plot : PlotRequest) : Type 0 where
  pub names : values said ≡ string_bytes plot.files.model ∷ (string_bytes plot.files.trace ∷ map string_bytes plot.names.items)
  pub some : 0 < length plot.names.items
  pub window : AsksWindow said plot.from plot.to
  pub partial : flag_in (codes "--partial") said ≡ Some plot.files.partial
  pub explained : flag_in (codes "--explain") said ≡ Some plot.files.explained

-- `CODE`, as it is printed, or in small letters: of a refusal or a fault that is explained
abbrev pub AsksCode : List Said → List ℕ → Type 0
AsksCode said code = (text : List ℕ) × (values said ≡ text ∷ []) × (explained_in_any_case text ≡ Some code)

-- what is said behind a subcommand asks for this request
abbrev pub AsksBehind : Subcommand → List Said → Request → Type 0
AsksBehind subcommand.Check said (Check check) = AsksCheck said check
AsksBehind subcommand.Code said (Code file) = AsksModel said file
AsksBehind subcommand.Explain said (Explain explanation) = AsksCode said explanation.now.code.now
AsksBehind subcommand.Graph said (Graph graph) = AsksGraph said graph
AsksBehind subcommand.Plan said (Plan plan) = AsksPlan said plan
AsksBehind subcommand.Plot said (Plot plot) = AsksPlot said plot
AsksBehind subcommand.Run said (Run run) = AsksRun said run
AsksBehind subcommand.Stats said (Stats stats) = AsksStats said stats
AsksBehind subcommand.Table said (Table table) = AsksTable said table
AsksBehind subcommand.Vcd said (Vcd waves) = AsksWaves said waves
AsksBehind _ _ _ = ⊥

-- the words behind the name of a subcommand ask for this request
abbrev pub AsksWith : Option Subcommand → List (List ℕ) → Request → Type 0
AsksWith None words request = ⊥
AsksWith (Some subcommand) words request = IsSomeAnd (said_by subcommand Ready words) (λ said. AsksBehind subcommand said request)

-- `--version` or `-V`
abbrev pub is_version : List ℕ → Bool
is_version word = bytes_eq word (codes "--version") || bytes_eq word (codes "-V")

-- the program's name and version are asked for, as a line
abbrev pub IsVersion : Request → Type 0
IsVersion (Version text) = string_bytes text ≡ codes "pdevs 0.1.0" ++ 10 ∷ []
IsVersion _ = ⊥

-- what a command line asks for; its first word is the program's name
abbrev pub Asks : List (List ℕ) → Request → Type 0
Asks [] request = ⊥
Asks (program ∷ []) request = ⊥
Asks (program ∷ word ∷ words) request = MatchBool (is_version word) (IsVersion request) (AsksWith (subcommand_named word) words request)

-- what is asked for, or `None` if nothing is
abbrev pub IsAnswer : (Request → Type 0) → Option Request → Type 0
IsAnswer Wanted None = (request : Request) → ¬ (Wanted request)
IsAnswer Wanted (Some request) = Wanted request

-- if the words are no command, they ask for nothing
abbrev pub AnswersNothing : (Request → Type 0) → RequestError → Type 0
AnswersNothing Wanted (Usage usage) = IsAnswer Wanted None
AnswersNothing Wanted Memory = ⊤
