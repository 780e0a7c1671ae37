-- The bytes of a listing: for each atomic model of a file, in the order of the text, its names by their indices, and the
-- programs of its phases.
use Rattle.std.specs.Prelude.{ℕ, ◌+◌, List, [], ◌∷◌, ◌++◌, Option, Some, None, codes}
use Rattle.std.specs.Fmt.{decimal}
use Rattle.std.specs.List.{filter_map}
use Rattle.dv_syntax.specs.Trees.{AtomicTree, ModelTree, AtomicModel, CoupledModel, FileTree}
use Rattle.dv_bag.specs.declared.discipline.Discipline.TheVariants as discipline
use Rattle.dv_eval.specs.Scope.{Scope, scope_of}
use Rattle.dv_eval.specs.declared.scope.Domain.{Domain}
use Rattle.dv_eval.specs.declared.scope.Domain.TheVariants as domain
use Rattle.dv_code.specs.Listing.{instruction_words}
use Rattle.dv_code.specs.Valid.{Program}
use Rattle.dv_code.specs.declared.instruction.Instruction.{Instruction}
use Rattle.dv_gen.specs.ModelCode.{phase_codes}
use Rattle.dv_gen.specs.declared.model_code.PhaseCode.{PhaseCode}
use Rattle.dv_tree.specs.Paths.{name_at}

-- the texts of the elements of a list, each with its index, from an index on
abbrev pub indexed_from : {A : Type 0} → (ℕ → A → List ℕ) → ℕ → List A → List ℕ
indexed_from text k [] = []
indexed_from text k (x ∷ xs) = text k x ++ indexed_from text (k + 1) xs

-- `WORD K NAME`
abbrev pub name_line : List ℕ → ℕ → List ℕ → List ℕ
name_line word k name = word ++ ((32 ∷ decimal k) ++ ((32 ∷ name) ++ (10 ∷ [])))

-- the line of a number of names, and one for each of a list
abbrev pub line_of_name : List (List ℕ) → List ℕ → ℕ → ℕ → List ℕ
line_of_name names word k n = name_line word k (name_at names n)

abbrev pub names_text : List (List ℕ) → List ℕ → List ℕ → List ℕ
names_text names word numbers = indexed_from (line_of_name names word) 0 numbers

abbrev pub domain_word : Domain → List ℕ
domain_word (domain.Number range) = codes "variable"
domain_word (domain.Flag start) = codes "flag"
domain_word (domain.Held discipline.Bag capacity) = codes "bag"
domain_word (domain.Held discipline.Queue capacity) = codes "queue"

-- the line of a variable, a flag, a bag or a queue, and one for each of a list
abbrev pub line_of_slot : List (List ℕ) → ℕ → ℕ × Domain → List ℕ
line_of_slot names k slot = name_line (domain_word slot.1) k (name_at names slot.0)

abbrev pub slots_text : List (List ℕ) → List (ℕ × Domain) → List ℕ
slots_text names slots = indexed_from (line_of_slot names) 0 slots

-- `    K INSTRUCTION`
abbrev pub instruction_line : ℕ → Instruction → List ℕ
instruction_line k i = codes "    " ++ (decimal k ++ ((32 ∷ instruction_words i) ++ (10 ∷ [])))

-- `PHASE WORD`, and a line for each instruction
abbrev pub program_text : List ℕ → List ℕ → List Instruction → List ℕ
program_text phase word code = phase ++ ((32 ∷ word) ++ (10 ∷ indexed_from instruction_line 0 code))

abbrev pub confluent_text : List ℕ → Option Program → List ℕ
confluent_text phase None = []
confluent_text phase (Some p) = program_text phase (codes "confluent") p.code

abbrev pub hold_text : List ℕ → Option Program → List ℕ
hold_text phase None = phase ++ (codes " hold forever" ++ (10 ∷ []))
hold_text phase (Some p) = program_text phase (codes "hold") p.code

-- the programs of a phase of a name
abbrev pub phase_text : List ℕ → PhaseCode → List ℕ
phase_text phase code =
    program_text phase (codes "output") code.output.code
    ++ (program_text phase (codes "internal") code.internal.code
    ++ (program_text phase (codes "external") code.external.code
    ++ (confluent_text phase code.confluent ++ hold_text phase code.hold)))

-- the programs of phases by their names
abbrev pub phases_text : List (List ℕ) → List ℕ → List PhaseCode → List ℕ
phases_text names [] codes = []
phases_text names (p ∷ phases) [] = []
phases_text names (p ∷ phases) (c ∷ codes) = phase_text (name_at names p) c ++ phases_text names phases codes

-- the names that a model declares, by their indices: input ports, output ports, state variables and phases
abbrev pub scope_text : List (List ℕ) → Scope → List ℕ
scope_text names scope =
    names_text names (codes "input") scope.inputs
    ++ (names_text names (codes "output") scope.outputs
    ++ (slots_text names scope.variables ++ names_text names (codes "phase") scope.phases))

-- an atomic model: its name, the names that it declares, and the programs of its phases
abbrev pub model_text : List (List ℕ) → AtomicTree → List ℕ
model_text names m =
    (codes "atomic " ++ (name_at names m.name.number ++ (10 ∷ [])))
    ++ (scope_text names (scope_of m) ++ phases_text names (scope_of m).phases (phase_codes m))

-- a coupled model has no programs
abbrev pub text_of_model : List (List ℕ) → ModelTree → Option (List ℕ)
text_of_model names (AtomicModel m) = Some (model_text names m)
text_of_model names (CoupledModel m) = None

-- with an empty line between two
abbrev pub with_empty_lines : List (List ℕ) → List ℕ
with_empty_lines [] = []
with_empty_lines (x ∷ []) = x
with_empty_lines (x ∷ y ∷ xs) = x ++ (10 ∷ with_empty_lines (y ∷ xs))

-- the listing of a file with these names
abbrev pub listing_text : List (List ℕ) → FileTree → List ℕ
listing_text names f = with_empty_lines (filter_map (text_of_model names) f.models)
