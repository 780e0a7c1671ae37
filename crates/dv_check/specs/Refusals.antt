-- Why a file is refused: every rule that it breaks, and the one that is the answer.
use Rattle.std.specs.Prelude.{◌≡◌, ℕ, suc, ◌==◌, nat_lt, Bool, ◌||◌, List, [], ◌∷◌, ◌++◌, map, Option, Some, None}
use Rattle.std.specs.List.{flat_map}
use Rattle.std.specs.Option.{option_or}
use Rattle.dv_lex.specs.declared.error.Refusal.{Refusal}
use Rattle.dv_lex.specs.declared.error.RefusalNumber.TheVariants.{E6, E7, E16, E17}
use Rattle.dv_lex.specs.declared.error.LoadError.{LoadError}
use Rattle.dv_lex.specs.declared.error.LoadError.TheVariants.{Refused, Memory}
use Rattle.dv_lex.specs.Order.{first_refusal}
use Rattle.dv_syntax.specs.Trees.{ModelTree, AtomicModel, CoupledModel, FileTree}
use Rattle.dv_check.specs.Names.{refusal, refusal_if, repeats, name_of_model, model_named}
use Rattle.dv_check.specs.Limits.{greatest_components, greatest_depth, greatest_instances}
use Rattle.dv_check.specs.Rules.{atomic_refusals}
use Rattle.dv_check.specs.Couplings.{coupled_refusals}
use Rattle.dv_check.specs.Cycles.{cycle_refusals}
use Rattle.dv_check.specs.Tree.{PartTree, component_count, depth_of, instance_count, tree_of}

abbrev pub model_refusals : List ModelTree → ModelTree → List Refusal
model_refusals models (AtomicModel m) = atomic_refusals m
model_refusals models (CoupledModel m) = coupled_refusals models m

-- the root: known, and coupled
abbrev pub root_refusals : Option ModelTree → ℕ → List Refusal
root_refusals None offset = refusal E7 offset ∷ []
root_refusals (Some (AtomicModel m)) offset = refusal E16 offset ∷ []
root_refusals (Some (CoupledModel m)) offset = []

-- every rule that a file breaks, with its offset, without the limits on the whole tree
abbrev pub refusals : FileTree → List Refusal
refusals f =
    repeats E6 (map name_of_model f.models)
    ++ (flat_map (model_refusals f.models) f.models
    ++ (cycle_refusals f.models
    ++ root_refusals (model_named f.root.number f.models) f.root.offset))

-- whether a limit on the whole tree is exceeded: no component or too many, too many instances, the root counted, or coupled models nested
-- too deeply
abbrev pub passes_limit : PartTree → Bool
passes_limit t =
    component_count t == 0
    || (nat_lt greatest_components (component_count t)
    || (nat_lt greatest_instances (suc (instance_count t)) || nat_lt greatest_depth (depth_of t)))

abbrev pub root_limit_refusals : List ModelTree → Option ModelTree → ℕ → List Refusal
root_limit_refusals models (Some (CoupledModel m)) offset = refusal_if (passes_limit (tree_of models m)) E17 offset
root_limit_refusals models (Some (AtomicModel m)) offset = []
root_limit_refusals models None offset = []

-- the limits on the whole tree that a file exceeds, at the root's name
abbrev pub limit_refusals : FileTree → List Refusal
limit_refusals f = root_limit_refusals f.models (model_named f.root.number f.models) f.root.offset

-- The refusal that is the answer: the first, or if there is none the first of the limits on the whole tree.
abbrev pub refusal_of : FileTree → Option Refusal
refusal_of f = option_or (first_refusal (refusals f)) (first_refusal (limit_refusals f))

-- an error that is the file's refusal; nothing is said if memory runs out
abbrev pub IsAnswerTo : FileTree → LoadError → Type 0
IsAnswerTo f (Refused r) = refusal_of f ≡ Some r
IsAnswerTo f Memory = Unit {0}
