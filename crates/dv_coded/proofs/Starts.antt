-- How a component starts.
use Rattle.std.proofs.Common.{◌≡◌, ℕ, List, Option, Result, Ok, Err, refl, ap, sym, ◌∙◌, subst}
use Rattle.dv_bag.specs.declared.fault.Fault.{Fault}
use Rattle.dv_bag.specs.declared.state.State.{State}
use Rattle.dv_code.specs.Shape.{Fits, Tables}
use Rattle.law_compiled.specs.Behaviours.{behaviour_by}
use Rattle.law_compiled.specs.Networks.{start_by}
use Rattle.dv_eval.specs.Scope.{scope_of, start_state}
use Rattle.dv_gen.specs.ModelCode.{phase_codes}
use Rattle.dv_gen.specs.Resolution.{tables_of}
use Rattle.dv_gen.specs.declared.model_code.PhaseCode.{PhaseCode}
use Rattle.dv_plain.specs.Source.{first_component as first_of_text}
use Rattle.dv_react.specs.Starts.{first_component, hold_end, starting}
use Rattle.dv_syntax.specs.Trees.{AtomicTree}
use Rattle.dv_coded.specs.Models.{AreProgramsOf, TakesState}
use Rattle.dv_coded.specs.declared.programs.Programs.{Programs}

first-is : (s : State) (end : Result (Option ℕ) Fault) → first_component s end ≡ first_of_text s end
first-is s (Ok next) = refl
first-is s (Err f) = refl

-- by the programs of a model, in its start state, as the text has it
pub starting-is : (limit : ℕ) (m : AtomicTree) (codes : List PhaseCode) (s : State) → codes ≡ phase_codes m → s ≡ start_state m →
    starting limit (behaviour_by codes) s ≡ start_by limit m
starting-is limit m codes s code state =
    ap (λ (cs : List PhaseCode). starting limit (behaviour_by cs) s) code
    ∙ ap (λ (t : State). starting limit (behaviour_by (phase_codes m)) t) state
    ∙ first-is (start_state m) (hold_end limit (behaviour_by (phase_codes m)) 0 (start_state m))

-- the programs take a state that fits the tables of their model, and such states alone
pub takes : (m : AtomicTree) (p : Programs) (s : State) → AreProgramsOf m p → Fits (tables_of (scope_of m)).slots s.variables
    → TakesState p s
takes m p s of fits = subst (λ (t : Tables). Fits t.slots s.variables) (sym of.tables) fits

pub taken : (m : AtomicTree) (p : Programs) (s : State) → AreProgramsOf m p → TakesState p s
    → Fits (tables_of (scope_of m)).slots s.variables
taken m p s of fits = subst (λ (t : Tables). Fits t.slots s.variables) of.tables fits
