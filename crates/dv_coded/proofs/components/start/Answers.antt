use Rattle.std.proofs.Common.{sym, subst}
use Rattle.dv_bag.specs.declared.state.State.{State}
use Rattle.dv_code.specs.Shape.{Fits}
use Rattle.dv_eval.specs.Scope.{scope_of, start_state}
use Rattle.dv_gen.specs.Resolution.{tables_of}
use Rattle.dv_syntax.specs.Trees.{atomic_of}
use Rattle.dv_coded.specs.Models.{TakesState}
use Rattle.dv_coded.specs.declared.programs.Programs.{Programs}
use Rattle.dv_coded.proofs.Starts.{takes}
use Rattle.dv_coded.proofs.components.start.Goals as goal

pub start-requires : goal.start-requires
start-requires c =
    let m = atomic_of c.args.model.now in
    let fits = c.states_fit_the_tables.ensures.fits m (start_state m) (c.start_states_fit.ensures m c.requires.compilable.accepted) in
    record {
      fits =
          subst (λ (p : Programs). TakesState p c.in_ok-state.state) (sym c.of-lent.ensures)
          (takes m c.args.programs.now c.in_ok-state.state c.requires.programs
          (subst (λ (s : State). Fits (tables_of (scope_of m)).slots s.variables) (sym c.in_ok-state.ensures) fits));
    }
