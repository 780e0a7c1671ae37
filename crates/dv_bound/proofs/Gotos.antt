-- What holds of the goto from which statements start, and of where each of their gotos leads, holds of the one that they leave.
use Rattle.std.proofs.Common.{ℕ, ℤ, Option, Some, None, IfOk}
use Rattle.std.specs.List.{AllByRecursion}
use Rattle.dv_syntax.specs.Trees.{Statements}
use Rattle.dv_bag.specs.declared.state.Effect.{Effect}
use Rattle.dv_eval.specs.Scope.{Scope, index_of}
use Rattle.dv_eval.specs.Meaning.{Context, run, with_goto, with_value_at}
use Rattle.law_accepted.specs.Gotos.{gotos_in}
use Rattle.law_accepted.proofs.Keeping.{StatementsKeep, keeps_in_any_state, run_keeps_to}

module _ (P : Option ℕ → Type 0) where
  with_value_leaves : (o : Option ℕ) (n : ℤ) (e : Effect) → P e.goto → P (with_value_at o n e).goto
  with_value_leaves None n e here = here
  with_value_leaves (Some port) n e here = here

  goto_leaves : (o : Option ℕ) (e : Effect) → P o → P e.goto → P (with_goto o e).goto
  goto_leaves None e there here = here
  goto_leaves (Some index) e there here = there

  module _ (scope : Scope) where
    -- where a goto to a phase leads
    abbrev pub Leads : ℕ → Type 0
    Leads name = P (index_of name scope.phases)

    leaves : StatementsKeep scope Leads (λ e. P e.goto)
    leaves =
        keeps_in_any_state scope (λ e. P e.goto) (λ e s here. here) Leads
        (λ phase e there here. goto_leaves (index_of phase scope.phases) e there here)
        (λ port n e here. with_value_leaves (index_of port scope.outputs) n e here)

    pub run_leaves : (context : Context) (body : Statements) (e : Effect) → AllByRecursion Leads (gotos_in body) → P e.goto
        → IfOk (run scope context body e) (λ (now : Effect). P now.goto)
    run_leaves = run_keeps_to scope Leads (λ e. P e.goto) leaves
