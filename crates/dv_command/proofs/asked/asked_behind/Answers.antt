use Rattle.std.proofs.Common.{List, map}
use Rattle.std.proofs.lemmas.Result.{err_from_is_err_and}
use Rattle.std.specs.Borrow.{Bor}
use Rattle.dv_explain.specs.declared.explanation.Explanation.{Explanation}
use Rattle.dv_command.specs.Asked.{AsksBehind, AsksCode}
use Rattle.dv_command.specs.Steps.{said_in}
use Rattle.dv_command.specs.Words.{Said}
use Rattle.dv_command.specs.declared.request.Request.{Request}
use Rattle.dv_command.specs.declared.request.Request.TheVariants.{Explain}
use Rattle.dv_command.specs.declared.subcommand.Subcommand.TheVariants as subcommand
use Rattle.dv_command.proofs.asked.asked_behind.Goals as goal

-- nothing is asked for where no explanation has the code
none_explained : (said : List Said) → ((x : Bor Explanation) → ¬ (AsksCode said x.now.code.now)) → (request : Request) →
    ¬ (AsksBehind subcommand.Explain said request)
none_explained said none (Explain explanation) = none explanation
none_explained said none _ = λ asks. asks

pub returns-in_err-explanation_in-in-Explain : goal.returns-in_err-explanation_in-in-Explain
returns-in_err-explanation_in-in-Explain c =
    let left = c.from_residual-in_err-explanation_in-in-Explain in
    let p = err_from_is_err_and left.result left.ensures.1 in
    rw (p.1, p.2, c.in-Explain.is)
    (λ nothing. none_explained (map said_in c.args.parts.now) (c.in_err-explanation_in-in-Explain.ensures nothing))
