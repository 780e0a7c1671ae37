use Rattle.std.proofs.Common.{◌∙◌, ap}
use Rattle.dv_syntax.specs.Trees.{file_of}
use Rattle.dv_check.specs.Findings.{with_refusals, nothing_found}
use Rattle.dv_check.specs.Refusals.{refusals}
use Rattle.dv_check.proofs.Found.{first_found}
use Rattle.dv_check.proofs.checker.broken_rule.Goals as goal

pub returns : goal.returns
returns c =
    let rs = refusals (file_of c.args.file.now) in
    ap (λ f. f.first) (c.in_ok-check_file.ensures ∙ ap (λ f. with_refusals f rs) c.new-found.ensures) ∙ first_found nothing_found rs
