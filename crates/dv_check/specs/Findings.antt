-- The first refusal that was found so far.
use Rattle.std.specs.Prelude.{List, fold, Some, None}
use Rattle.dv_lex.specs.declared.error.Refusal.{Refusal}
use Rattle.dv_lex.specs.Order.{earlier}
use Rattle.dv_check.specs.declared.findings.Findings.{Findings}

abbrev pub with_refusal : Findings → Refusal → Findings
with_refusal found r = record { first = Some (earlier found.first r) }

abbrev pub with_refusals : Findings → List Refusal → Findings
with_refusals found rs = fold with_refusal found rs

abbrev pub nothing_found : Findings
nothing_found = record { first = None }
