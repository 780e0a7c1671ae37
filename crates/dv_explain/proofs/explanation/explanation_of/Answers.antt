use Rattle.dv_explain.proofs.Codes.{found_in, found_or}
use Rattle.dv_explain.proofs.explanation.explanation_of.Goals as goal

pub returns : goal.returns
returns c =
    found_or c.or-2.result c.find-4.result c.or-3.result _ _ c.or-3.ensures
    (found_or c.or.result c.find-3.result c.or-2.result _ _ c.or-2.ensures
    (found_or c.find.result c.find-2.result c.or.result _ _ c.or.ensures
    (found_in c.find.result c.refusals.result.now _ c.args.code.now c.refusals.ensures c.find.ensures)
    (found_in c.find-2.result c.input_refusals.result.now _ c.args.code.now c.input_refusals.ensures c.find-2.ensures))
    (found_in c.find-3.result c.partition_refusals.result.now _ c.args.code.now c.partition_refusals.ensures c.find-3.ensures))
    (found_in c.find-4.result c.faults.result.now _ c.args.code.now c.faults.ensures c.find-4.ensures)
