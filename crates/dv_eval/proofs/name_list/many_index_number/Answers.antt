use Rattle.dv_eval.proofs.Names.{index_of-position}
use Rattle.dv_eval.proofs.name_list.many_index_number.Goals as goal

pub returns-in_err-index : goal.returns-in_err-index
returns-in_err-index c =
    let e = index_of-position c.args.name c.args.names.now.keys in cc (e, c.in_err-index.ensures.index, c.from_residual.ensures)

pub returns : goal.returns
returns c =
    let e = index_of-position c.args.name c.args.names.now.keys in cc (e, c.in_ok-index.ensures.index, c.index_number.ensures)
