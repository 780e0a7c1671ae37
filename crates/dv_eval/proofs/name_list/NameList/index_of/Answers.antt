use Rattle.std.proofs.Common.{ap}
use Rattle.dv_eval.specs.NameLists.{names_in}
use Rattle.dv_eval.proofs.Names.{index_of-position}
use Rattle.dv_eval.proofs.name_list.NameList.index_of.Goals as goal

pub returns-in-Many : goal.returns-in-Many
returns-in-Many c =
    let e = index_of-position c.args.name c.in-Many.names.keys in
    cc (e, c.get_index_of.ensures.index, ap (λ n. names_in n) c.in-Many.is)
