use Rattle.std.proofs.Common.{ap}
use Rattle.dv_eval.specs.NameLists.{variables_in}
use Rattle.dv_eval.specs.Scope.{names_of}
use Rattle.dv_eval.proofs.Names.{index_of-position}
use Rattle.dv_eval.proofs.variable_list.VariableList.index_of.Goals as goal

pub returns-in-Many : goal.returns-in-Many
returns-in-Many c =
    let e = index_of-position c.args.name (names_of c.in-Many.variables.entries) in
    cc (e, c.get_index_of.ensures.index, ap (λ list. variables_in list) c.in-Many.is)
