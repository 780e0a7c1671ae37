use Rattle.dv_check.proofs.Tables.{set_of_more}
use Rattle.dv_check.proofs.number_set.NumberSet.insert.Goals as goal

pub returns-clause-added : goal.returns-clause-added
returns-clause-added c =
    set_of_more c.args.self.now record { numbers = c.add.new.self } c.args.number _ c.in_ok-is_new.ensures.added
