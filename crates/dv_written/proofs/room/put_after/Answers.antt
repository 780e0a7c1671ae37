use Rattle.std.proofs.Common.{◌-◌, length}
use Rattle.dv_written.proofs.Behind.{rest_begins}
use Rattle.dv_written.proofs.room.put_after.Goals as goal

pub returns-clause-text : goal.returns-clause-text
returns-clause-text g c =
    rest_begins c.args.to.now c.put.new.to _ c.args.at (length c.args.to.now - c.args.at) c.in_ok-end.end c.requires
    c.in_ok-end.ensures.text.0 c.in_ok-end.ensures.text.1
