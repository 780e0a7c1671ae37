use Rattle.std.proofs.Common.{arith}
use Rattle.dv_conservative.proofs.Beginnings.{incoming_rise, outgoing_rise, starts_later}
use Rattle.dv_conservative.proofs.Turning.{share_is_sound}
use Rattle.dv_conservative.proofs.shares.processes_start_sound.Goals as goal

pub returns-clause-sound : goal.returns-clause-sound
returns-clause-sound c = share_is_sound

pub returns-clause-later : goal.returns-clause-later
returns-clause-later c = starts_later

pub returns-clause-incoming : goal.returns-clause-incoming
returns-clause-incoming c job p = incoming_rise p 0 job.channels 0 (omega arith)

pub returns-clause-outgoing : goal.returns-clause-outgoing
returns-clause-outgoing c job p = outgoing_rise job p 0 job.channels 0 (omega arith)
