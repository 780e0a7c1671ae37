use Rattle.dv_code.proofs.Endings.{never_stuck}
use Rattle.dv_code.proofs.laws.valid_programs_are_never_stuck.Goals as goal

pub returns : goal.returns
returns c shape left depth code valid arrivals s fits n = never_stuck shape arrivals left depth code valid s fits n
