use Rattle.dv_lex.proofs.Readings.{Reads-before}
use Rattle.std.proofs.Common.{arith}
use Rattle.dv_lex.proofs.laws.offsets_count_bytes.Goals as goal

pub returns : goal.returns
returns c = λ text xs offset rest r.
    let b = Reads-before 0 text xs offset rest r in
    (b.0, b.1, omega (arith, b.2))
