-- An end has some text.
use Rattle.std.proofs.Common.{List, ◌<◌, length, length-append, arith}
use Rattle.dv_time.specs.declared.time.Time.{Time}
use Rattle.dv_text.specs.Texts.{ending_text, partial_ending}
use Rattle.dv_text.specs.declared.writing.Ending.{Ending}
use Rattle.dv_text.specs.declared.writing.Ending.TheVariants.{Whole, Partial}

partial-some : (clocks : List Time) → 0 < length (partial_ending clocks)
partial-some clocks = simp length-append (omega arith)

pub ending-some : (e : Ending) → 0 < length (ending_text e)
ending-some (Whole horizon) = omega arith
ending-some (Partial clocks) = partial-some clocks.items
