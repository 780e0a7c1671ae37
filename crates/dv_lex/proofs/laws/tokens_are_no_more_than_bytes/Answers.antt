use Rattle.std.proofs.Common.{ap, arith, length}
use Rattle.dv_lex.specs.Numbering.{tokens_of}
use Rattle.dv_lex.proofs.Headers.{length_versioned}
use Rattle.dv_lex.proofs.NumberingLemmas.{tokens_of-few}
use Rattle.dv_lex.proofs.Readings.{Reads-few}
use Rattle.dv_lex.proofs.laws.tokens_are_no_more_than_bytes.Goals as goal

pub returns : goal.returns
returns c = λ text names tokens t.
    omega (
      arith,
      ap length t.numbered,
      length_versioned names (tokens_of names t.lexemes),
      tokens_of-few names t.lexemes,
      Reads-few 0 text t.lexemes (length text) _ t.reads,
    )
