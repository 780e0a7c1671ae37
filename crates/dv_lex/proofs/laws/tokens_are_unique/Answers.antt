use Rattle.std.proofs.Common.{◌≡◌, ap, sym, ◌∙◌, length}
use Rattle.dv_lex.specs.Numbering.{names_of, tokens_of}
use Rattle.dv_lex.specs.Versions.{versioned}
use Rattle.dv_lex.proofs.Readings.{Reads-same}
use Rattle.dv_lex.proofs.laws.tokens_are_unique.Goals as goal

pub returns : goal.returns
returns c = λ text names others tokens more a b.
    let same = Reads-same 0 text a.lexemes b.lexemes (length text) (length text) a.reads b.reads in
    let tables : names ≡ others = a.table ∙ (ap names_of same ∙ sym b.table) in (
      tables,
      a.numbered ∙ (ap (λ xs. versioned names (tokens_of names xs)) same
          ∙ (ap (λ ns. versioned ns (tokens_of ns b.lexemes)) tables ∙ sym b.numbered)),
    )
