use Rattle.std.proofs.Common.{sym, subst, bytes_eq}
use Rattle.std.specs.List.{IsDistinct, filter_map}
use Rattle.dv_lex.specs.Reading.{Located}
use Rattle.dv_lex.specs.Numbering.{name_in}
use Rattle.dv_lex.proofs.NumberingLemmas.{IsDistinct-first_appearances}
use Rattle.dv_lex.proofs.laws.names_are_distinct.Goals as goal

pub returns : goal.returns
returns c = λ text names tokens t.
    subst (IsDistinct bytes_eq) (sym t.table) (IsDistinct-first_appearances (filter_map (λ (x : Located). name_in x.lexeme) t.lexemes))
