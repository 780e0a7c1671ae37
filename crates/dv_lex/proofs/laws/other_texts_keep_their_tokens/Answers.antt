use Rattle.std.proofs.Common.{◌∙◌}
use Rattle.dv_lex.specs.Numbering.{tokens_of}
use Rattle.dv_lex.proofs.Headers.{headless_kept}
use Rattle.dv_lex.proofs.laws.other_texts_keep_their_tokens.Goals as goal

pub returns : goal.returns
returns c = λ text names tokens t h. t.numbered ∙ headless_kept names (tokens_of names t.lexemes) h
