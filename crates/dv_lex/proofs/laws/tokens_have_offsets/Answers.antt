use Rattle.std.proofs.Common.{List, ◌<◌, length, sym, subst, All, arith}
use Rattle.std.proofs.lemmas.List.Elements.{All-from_recursion}
use Rattle.dv_lex.specs.declared.token.Token.{Token}
use Rattle.dv_lex.specs.Numbering.{tokens_of}
use Rattle.dv_lex.specs.Texts.{IsAscending}
use Rattle.dv_lex.specs.Versions.{versioned}
use Rattle.dv_lex.proofs.Headers.{offsets_versioned, rising_versioned}
use Rattle.dv_lex.proofs.NumberingLemmas.{all_tokens_of, IsAscending-tokens_of}
use Rattle.dv_lex.proofs.Readings.{Reads-below, Reads-ascending}
use Rattle.dv_lex.proofs.laws.tokens_have_offsets.Goals as goal

pub returns-clause-in_text : goal.returns-clause-in_text
returns-clause-in_text c = λ text names tokens t.
    subst (λ (ts : List Token). All (λ (token : Token). token.offset < length text) ts) (sym t.numbered)
    (All-from_recursion (λ (token : Token). token.offset < length text) (versioned names (tokens_of names t.lexemes))
    (offsets_versioned (λ n. n < length text) names (tokens_of names t.lexemes)
    (all_tokens_of (λ n. n < length text) names t.lexemes
    (Reads-below (length text) 0 text t.lexemes (length text) _ t.reads (omega arith)))))

pub returns-clause-ascending : goal.returns-clause-ascending
returns-clause-ascending c = λ text names tokens t.
    subst IsAscending (sym t.numbered)
    (rising_versioned names (tokens_of names t.lexemes)
    (IsAscending-tokens_of names t.lexemes (Reads-ascending 0 text t.lexemes (length text) _ t.reads)))
