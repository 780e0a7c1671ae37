use Rattle.std.proofs.Common.{List, ℕ, sym, subst, All}
use Rattle.std.proofs.lemmas.List.Elements.{All-from_recursion}
use Rattle.dv_lex.specs.declared.token.Token.{Token}
use Rattle.dv_lex.specs.Numbering.{names_of, tokens_of}
use Rattle.dv_lex.specs.Texts.{IsNumbered}
use Rattle.dv_lex.specs.Versions.{versioned}
use Rattle.dv_lex.proofs.Headers.{numbered_versioned}
use Rattle.dv_lex.proofs.NumberingLemmas.{each_numbered}
use Rattle.dv_lex.proofs.laws.names_are_in_the_table.Goals as goal

pub returns : goal.returns
returns c = λ text names tokens t.
    let own = names_of t.lexemes in
    let all =
    All-from_recursion (λ (token : Token). IsNumbered own token.kind) (versioned own (tokens_of own t.lexemes))
    (numbered_versioned own (tokens_of own t.lexemes) (each_numbered t.lexemes)) in
    subst (λ (ts : List Token). All (λ (token : Token). IsNumbered names token.kind) ts) (sym t.numbered)
    (subst (λ (ns : List (List ℕ)). All (λ (token : Token). IsNumbered ns token.kind) (versioned ns (tokens_of ns t.lexemes)))
    (sym t.table) all)
