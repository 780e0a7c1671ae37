-- How many tokens a spelling has.
use Rattle.std.proofs.Common.{◌+◌, ◌≡◌, List, [], ◌∷◌, length, length-append, arith}
use Rattle.dv_lex.specs.declared.token.Token.{Token}
use Rattle.dv_lex.specs.declared.token.Symbol.TheVariants.{CloseBrace}
use Rattle.dv_syntax.specs.Grammar.{Spelled, Spells, braces, sign}

pub Spells-length : (a : List Spelled) (ts rest : List Token) → Spells a ts rest → length ts ≡ length a + length rest
Spells-length [] ts rest h = rw h (omega arith)
Spells-length (s ∷ a) [] rest h = absurd h
Spells-length (s ∷ a) (t ∷ ts) rest h = omega (arith, Spells-length a ts rest h.1)

pub length-braces : (inside : List Spelled) → length (braces inside) ≡ length inside + 2
length-braces inside = omega (arith, length-append inside (sign CloseBrace ∷ []))
