use Rattle.std.proofs.Common.{◌≡◌, ◌≤◌, [], ◌∷◌, length, get_or}
use Rattle.dv_lex.specs.Lexemes.{symbol_text}
use Rattle.dv_lex.proofs.Spellings.{IsCharBoundary-double, IsCharBoundary-single}
use Rattle.dv_lex.proofs.lexer.symbol.Goals as goal

-- a text may be cut behind a symbol
pub range_from-requires : goal.range_from-requires
range_from-requires c =
    let more : 2 ≤ length c.args.text.now = rw c.as_bytes.ensures.value at c.in-len2-up.len_at_least in
    let is : symbol_text c.in-Some.symbol ≡ get_or c.args.text.now 0 0 ∷ get_or c.args.text.now 1 0 ∷ [] =
    rw c.as_bytes.ensures.value at c.in-Some.ensures in
    λ _. IsCharBoundary-double c.args.text.now c.in-Some.symbol c.utf8.text more is

pub range_from-requires-2 : goal.range_from-requires-2
range_from-requires-2 c =
    let more : 1 ≤ length c.args.text.now = rw c.as_bytes-2.ensures.value at c.in-len1-up.len_at_least in
    let is : symbol_text c.in_ok-single.field-0 ≡ get_or c.args.text.now 0 0 ∷ [] =
    rw c.as_bytes-2.ensures.value at c.in_ok-single.ensures in
    λ _. IsCharBoundary-single c.args.text.now c.in_ok-single.field-0 c.utf8.text more is
