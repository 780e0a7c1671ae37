use Rattle.std.proofs.Common.{◌≡◌, ◌++◌, drop, length, map, take}
use Rattle.dv_lex.specs.Versions.{with_words, words_of}
use Rattle.dv_lex.proofs.Headers.{mapped_from}
use Rattle.dv_lex.proofs.versions.make_later_words.Given as goal

abbrev pub invariant-loop-offset : goal.invariant-loop-offset
invariant-loop-offset l =
    (mapped_from (with_words l.names (words_of l.fn.version)) l.tokens.items l.offset
    ≡ take 2 l.fn.tokens.items ++ map (with_words l.names (words_of l.fn.version)) (drop 2 l.fn.tokens.items))
    × (length l.tokens.items ≡ length l.fn.tokens.items)
