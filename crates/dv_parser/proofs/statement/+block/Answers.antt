use Rattle.std.proofs.Common.{rules, ◌≡◌, ◌-◌, ◌++◌, ◌∷◌, [], List, map, Ok, ap, ◌∙◌}
use Rattle.std.proofs.lemmas.Result.{err_from_is_err_and}
use Rattle.std.proofs.lemmas.List.{map_push, append-nil}
use Rattle.dv_lex.specs.declared.token.Token.{Token}
use Rattle.dv_lex.specs.declared.token.TokenKind.{TokenKind}
use Rattle.dv_lex.specs.declared.token.TokenKind.TheVariants as kind
use Rattle.dv_lex.specs.declared.token.Symbol.TheVariants as symbol
use Rattle.dv_parser.specs.Reading.{read_then, many_at, our_limits, Single, single_of}
use Rattle.dv_syntax.specs.declared.tree.Stmt.{Stmt}
use Rattle.dv_parser.proofs.Readers.{front_nothing, turn_some, turn_stop, turn_fails, front_more}
use Rattle.dv_parser.proofs.Statements.{statement_shortens, inside_at, block_reads}
use Rattle.dv_parser.proofs.statement.+block.Goals as goal

pub block-returns-in_err-inside : goal.block-returns-in_err-inside
unfolding read_then
block-returns-in_err-inside t c =
    rw (block_reads (our_limits c.args.short) c.args.limit c.args.loops c.args.tokens.now c.requires) (search rules)

pub block-returns-in_err-statements : goal.block-returns-in_err-statements
unfolding read_then
block-returns-in_err-statements t c =
    rw (block_reads (our_limits c.args.short) c.args.limit c.args.loops c.args.tokens.now c.requires) (search rules)

pub block-returns-in_err-closed_block : goal.block-returns-in_err-closed_block
unfolding read_then
block-returns-in_err-closed_block t c =
    rw (block_reads (our_limits c.args.short) c.args.limit c.args.loops c.args.tokens.now c.requires) (search rules)

pub block-returns : goal.block-returns
unfolding read_then
block-returns t c =
    rw (block_reads (our_limits c.args.short) c.args.limit c.args.loops c.args.tokens.now c.requires) (search rules)

abbrev close : TokenKind
close = kind.Symbol symbol.CloseBrace

-- the statements that were read before, and then others
abbrev behind : List Stmt → List Single → List Single
behind items xs = map single_of items ++ xs

pub statements-loop-alloc-init : goal.statements-loop-alloc-init
statements-loop-alloc-init t c =
    rw c.in_ok-statements.ensures.items (front_nothing (many_at (inside_at (our_limits c.args.short) c.args.limit c.args.loops) close c.args.tokens.now))

pub statements-returns-in_err-statement : goal.statements-returns-in_err-statement
statements-returns-in_err-statement t c =
    let p = err_from_is_err_and c.from_residual-in_err-statement.result c.from_residual-in_err-statement.ensures.1 in
    rw (p.1, p.2)
    (turn_fails c.in_err-statement.field-0.0 (inside_at (our_limits c.args.short) c.args.limit c.args.loops) close
    (behind c.loop-alloc.statements.items) c.loop-alloc.rest.now _ (search rules) c.in_err-statement.ensures c.loop-alloc.invariant)

pub statements-loop-alloc-smaller : goal.statements-loop-alloc-smaller
statements-loop-alloc-smaller t c =
    let read : Single × List Token = (single_of c.in_ok-statement.statement, c.in_ok-statement.after.now) in
    statement_shortens (our_limits c.args.short) (c.args.limit - 1) c.args.loops c.loop-alloc.rest.now read c.in_ok-statement.ensures

pub statements-loop-alloc-preserved : goal.statements-loop-alloc-preserved
statements-loop-alloc-preserved t c =
    let items : List Stmt = c.loop-alloc.statements.items in
    let one : Single = single_of c.in_ok-statement.statement in
    let e : map single_of c.push.new.self.items ≡ map single_of items ++ one ∷ [] =
    rw c.in_ok-push.ensures.items (map_push single_of items c.in_ok-statement.statement) in
    rw e
    (turn_some (inside_at (our_limits c.args.short) c.args.limit c.args.loops) close
    (behind items) (λ (xs : List Single). (map single_of items ++ one ∷ []) ++ xs) c.loop-alloc.rest.now
    one c.in_ok-statement.after.now (statement_shortens (our_limits c.args.short) (c.args.limit - 1) c.args.loops)
    (front_more (map single_of items) one) (search rules) c.in_ok-statement.ensures ∙ c.loop-alloc.invariant)

pub statements-returns : goal.statements-returns
statements-returns t c =
    let items : List Stmt = c.loop-alloc.statements.items in
    rw (← c.loop-alloc.invariant)
    (turn_stop (inside_at (our_limits c.args.short) c.args.limit c.args.loops) close (behind items) c.loop-alloc.rest.now (search rules)
    ∙ ap (λ (xs : List Single). Ok (xs, c.loop-alloc.rest.now)) (append-nil (map single_of items)))
