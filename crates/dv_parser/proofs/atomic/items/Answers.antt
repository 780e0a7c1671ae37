use Rattle.std.proofs.Common.{rules, ◌≡◌, ◌++◌, ◌∷◌, [], ◌∙◌, List, Ok, ap, map}
use Rattle.std.proofs.lemmas.Result.{err_from_is_err_and}
use Rattle.std.proofs.lemmas.List.{map_push, append-nil}
use Rattle.dv_lex.specs.declared.token.TokenKind.{TokenKind}
use Rattle.dv_lex.specs.declared.token.TokenKind.TheVariants as kind
use Rattle.dv_lex.specs.declared.token.Symbol.TheVariants as symbol
use Rattle.dv_source.specs.declared.tree.SourceItem.{SourceItem}
use Rattle.dv_source.specs.Sources.{item_of}
use Rattle.dv_syntax.specs.Written.{AtomicItem}
use Rattle.dv_parser.specs.Reading.{many_at, item_at, our_limits}
use Rattle.dv_parser.proofs.Readers.{front_nothing, turn_some, turn_stop, turn_fails, front_more}
use Rattle.dv_parser.proofs.Models.{item_shortens}
use Rattle.dv_parser.proofs.atomic.items.Goals as goal

abbrev close : TokenKind
close = kind.Symbol symbol.CloseBrace

-- the items that were read before, and then others
abbrev behind : List SourceItem → List AtomicItem → List AtomicItem
behind items xs = map item_of items ++ xs

pub loop-alloc-init : goal.loop-alloc-init
loop-alloc-init c = rw c.new-items.ensures.items (front_nothing (many_at (item_at (our_limits c.args.short)) close c.args.tokens.now))

pub returns-in_err-item : goal.returns-in_err-item
returns-in_err-item c =
    let p = err_from_is_err_and c.from_residual.result c.from_residual.ensures.1 in
    rw (p.1, p.2)
    (turn_fails c.in_err-item.field-0.0 (item_at (our_limits c.args.short)) close (behind c.loop-alloc.items.items) c.loop-alloc.rest.now _
    (search rules) c.in_err-item.ensures c.loop-alloc.invariant)

pub loop-alloc-smaller : goal.loop-alloc-smaller
loop-alloc-smaller c = item_shortens (our_limits c.args.short) c.loop-alloc.rest.now
    (item_of c.in_ok-item.item, c.in_ok-item.after.now) c.in_ok-item.ensures

pub loop-alloc-preserved : goal.loop-alloc-preserved
loop-alloc-preserved c =
    let items : List SourceItem = c.loop-alloc.items.items in
    let one : AtomicItem = item_of c.in_ok-item.item in
    let e : map item_of c.push.new.self.items ≡ map item_of items ++ one ∷ [] =
    rw c.in_ok-push.ensures.items (map_push item_of items c.in_ok-item.item) in
    rw e
    (turn_some (item_at (our_limits c.args.short)) close (behind items) (λ (xs : List AtomicItem). (map item_of items ++ one ∷ []) ++ xs)
    c.loop-alloc.rest.now one c.in_ok-item.after.now (item_shortens (our_limits c.args.short)) (front_more (map item_of items) one)
    (search rules) c.in_ok-item.ensures ∙ c.loop-alloc.invariant)

pub returns : goal.returns
returns c =
    let items : List SourceItem = c.loop-alloc.items.items in
    rw (← c.loop-alloc.invariant)
    (turn_stop (item_at (our_limits c.args.short)) close (behind items) c.loop-alloc.rest.now (search rules)
    ∙ ap (λ (xs : List AtomicItem). Ok (xs, c.loop-alloc.rest.now)) (append-nil (map item_of items)))
