use Rattle.std.proofs.Common.{rules, ◌≡◌, ◌++◌, ◌∷◌, [], ◌∙◌, List, Ok, ap, map}
use Rattle.std.proofs.lemmas.Result.{err_from_is_err_and}
use Rattle.std.proofs.lemmas.List.{map_push, append-nil}
use Rattle.dv_lex.specs.declared.token.TokenKind.{TokenKind}
use Rattle.dv_lex.specs.declared.token.TokenKind.TheVariants as kind
use Rattle.dv_lex.specs.declared.token.Symbol.TheVariants as symbol
use Rattle.dv_source.specs.declared.tree.SourceCoupledItem.{SourceCoupledItem}
use Rattle.dv_source.specs.Sources.{coupled_item_of}
use Rattle.dv_syntax.specs.Written.{CoupledItem}
use Rattle.dv_parser.specs.Reading.{obstacle_of, many_at, coupled_item_at}
use Rattle.dv_parser.proofs.Readers.{front_nothing, turn_some, turn_stop, turn_stopped, front_more}
use Rattle.dv_parser.proofs.Models.{coupled_item_shortens}
use Rattle.dv_parser.proofs.coupled.items.Goals as goal

abbrev close : TokenKind
close = kind.Symbol symbol.CloseBrace

-- the items that were read before, and then others
abbrev behind : List SourceCoupledItem → List CoupledItem → List CoupledItem
behind items xs = map coupled_item_of items ++ xs

pub loop-rest-init : goal.loop-rest-init
loop-rest-init c = rw c.new-items.ensures.items (front_nothing (many_at coupled_item_at close c.args.tokens.now))

pub returns-in_err-item : goal.returns-in_err-item
returns-in_err-item c =
    let p = err_from_is_err_and c.from_residual.result c.from_residual.ensures.1 in
    rw (p.1, p.2)
    (turn_stopped (obstacle_of c.in_err-item.field-0.0) coupled_item_at close (behind c.loop-rest.items.items) c.loop-rest.rest.now _
    (search rules) c.in_err-item.ensures c.loop-rest.invariant)

pub loop-rest-smaller : goal.loop-rest-smaller
loop-rest-smaller c = coupled_item_shortens c.loop-rest.rest.now
    (coupled_item_of c.in_ok-item.item, c.in_ok-item.after.now) c.in_ok-item.ensures

pub loop-rest-preserved : goal.loop-rest-preserved
loop-rest-preserved c =
    let items : List SourceCoupledItem = c.loop-rest.items.items in
    let one : CoupledItem = coupled_item_of c.in_ok-item.item in
    let e : map coupled_item_of c.push.new.self.items ≡ map coupled_item_of items ++ one ∷ [] =
    rw c.in_ok-push.ensures.items (map_push coupled_item_of items c.in_ok-item.item) in
    rw e
    (turn_some coupled_item_at close (behind items) (λ (xs : List CoupledItem). (map coupled_item_of items ++ one ∷ []) ++ xs)
    c.loop-rest.rest.now one c.in_ok-item.after.now coupled_item_shortens (front_more (map coupled_item_of items) one)
    (search rules) c.in_ok-item.ensures ∙ c.loop-rest.invariant)

pub returns : goal.returns
returns c =
    let items : List SourceCoupledItem = c.loop-rest.items.items in
    rw (← c.loop-rest.invariant)
    (turn_stop coupled_item_at close (behind items) c.loop-rest.rest.now (search rules)
    ∙ ap (λ (xs : List CoupledItem). Ok (xs, c.loop-rest.rest.now)) (append-nil (map coupled_item_of items)))
