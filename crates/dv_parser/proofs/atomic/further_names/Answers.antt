use Rattle.std.proofs.Common.{rules, ◌≡◌, ◌++◌, ◌∷◌, [], ◌∙◌, List, Ok, ap}
use Rattle.std.proofs.lemmas.List.{append-nil}
use Rattle.dv_syntax.specs.declared.tree.Name.{Name}
use Rattle.std.proofs.lemmas.Result.{err_from_is_err_and}
use Rattle.dv_lex.specs.declared.token.TokenKind.TheVariants as kind
use Rattle.dv_lex.specs.declared.token.Symbol.TheVariants as symbol
use Rattle.dv_parser.specs.Reading.{obstacle_of, further_name_at}
use Rattle.dv_parser.proofs.Readers.{turn_some, turn_stop, turn_stopped, front_more}
use Rattle.dv_parser.proofs.Models.{further_name_shortens}
use Rattle.dv_parser.proofs.atomic.further_names.Goals as goal

pub returns-in_err-name : goal.returns-in_err-name
returns-in_err-name c =
    let p = err_from_is_err_and c.from_residual.result c.from_residual.ensures.1 in
    rw (p.1, p.2) (turn_stopped (obstacle_of c.in_err-name.field-0.0) further_name_at (kind.Symbol symbol.Semicolon)
    (λ (xs : List Name). c.loop-rest.names.items ++ xs) c.loop-rest.rest.now _
    (search rules) c.in_err-name.ensures c.loop-rest.invariant)

pub loop-rest-smaller : goal.loop-rest-smaller
loop-rest-smaller c = further_name_shortens c.loop-rest.rest.now (c.in_ok-name.name, c.in_ok-name.after.now) c.in_ok-name.ensures

pub loop-rest-preserved : goal.loop-rest-preserved
loop-rest-preserved c =
    let front : List Name = c.loop-rest.names.items in
    let e : c.push.new.self.items ≡ front ++ c.in_ok-name.name ∷ [] = c.in_ok-push.ensures.items in
    rw e (turn_some further_name_at (kind.Symbol symbol.Semicolon) (λ (xs : List Name). front ++ xs)
    (λ (xs : List Name). (front ++ c.in_ok-name.name ∷ []) ++ xs) c.loop-rest.rest.now c.in_ok-name.name c.in_ok-name.after.now
    further_name_shortens (front_more front c.in_ok-name.name) (search rules) c.in_ok-name.ensures
    ∙ c.loop-rest.invariant)

pub returns : goal.returns
returns c = rw (← c.loop-rest.invariant)
    (turn_stop further_name_at (kind.Symbol symbol.Semicolon) (λ (xs : List Name). c.loop-rest.names.items ++ xs) c.loop-rest.rest.now
    (search rules) ∙ ap (λ (xs : List Name). Ok (xs, c.loop-rest.rest.now)) (append-nil c.loop-rest.names.items))
